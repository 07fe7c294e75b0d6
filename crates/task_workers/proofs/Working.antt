-- What the work of all workers gives back.
use Rattle.std.proofs.Common.{◌≡◌, ℕ, ◌<◌, List, [], ◌∷◌, ◌++◌, length, map, replicate, refl, sym, ap, ◌∙◌, subst, arith}
use Rattle.std.proofs.lemmas.List.{length-map}
use Rattle.std.proofs.lemmas.List.Elements.{All-cons, All-head, All-map, All-nil, All-push, All-replicate, All-tail}
use Rattle.std.specs.Prelude.{All, Vec}
use Rattle.std.specs.declared.alloc.Global.{Global}
use Rattle.task_workers.specs.Dealing.{dealt, dealt_one, gathered, lists_of}
use Rattle.task_workers.proofs.Dealt.{all_back, as_many_lists}
use Rattle.task_workers.proofs.Gathered.{dealt_seen, gathered_holds, gathered_seen}

module _ {T : Type 0} (P : T → Type 0) where
  stand_in : (loads : List (Vec T Global)) → All (All P) (lists_of loads) → All (λ load. All P load.items) loads
  stand_in [] all = All-nil (λ (v : Vec T Global). All P v.items)
  stand_in (load ∷ loads) all = All-cons (λ (v : Vec T Global). All P v.items) load loads (All-head (All P) load.items (lists_of loads) all) (stand_in loads (All-tail (All P) load.items (lists_of loads) all))

  dealt_one_holds : (x : T) (loads : List (List T)) → P x → All (All P) loads → All (All P) (dealt_one x loads)
  dealt_one_holds x [] here all = all
  dealt_one_holds x (load ∷ loads) here all = All-push (All P) loads (load ++ x ∷ []) (All-tail (All P) load loads all) (All-push P load x (All-head (All P) load loads all) here)

  dealt_holds : (xs : List T) (loads : List (List T)) → All P xs → All (All P) loads → All (All P) (dealt xs loads)
  dealt_holds [] loads some all = all
  dealt_holds (x ∷ xs) loads some all = dealt_holds xs (dealt_one x loads) (All-tail P x xs some) (dealt_one_holds x loads (All-head P x xs some) all)

  -- tasks that are dealt to empty vectors stand there
  pub stand_dealt : (tasks : List T) (given loads : List (Vec T Global)) (count : ℕ) → lists_of given ≡ replicate count [] → lists_of loads ≡ dealt tasks (lists_of given) → All P tasks → All (λ load. All P load.items) loads
  stand_dealt tasks given loads count none is all =
      stand_in loads (subst (λ (ls : List (List T)). All (All P) ls) (sym is)
      (dealt_holds tasks (lists_of given) all (subst (λ (ls : List (List T)). All (All P) ls) (sym none) (All-replicate (All P) count [] (All-nil P)))))

  -- and those that come back stand
  pub stand_gathered : (count : ℕ) (loads : List (Vec T Global)) (tasks : List T) → tasks ≡ gathered count (lists_of loads) [] → All (λ load. All P load.items) loads → All P tasks
  stand_gathered count loads tasks is all = subst (λ (ts : List T). All P ts) (sym is) (gathered_holds P count (lists_of loads) [] (All-map (All P) (λ (v : Vec T Global). v.items) loads all) (All-nil P))

module _ {T : Type 0} where
  as_many_dealt : (xs : List T) (loads : List (List T)) → 0 < length loads → length (dealt xs loads) ≡ length loads
  as_many_dealt [] loads some = refl
  as_many_dealt (x ∷ xs) loads some = let many = as_many_lists x loads some in as_many_dealt xs (dealt_one x loads) (omega arith) ∙ many

  some_lists : (given : List (Vec T Global)) → 0 < length given → 0 < length (lists_of given)
  some_lists given some = let many = length-map given (λ (v : Vec T Global). v.items) in omega arith

  -- as many vectors as before
  pub as_many_vectors : (tasks : List T) (given loads : List (Vec T Global)) → 0 < length given → lists_of loads ≡ dealt tasks (lists_of given) → length loads ≡ length given
  as_many_vectors tasks given loads some is =
      sym (length-map loads (λ (v : Vec T Global). v.items))
      ∙ (ap (length {A = List T}) is ∙ (as_many_dealt tasks (lists_of given) (some_lists given some) ∙ length-map given (λ (v : Vec T Global). v.items)))

  -- tasks that were dealt come back where nobody took them
  pub all_returned : (tasks back : List T) (given : List (Vec T Global)) (loads returned : Vec (Vec T Global) Global) (count : ℕ) → 0 < length given → count ≡ length tasks → lists_of loads.items ≡ dealt tasks (lists_of given) → returned ≡ loads
      → back ≡ gathered count (lists_of returned.items) [] → back ≡ tasks
  all_returned tasks back given loads returned count some many is same so =
      so
      ∙ (ap (λ (vs : Vec (Vec T Global) Global). gathered count (lists_of vs.items) []) same
      ∙ (ap (λ (ls : List (List T)). gathered count ls []) is
      ∙ (ap (λ (n : ℕ). gathered n (dealt tasks (lists_of given)) []) many ∙ all_back tasks (lists_of given) (some_lists given some))))

module _ {T N : Type 0} (name : T → N) where
  seen_in : (loads : List (Vec T Global)) → map (map name) (lists_of loads) ≡ map (λ load. map name load.items) loads
  seen_in [] = refl
  seen_in (load ∷ loads) = ap (λ (ls : List (List N)). map name load.items ∷ ls) (seen_in loads)

  -- tasks that took turns come back in the order in which they were dealt
  pub all_named : (tasks back : List T) (given loads returned : List (Vec T Global)) (count : ℕ) → 0 < length given → count ≡ length tasks → lists_of loads ≡ dealt tasks (lists_of given)
      → map (λ load. map name load.items) returned ≡ map (λ load. map name load.items) loads → back ≡ gathered count (lists_of returned) [] → map name back ≡ map name tasks
  all_named tasks back given loads returned count some many is same so =
      let lists = map (map name) (lists_of given) in
      let there = some_lists given some in
      let long = length-map (lists_of given) (map name) in
      ap (map name) so
      ∙ (gathered_seen name count (lists_of returned) []
      ∙ (ap (λ (ls : List (List N)). gathered count ls []) (seen_in returned ∙ (same ∙ (sym (seen_in loads) ∙ (ap (map (map name)) is ∙ dealt_seen name tasks (lists_of given)))))
      ∙ (ap (λ (n : ℕ). gathered n (dealt (map name tasks) lists) []) (many ∙ sym (length-map tasks name)) ∙ all_back (map name tasks) lists (omega arith))))
