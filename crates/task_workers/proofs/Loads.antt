-- Vectors of tasks as they are dealt and taken back.
use Rattle.std.proofs.Common.{◌≡◌, ℕ, ◌+◌, ◌-◌, ◌<◌, suc, List, [], ◌∷◌, ◌++◌, length, reverse, replicate, take, drop, Some, None, sym, ap, ◌∙◌, subst, arith, vec_len}
use Rattle.std.proofs.Math.Seq.{drop-append_seam, take-append_seam}
use Rattle.std.proofs.lemmas.List.{map_push, nil_from_length, replicate_more, reverse-append}
use Rattle.std.proofs.lemmas.List.Elements.{All-head, All-push, All-tail, All-weaker}
use Rattle.std.specs.Prelude.{All, Option, Vec, option_and_then, option_map, vec_capacity}
use Rattle.std.specs.declared.alloc.Global.{Global}
use Rattle.task_workers.specs.Dealing.{HasRoom, dealt, dealt_one, ends_apart, gathered, gathered_from, gathered_one, lists_of}
use Rattle.task_workers.proofs.Dealt.{dealt_push, ends_of_push, gathered_dealt_one}

-- the last of a list is put in front
pub last_first : {X : Type 0} (rest row : List X) (x : X) (count : ℕ) → row ≡ rest ++ x ∷ [] → count ≡ length rest → drop count row ++ take count row ≡ x ∷ rest
last_first {X = X} rest row x count is many =
    ap (λ (r : List X). drop count r ++ take count r) is
    ∙ ap (λ (n : ℕ). drop n (rest ++ x ∷ []) ++ take n (rest ++ x ∷ [])) many
    ∙ ap (λ front. front ++ take (length rest) (rest ++ x ∷ [])) (drop-append_seam rest (x ∷ []))
    ∙ ap (λ back. x ∷ back) (take-append_seam rest (x ∷ []))

module _ {T : Type 0} where
  -- a task is dealt to the first vector, which then stands last
  pub one_dealt : (loads rest new : List (Vec T Global)) (load fuller : Vec T Global) (task : T) → loads ≡ load ∷ rest → fuller.items ≡ load.items ++ task ∷ [] → new ≡ rest ++ fuller ∷ [] → lists_of new ≡ dealt_one task (lists_of loads)
  one_dealt loads rest new load fuller task first more is =
      ap (λ (vs : List (Vec T Global)). lists_of vs) is
      ∙ (map_push (λ (v : Vec T Global). v.items) rest fuller
      ∙ (ap (λ (xs : List T). lists_of rest ++ xs ∷ []) more ∙ ap (λ (vs : List (Vec T Global)). dealt_one task (lists_of vs)) (sym first)))

  -- it is the last of all that were dealt
  pub last_dealt : (xs : List T) (x : T) (given loads new : List (Vec T Global)) → lists_of new ≡ dealt_one x (lists_of loads) → lists_of loads ≡ dealt xs (lists_of given) → lists_of new ≡ dealt (xs ++ x ∷ []) (lists_of given)
  last_dealt xs x given loads new is so = is ∙ (ap (dealt_one x) so ∙ sym (dealt_push xs x (lists_of given)))

  -- and each has room as before
  pub room_dealt : (count all : ℕ) (loads rest new : List (Vec T Global)) (load fuller : Vec T Global) → loads ≡ load ∷ rest → new ≡ rest ++ fuller ∷ [] → vec_len fuller ≡ vec_len load + 1 → vec_capacity fuller ≡ vec_capacity load
      → All (HasRoom count all) loads → All (HasRoom (count + 1) all) new
  room_dealt count all loads rest new load fuller first is longer same h =
      let there = subst (λ (vs : List (Vec T Global)). All (HasRoom count all) vs) first h in
      let here : HasRoom count all load = All-head (HasRoom count all) load rest there in
      subst (λ (vs : List (Vec T Global)). All (HasRoom (count + 1) all) vs) (sym is)
      (All-push (HasRoom (count + 1) all) rest fuller
      (All-weaker (HasRoom count all) (HasRoom (count + 1) all) (λ v r. record { few = (let f = r.few in omega arith); room = r.room }) rest (All-tail (HasRoom count all) load rest there))
      (record { few = (let f = here.few in omega arith); room = (let r = here.room in omega arith) }))

  -- the last vector gives its last task, and then stands first
  pub one_gathered : (loads rest row new : List (Vec T Global)) (load less : Vec T Global) (task : T) (count : ℕ) → loads ≡ rest ++ load ∷ [] → load.items ≡ less.items ++ task ∷ [] → row ≡ rest ++ less ∷ [] → count ≡ length rest → new ≡ drop count row ++ take count row
      → gathered_one (lists_of loads) ≡ Some (lists_of new, task)
  one_gathered loads rest row new load less task count last more behind many is =
      ap (λ (vs : List (Vec T Global)). gathered_one (lists_of vs)) last
      ∙ (ap gathered_one (map_push (λ (v : Vec T Global). v.items) rest load ∙ ap (λ (xs : List T). lists_of rest ++ xs ∷ []) more)
      ∙ (gathered_dealt_one task less.items (lists_of rest) ∙ ap (λ (vs : List (Vec T Global)). Some (lists_of vs, task)) (sym (is ∙ last_first rest row less count behind many))))

  -- where the last vector has none, none is given back
  pub none_gathered : (loads rest : List (Vec T Global)) (load : Vec T Global) → loads ≡ rest ++ load ∷ [] → length load.items ≡ 0 → gathered_one (lists_of loads) ≡ None
  none_gathered loads rest load last none =
      ap (λ (vs : List (Vec T Global)). gathered_one (lists_of vs)) last
      ∙ (ap gathered_one (map_push (λ (v : Vec T Global). v.items) rest load ∙ ap (λ (xs : List T). lists_of rest ++ xs ∷ []) (nil_from_length load.items none))
      ∙ ap (option_and_then (λ (ends : List (List T) × List T). option_map (λ (l : List T × T). (l.0 ∷ ends.0, l.1)) (ends_apart ends.1))) (ends_of_push (lists_of rest) []))

  -- an empty vector more
  pub one_empty : (count : ℕ) (loads new : List (Vec T Global)) (load : Vec T Global) → lists_of loads ≡ replicate count [] → load.items ≡ [] → new ≡ loads ++ load ∷ [] → lists_of new ≡ replicate (count + 1) []
  one_empty count loads new load so none is =
      ap (λ (vs : List (Vec T Global)). lists_of vs) is
      ∙ (map_push (λ (v : Vec T Global). v.items) loads load
      ∙ (ap (λ (xs : List T). lists_of loads ++ xs ∷ []) none ∙ ap (λ (ls : List (List T)). ls ++ [] ∷ []) so ∙ replicate_more count []))

  -- so many tasks, by one and by the others
  pub gathered_more : (count : ℕ) (lists less : List (List T)) (tasks more result : List T) (task : T) → 0 < count → gathered_one lists ≡ Some (less, task) → more ≡ tasks ++ task ∷ [] → reverse result ≡ gathered (count - 1) less (reverse more)
      → reverse result ≡ gathered count lists (reverse tasks)
  gathered_more count lists less tasks more result task some one longer rest =
      let is : suc (count - 1) ≡ count = omega arith in
      rest ∙ ap (gathered (count - 1) less) (ap reverse longer ∙ reverse-append tasks (task ∷ []))
      ∙ (sym (ap (λ (o : Option (List (List T) × T)). gathered_from o (gathered (count - 1)) (reverse tasks)) one) ∙ ap (λ (n : ℕ). gathered n lists (reverse tasks)) is)

  pub gathered_none : (count : ℕ) (lists : List (List T)) (tasks : List T) → 0 < count → gathered_one lists ≡ None → reverse tasks ≡ gathered count lists (reverse tasks)
  gathered_none count lists tasks some none =
      let is : suc (count - 1) ≡ count = omega arith in
      sym (ap (λ (o : Option (List (List T) × T)). gathered_from o (gathered (count - 1)) (reverse tasks)) none) ∙ ap (λ (n : ℕ). gathered n lists (reverse tasks)) is
