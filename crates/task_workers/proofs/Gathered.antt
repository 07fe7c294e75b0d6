-- What holds of tasks that are taken back out of lists.
use Rattle.std.proofs.Common.{◌≡◌, ℕ, zero, suc, List, [], ◌∷◌, ◌++◌, map, Some, None, refl, sym, ap, ◌∙◌}
use Rattle.std.proofs.lemmas.List.{map_push}
use Rattle.std.proofs.lemmas.List.Elements.{All-cons, All-head, All-nil, All-tail}
use Rattle.std.specs.Prelude.{All, Option, option_map}
use Rattle.task_workers.specs.Dealing.{dealt, dealt_one, ends_apart, gathered, gathered_from, gathered_one, last_apart}

module _ {A B : Type 0} (f : A → B) where
  -- ---- tasks seen otherwise are dealt and taken back alike

  dealt_one_seen : (task : A) (loads : List (List A)) → map (map f) (dealt_one task loads) ≡ dealt_one (f task) (map (map f) loads)
  dealt_one_seen task [] = refl
  dealt_one_seen task (load ∷ loads) = map_push (map f) loads (load ++ task ∷ []) ∙ ap (λ (l : List B). map (map f) loads ++ l ∷ []) (map_push f load task)

  pub dealt_seen : (xs : List A) (loads : List (List A)) → map (map f) (dealt xs loads) ≡ dealt (map f xs) (map (map f) loads)
  dealt_seen [] loads = refl
  dealt_seen (x ∷ xs) loads = dealt_seen xs (dealt_one x loads) ∙ ap (dealt (map f xs)) (dealt_one_seen x loads)

last_seen : {A B : Type 0} (f : A → B) (x : A) (xs : List A) → last_apart (f x) (map f xs) ≡ (map f (last_apart x xs).0, f (last_apart x xs).1)
last_seen f x [] = refl
last_seen {B = B} f x (y ∷ ys) = ap (λ (r : List B × B). (f x ∷ r.0, r.1)) (last_seen f y ys)

-- both ends of a list, seen otherwise
ends_seen : {A B : Type 0} (f : A → B) (xs : List A) → ends_apart (map f xs) ≡ option_map (λ (r : List A × A). (map f r.0, f r.1)) (ends_apart xs)
ends_seen f [] = refl
ends_seen {B = B} f (x ∷ xs) = ap (λ (r : List B × B). Some r) (last_seen f x xs)

module _ {A B : Type 0} (f : A → B) where
  seen : List (List A) × A → List (List B) × B
  seen r = (map (map f) r.0, f r.1)

  load_seen : (front : List (List A)) (ends : Option (List A × A))
      → option_map (λ (r : List B × B). (r.0 ∷ map (map f) front, r.1)) (option_map (λ (r : List A × A). (map f r.0, f r.1)) ends) ≡ option_map seen (option_map (λ (r : List A × A). (r.0 ∷ front, r.1)) ends)
  unfolding seen
  load_seen front None = refl
  load_seen front (Some r) = refl

  gathered_one_seen : (loads : List (List A)) → gathered_one (map (map f) loads) ≡ option_map seen (gathered_one loads)
  gathered_one_seen [] = refl
  gathered_one_seen (load ∷ loads) =
      let ends = last_apart load loads in
      ap (λ (r : List (List B) × List B). option_map (λ (l : List B × B). (l.0 ∷ r.0, l.1)) (ends_apart r.1)) (last_seen (map f) load loads)
      ∙ (ap (option_map (λ (l : List B × B). (l.0 ∷ map (map f) ends.0, l.1))) (ends_seen f ends.1) ∙ load_seen ends.0 (ends_apart ends.1))

  from_seen : (more : List (List A) → List A → List A) (more_seen : List (List B) → List B → List B) → ((loads : List (List A)) (tasks : List A) → map f (more loads tasks) ≡ more_seen (map (map f) loads) (map f tasks))
      → (one : Option (List (List A) × A)) (tasks : List A) → map f (gathered_from one more tasks) ≡ gathered_from (option_map seen one) more_seen (map f tasks)
  unfolding seen
  from_seen more more_seen alike None tasks = refl
  from_seen more more_seen alike (Some r) tasks = alike r.0 (r.1 ∷ tasks)

  pub gathered_seen : (count : ℕ) (loads : List (List A)) (tasks : List A) → map f (gathered count loads tasks) ≡ gathered count (map (map f) loads) (map f tasks)
  gathered_seen zero loads tasks = refl
  gathered_seen (suc count) loads tasks =
      from_seen (gathered count) (gathered count) (gathered_seen count) (gathered_one loads) tasks
      ∙ ap (λ (one : Option (List (List B) × B)). gathered_from one (gathered count) (map f tasks)) (sym (gathered_one_seen loads))

-- ---- what holds of all tasks holds of those that came back

last_holds : {A : Type 0} (P : A → Type 0) (x : A) (xs : List A) → P x → All P xs → All P (last_apart x xs).0 × P (last_apart x xs).1
last_holds P x [] here behind = (All-nil P, here)
last_holds P x (y ∷ ys) here behind =
    let rest = last_holds P y ys (All-head P y ys behind) (All-tail P y ys behind) in (All-cons P x (last_apart y ys).0 here rest.0, rest.1)

module _ {A : Type 0} (P : A → Type 0) where
  Holds : Option (List (List A) × A) → Type 0
  Holds None = Unit {0}
  Holds (Some r) = All (All P) r.0 × P r.1

  load_holds : (front : List (List A)) (load : List A) → All (All P) front → All P load → Holds (option_map (λ (r : List A × A). (r.0 ∷ front, r.1)) (ends_apart load))
  unfolding Holds
  load_holds front [] holds here = tt
  load_holds front (x ∷ xs) holds here =
      let ends = last_holds P x xs (All-head P x xs here) (All-tail P x xs here) in (All-cons (All P) (last_apart x xs).0 front ends.0 holds, ends.1)

  one_holds : (loads : List (List A)) → All (All P) loads → Holds (gathered_one loads)
  unfolding Holds
  one_holds [] all = tt
  one_holds (load ∷ loads) all =
      let ends = last_holds (All P) load loads (All-head (All P) load loads all) (All-tail (All P) load loads all) in load_holds (last_apart load loads).0 (last_apart load loads).1 ends.0 ends.1

  from_holds : (more : List (List A) → List A → List A) → ((loads : List (List A)) (tasks : List A) → All (All P) loads → All P tasks → All P (more loads tasks))
      → (one : Option (List (List A) × A)) (tasks : List A) → Holds one → All P tasks → All P (gathered_from one more tasks)
  unfolding Holds
  from_holds more keeps None tasks holds behind = behind
  from_holds more keeps (Some r) tasks holds behind = keeps r.0 (r.1 ∷ tasks) holds.0 (All-cons P r.1 tasks holds.1 behind)

  pub gathered_holds : (count : ℕ) (loads : List (List A)) (tasks : List A) → All (All P) loads → All P tasks → All P (gathered count loads tasks)
  gathered_holds zero loads tasks all behind = behind
  gathered_holds (suc count) loads tasks all behind = from_holds (gathered count) (gathered_holds count) (gathered_one loads) tasks (one_holds loads all) behind
