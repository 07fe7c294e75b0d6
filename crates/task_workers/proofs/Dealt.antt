-- What is dealt comes back in its order.
use Rattle.std.proofs.Common.{◌≡◌, ℕ, suc, ◌+◌, ◌<◌, List, [], ◌∷◌, ◌++◌, length, Some, refl, ap, ◌∙◌, append-nil, arith}
use Rattle.std.proofs.lemmas.List.{length_push}
use Rattle.std.specs.Prelude.{Option, option_and_then, option_map}
use Rattle.task_workers.specs.Dealing.{dealt, dealt_one, ends_apart, gathered, gathered_from, gathered_one, last_apart}

-- the item that was put last is taken off
last_of_push : {A : Type 0} (x : A) (xs : List A) (y : A) → last_apart x (xs ++ y ∷ []) ≡ (x ∷ xs, y)
last_of_push x [] y = refl
last_of_push {A = A} x (z ∷ zs) y = ap (λ (r : List A × A). (x ∷ r.0, r.1)) (last_of_push z zs y)

pub ends_of_push : {A : Type 0} (xs : List A) (y : A) → ends_apart (xs ++ y ∷ []) ≡ Some (xs, y)
ends_of_push [] y = refl
ends_of_push {A = A} (x ∷ xs) y = ap (λ (r : List A × A). Some r) (last_of_push x xs y)

module _ {A : Type 0} where
  -- the task that was dealt last comes back first, and the lists are as they were before it was dealt
  pub gathered_dealt_one : (task : A) (load : List A) (loads : List (List A)) → gathered_one (dealt_one task (load ∷ loads)) ≡ Some (load ∷ loads, task)
  gathered_dealt_one task load loads =
      ap (option_and_then (λ (ends : List (List A) × List A). option_map (λ (l : List A × A). (l.0 ∷ ends.0, l.1)) (ends_apart ends.1))) (ends_of_push loads (load ++ task ∷ []))
      ∙ ap (option_map (λ (l : List A × A). (l.0 ∷ loads, l.1))) (ends_of_push load task)

  -- as many lists as before
  pub as_many_lists : (task : A) (loads : List (List A)) → 0 < length loads → length (dealt_one task loads) ≡ length loads
  as_many_lists task [] some = absurd (omega arith)
  as_many_lists task (load ∷ loads) some = let long = length_push loads (load ++ task ∷ []) in omega arith

  gathered_step : (k : ℕ) (task : A) (loads : List (List A)) (tasks : List A) → 0 < length loads → gathered (suc k) (dealt_one task loads) tasks ≡ gathered k loads (task ∷ tasks)
  gathered_step k task [] tasks some = absurd (omega arith)
  gathered_step k task (load ∷ loads) tasks some = ap (λ (one : Option (List (List A) × A)). gathered_from one (gathered k) tasks) (gathered_dealt_one task load loads)

  gathered_back : (k : ℕ) (xs : List A) (loads : List (List A)) (tasks : List A) → 0 < length loads → gathered (length xs + k) (dealt xs loads) tasks ≡ gathered k loads (xs ++ tasks)
  gathered_back k [] loads tasks some = let here : length {A = A} [] + k ≡ k = omega arith in ap (λ (n : ℕ). gathered n loads tasks) here
  gathered_back k (x ∷ xs) loads tasks some =
      let here : length (x ∷ xs) + k ≡ length xs + suc k = omega arith in
      let many = as_many_lists x loads some in
      ap (λ (n : ℕ). gathered n (dealt xs (dealt_one x loads)) tasks) here
      ∙ (gathered_back (suc k) xs (dealt_one x loads) tasks (omega arith) ∙ gathered_step k x loads (xs ++ tasks) some)

  -- all tasks come back
  pub all_back : (xs : List A) (loads : List (List A)) → 0 < length loads → gathered (length xs) (dealt xs loads) [] ≡ xs
  all_back xs loads some =
      let here : length xs ≡ length xs + 0 = omega arith in
      ap (λ (n : ℕ). gathered n (dealt xs loads) []) here ∙ (gathered_back 0 xs loads [] some ∙ append-nil xs)

  -- one task more is dealt
  pub dealt_push : (xs : List A) (x : A) (loads : List (List A)) → dealt (xs ++ x ∷ []) loads ≡ dealt_one x (dealt xs loads)
  dealt_push [] x loads = refl
  dealt_push (y ∷ ys) x loads = dealt_push ys x (dealt_one y loads)
