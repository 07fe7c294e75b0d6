-- Tasks dealt to lists, and taken back from them.
use Rattle.std.specs.Prelude.{◌++◌, ◌≤◌, ℕ, zero, suc, List, [], ◌∷◌, Option, Some, None, map, Vec, option_and_then, option_map, vec_capacity, vec_len}
use Rattle.std.specs.declared.alloc.Global.{Global}

-- what each of these vectors has
abbrev pub lists_of : {T : Type 0} → List (Vec T Global) → List (List T)
lists_of loads = map (λ load. load.items) loads

-- no more tasks than these were dealt to a list, and it has room for all of them
pub record HasRoom {T : Type 0} (count all : ℕ) (load : Vec T Global) : Type 0 where
  pub few : vec_len load ≤ count
  pub room : all ≤ vec_capacity load

module _ {A : Type 0} where
  -- the first list takes a task, and then stands last; without a list nothing is dealt
  abbrev pub dealt_one : A → List (List A) → List (List A)
  dealt_one task [] = []
  dealt_one task (load ∷ loads) = loads ++ (load ++ task ∷ []) ∷ []

  -- each task is dealt so
  abbrev pub dealt : List A → List (List A) → List (List A)
  dealt [] loads = loads
  dealt (task ∷ tasks) loads = dealt tasks (dealt_one task loads)

-- the items before the last one, and the last one
abbrev pub last_apart : {A : Type 0} → A → List A → List A × A
last_apart x [] = ([], x)
last_apart x (y ∷ ys) = let rest = last_apart y ys in (x ∷ rest.0, rest.1)

-- a list cut before its last item; none of an empty list
abbrev pub ends_apart : {A : Type 0} → List A → Option (List A × A)
ends_apart [] = None
ends_apart (x ∷ xs) = Some (last_apart x xs)

module _ {A : Type 0} where
  -- the last list gives its last task back, and then stands first
  abbrev pub gathered_one : List (List A) → Option (List (List A) × A)
  gathered_one loads = option_and_then (λ ends. option_map (λ load. (load.0 ∷ ends.0, load.1)) (ends_apart ends.1)) (ends_apart loads)

  -- so many tasks in front of others, as long as the last list has one
  abbrev pub gathered_from : Option (List (List A) × A) → (List (List A) → List A → List A) → List A → List A
  gathered_from None more tasks = tasks
  gathered_from (Some one) more tasks = more one.0 (one.1 ∷ tasks)

  -- so many of the last tasks of each list in front of others
  abbrev pub gathered : ℕ → List (List A) → List A → List A
  gathered zero loads tasks = tasks
  gathered (suc count) loads tasks = gathered_from (gathered_one loads) (gathered count) tasks
