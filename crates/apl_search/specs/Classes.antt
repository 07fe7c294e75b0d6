use Rattle.std.specs.Prelude.{◌≡◌, ◌+◌, ◌<◌, ◌==◌, ◌≤ℤ◌, ℕ, ℤ, Bool, All, List, drop, length, slice_index}
use Rattle.std.specs.List.{position_or_len}
use Rattle.apl_search.specs.Distances.{distance}

-- ---- classes of items

-- an item is of a class
abbrev pub is_of : {T : Type 0} → (T → ℕ) → ℕ → T → Bool
is_of class of item = class item == of

-- the first place from one on whose item is of a class, or the count of the items
abbrev pub first_from : {T : Type 0} → (T → ℕ) → List T → ℕ → ℕ → ℕ
first_from class list from of = from + position_or_len (is_of class of) (drop from list)

-- for each class its first place
abbrev pub AreFirsts : {T : Type 0} → (T → ℕ) → List T → List ℕ → Type 0
AreFirsts class list firsts = (of : ℕ) → of < length firsts → slice_index firsts of ≡ first_from class list 0 of

-- the first places of numbers by their distances from a base that is greater than none of them
pub record AreFirstsFromLeast (list : List ℤ) (base : ℤ) (firsts : List ℕ) : Type 0 where
  pub above : All (λ number. base ≤ℤ number) list
  pub near : All (λ number. distance base number < length firsts) list
  pub first : AreFirsts (distance base) list firsts
