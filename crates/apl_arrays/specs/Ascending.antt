use Rattle.std.specs.Prelude.{ℕ, ◌<◌, List, [], ◌∷◌, map}

-- the numbers ascend, each once
abbrev pub Ascend : List ℕ → Type 0
Ascend [] = Unit {0}
Ascend (number ∷ []) = Unit {0}
Ascend (number ∷ next ∷ numbers) = (number < next) × Ascend (next ∷ numbers)

-- the items ascend by their numbers, each number once
abbrev pub AscendBy : {A : Type 0} → (A → ℕ) → List A → Type 0
AscendBy number items = Ascend (map number items)
