use Rattle.std.specs.Prelude.{ℕ}
use Rattle.apl_items.specs.declared.shapes.Split.{Split}
use Rattle.apl_items.specs.Shapes.{along_of, inner_of, outer_of}

-- what a call by row, place along the axis and item there answers at a place
abbrev pub AtParts : {A : Type 0} → (ℕ → ℕ → ℕ → A → Type 0) → Split → ℕ → A → Type 0
AtParts answers split place answer = answers (outer_of split place) (along_of split place) (inner_of split place) answer
