use Rattle.std.specs.Prelude.{◌+◌, ℕ, ℤ, pos, List, map, slice_index_or}
use Rattle.apl_items.specs.declared.shapes.Split.{Split}
use Rattle.apl_items.specs.Places.{places}
use Rattle.apl_items.specs.Shapes.{place_along}

-- the numbers of a line along an axis, from its first up to one
abbrev pub front_numbers : List ℤ → Split → ℕ → ℕ → ℕ → List ℤ
front_numbers list split outer inner along = map (λ k. slice_index_or list (place_along split outer k inner) (pos 0)) (places (along + 1))
