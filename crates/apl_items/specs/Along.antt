use Rattle.std.specs.Prelude.{◌+◌, ◌*◌, ℕ, Option, Some, None}
use Rattle.apl_items.specs.declared.shapes.Split.{Split}
use Rattle.apl_items.specs.Shapes.{along_of, inner_of, outer_of}

-- how many items a source has whose axis is so long
abbrev pub source_count : Split → ℕ → ℕ
source_count split length = split.outer * length * split.inner

-- the source place at a place along the source's axis, in the same row and at the same item; none where there is none
abbrev pub source_at : Split → ℕ → ℕ → ℕ → Option ℕ → Option ℕ
source_at split length outer inner None = None
source_at split length outer inner (Some along) = Some ((outer * length + along) * split.inner + inner)

-- the number of the line along the axis on which an item stands: its place in a shape without the axis
abbrev pub line_place : Split → ℕ → ℕ → ℕ
line_place split outer inner = outer * split.inner + inner

-- the source place in a row, at a place along the axis and an item there, where a rule tells for each line where along the
-- source's axis its items come from
abbrev pub source_in_row : Split → ℕ → (ℕ → ℕ → Option ℕ) → ℕ → ℕ → ℕ → Option ℕ
source_in_row split length from outer along inner = source_at split length outer inner (from (line_place split outer inner) along)

-- the source place for a place of a result
abbrev pub source_along : Split → ℕ → (ℕ → ℕ → Option ℕ) → ℕ → Option ℕ
source_along split length from place = source_in_row split length from (outer_of split place) (along_of split place) (inner_of split place)
