use Rattle.std.specs.Prelude.{ℕ, Option, slice_index}
use Rattle.apl_arrays.specs.Array.{PlainArray}
use Rattle.apl_items.specs.Along.{source_along}
use Rattle.apl_items.specs.Moves.{moved}
use Rattle.apl_items.specs.Shapes.{split_at}

-- an array whose items moved along one of its axes: a rule tells for each line and place where along the axis its item was
abbrev pub moved_on : PlainArray → ℕ → (ℕ → ℕ → Option ℕ) → PlainArray
moved_on b axis from = moved b.shape b.items (source_along (split_at b.shape axis) (slice_index b.shape axis) from)
