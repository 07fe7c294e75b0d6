use Rattle.std.specs.Prelude.{◌-◌, ◌==◌, ℕ, ℤ, Option, Some, None, length, reverse, slice_index, nat_lt, if◌then◌else◌}
use Rattle.apl_arrays.specs.declared.way.Way.{Way}
use Rattle.apl_arrays.specs.Array.{PlainArray, PlainItems, numbers, chars}
use Rattle.apl_items.specs.Answers.{ArrayResult, no_faults, answer_of}
use Rattle.apl_items.specs.Axis.{lacks_axis, axis_of}
use Rattle.apl_structure.specs.Moves.{moved_on}

-- the place as far from the end of an axis as this one from its start, if it is on the axis
abbrev pub from_the_end : ℕ → ℕ → Option ℕ
from_the_end length along = if nat_lt along length then Some (length - 1 - along) else None

-- the items in reverse order along an axis; a scalar is unchanged
abbrev pub reversed : PlainArray → ℕ → PlainArray
reversed b axis = if length b.shape == 0 then b else moved_on b axis (λ line along. from_the_end (slice_index b.shape axis) along)

-- items in reverse order
abbrev pub turned_items : PlainItems → PlainItems
turned_items (numbers list) = numbers (reverse list)
turned_items (chars list) = chars (reverse list)

-- a vector with its items in reverse order
abbrev pub turned_vector : PlainArray → PlainArray
turned_vector b = record { shape = b.shape; items = turned_items b.items }

-- B reversed along the last axis, the first or K
abbrev pub reverse_of : PlainArray → Way → Option ℤ → ArrayResult
reverse_of b way axis =
    let rank = length b.shape in
    answer_of (record no_faults { bad_index = lacks_axis rank axis }) (reversed b (axis_of rank way axis))
