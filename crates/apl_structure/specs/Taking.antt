use Rattle.std.specs.Prelude.{◌+◌, ◌-◌, ◌&&◌, ◌||◌, ◌==◌, ℕ, ℤ, pos, not, List, Option, Some, None, length, map, replicate, slice_index, slice_index_or, nat_le, nat_lt, is_some, unsigned_abs, if◌then◌else◌}
use Rattle.std.specs.Int.{is_negative}
use Rattle.apl_arrays.specs.Array.{PlainArray, is_chars, item_count, numbers_in}
use Rattle.apl_arrays.specs.Limits.{most_axes}
use Rattle.apl_arrays.specs.Shape.{shape_fault}
use Rattle.apl_items.specs.Answers.{ArrayResult, Faults, no_faults, answer_of}
use Rattle.apl_items.specs.Places.{places}
use Rattle.apl_structure.specs.Lengths.{lengths}
use Rattle.apl_selection.specs.Picks.{picked}
use Rattle.apl_selection.specs.Listing.{is_scalar}

-- ---- A has one number for each axis of B

-- the axes of B, where a scalar has one place along each of as many as A asks for
abbrev pub axes_for : ℕ → PlainArray → List ℕ
axes_for count b = if is_scalar b then replicate count 1 else b.shape

-- what is wrong with A: its numbers are not as many as B's axes, where B has any; a scalar B takes as many axes as A
-- has numbers
abbrev pub axes_faults : PlainArray → PlainArray → Faults
axes_faults a b =
    let count = item_count a.items in record no_faults {
      bad_rank = nat_lt 1 (length a.shape) || is_scalar b && nat_lt most_axes count;
      bad_length = not (is_scalar b) && not (count == length b.shape);
      bad_domain = is_chars a.items;
    }

-- the number of A for an axis
abbrev pub number_for : PlainArray → ℕ → ℤ
number_for a axis = slice_index_or (numbers_in a.items) axis (pos 0)

-- ---- take

-- where along an axis the first items stand, or the last where the count is negative; none before its start or past its end
abbrev pub taken_from : ℤ → ℕ → ℕ → Option ℕ
taken_from count length along =
    if is_negative count then (if nat_le (unsigned_abs count) (along + length) then Some (along + length - unsigned_abs count) else None)
    else (if nat_lt along length then Some along else None)

-- how long the axes of a take are
abbrev pub taken_shape : PlainArray → List ℕ
taken_shape a = lengths (numbers_in a.items)

-- per axis the first items of B, or the last, filled
abbrev pub taken : PlainArray → PlainArray → PlainArray
taken a b =
    let source = axes_for (item_count a.items) b in
    picked (taken_shape a) source b.items (λ axis along. taken_from (number_for a axis) (slice_index source axis) along)

-- A take B
abbrev pub take_of : PlainArray → PlainArray → ArrayResult
take_of a b = answer_of (record (axes_faults a b) { too_large = is_some (shape_fault (taken_shape a)) }) (taken a b)

-- ---- drop

-- where along an axis the items without the first stand, or without the last where the count is negative; none past its end
abbrev pub remaining_from : ℤ → ℕ → ℕ → Option ℕ
remaining_from count length along =
    let place = if is_negative count then along else along + unsigned_abs count in
    if nat_lt place length then Some place else None

-- how long the axes of a drop are
abbrev pub remaining_shape : PlainArray → List ℕ → List ℕ
remaining_shape a source = map (λ axis. slice_index source axis - unsigned_abs (number_for a axis)) (places (length source))

-- per axis the items of B without the first, or without the last
abbrev pub remaining : PlainArray → PlainArray → PlainArray
remaining a b =
    let source = axes_for (item_count a.items) b in
    picked (remaining_shape a source) source b.items (λ axis along. remaining_from (number_for a axis) (slice_index source axis) along)

-- A drop B
abbrev pub drop_of : PlainArray → PlainArray → ArrayResult
drop_of a b = answer_of (axes_faults a b) (remaining a b)
