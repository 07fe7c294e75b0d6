use Rattle.std.specs.Prelude.{◌+◌, ◌-◌, ◌&&◌, ◌==◌, ℕ, ℤ, pos, Bool, not, List, Option, Some, None, length, take, drop, slice_index, unsigned_abs, nat_lt, if◌then◌else◌}
use Rattle.std.specs.Cmp.Lexicographic.{pointwise}
use Rattle.std.specs.Int.{int_rem_euclid}
use Rattle.apl_arrays.specs.declared.way.Way.{Way}
use Rattle.apl_arrays.specs.Array.{PlainArray, is_chars, numbers_in}
use Rattle.apl_items.specs.Answers.{ArrayResult, Faults, no_faults, answer_of}
use Rattle.apl_items.specs.Extension.{is_single, number_at}
use Rattle.apl_items.specs.Axis.{axis_of, lacks_axis}
use Rattle.apl_structure.specs.Moves.{moved_on}

-- how far a number turns an axis, from 0 to below its length; an axis without places is not turned
abbrev pub turn_of : ℤ → ℕ → ℕ
turn_of number length = if length == 0 then 0 else unsigned_abs (int_rem_euclid number (pos length))

-- the place so many on along an axis, where the first follows the last
abbrev pub wrapped : ℕ → ℕ → ℕ
wrapped place length = if nat_lt place length then place else place - length

-- where along an axis an item comes from that is turned so far; none past its end
abbrev pub turned_from : ℕ → ℕ → ℕ → Option ℕ
turned_from turn length along =
    let place = wrapped (along + turn) length in
    if nat_lt along length && nat_lt place length then Some place else None

-- A has B's axes but one
abbrev pub fits_around : ℕ → List ℕ → List ℕ → Bool
fits_around axis a b = pointwise ◌==◌ (take axis a) (take axis b) && pointwise ◌==◌ (drop axis a) (drop (axis + 1) b)

-- what is wrong with a rotation: A has one element, or the shape of B without the axis
abbrev pub rotate_faults : PlainArray → PlainArray → Way → Option ℤ → Faults
rotate_faults a b way axis =
    let rank = length b.shape in
    let whole = not (is_single a) in record no_faults {
      bad_rank = whole && not (length a.shape + 1 == rank);
      bad_length = whole && not (lacks_axis rank axis) && not (fits_around (axis_of rank way axis) a.shape b.shape);
      bad_domain = is_chars a.items;
      bad_index = lacks_axis rank axis;
    }

-- each line of B along an axis turned as far as its number of A says; a scalar is unchanged
abbrev pub rotated : PlainArray → PlainArray → ℕ → PlainArray
rotated a b axis =
    let long = slice_index b.shape axis in
    if length b.shape == 0 then b else moved_on b axis (λ line along. turned_from (turn_of (number_at (numbers_in a.items) line) long) long along)

-- B rotated by A along the last axis, the first or K
abbrev pub rotate_of : PlainArray → PlainArray → Way → Option ℤ → ArrayResult
rotate_of a b way axis = answer_of (rotate_faults a b way axis) (rotated a b (axis_of (length b.shape) way axis))
