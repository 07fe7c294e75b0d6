use Rattle.std.specs.Prelude.{◌≡◌, ◌+◌, ◌*◌, ◌/◌, ◌%◌, ◌<◌, ◌≤◌, ◌||◌, ◌++◌, ℕ, ℤ, pos, true, List, [], ◌∷◌, Option, length, drop, nat_lt, is_some, slice_index_or, if◌then◌else◌}
use Rattle.std.specs.Ordering.{int_eq}
use Rattle.apl_arrays.specs.Array.{PlainArray, is_chars, element_count, numbers_in}
use Rattle.apl_arrays.specs.Limits.{most_axes}
use Rattle.apl_arrays.specs.Shape.{shape_fault}
use Rattle.apl_items.specs.Answers.{ArrayResult, Faults, no_faults, answer_of}
use Rattle.apl_items.specs.Places.{lacks_item, numbers_by}
use Rattle.apl_scalar.specs.Counting.{floor_quotient, residue}
use Rattle.apl_scalar.specs.Table.{item_where}

-- ---- digits

-- what a base leaves of a number: 0 where the base is 0, else the number less its digit, by the base
abbrev pub rest_by : ℤ → ℤ → ℤ
rest_by base number = if int_eq base (pos 0) then pos 0 else floor_quotient base number

-- what bases leave of a number, from the last to the first
abbrev pub rest_by_all : List ℤ → ℤ → ℤ
rest_by_all [] number = number
rest_by_all (base ∷ bases) number = rest_by base (rest_by_all bases number)

-- the digit of a number at one of its bases: the residue of what the bases after that one leave
abbrev pub digit_at : List ℤ → ℤ → ℕ → ℤ
digit_at bases number at = residue (slice_index_or bases at (pos 0)) (rest_by_all (drop (at + 1) bases) number)

-- the digit for a place of a result, a row of digits for each base with one of each number; none where it is outside 64 bits
abbrev pub digit_for : List ℤ → List ℤ → ℕ → Option ℤ
digit_for bases numbers place = item_where true (digit_at bases (slice_index_or numbers (place % length numbers) (pos 0)) (place / length numbers))

-- the shape of the digits: that of A, then that of B
abbrev pub encode_shape : PlainArray → PlainArray → List ℕ
encode_shape a b = a.shape ++ b.shape

-- what is wrong with bases and numbers as such: bases are a vector or a scalar, digits have no more axes than arrays, and
-- both are numbers
abbrev pub encode_misfit : PlainArray → PlainArray → Faults
encode_misfit a b = record no_faults {
  bad_rank = nat_lt 1 (length a.shape) || nat_lt most_axes (length (encode_shape a b));
  bad_domain = is_chars a.items || is_chars b.items;
}

-- what is wrong with them; each digit is in 64 bits, and they are not too many
abbrev pub encode_faults : PlainArray → PlainArray → Faults
encode_faults a b = record (encode_misfit a b) {
  bad_domain = (encode_misfit a b).bad_domain || lacks_item (element_count (encode_shape a b)) (digit_for (numbers_in a.items) (numbers_in b.items));
  too_large = is_some (shape_fault (encode_shape a b));
}

-- the digits of the numbers B by the bases A, as an array
abbrev pub digits_of : PlainArray → PlainArray → PlainArray
digits_of a b = numbers_by (encode_shape a b) (digit_for (numbers_in a.items) (numbers_in b.items))

-- the digits, or the report on bases and numbers
abbrev pub encode_of : PlainArray → PlainArray → ArrayResult
encode_of a b = answer_of (encode_faults a b) (digits_of a b)

-- ---- digits that are put in column by column

-- the digits at all bases stand in the columns before one
abbrev pub AreBefore : List ℤ → List ℤ → List ℤ → ℕ → Type 0
AreBefore bases numbers digits column =
    (at other : ℕ) → at < length bases → other < column → slice_index_or digits (at * length numbers + other) (pos 0) ≡ digit_at bases (slice_index_or numbers other (pos 0)) at

-- the digits at the bases from one on stand in a column
abbrev pub AreFrom : List ℤ → List ℤ → List ℤ → ℕ → ℕ → Type 0
AreFrom bases numbers digits column low =
    (at : ℕ) → low ≤ at → at < length bases → slice_index_or digits (at * length numbers + column) (pos 0) ≡ digit_at bases (slice_index_or numbers column (pos 0)) at
