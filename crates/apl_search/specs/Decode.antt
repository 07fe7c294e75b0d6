use Rattle.std.specs.Prelude.{◌&&◌, ◌||◌, ◌==◌, ℕ, zero, suc, ℤ, pos, ◌+ℤ◌, ◌*ℤ◌, Bool, true, not, List, Option, Some, None, length, nat_lt, is_none, unwrap_or, if◌then◌else◌}
use Rattle.apl_arrays.specs.Array.{PlainArray, is_chars, item_count, numbers_in, scalar}
use Rattle.apl_items.specs.Answers.{ArrayResult, Faults, no_faults, answer_of}
use Rattle.apl_items.specs.Extension.{are_whole, is_single, number_at}
use Rattle.apl_scalar.specs.Table.{item_where}

-- the value so far, times a base, plus a digit; none once it is outside 64 bits
abbrev pub taken_on : ℤ → ℤ → Option ℤ → Option ℤ
taken_on base digit None = None
taken_on base digit (Some value) = item_where true (value *ℤ base +ℤ digit)

-- the value after so many bases and digits: 0 after none, and so the first digit after one
abbrev pub value_after : List ℤ → List ℤ → ℕ → Option ℤ
value_after bases digits zero = Some (pos 0)
value_after bases digits (suc n) = taken_on (number_at bases n) (number_at digits n) (value_after bases digits n)

-- how many bases and digits there are, where one element extends
abbrev pub shared_count : PlainArray → PlainArray → ℕ
shared_count a b = if is_single a then item_count b.items else item_count a.items

-- the counts differ where neither extends
abbrev pub counts_differ : PlainArray → PlainArray → Bool
counts_differ a b = are_whole a b && not (item_count a.items == item_count b.items)

-- the value of all digits B by bases A
abbrev pub decoded_value : PlainArray → PlainArray → Option ℤ
decoded_value a b = value_after (numbers_in a.items) (numbers_in b.items) (shared_count a b)

-- what is wrong with bases and digits as such: they are vectors or scalars, as many, and of numbers
abbrev pub decode_misfit : PlainArray → PlainArray → Faults
decode_misfit a b = record no_faults {
  bad_rank = nat_lt 1 (length a.shape) || nat_lt 1 (length b.shape);
  bad_length = counts_differ a b;
  bad_domain = is_chars a.items || is_chars b.items;
}

-- what is wrong with them; no value leaves 64 bits
abbrev pub decode_faults : PlainArray → PlainArray → Faults
decode_faults a b = record (decode_misfit a b) { bad_domain = (decode_misfit a b).bad_domain || is_none (decoded_value a b) }

-- the value of digits B by bases A
abbrev pub decode_of : PlainArray → PlainArray → ArrayResult
decode_of a b = answer_of (decode_faults a b) (scalar (unwrap_or (decoded_value a b) (pos 0)))
