use Rattle.std.specs.Prelude.{◌+◌, ◌||◌, ℕ, ℤ, pos, not, [], ◌∷◌, length, map, nat_lt, unsigned_abs}
use Rattle.std.specs.Int.{is_negative}
use Rattle.apl_arrays.specs.Array.{PlainArray, numbers, is_chars, numbers_in}
use Rattle.apl_arrays.specs.Limits.{most_elements}
use Rattle.apl_items.specs.Answers.{ArrayResult, Faults, no_faults, answer_of}
use Rattle.apl_items.specs.Extension.{is_single, number_at}
use Rattle.apl_items.specs.Places.{places}

-- the number of an array with one
abbrev pub lone_number : PlainArray → ℤ
lone_number b = number_at (numbers_in b.items) 0

-- the numbers from 1 to a count, as a vector
abbrev pub first_numbers : ℕ → PlainArray
first_numbers count = record { shape = count ∷ []; items = numbers (map (λ place. pos (place + 1)) (places count)) }

-- what is wrong with the count of numbers: one number is wanted, in a scalar or a vector, from 0 on
abbrev pub iota_faults : PlainArray → Faults
iota_faults b = record no_faults {
  bad_rank = nat_lt 1 (length b.shape);
  bad_length = not (is_single b);
  bad_domain = is_chars b.items || is_negative (lone_number b);
  too_large = nat_lt most_elements (unsigned_abs (lone_number b));
}

-- the numbers from 1 to B
abbrev pub iota_of : PlainArray → ArrayResult
iota_of b = answer_of (iota_faults b) (first_numbers (unsigned_abs (lone_number b)))
