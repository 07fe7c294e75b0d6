use Rattle.std.specs.Prelude.{◌+◌, ◌<◌, ℕ, ℤ, pos, Bool, false, List, nat_lt, ◌==◌, length, map}
use Rattle.std.specs.declared.cmp.Ordering.{Ordering}
use Rattle.std.specs.List.{list_any, position_or_len}
use Rattle.std.specs.List.Sorted.{IsPermutation, IsSorted}
use Rattle.std.specs.Ordering.{int_eq}
use Rattle.apl_arrays.specs.Array.{PlainArray, PlainItems, numbers, chars, number_array}
use Rattle.apl_items.specs.Answers.{ArrayResult, no_faults, answer_of}
use Rattle.apl_scalar.specs.Table.{truth}
use Rattle.apl_search.specs.Grade.{by_item, with_places}

-- ---- the first place

-- the first place, from 0, at which the items have a number, or their count; a character is no number
abbrev pub place_of_number : PlainItems → ℤ → ℕ
place_of_number (numbers list) n = position_or_len (int_eq n) list
place_of_number (chars list) n = length list

-- the first place, from 0, at which the items have a character, or their count
abbrev pub place_of_char : PlainItems → ℕ → ℕ
place_of_char (numbers list) c = length list
place_of_char (chars list) c = position_or_len (λ other. c == other) list

-- the first place in A of each item of B, from 1; where it is not in A, 1 and the length of A
abbrev pub first_places : PlainItems → PlainItems → List ℤ
first_places a (numbers list) = map (λ n. pos (place_of_number a n + 1)) list
first_places a (chars list) = map (λ c. pos (place_of_char a c + 1)) list

-- the first place in a vector A of each item of B
abbrev pub index_of_of : PlainArray → PlainArray → ArrayResult
index_of_of a b =
    answer_of (record no_faults { bad_rank = nat_lt 1 (length a.shape) }) (number_array b.shape (first_places a.items b.items))

-- ---- members

-- the items have this number; a character is no number
abbrev pub has_number : PlainItems → ℤ → Bool
has_number (numbers list) n = list_any (int_eq n) list
has_number (chars list) n = false

-- the items have this character
abbrev pub has_char : PlainItems → ℕ → Bool
has_char (numbers list) c = false
has_char (chars list) c = list_any (λ other. c == other) list

-- 1 for each item of A that is in B, 0 for each other
abbrev pub memberships : PlainItems → PlainItems → List ℤ
memberships (numbers list) b = map (λ n. truth (has_number b n)) list
memberships (chars list) b = map (λ c. truth (has_char b c)) list

-- for each item of A, as 1 or 0, whether B has it
abbrev pub member_of : PlainArray → PlainArray → ArrayResult
member_of a b = answer_of no_faults (number_array a.shape (memberships a.items b.items))

-- ---- items in order, to be searched by halves

-- pairs are a list's items with their places, in order: by the item, and of equal items by the place
pub record StandsInOrder {T : Type 0} (order : T → T → Ordering) (list : List T) (pairs : List (T × ℕ)) : Type 0 where
  pub moved : IsPermutation (with_places list) pairs
  pub rises : IsSorted (by_item order) pairs

-- pairs are a list's items with their places in order, or none, where the list itself is walked
abbrev pub IsIndexOf : {T : Type 0} → (T → T → Ordering) → List T → List (T × ℕ) → Type 0
IsIndexOf order list pairs = 0 < length pairs → StandsInOrder order list pairs
