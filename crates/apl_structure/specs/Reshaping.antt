use Rattle.std.specs.Prelude.{◌%◌, ◌&&◌, ◌||◌, ◌==◌, ℕ, ℤ, pos, Bool, not, List, Some, length, nat_lt, is_some}
use Rattle.std.specs.Int.{is_negative}
use Rattle.std.specs.List.{list_any}
use Rattle.std.specs.Ordering.{int_eq}
use Rattle.apl_arrays.specs.Array.{PlainArray, is_chars, item_count, numbers_in}
use Rattle.apl_arrays.specs.Limits.{most_axes}
use Rattle.apl_arrays.specs.Shape.{shape_fault}
use Rattle.apl_items.specs.Answers.{ArrayResult, Faults, no_faults, answer_of}
use Rattle.apl_items.specs.Moves.{moved}
use Rattle.apl_structure.specs.Lengths.{lengths}

-- an array of these lengths has no items, since one of them is 0
abbrev pub is_hollow : List ℤ → Bool
is_hollow numbers = list_any (λ number. int_eq number (pos 0)) numbers

-- what is wrong with A as a shape: it is a vector or a scalar, of eight numbers at the most and none negative, and asks for items
-- only where B has some
abbrev pub reshape_faults : PlainArray → PlainArray → Faults
reshape_faults a b =
    let numbers = numbers_in a.items in record no_faults {
      bad_rank = nat_lt 1 (length a.shape) || nat_lt most_axes (item_count a.items);
      bad_domain = is_chars a.items || list_any is_negative numbers || item_count b.items == 0 && not (is_hollow numbers);
    }

-- B's items, from the first again where they end
abbrev pub reshaped : List ℕ → PlainArray → PlainArray
reshaped shape b = moved shape b.items (λ place. Some (place % item_count b.items))

-- B in the shape A
abbrev pub reshape_of : PlainArray → PlainArray → ArrayResult
reshape_of a b =
    let shape = lengths (numbers_in a.items) in
    answer_of (record (reshape_faults a b) { too_large = is_some (shape_fault shape) }) (reshaped shape b)
