use Rattle.std.specs.Prelude.{◌+◌, ◌&&◌, ◌||◌, ◌==◌, ℕ, Bool, not, List, [], ◌∷◌, Option, Some, None, length, map, option_map, slice_index_or, if◌then◌else◌}
use Rattle.std.specs.Cmp.Lexicographic.{pointwise}
use Rattle.std.specs.Bool.{beq}
use Rattle.std.specs.List.{zip}
use Rattle.std.specs.Option.{option_or}
use Rattle.apl_arrays.specs.Array.{PlainArray, PlainItems, numbers, chars, is_chars}
use Rattle.apl_items.specs.Answers.{ArrayResult, Faults, answer_of}
use Rattle.apl_items.specs.Axes.{source_by_axes}
use Rattle.apl_items.specs.Extension.{is_single, place_in}
use Rattle.apl_items.specs.Places.{places}
use Rattle.apl_selection.specs.Picks.{strided}
use Rattle.apl_selection.specs.Subscripts.{is_miscounted, named_counts, named_on, selection_shape, subscript_faults}

-- ---- which item stands where afterwards

-- the last place of a number in a list
abbrev pub last_place : ℕ → List ℕ → Option ℕ
last_place number [] = None
last_place number (first ∷ rest) =
    option_or (option_map (λ place. place + 1) (last_place number rest)) (if first == number then Some 0 else None)

-- the place of the selection that names a place of A, the last of those that do; none where no one does
abbrev pub place_naming : List ℕ → List (Option PlainArray) → ℕ → Option ℕ
place_naming shape subs = source_by_axes shape (strided (named_counts shape subs) (λ axis along. last_place along (named_on shape subs axis)))

-- the item of V at a place of the selection, where a lone item stands at each; else the one that stood there
abbrev pub put_over : {T : Type 0} → T → List T → Option ℕ → T
put_over old items None = old
put_over old items (Some place) = slice_index_or items (place_in (length items) place) old

-- a list with other items put over those that are named
abbrev pub overlaid_list : {T : Type 0} → List T → List T → (ℕ → Option ℕ) → List T
overlaid_list old new source = map (λ pair. put_over pair.0 new (source pair.1)) (zip old (places (length old)))

-- items with others of the same kind put over those that are named
abbrev pub overlaid : PlainItems → PlainItems → (ℕ → Option ℕ) → PlainItems
overlaid (numbers old) (numbers new) source = numbers (overlaid_list old new source)
overlaid (chars old) (chars new) source = chars (overlaid_list old new source)
overlaid (numbers old) (chars new) source = numbers old
overlaid (chars old) (numbers new) source = chars old

-- A with the items of V in the places that the subscripts name
abbrev pub overlaid_array : PlainArray → List (Option PlainArray) → PlainArray → PlainArray
overlaid_array a subs v = record { shape = a.shape; items = overlaid a.items v.items (place_naming a.shape subs) }

-- ---- what is wrong

-- V has other items than one, and another rank than the selection
abbrev pub has_other_rank : List ℕ → PlainArray → Bool
has_other_rank selection v = not (is_single v) && not (length v.shape == length selection)

-- V has other items than one, and another shape than the selection
abbrev pub has_other_shape : List ℕ → PlainArray → Bool
has_other_shape selection v = not (is_single v) && not (pointwise ◌==◌ v.shape selection)

-- what is wrong with A[I;J]←V: the subscripts, or V, which has one element or the shape of the selection, and is of A's kind. The
-- selection itself is never made, and may be larger than an array
abbrev pub assign_faults : PlainArray → List (Option PlainArray) → PlainArray → Faults
assign_faults a subs v =
    let selection = selection_shape a.shape subs in record (subscript_faults a.shape subs) {
      bad_rank = is_miscounted a.shape subs || has_other_rank selection v;
      bad_length = has_other_shape selection v;
      bad_domain = (subscript_faults a.shape subs).bad_domain || not (beq (is_chars a.items) (is_chars v.items));
    }

-- A[I;J]←V: the array that A is afterwards
abbrev pub assign_of : PlainArray → List (Option PlainArray) → PlainArray → ArrayResult
assign_of a subs v = answer_of (assign_faults a subs v) (overlaid_array a subs v)
