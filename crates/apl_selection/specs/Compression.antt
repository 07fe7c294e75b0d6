use Rattle.std.specs.Prelude.{◌||◌, ◌==◌, ℕ, ℤ, pos, Bool, List, Option, Some, length, map, filter, if◌then◌else◌}
use Rattle.apl_arrays.specs.declared.way.Way.{Way}
use Rattle.apl_arrays.specs.Array.{PlainArray, PlainItems, numbers, chars, item_count, numbers_in}
use Rattle.apl_arrays.specs.Glyph.{blank}
use Rattle.apl_items.specs.Answers.{ArrayResult, Faults}
use Rattle.apl_items.specs.Extension.{number_at, place_in}
use Rattle.apl_items.specs.Moves.{item_or}
use Rattle.apl_items.specs.Places.{places}
use Rattle.apl_arrays.specs.Number.{is_one}
use Rattle.apl_selection.specs.Flags.{flag_faults}
use Rattle.apl_selection.specs.Listing.{listed_of, meant_axis, meant_length}

-- how many places flags and an axis have together: a lone flag is for each place of the axis, a lone place for each flag
abbrev pub flagged_length : ℕ → ℕ → ℕ
flagged_length flags long = if flags == 1 then long else flags

-- of so many places along an axis those whose flag is 1
abbrev pub kept_of : List ℤ → ℕ → ℕ → List (Option ℕ)
kept_of flags long count = map (λ place. Some (place_in long place)) (filter (λ place. is_one (number_at flags place)) (places count))

-- the places along an axis whose flag is 1
abbrev pub kept_places : List ℤ → ℕ → List (Option ℕ)
kept_places flags long = kept_of flags long (flagged_length (length flags) long)

-- there is one flag, or the axis has one place, or there are as many of both
abbrev pub flags_meet : ℕ → ℕ → Bool
flags_meet flags long = flags == 1 || long == 1 || flags == long

-- what is wrong with a compression
abbrev pub compress_faults : PlainArray → PlainArray → Way → Option ℤ → Faults
compress_faults a b way axis = flag_faults a b axis (flags_meet (item_count a.items) (meant_length b way axis))

-- the items of B along the last axis, the first or K, where A has 1
abbrev pub compress_of : PlainArray → PlainArray → Way → Option ℤ → ArrayResult
compress_of a b way axis = listed_of (compress_faults a b way axis) b (meant_axis b way axis) (kept_places (numbers_in a.items) (meant_length b way axis))

-- the items of a list at kept places
abbrev pub list_at : {T : Type 0} → T → List T → List (Option ℕ) → List T
list_at fill list kept = map (item_or fill list) kept

-- the items of either kind at kept places
abbrev pub items_at : PlainItems → List (Option ℕ) → PlainItems
items_at (numbers list) kept = numbers (list_at (pos 0) list kept)
items_at (chars list) kept = chars (list_at blank list kept)
