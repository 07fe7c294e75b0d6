use Rattle.std.specs.Prelude.{◌||◌, ◌==◌, ℕ, ℤ, pos, Bool, List, Option, Some, None, length, map, count_by, take, slice_index_or, if◌then◌else◌}
use Rattle.apl_arrays.specs.declared.way.Way.{Way}
use Rattle.apl_arrays.specs.Array.{PlainArray, numbers_in}
use Rattle.apl_items.specs.Answers.{ArrayResult, Faults}
use Rattle.apl_items.specs.Extension.{place_in}
use Rattle.apl_items.specs.Places.{places}
use Rattle.apl_arrays.specs.Number.{is_one}
use Rattle.apl_selection.specs.Flags.{flag_faults}
use Rattle.apl_selection.specs.Listing.{listed_of, meant_axis, meant_length}

-- how many flags are 1
abbrev pub ones : List ℤ → ℕ
ones flags = count_by is_one flags

-- where a flag is 1, as many places on along an axis as flags before it are 1, and none where it is 0
abbrev pub spread_at : List ℤ → ℕ → ℕ → Option ℕ
spread_at flags long place = if is_one (slice_index_or flags place (pos 0)) then Some (place_in long (ones (take place flags))) else None

-- for each flag a place along an axis, or none
abbrev pub spread : List ℤ → ℕ → List (Option ℕ)
spread flags long = map (spread_at flags long) (places (length flags))

-- the axis has one place, or as many as there are ones
abbrev pub ones_meet : List ℤ → ℕ → Bool
ones_meet flags long = long == 1 || ones flags == long

-- what is wrong with an expansion
abbrev pub expand_faults : PlainArray → PlainArray → Way → Option ℤ → Faults
expand_faults a b way axis = flag_faults a b axis (ones_meet (numbers_in a.items) (meant_length b way axis))

-- the items of B along the last axis, the first or K, where A has 1, and the fill where it has 0
abbrev pub expand_of : PlainArray → PlainArray → Way → Option ℤ → ArrayResult
expand_of a b way axis = listed_of (expand_faults a b way axis) b (meant_axis b way axis) (spread (numbers_in a.items) (meant_length b way axis))
