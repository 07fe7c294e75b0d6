-- Which entries a picture shows.
use Rattle.std.specs.Prelude.{ℕ, Bool, ◌+◌, ◌-◌, ◌&&◌, nat_le, min, List, drop, take, Option, Some, None, unwrap_or, if◌then◌else◌}
use Rattle.run_picture.specs.declared.window.Window.{Window}

-- the most entries of a picture
abbrev pub most_shown : ℕ
most_shown = 2000

-- these entries are there, in this order
abbrev pub are_there : ℕ → ℕ → ℕ → Bool
are_there count first last = nat_le 1 first && nat_le first last && nat_le last count

-- the first ones from one place to another, where entries are there; and how many are left out
abbrev pub window_from : ℕ → ℕ → ℕ → Option Window
window_from count first last =
    if are_there count first last then Some (record { first = first; shown = min most_shown (last + 1 - first); left_out = last + 1 - first - most_shown })
    else None

-- the entries from one place to another; where a place is not named, from the first, or up to the last
abbrev pub window_of : ℕ → Option ℕ → Option ℕ → Option Window
window_of count from to = window_from count (unwrap_or from 1) (unwrap_or to count)

-- these entries of a journal with its oldest entry first
abbrev pub entries_in : {X : Type 0} → Window → List X → List X
entries_in shown journal = take shown.shown (drop (shown.first - 1) journal)
