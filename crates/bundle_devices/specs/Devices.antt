-- The devices of a bundle in memory, before their first calls.
use Rattle.std.specs.Prelude.{ℕ, List, [], map}
use Rattle.apl_io.specs.Kept.{Keeper, Timer, file_entry, new_keeper}
use Rattle.bundle_text.specs.Rules.{PlainBundle}

-- the text store of a run: the bundle's files, before the first call, none of which is to fail
abbrev pub text_store_of : PlainBundle → Keeper (List ℕ)
text_store_of bundle = new_keeper (map file_entry bundle.files) []

-- the clock of a run: the bundle's readings, before the first call, none of which is to fail
abbrev pub clock_of : PlainBundle → Timer
clock_of bundle = record { told = record { left = bundle.clock; calls = 0; fails = [] }; faults = 0 }

-- a shelf without an entry, before the first call, none of which is to fail
abbrev pub empty_shelf : Keeper (ℕ × List ℕ)
empty_shelf = new_keeper [] []

-- the shelves of a run: an empty one for each user
abbrev pub shelves_of : PlainBundle → List (Keeper (ℕ × List ℕ))
shelves_of bundle = map (λ user. empty_shelf) bundle.users
