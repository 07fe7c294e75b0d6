-- What text stores, clocks and shelves in memory keep.
use Rattle.std.specs.Prelude.{◌==◌, ◌&&◌, ℕ, List, [], Option, Some, map, filter, is_some}
use Rattle.std.specs.String.{string_bytes}
use Rattle.std.specs.declared.string.String.{String}
use Rattle.std.specs.declared.alloc.Global.{Global}
use Rattle.apl_arrays.specs.List.{Listed}
use Rattle.apl_arrays.specs.FileList.{PlainFile}
use Rattle.apl_io.specs.Content.{Told}
use Rattle.apl_io.specs.Clock.{Ticks}
use Rattle.apl_io.specs.Replies.{plain_bytes}

-- a store or a shelf in memory: what it tells, and the faults so far
pub record Keeper (K : Type 0) : Type 0 where
  pub told : Told K
  pub faults : ℕ

-- a clock in memory: what it tells, and the faults so far
pub record Timer : Type 0 where
  pub told : Ticks
  pub faults : ℕ

-- an entry of a file that was handed in
abbrev pub file_entry : PlainFile → List ℕ × Option (List ℕ)
file_entry file = (file.name, Some file.bytes)

-- an entry of a file that was written
abbrev pub text_entry : String Global × Option (Listed ℕ) → List ℕ × Option (List ℕ)
text_entry entry = (string_bytes entry.0, plain_bytes entry.1)

-- an entry of a shelf
abbrev pub shelf_entry : (ℕ × List ℕ) × Option (Listed ℕ) → (ℕ × List ℕ) × Option (List ℕ)
shelf_entry entry = (entry.0, plain_bytes entry.1)

-- before the first call, and given no place
abbrev pub new_keeper : {K : Type 0} → List (K × Option (List ℕ)) → List ℕ → Keeper K
new_keeper entries fails = record { told = record { places = []; entries = entries; calls = 0; fails = fails }; faults = 0 }

-- the names of a user's entries whose bytes are there
abbrev pub kept_names_of : ℕ → List ((ℕ × List ℕ) × Option (Listed ℕ)) → List (List ℕ)
kept_names_of user entries = map (λ entry. entry.0.1) (filter (λ entry. user == entry.0.0 && is_some entry.1) entries)
