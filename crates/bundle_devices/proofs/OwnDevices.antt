-- The devices of a bundle tell all that they keep.
use Rattle.std.proofs.Common.{◌≢◌, ℕ, Bool, true, false, List, [], ◌∷◌, map, Option, Some, None, refl}
use Rattle.std.specs.Prelude.{cond}
use Rattle.std.specs.BTreeMap.{is_at}
use Rattle.std.specs.Map.{lookup}
use Rattle.apl_arrays.specs.FileList.{PlainFile}
use Rattle.apl_arrays.specs.Name.{name_order}
use Rattle.apl_io.specs.Clock.{Ticks}
use Rattle.apl_io.specs.Content.{Told, by_user_and_name}
use Rattle.apl_io.specs.Kept.{Keeper, Timer, file_entry}
use Rattle.bundle_text.specs.Rules.{PlainBundle}
use Rattle.bundle_devices.specs.Devices.{empty_shelf, text_store_of}
use Rattle.bundle_devices.proofs.Sound.{IsSound, TellsSound}

-- what a timer and a keeper tell, and how many faults they had
abbrev pub readings_of : Timer → Option Ticks
readings_of c = Some c.told

abbrev pub clock_faults : Timer → ℕ
clock_faults c = c.faults

abbrev pub told_by : {K : Type 0} → Keeper K → Option (Told K)
told_by k = Some k.told

abbrev pub keeper_faults : {K : Type 0} → Keeper K → ℕ
keeper_faults k = k.faults

-- what files that are handed in tell is all told
found_told : (name : List ℕ) (files : List PlainFile) → lookup (is_at (name_order name)) (map file_entry files) ≢ Some None
found_told name [] = λ e. cc e
found_told name (file ∷ files) = by (is_at (name_order name) file.name) (found_told name files) where
  by : (here : Bool) → lookup (is_at (name_order name)) (map file_entry files) ≢ Some None → cond here (Some (Some file.bytes)) (lookup (is_at (name_order name)) (map file_entry files)) ≢ Some None
  by true rest = λ e. cc e
  by false rest = rest

pub files_are_sound : (bundle : PlainBundle) → IsSound name_order (text_store_of bundle).told
files_are_sound bundle = record { fails = refl; told = λ name. found_told name bundle.files }

pub files_told : (bundle : PlainBundle) → TellsSound name_order (told_by (text_store_of bundle))
files_told bundle = record { now = (text_store_of bundle).told; tells = refl; sound = files_are_sound bundle }

-- an empty shelf tells all
pub shelf_told : TellsSound by_user_and_name (told_by empty_shelf)
shelf_told = record { now = empty_shelf.told; tells = refl; sound = record { fails = refl; told = λ key e. cc e } }
