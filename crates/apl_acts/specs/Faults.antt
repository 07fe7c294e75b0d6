-- What is wrong with the arguments of a shared variable function, and the rows that are made of them.
use Rattle.std.specs.Prelude.{◌≡◌, ◌≤◌, ◌+◌, ◌*◌, ◌==◌, ◌⊎◌, ℕ, ℤ, Bool, false, List, length, map, unsigned_abs, if◌then◌else◌}
use Rattle.std.specs.List.{list_any, zip}
use Rattle.std.specs.Option.{option_to_list}
use Rattle.apl_arrays.specs.Number.{is_one}
use Rattle.apl_items.specs.Answers.{Faults}
use Rattle.apl_items.specs.Extension.{number_at}
use Rattle.apl_items.specs.Places.{places}
use Rattle.apl_workspace.specs.Workspace.{PlainWorkspace}
use Rattle.sv_access.specs.Control.{four_elements}
use Rattle.sv_access.specs.declared.control.Control.{Control}
use Rattle.apl_meaning.specs.Deeds.{offer, set_control}
use Rattle.apl_meaning.specs.Naming.{Naming, naming_in}
use Rattle.apl_meaning.specs.Sharing.{cannot_be_offered}
use Rattle.apl_values.specs.Rows.{PlainNameRow}
use Rattle.apl_acts.specs.declared.sharing.Wrong.{Wrong}

-- what is wrong with arguments; no index is
abbrev pub plain_faults : Wrong → Faults
plain_faults wrong = record { bad_rank = wrong.rank; bad_length = wrong.length; bad_domain = wrong.domain; bad_index = false; too_large = wrong.too_large }

-- one number for all, or one for each of so many
abbrev pub IsOneOrAsMany : List ℤ → ℕ → Type 0
IsOneOrAsMany numbers count = (length numbers ≡ 1) ⊎ (count ≤ length numbers)

-- a row holds names, and the local one cannot be offered
abbrev pub is_not_offered : PlainWorkspace → List ℕ → Bool
is_not_offered w row = list_any (cannot_be_offered w) (option_to_list (naming_in row))

-- these names are offered, to the party of all or to their own
abbrev pub offers_of : List ℤ → List Naming → List PlainNameRow
offers_of parties namings = zip namings (map (λ row. offer (unsigned_abs (number_at parties row))) (places (length namings)))

-- one number for all, four for all, or four for each of so many
abbrev pub AreElements : List ℤ → ℕ → Type 0
AreElements numbers rows = (length numbers ≡ 1) ⊎ ((length numbers ≡ 4) ⊎ (rows * 4 ≤ length numbers))

-- an element of the control of a row
abbrev pub element_in : List ℤ → ℕ → ℕ → Bool
element_in numbers row element = is_one (number_at numbers (if length numbers == 4 then element else row * 4 + element))

-- the control of a row
abbrev pub control_in : List ℤ → ℕ → Control
control_in numbers row = four_elements (element_in numbers row 0) (element_in numbers row 1) (element_in numbers row 2) (element_in numbers row 3)

-- the controls of these names are set
abbrev pub settings_of : List ℤ → List Naming → List PlainNameRow
settings_of numbers namings = zip namings (map (λ row. set_control (control_in numbers row)) (places (length namings)))
