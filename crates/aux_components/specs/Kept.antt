-- Component files as a store tells them.
use Rattle.std.specs.Prelude.{◌≡◌, ℕ, false, List, [], Option, None, Some}
use Rattle.std.specs.BTreeMap.{is_at}
use Rattle.apl_arrays.specs.Array.{PlainArray}
use Rattle.apl_arrays.specs.Name.{name_order}
use Rattle.apl_io.specs.Content.{Told, entry_of}
use Rattle.aux_components.specs.File.{AreComponents, components_changed}

-- the components of a file by its entry: none where there is no file; of an entry that is told no more nothing is said
abbrev pub HasComponents : Option (Option (List ℕ)) → List PlainArray → Type 0
HasComponents None arrays = arrays ≡ []
HasComponents (Some None) arrays = ⊥
HasComponents (Some (Some bytes)) arrays = AreComponents bytes arrays

-- a file has its components with one change, and all other files are as before
pub record IsChanged (before after : Told (List ℕ)) (name : List ℕ) (number : Option ℕ) (arrays : List PlainArray) (value : PlainArray) : Type 0 where
  pub later : List PlainArray
  pub change : components_changed number arrays value ≡ Some later
  pub file : HasComponents (entry_of name_order after name) later
  pub others : (file : List ℕ) → is_at (name_order name) file ≡ false → entry_of name_order after file ≡ entry_of name_order before file
