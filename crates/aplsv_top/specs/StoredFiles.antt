-- Files in a text store, as they stand behind 20: files of lines, or component files.
use Rattle.std.specs.Prelude.{Bool, true, false}
use Rattle.auxiliaries.specs.Protocol.{idle}
use Rattle.auxiliaries.specs.Served.{Served}
use Rattle.aux_choice.specs.declared.one_of.OneOf.{OneOf}
use Rattle.aux_choice.specs.declared.one_of.OneOf.TheVariants.{First, Second}
use Rattle.aux_components.specs.Filed.{Filed}
use Rattle.aux_components.specs.Protocol as component_state

module _ {T : Type 0} where
  -- the files in a store before a run: component files where they are asked for, and else files of lines
  abbrev pub files_in : Bool → T → OneOf (Served T) (Filed T)
  files_in true store = Second (record { store = store; state = component_state.idle })
  files_in false store = First (record { store = store; state = idle })

  -- their store
  abbrev pub store_of : OneOf (Served T) (Filed T) → T
  store_of (First lines) = lines.store
  store_of (Second components) = components.store
