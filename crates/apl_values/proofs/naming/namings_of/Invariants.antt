use Rattle.std.proofs.Common.{◌≡◌, take}
use Rattle.std.specs.Prelude.{map}
use Rattle.std.specs.List.{filter_map}
use Rattle.apl_meaning.specs.Naming.{naming_in, rows_of}
use Rattle.apl_values.specs.Rows.{plain_naming}
use Rattle.apl_values.proofs.naming.namings_of.Given as goal

abbrev pub invariant-loop-row : goal.invariant-loop-row
invariant-loop-row l = map plain_naming l.namings.items ≡ filter_map naming_in (take l.row (rows_of l.n))
