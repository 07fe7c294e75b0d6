use Rattle.std.proofs.Common.{◌≡◌, length}
use Rattle.std.specs.Prelude.{map}
use Rattle.apl_values.specs.Rows.{plain_naming, plain_name_row}
use Rattle.apl_acts.specs.Faults.{settings_of}
use Rattle.apl_acts.proofs.controls.settings.Given as goal

abbrev pub invariant-loop-names : goal.invariant-loop-names
invariant-loop-names l = record {
  at : l.at ≡ length l.yielded;
  rows : map plain_name_row l.rows.items ≡ settings_of l.elements (map plain_naming l.yielded);
}
