use Rattle.std.proofs.Common.{◌≡◌, false, take}
use Rattle.std.specs.List.{list_any}
use Rattle.apl_meaning.specs.Naming.{rows_of}
use Rattle.apl_acts.specs.Faults.{is_not_offered}
use Rattle.apl_acts.proofs.sharing.some_row_not_offered.Given as goal

-- the rows so far may be offered
abbrev pub invariant-loop-row : goal.invariant-loop-row
invariant-loop-row l = list_any (is_not_offered l.workspace) (take l.row (rows_of l.n)) ≡ false
