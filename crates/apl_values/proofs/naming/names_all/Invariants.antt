use Rattle.std.proofs.Common.{◌≡◌, false, take}
use Rattle.std.specs.List.{list_any}
use Rattle.apl_meaning.specs.Naming.{rows_of}
use Rattle.apl_values.proofs.NamingSteps.{is_unnamed}
use Rattle.apl_values.proofs.naming.names_all.Given as goal

-- the rows so far hold names
abbrev pub invariant-loop-row : goal.invariant-loop-row
invariant-loop-row l = list_any is_unnamed (take l.row (rows_of l.n)) ≡ false
