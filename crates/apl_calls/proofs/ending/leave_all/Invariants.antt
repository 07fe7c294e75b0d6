use Rattle.std.proofs.Common.{◌≡◌, vec_len}
use Rattle.std.specs.Prelude.{reverse}
use Rattle.apl_statements.specs.Sound.{AreUnderWay}
use Rattle.apl_calls.proofs.ending.leave_all.Given as goal

-- the functions that were not left yet; all else is as before
abbrev pub invariant-functions : goal.invariant-functions
invariant-functions l = record {
  way : AreUnderWay l.interpreter-inside.workspace (reverse l.interpreter-inside.callers.items);
  workspace : l.interpreter-inside.workspace ≡ record l.initial.interpreter-inside.workspace { frames = l.interpreter-inside.workspace.frames };
  output : l.interpreter-inside.output ≡ l.initial.interpreter-inside.output;
  statements : l.interpreter-inside.statements ≡ l.initial.interpreter-inside.statements;
  input : l.interpreter-inside.input ≡ l.initial.interpreter-inside.input;
}

abbrev pub decreases-functions : goal.decreases-functions
decreases-functions l = vec_len l.interpreter-inside.callers
