use Rattle.std.proofs.Common.{◌≤◌, ◌-◌}
use Rattle.apl_statements.specs.Moves.{Moves, flow_to_come}
use Rattle.apl_statements.specs.Sound.{IsFlow}
use Rattle.apl_statements.specs.Work.{flow_work}
use Rattle.apl_machine.proofs.stepping.run_from.Given as goal

-- the run so far: nothing of what is to come has changed
abbrev pub invariant-steps : goal.invariant-steps
invariant-steps g l = record {
  sound : IsFlow l.interpreter l.flow;
  rises : l.fn.steps ≤ l.steps;
  moves : Moves l.fn.interpreter (flow_to_come l.fn.interpreter l.fn.flow) (l.steps - l.fn.steps) l.interpreter (flow_to_come l.interpreter l.flow);
}

abbrev pub decreases-steps : goal.decreases-steps
decreases-steps g l = flow_work l.interpreter l.flow
