use Rattle.std.proofs.Common.{◌≡◌, []}
use Rattle.machine_cases.proofs.lines.take_steps.Given as goal

abbrev pub invariant-loop-step : goal.invariant-loop-step
invariant-loop-step l = l.workspace.frames ≡ []
