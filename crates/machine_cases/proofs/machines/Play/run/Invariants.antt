use Rattle.std.proofs.Common.{◌≡◌, vec_len}
use Rattle.apl_machine.specs.Machine.{MayRun}
use Rattle.machine_cases.proofs.machines.Play.run.Given as goal

-- the machine may run
abbrev pub invariant-acts : goal.invariant-acts
invariant-acts g l = MayRun l.machine.stage

-- each act takes an answer
abbrev pub decreases-acts : goal.decreases-acts
decreases-acts g l = vec_len l.self.answers
