-- How a machine is behind a run that paused, or that a report ended.
use Rattle.std.specs.Prelude.{◌≡◌}
use Rattle.apl_arrays.specs.declared.report.Fail.{Fail}
use Rattle.apl_arrays.specs.declared.report.Fail.TheVariants as fail
use Rattle.apl_values.specs.Pending.{act_for_purpose, plain_act_purpose}
use Rattle.apl_statements.specs.declared.flow.Pause.{Pause}
use Rattle.apl_statements.specs.declared.flow.Pause.TheVariants as pause
use Rattle.apl_statements.specs.Evaluating.{caller_of}
use Rattle.apl_statements.specs.Interpreter.{PlainInterpreter, here}
use Rattle.apl_machine.specs.declared.flow.Stop.{Stop}
use Rattle.apl_machine.specs.declared.flow.Stop.TheVariants as stop
use Rattle.apl_machine.specs.Machine.{PlainMachine, idle, is_open, machine_after}

-- a machine stops where its run paused: it is idle, or the act is open behind which the statement goes on
abbrev pub PausesAs : PlainInterpreter → Pause → PlainMachine → Stop → Type 0
PausesAs m pause.Ends after stopped = (stopped ≡ stop.Done) × (after ≡ record { interpreter = m; stage = idle })
PausesAs m (pause.Opens for_this e) after stopped =
    (stopped ≡ stop.Asks (act_for_purpose (plain_act_purpose for_this.value) m.workspace)) × (after ≡ record { interpreter = m; stage = is_open (plain_act_purpose for_this.value) (caller_of m.workspace (here m) e) })

-- a line ended so: by a report; where memory ran out it is not ended
abbrev pub EndsAs : PlainInterpreter → Fail → PlainMachine → Stop → Type 0
EndsAs m (fail.Report report) after stopped = (stopped ≡ stop.Failed report) × (after ≡ machine_after report m)
EndsAs m fail.WantOfMemory after stopped = ⊥
