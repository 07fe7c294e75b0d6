use Rattle.std.proofs.Common.{ℕ, ◌-◌}
use Rattle.std.proofs.lemmas.Result.{IfOk-weaker}
use Rattle.apl_statements.specs.Interpreter.{PlainInterpreter}
use Rattle.apl_machine.specs.Machine.{PlainMachine}
use Rattle.apl_machine.specs.Runs.{StopsAs}
use Rattle.apl_machine.specs.Stops.{EndsAs, PausesAs}
use Rattle.apl_machine.proofs.Stopping.{stops_at_pause, stops_by_report}
use Rattle.apl_machine.proofs.machine.Machine.run.Goals as goal

pub returns-in-Ok-clause-stop : goal.returns-in-Ok-clause-stop
returns-in-Ok-clause-stop g c =
    let m : PlainMachine = c.args.self.now in
    let counted : ℕ = c.run_to_pause.new.steps - c.args.steps.now in
    let n : PlainInterpreter = c.run_to_pause.new.self.interpreter in
    let after : PlainMachine = c.pause.new.self in
    IfOk-weaker c.pause.result (PausesAs n c.in-Ok.pause after) (StopsAs m counted after) (λ stopped so. stops_at_pause m counted n c.in-Ok.pause after stopped c.in-Ok.ensures.comes c.in-Ok.ensures.sound so) c.pause.ensures.stop

pub returns-in-Err-clause-stop : goal.returns-in-Err-clause-stop
returns-in-Err-clause-stop g c =
    let m : PlainMachine = c.args.self.now in
    let counted : ℕ = c.run_to_pause.new.steps - c.args.steps.now in
    let n : PlainInterpreter = c.run_to_pause.new.self.interpreter in
    let after : PlainMachine = c.end.new.self in
    IfOk-weaker c.end.result (EndsAs n c.in-Err.fail after) (StopsAs m counted after) (λ stopped so. stops_by_report m counted n c.in-Err.fail after stopped c.in-Err.ensures.comes so) c.end.ensures.stop
