use Rattle.apl_statements.specs.declared.evaluation.Evaluation.{Evaluation}
use Rattle.apl_statements.specs.Interpreter.{PlainInterpreter}
use Rattle.apl_statements.proofs.Moving.{comes_after}
use Rattle.apl_answers.specs.WentOn.{went_on}
use Rattle.apl_machine.proofs.StepParts.{to_come}
use Rattle.apl_machine.proofs.stepping.pass.Goals as goal
use Rattle.std.proofs.Common.{◌-◌}

pub returns-clause-comes : goal.returns-clause-comes
returns-clause-comes g c =
    let m : PlainInterpreter = c.args.interpreter.now in
    let e : Evaluation = c.args.e.now in
    let after : Evaluation = c.pass_step.new.e in
    comes_after m m c.pass_step.new.interpreter (to_come m e) (to_come m c.pass_plain.new.e) (c.pass_step.new.steps - c.args.steps.now) (went_on after c.pass_step.result) c.in_ok-pass_plain.ensures.moves c.pass_step.ensures.comes
