use Rattle.std.proofs.Common.{◌≡◌, [], ◌∷◌, sym, ap, subst, ◌∙◌}
use Rattle.sv_events.specs.Answer.{plain_answer}
use Rattle.apl_values.specs.Pending.{plain_act_purpose}
use Rattle.apl_statements.specs.Evaluating.{caller_of}
use Rattle.apl_statements.specs.Interpreter.{PlainInterpreter, here}
use Rattle.apl_statements.specs.Stack.{PlainCaller}
use Rattle.apl_machine.specs.declared.machine.Machine.TheInside.{Inside}
use Rattle.apl_machine.specs.declared.machine.Stage.{Stage}
use Rattle.apl_machine.specs.declared.machine.Stage.TheVariants as stage
use Rattle.apl_machine.specs.Machine.{PlainMachine, plain_stage}
use Rattle.apl_machine.specs.Runs.{StandsOn}
use Rattle.apl_machine.specs.Stages.{plain_machine}
use Rattle.apl_machine.proofs.Standing.{stands_with_answer}
use Rattle.apl_machine.proofs.machine.Machine.resume.Goals as goal

pub returns-in-Open-clause-stands : goal.returns-in-Open-clause-stands
returns-in-Open-clause-stands c =
    let inside : Inside = c.self.inside in
    let i : PlainInterpreter = inside.interpreter in
    let after : Inside = record inside { stage = stage.Answered c.args.answer c.in-Open.pending c.in-Open.evaluation } in
    let caller : PlainCaller = caller_of i.workspace (here i) c.in-Open.evaluation in
    let is : inside.stage ≡ stage.Open c.in-Open.pending c.in-Open.evaluation = sym c.replace.ensures.value ∙ c.in-Open.is in
    subst (λ (x : PlainMachine). StandsOn x 0 (plain_answer c.args.answer ∷ []) [] (plain_machine after)) c.self.view_is
    (stands_with_answer (plain_machine inside) (plain_act_purpose c.in-Open.pending.value) caller (plain_answer c.args.answer) (ap (λ (st : Stage). plain_stage i.workspace (here i) st) is))
