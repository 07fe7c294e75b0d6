use Rattle.std.proofs.Common.{◌≡◌, sym, subst, ◌∙◌}
use Rattle.apl_items.specs.Places.{OnWantOfMemory}
use Rattle.apl_statements.specs.Interpreter.{PlainInterpreter, here}
use Rattle.apl_statements.specs.Moves.{Comes}
use Rattle.apl_statements.specs.Wants.{CopyFits}
use Rattle.apl_values.specs.Pending.{act_for_purpose, plain_act_purpose}
use Rattle.apl_values.specs.declared.pending.ActPurpose.{ActPurpose}
use Rattle.sv_events.specs.Answer.{plain_answer}
use Rattle.apl_answers.specs.Brought.{BringsEnough}
use Rattle.apl_machine.specs.declared.machine.Stage.{Stage}
use Rattle.apl_machine.specs.declared.machine.Stage.TheVariants as stage
use Rattle.apl_machine.specs.Machine.{MayWantMemory, PlainMachine, plain_stage, stage_to_come, still_to_come}
use Rattle.apl_machine.proofs.WantParts.{all_on_want}
use Rattle.apl_machine.proofs.machine.Machine.first_flow.Goals as goal

pub returns-in-Begins-clause-comes : goal.returns-in-Begins-clause-comes
returns-in-Begins-clause-comes c =
    let i : PlainInterpreter = c.self.inside.interpreter in
    let is : stage.Begins c.in-Begins.reading ≡ c.self.inside.stage = sym c.in-Begins.is ∙ c.replace.ensures.value in
    subst (λ (x : PlainMachine). Comes x.interpreter (still_to_come x) 0 c.begin_input.new.interpreter c.begin_input.result) c.self.view_is
    (subst (λ (st : Stage). Comes i (stage_to_come (plain_stage i.workspace (here i) st) i.stack) 0 c.begin_input.new.interpreter c.begin_input.result) is c.begin_input.ensures.comes)

pub returns-in-Begins-clause-memory : goal.returns-in-Begins-clause-memory
returns-in-Begins-clause-memory c =
    let i : PlainInterpreter = c.self.inside.interpreter in
    let is : stage.Begins c.in-Begins.reading ≡ c.self.inside.stage = sym c.in-Begins.is ∙ c.replace.ensures.value in
    subst (λ (x : PlainMachine). OnWantOfMemory c.begin_input.result (MayWantMemory x.interpreter x.stage)) c.self.view_is
    (subst (λ (st : Stage). OnWantOfMemory c.begin_input.result (MayWantMemory i (plain_stage i.workspace (here i) st))) is c.begin_input.ensures.memory)

pub returns-in-Answered-clause-memory : goal.returns-in-Answered-clause-memory
returns-in-Answered-clause-memory c =
    let i : PlainInterpreter = c.self.inside.interpreter in
    let is : stage.Answered c.in-Answered.answer c.in-Answered.pending c.in-Answered.evaluation ≡ c.self.inside.stage = sym c.in-Answered.is ∙ c.replace.ensures.value in
    let room : OnWantOfMemory c.bring.result (CopyFits i.workspace (act_for_purpose (plain_act_purpose c.in-Answered.pending.value) i.workspace) (plain_answer c.in-Answered.answer)) =
    subst (λ (p : ActPurpose). OnWantOfMemory c.bring.result (CopyFits i.workspace (act_for_purpose (plain_act_purpose p) i.workspace) (plain_answer c.in-Answered.answer))) c.into_inner.ensures c.bring.ensures.room in
    let brings : OnWantOfMemory c.bring.result (BringsEnough i (plain_act_purpose c.in-Answered.pending.value) (plain_answer c.in-Answered.answer)) =
    subst (λ (p : ActPurpose). OnWantOfMemory c.bring.result (BringsEnough i (plain_act_purpose p) (plain_answer c.in-Answered.answer))) c.into_inner.ensures c.bring.ensures.brings in
    subst (λ (x : PlainMachine). OnWantOfMemory c.bring.result (MayWantMemory x.interpreter x.stage)) c.self.view_is
    (subst (λ (st : Stage). OnWantOfMemory c.bring.result (MayWantMemory i (plain_stage i.workspace (here i) st))) is (all_on_want c.bring.result _ _ _ c.bring.ensures.memory room brings))
