use Rattle.std.proofs.Common.{ℕ, List, ap, subst, sym, ◌∙◌}
use Rattle.sv_events.specs.Answer.{PlainAnswer, plain_answer}
use Rattle.sv_events.specs.declared.event.Act.{Act}
use Rattle.sv_events.specs.declared.event.Act.TheVariants as act
use Rattle.sv_events.specs.declared.row.AnswerRow.{AnswerRow}
use Rattle.apl_items.specs.Places.{OnWantOfMemory}
use Rattle.apl_meaning.specs.Answers.{report_of_kind, with_copy}
use Rattle.apl_selection.proofs.WantLemmas.{on_want}
use Rattle.apl_statements.specs.Wants.{CopyFits}
use Rattle.apl_acts.specs.Alone.{answer_outcome}
use Rattle.apl_acts.proofs.HeardLaw.{led_as, told_on}
use Rattle.apl_acts.proofs.alone.hear_alone.Goals as goal

-- a set was granted
pub returns-in-Set-clause-led : goal.returns-in-Set-clause-led
returns-in-Set-clause-led c =
    let before : List (List ℕ) = c.args.output.now.items in
    let answer : PlainAnswer = plain_answer c.args.answer in
    led_as c.keep_set.result c.args.workspace.now c.keep_set.new.workspace before before (answer_outcome c.args.act.now answer) (with_copy c.in-Set.name c.in-Set.value) (λ s at.
    ap (λ (asked : Act). answer_outcome asked answer s) c.in-Set.is
    ∙ told_on (act.Set c.in-Set.name c.in-Set.value) answer s (ap (λ (row : AnswerRow). report_of_kind row.kind) (sym c.row.ensures) ∙ sym c.report_of.ensures ∙ c.in_default.is))
    (c.keep_set.ensures.led before)

pub returns-in-Use-clause-memory : goal.returns-in-Use-clause-memory
returns-in-Use-clause-memory c = on_want c.hear_value.result _ (ap (λ (row : AnswerRow). report_of_kind row.kind) (sym c.row.ensures) ∙ sym c.report_of.ensures ∙ c.in_default.is)

pub returns-in-Set-clause-memory : goal.returns-in-Set-clause-memory
returns-in-Set-clause-memory c = on_want c.keep_set.result _ (ap (λ (row : AnswerRow). report_of_kind row.kind) (sym c.row.ensures) ∙ sym c.report_of.ensures ∙ c.in_default.is)

pub returns-in-Use-clause-room : goal.returns-in-Use-clause-room
returns-in-Use-clause-room c = subst (λ (asked : Act). OnWantOfMemory c.hear_value.result (CopyFits c.args.workspace.now asked (plain_answer c.args.answer))) (sym c.in-Use.is) c.hear_value.ensures.room

pub returns-in-Set-clause-room : goal.returns-in-Set-clause-room
returns-in-Set-clause-room c = subst (λ (asked : Act). OnWantOfMemory c.keep_set.result (CopyFits c.args.workspace.now asked (plain_answer c.args.answer))) (sym c.in-Set.is) c.keep_set.ensures.room
