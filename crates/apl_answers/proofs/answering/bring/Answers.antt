use Rattle.std.proofs.Common.{◌≡◌, ℕ, List, sym, ap, subst, ◌∙◌}
use Rattle.std.specs.Prelude.{Option, None, Result}
use Rattle.apl_arrays.specs.declared.report.Fail.{Fail}
use Rattle.apl_arrays.specs.declared.report.Report.{Report}
use Rattle.apl_items.specs.Places.{OnWantOfMemory}
use Rattle.apl_workspace.specs.Workspace.{PlainWorkspace}
use Rattle.sv_events.specs.Answer.{PlainAnswer, plain_answer}
use Rattle.sv_events.specs.Row.{answer_row}
use Rattle.sv_events.specs.declared.row.AnswerRow.{AnswerRow}
use Rattle.apl_meaning.specs.Answers.{report_of_kind, unless_ended}
use Rattle.apl_meaning.specs.Expressions.{Found, valued}
use Rattle.apl_meaning.specs.Queries.{list_outcome, name_matrix, party_vector}
use Rattle.apl_meaning.specs.State.{State, Outcome, and_then}
use Rattle.apl_selection.proofs.WantLemmas.{on_want}
use Rattle.apl_values.specs.declared.pending.ActPurpose.{ActPurpose}
use Rattle.apl_values.specs.Pending.{PlainActPurpose, act_for_purpose, brought, brought_by, names_asked, parties_asked, plain_act_purpose}
use Rattle.apl_values.specs.Rows.{rows_left}
use Rattle.apl_statements.specs.declared.evaluation.Evaluation.{Evaluation}
use Rattle.apl_statements.specs.declared.flow.Flow.{Flow}
use Rattle.apl_statements.specs.Evaluating.{caller_of}
use Rattle.apl_statements.specs.Interpreter.{PlainInterpreter, here, state_at}
use Rattle.apl_statements.specs.Moves.{Comes, part_gives}
use Rattle.apl_statements.specs.Stack.{carried_on}
use Rattle.apl_statements.specs.Wants.{CopyFits, NoReportIsDue}
use Rattle.apl_statements.proofs.Same.{comes_as}
use Rattle.apl_answers.specs.Brought.{BringsEnough}
use Rattle.apl_answers.proofs.Wanting.{row_brings_no_copy}
use Rattle.apl_answers.proofs.answering.bring.Goals as goal

-- what comes of an answer that does not end the line is what it brings
brings : (m : PlainInterpreter) (e : Evaluation) (answer : PlainAnswer) (asked for_this : PlainActPurpose) (r : Result Flow Fail) → report_of_kind (answer_row answer).row.kind ≡ None → asked ≡ for_this → Comes m (part_gives m e (λ s. brought for_this answer s)) 0 m r
    → Comes m (part_gives m e (brought_by answer asked)) 0 m r
brings m e answer asked for_this r none is comes =
    comes_as m m (part_gives m e (brought_by answer asked)) (part_gives m e (λ s. brought for_this answer s)) 0 r (λ acts count taken further.
    let s : State = state_at m acts count taken further in
    ap (λ (o : Outcome Found). carried_on o (caller_of m.workspace (here m) e) m.stack)
    (ap (λ (one : PlainActPurpose). brought_by answer one s) is ∙ ap (λ (found : Option Report). and_then (unless_ended found answer s) (λ answer s. brought for_this answer s)) none)) comes

pub returns-in-Parties-clause-comes : goal.returns-in-Parties-clause-comes
returns-in-Parties-clause-comes c =
    let m : PlainInterpreter = c.args.interpreter.now in
    brings m c.args.e (plain_answer c.args.answer) (plain_act_purpose c.args.pending) parties_asked c.list_parties.result (ap (λ (row : AnswerRow). report_of_kind row.kind) (sym c.row.ensures) ∙ sym c.report_of.ensures ∙ c.in_default.is) (ap plain_act_purpose c.in-Parties.is)
    (subst (λ (list : List ℕ). Comes m (part_gives m c.args.e (λ s. valued (list_outcome (party_vector list) s))) 0 m c.list_parties.result) c.parties_in.ensures c.list_parties.ensures.comes)

pub returns-in-Names-clause-comes : goal.returns-in-Names-clause-comes
returns-in-Names-clause-comes c =
    let m : PlainInterpreter = c.args.interpreter.now in
    brings m c.args.e (plain_answer c.args.answer) (plain_act_purpose c.args.pending) (names_asked c.in-Names.field-0) c.list_names.result (ap (λ (row : AnswerRow). report_of_kind row.kind) (sym c.row.ensures) ∙ sym c.report_of.ensures ∙ c.in_default.is) (ap plain_act_purpose c.in-Names.is)
    (subst (λ (list : List (List ℕ)). Comes m (part_gives m c.args.e (λ s. valued (list_outcome (name_matrix list) s))) 0 m c.list_names.result) c.names_in.ensures c.list_names.ensures.comes)

pub returns-in-Refers-clause-memory : goal.returns-in-Refers-clause-memory
returns-in-Refers-clause-memory c = on_want c.bring_value.result _ (ap (λ (row : AnswerRow). report_of_kind row.kind) (sym c.row.ensures) ∙ sym c.report_of.ensures ∙ c.in_default.is)

pub returns-in-Sets-clause-memory : goal.returns-in-Sets-clause-memory
returns-in-Sets-clause-memory c = on_want c.bring_grant.result _ (ap (λ (row : AnswerRow). report_of_kind row.kind) (sym c.row.ensures) ∙ sym c.report_of.ensures ∙ c.in_default.is)

pub returns-in-Replaces-clause-memory : goal.returns-in-Replaces-clause-memory
returns-in-Replaces-clause-memory c = on_want c.bring_items.result _ (ap (λ (row : AnswerRow). report_of_kind row.kind) (sym c.row.ensures) ∙ sym c.report_of.ensures ∙ c.in_default.is)

pub returns-in-Row-clause-memory : goal.returns-in-Row-clause-memory
returns-in-Row-clause-memory c = on_want c.bring_row.result _ (ap (λ (row : AnswerRow). report_of_kind row.kind) (sym c.row.ensures) ∙ sym c.report_of.ensures ∙ c.in_default.is)

pub returns-in-Parties-clause-memory : goal.returns-in-Parties-clause-memory
returns-in-Parties-clause-memory c = on_want c.list_parties.result _ (ap (λ (row : AnswerRow). report_of_kind row.kind) (sym c.row.ensures) ∙ sym c.report_of.ensures ∙ c.in_default.is)

pub returns-in-Names-clause-memory : goal.returns-in-Names-clause-memory
returns-in-Names-clause-memory c = on_want c.list_names.result _ (ap (λ (row : AnswerRow). report_of_kind row.kind) (sym c.row.ensures) ∙ sym c.report_of.ensures ∙ c.in_default.is)

pub returns-in-Refers-clause-room : goal.returns-in-Refers-clause-room
returns-in-Refers-clause-room c =
    let w : PlainWorkspace = c.args.interpreter.now.workspace in
    subst (λ (for_this : ActPurpose). OnWantOfMemory c.bring_value.result (CopyFits w (act_for_purpose (plain_act_purpose for_this) w) (plain_answer c.args.answer))) (sym c.in-Refers.is) c.bring_value.ensures.room

pub returns-in-Sets-clause-room : goal.returns-in-Sets-clause-room
returns-in-Sets-clause-room c =
    let w : PlainWorkspace = c.args.interpreter.now.workspace in
    subst (λ (for_this : ActPurpose). OnWantOfMemory c.bring_grant.result (CopyFits w (act_for_purpose (plain_act_purpose for_this) w) (plain_answer c.args.answer))) (sym c.in-Sets.is) c.bring_grant.ensures.room

pub returns-in-Replaces-clause-room : goal.returns-in-Replaces-clause-room
returns-in-Replaces-clause-room c =
    let w : PlainWorkspace = c.args.interpreter.now.workspace in
    subst (λ (for_this : ActPurpose). OnWantOfMemory c.bring_items.result (CopyFits w (act_for_purpose (plain_act_purpose for_this) w) (plain_answer c.args.answer))) (sym c.in-Replaces.is) c.bring_items.ensures.room

pub returns-in-Row-clause-room : goal.returns-in-Row-clause-room
returns-in-Row-clause-room c =
    let w : PlainWorkspace = c.args.interpreter.now.workspace in
    subst (λ (for_this : ActPurpose). OnWantOfMemory c.bring_row.result (CopyFits w (act_for_purpose (plain_act_purpose for_this) w) (plain_answer c.args.answer))) (sym c.in-Row.is) (on_want c.bring_row.result _ (row_brings_no_copy w (rows_left c.in-Row.rows) (plain_answer c.args.answer)))

pub returns-in-Parties-clause-room : goal.returns-in-Parties-clause-room
returns-in-Parties-clause-room c =
    let w : PlainWorkspace = c.args.interpreter.now.workspace in
    subst (λ (for_this : ActPurpose). OnWantOfMemory c.list_parties.result (CopyFits w (act_for_purpose (plain_act_purpose for_this) w) (plain_answer c.args.answer))) (sym c.in-Parties.is) (on_want c.list_parties.result _ tt)

pub returns-in-Names-clause-room : goal.returns-in-Names-clause-room
returns-in-Names-clause-room c =
    let w : PlainWorkspace = c.args.interpreter.now.workspace in
    subst (λ (for_this : ActPurpose). OnWantOfMemory c.list_names.result (CopyFits w (act_for_purpose (plain_act_purpose for_this) w) (plain_answer c.args.answer))) (sym c.in-Names.is) (on_want c.list_names.result _ tt)

pub returns-in-Refers-clause-brings : goal.returns-in-Refers-clause-brings
returns-in-Refers-clause-brings c =
    let m : PlainInterpreter = c.args.interpreter.now in
    subst (λ (for_this : ActPurpose). OnWantOfMemory c.bring_value.result (BringsEnough m (plain_act_purpose for_this) (plain_answer c.args.answer))) (sym c.in-Refers.is) c.bring_value.ensures.memory

pub returns-in-Sets-clause-brings : goal.returns-in-Sets-clause-brings
returns-in-Sets-clause-brings c =
    let m : PlainInterpreter = c.args.interpreter.now in
    subst (λ (for_this : ActPurpose). OnWantOfMemory c.bring_grant.result (BringsEnough m (plain_act_purpose for_this) (plain_answer c.args.answer))) (sym c.in-Sets.is) (on_want c.bring_grant.result _ tt)

pub returns-in-Replaces-clause-brings : goal.returns-in-Replaces-clause-brings
returns-in-Replaces-clause-brings c =
    let m : PlainInterpreter = c.args.interpreter.now in
    subst (λ (for_this : ActPurpose). OnWantOfMemory c.bring_items.result (BringsEnough m (plain_act_purpose for_this) (plain_answer c.args.answer))) (sym c.in-Replaces.is) c.bring_items.ensures.memory

pub returns-in-Row-clause-brings : goal.returns-in-Row-clause-brings
returns-in-Row-clause-brings c =
    let m : PlainInterpreter = c.args.interpreter.now in
    subst (λ (for_this : ActPurpose). OnWantOfMemory c.bring_row.result (BringsEnough m (plain_act_purpose for_this) (plain_answer c.args.answer))) (sym c.in-Row.is) (on_want c.bring_row.result _ tt)

pub returns-in-Parties-clause-brings : goal.returns-in-Parties-clause-brings
returns-in-Parties-clause-brings c =
    let m : PlainInterpreter = c.args.interpreter.now in
    subst (λ (for_this : ActPurpose). OnWantOfMemory c.list_parties.result (BringsEnough m (plain_act_purpose for_this) (plain_answer c.args.answer))) (sym c.in-Parties.is)
    (subst (λ (list : List ℕ). OnWantOfMemory c.list_parties.result (NoReportIsDue m (list_outcome (party_vector list)))) c.parties_in.ensures c.list_parties.ensures.memory)

pub returns-in-Names-clause-brings : goal.returns-in-Names-clause-brings
returns-in-Names-clause-brings c =
    let m : PlainInterpreter = c.args.interpreter.now in
    subst (λ (for_this : ActPurpose). OnWantOfMemory c.list_names.result (BringsEnough m (plain_act_purpose for_this) (plain_answer c.args.answer))) (sym c.in-Names.is)
    (subst (λ (list : List (List ℕ)). OnWantOfMemory c.list_names.result (NoReportIsDue m (list_outcome (name_matrix list)))) c.names_in.ensures c.list_names.ensures.memory)
