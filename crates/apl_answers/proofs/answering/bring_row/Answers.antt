use Rattle.std.proofs.Common.{◌≡◌, ◌∷◌, true, drop, subst, sym}
use Rattle.std.specs.Prelude.{All, map}
use Rattle.std.proofs.lemmas.List.Elements.{All-head}
use Rattle.apl_workspace.specs.Workspace.{PlainWorkspace}
use Rattle.sv_events.specs.Answer.{PlainAnswer, plain_answer}
use Rattle.apl_values.specs.declared.rows.Rows.{Rows}
use Rattle.apl_values.specs.Rows.{AreRows, FirstAsksAct, MayBeDone, PlainNameRow, RowMayBeDone, asks_act, plain_name_row, row_done, row_numbers, rows_left}
use Rattle.apl_values.specs.Values.{settled}
use Rattle.apl_statements.specs.declared.evaluation.Evaluation.{Evaluation}
use Rattle.apl_statements.specs.Interpreter.{PlainInterpreter}
use Rattle.apl_statements.specs.Holding.{IsWithValues}
use Rattle.apl_statements.proofs.Renewing.{settled_sound}
use Rattle.apl_statements.proofs.RowsGo.{first_and_others, rows_kept, rows_stay}
use Rattle.apl_answers.proofs.Answered.{row_goes_on, row_keeps}
use Rattle.apl_answers.proofs.answering.bring_row.Goals as goal

pub finish_row-requires-clause-acts : goal.finish_row-requires-clause-acts
finish_row-requires-clause-acts c =
    let row : PlainNameRow = plain_name_row c.first_of-names.result in
    let left : rows_left c.args.rows ≡ row ∷ drop 1 (rows_left c.args.rows) = first_and_others (rows_left c.args.rows) row (sym c.first_of-names.ensures) in
    subst (FirstAsksAct c.args.interpreter.now.workspace) left c.requires.first

pub next_row-requires-clause-sound : goal.next_row-requires-clause-sound
next_row-requires-clause-sound c =
    let m : PlainInterpreter = c.args.interpreter.now in
    let after : Evaluation = c.settle.new.self in
    let with_values : IsWithValues c.args.e (map (settled m.workspace) c.args.e.values.items) after =
    subst (λ (x : PlainInterpreter). IsWithValues c.args.e (map (settled x.workspace) c.args.e.values.items) after) c.interpreter.view_is c.in_ok-settle.ensures in
    settled_sound m.workspace c.finish_row.new.interpreter.workspace c.args.e after c.requires.sound with_values

pub next_row-requires-clause-rows : goal.next_row-requires-clause-rows
next_row-requires-clause-rows c =
    let w : PlainWorkspace = c.args.interpreter.now.workspace in
    let answer : PlainAnswer = plain_answer c.args.answer in
    let rows : Rows = c.args.rows in
    let told : Rows = c.tell_row.new.rows in
    let row : PlainNameRow = plain_name_row c.first_of-names.result in
    let left : rows_left rows ≡ row ∷ drop 1 (rows_left rows) = first_and_others (rows_left rows) row (sym c.first_of-names.ensures) in
    let acts : asks_act w row ≡ true = subst (FirstAsksAct w) left c.requires.first in
    let may : MayBeDone w row.1 row.0 = All-head (RowMayBeDone w) row (drop 1 (rows_left rows)) (subst (All (RowMayBeDone w)) left c.requires.rows.may) in
    let stay : AreRows w told = rows_stay w rows told row (drop 1 (rows_left rows)) (row_numbers row.1 answer) c.requires.rows left c.in_ok-tell_row.ensures.told c.tell_row.ensures.many in
    subst (λ (x : PlainInterpreter). AreRows x.workspace told) (sym c.in_ok-finish_row.ensures.ok) (rows_kept w (row_done row.1 row.0 answer w) told (row_keeps w row.1 row.0 answer c.rules.ensures may acts) stay)

pub returns-clause-comes : goal.returns-clause-comes
returns-clause-comes c =
    let m : PlainInterpreter = c.args.interpreter.now in
    let n : PlainInterpreter = c.finish_row.new.interpreter in
    let after : Evaluation = c.settle.new.self in
    let rows : Rows = c.args.rows in
    let row : PlainNameRow = plain_name_row c.first_of-names.result in
    let left : rows_left rows ≡ row ∷ drop 1 (rows_left rows) = first_and_others (rows_left rows) row (sym c.first_of-names.ensures) in
    let with_values : IsWithValues c.args.e (map (settled m.workspace) c.args.e.values.items) after =
    subst (λ (x : PlainInterpreter). IsWithValues c.args.e (map (settled x.workspace) c.args.e.values.items) after) c.interpreter.view_is c.in_ok-settle.ensures in
    row_goes_on m n n c.args.e after rows c.tell_row.new.rows row (plain_answer c.args.answer) c.next_row.result left with_values c.in_ok-tell_row.ensures.told c.in_ok-finish_row.ensures.ok c.next_row.ensures.comes
