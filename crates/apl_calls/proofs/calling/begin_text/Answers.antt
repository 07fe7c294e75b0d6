use Rattle.std.proofs.Common.{ℕ, List, subst}
use Rattle.std.proofs.lemmas.Result.{err_from_is_err_and}
use Rattle.apl_arrays.specs.declared.report.Fail.{Fail}
use Rattle.apl_selection.proofs.WantLemmas.{on_want}
use Rattle.apl_meaning.specs.Meaning.{ran}
use Rattle.apl_meaning.specs.Reading.{read_with}
use Rattle.apl_meaning.specs.Statements.{text_outcome}
use Rattle.apl_meaning.specs.Tasks.{Place, begun}
use Rattle.apl_values.specs.Places.{plain_place}
use Rattle.apl_values.specs.Parts.{IsNotRead, IsReadFrom}
use Rattle.apl_statements.specs.Interpreter.{PlainInterpreter}
use Rattle.apl_statements.specs.Moves.{statement_leads}
use Rattle.apl_statements.proofs.Same.{comes_exit}
use Rattle.apl_calls.proofs.Begins.{counted_comes, not_counted_comes, not_read_comes, read_comes, text_comes}
use Rattle.apl_calls.proofs.calling.begin_text.Goals as goal

pub returns-in_err-room-clause-comes : goal.returns-in_err-room-clause-comes
returns-in_err-room-clause-comes c =
    let m : PlainInterpreter = c.args.interpreter.now in
    let n : PlainInterpreter = c.count_statement.new.interpreter in
    let place : Place = plain_place c.args.place in
    let p = err_from_is_err_and c.from_residual.result c.from_residual.ensures.1 in
    text_comes m n place c.args.text.now.items c.from_residual.result
    (comes_exit m n (statement_leads m (λ s. begun (text_outcome ran place c.args.text.now.items) s)) 0 c.from_residual.result p.0 _ p.1 p.2
    (not_counted_comes m n (text_outcome ran place c.args.text.now.items) _ c.in_err-room.ensures.err c.in_err-room.ensures.refused.0 c.in_err-room.ensures.refused.1))

pub returns-in_err-reading-clause-comes : goal.returns-in_err-reading-clause-comes
returns-in_err-reading-clause-comes c =
    let m : PlainInterpreter = c.args.interpreter.now in
    let n : PlainInterpreter = c.count_statement.new.interpreter in
    let place : Place = plain_place c.args.place in
    let text : List ℕ = c.args.text.now.items in
    let why : Fail = c.in_err-reading.field-0.0 in
    let refused : IsNotRead (read_with n.workspace text) why = subst (λ (x : PlainInterpreter). IsNotRead (read_with x.workspace text) why) c.interpreter.view_is c.in_err-reading.ensures.refused in
    let p = err_from_is_err_and c.from_residual-in_err-reading.result c.from_residual-in_err-reading.ensures.1 in
    text_comes m n place text c.from_residual-in_err-reading.result
    (counted_comes m n n (text_outcome ran place text) c.from_residual-in_err-reading.result c.in_ok-room.ensures.ok.0 c.in_ok-room.ensures.ok.1
    (comes_exit n n (statement_leads n (text_outcome ran place text)) 0 c.from_residual-in_err-reading.result p.0 why p.1 p.2 (not_read_comes n place text why refused)))

pub returns-clause-comes : goal.returns-clause-comes
returns-clause-comes c =
    let m : PlainInterpreter = c.args.interpreter.now in
    let n : PlainInterpreter = c.count_statement.new.interpreter in
    let place : Place = plain_place c.args.place in
    let text : List ℕ = c.args.text.now.items in
    let read : IsReadFrom n.workspace text c.in_ok-reading.reading =
    subst (λ (x : PlainInterpreter). IsReadFrom x.workspace text c.in_ok-reading.reading) c.interpreter.view_is c.in_ok-reading.ensures.read in
    text_comes m n place text c.begin_read.result
    (counted_comes m n n (text_outcome ran place text) c.begin_read.result c.in_ok-room.ensures.ok.0 c.in_ok-room.ensures.ok.1
    (read_comes n place text c.in_ok-reading.reading c.begin_read.result read c.begin_read.ensures.comes))

pub returns-in_err-reading-clause-memory : goal.returns-in_err-reading-clause-memory
returns-in_err-reading-clause-memory c = on_want c.from_residual-in_err-reading.result _ c.in_ok-room.ensures.ok.0

pub returns-clause-memory : goal.returns-clause-memory
returns-clause-memory c = on_want c.begin_read.result _ c.in_ok-room.ensures.ok.0
