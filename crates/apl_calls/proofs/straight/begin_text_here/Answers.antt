use Rattle.std.proofs.Common.{◌≡◌, ℕ, List, [], ap, sym, subst, ◌∙◌}
use Rattle.std.specs.Prelude.{Result, Ok, unwrap_or}
use Rattle.std.proofs.lemmas.Result.{err_from_is_err_and}
use Rattle.std.specs.Arc.{arc_value}
use Rattle.apl_arrays.specs.declared.report.Fail.{Fail}
use Rattle.apl_meaning.specs.Meaning.{ran}
use Rattle.apl_meaning.specs.Reading.{read_with}
use Rattle.apl_meaning.specs.Statements.{text_outcome}
use Rattle.apl_meaning.specs.Tasks.{in_function}
use Rattle.apl_values.specs.Parts.{IsNotRead, IsReadFrom}
use Rattle.apl_statements.specs.declared.flow.Flow.TheVariants as flow
use Rattle.apl_statements.specs.Evaluating.{line_of_innermost}
use Rattle.apl_statements.specs.Interpreter.{PlainInterpreter}
use Rattle.apl_statements.specs.Moves.{statement_leads}
use Rattle.apl_statements.proofs.Same.{comes_exit}
use Rattle.apl_calls.specs.WentOn.{gone_on}
use Rattle.apl_calls.proofs.Begins.{counted, counted_comes, not_read_comes, read_comes}
use Rattle.apl_calls.proofs.straight.begin_text_here.Goals as goal

pub returns-in_err-reading-clause-comes : goal.returns-in_err-reading-clause-comes
returns-in_err-reading-clause-comes c =
    let m : PlainInterpreter = c.args.interpreter.now in
    let n : PlainInterpreter = c.reading_of_line.new.interpreter in
    let text : List ℕ = unwrap_or (line_of_innermost m.stack c.args.number) [] in
    let why : Fail = c.in_err-reading.field-0.0 in
    let is : n ≡ counted m = c.in_err-reading.ensures.same ∙ c.in_ok-count_one.ensures.ok.1 in
    let refused : IsNotRead (read_with n.workspace text) why =
    subst (λ (x : PlainInterpreter). IsNotRead (read_with x.workspace text) why) (sym is)
    (subst (λ (x : PlainInterpreter). IsNotRead (read_with x.workspace (unwrap_or (line_of_innermost x.stack c.args.number) [])) why) c.in_ok-count_one.ensures.ok.1 c.in_err-reading.ensures.refused) in
    let p = err_from_is_err_and c.from_residual-in_err-reading.result c.from_residual-in_err-reading.ensures.1 in
    counted_comes m n n (text_outcome ran in_function text) (gone_on c.args.e.now c.from_residual-in_err-reading.result) c.in_ok-count_one.ensures.ok.0 is
    (comes_exit n n (statement_leads n (text_outcome ran in_function text)) 0 (gone_on c.args.e.now c.from_residual-in_err-reading.result) p.0 why (ap (λ (r : Result _ Fail). gone_on c.args.e.now r) p.1) p.2 (not_read_comes n in_function text why refused))

pub returns-clause-comes : goal.returns-clause-comes
returns-clause-comes c =
    let m : PlainInterpreter = c.args.interpreter.now in
    let n : PlainInterpreter = c.reading_of_line.new.interpreter in
    let text : List ℕ = unwrap_or (line_of_innermost m.stack c.args.number) [] in
    let is : n ≡ counted m = c.in_ok-reading.ensures.same ∙ c.in_ok-count_one.ensures.ok.1 in
    let read : IsReadFrom n.workspace text (arc_value c.in_ok-reading.reading) =
    subst (λ (x : PlainInterpreter). IsReadFrom x.workspace text (arc_value c.in_ok-reading.reading)) (sym is)
    (subst (λ (x : PlainInterpreter). IsReadFrom x.workspace (unwrap_or (line_of_innermost x.stack c.args.number) []) (arc_value c.in_ok-reading.reading)) c.in_ok-count_one.ensures.ok.1 c.in_ok-reading.ensures.read) in
    counted_comes m n n (text_outcome ran in_function text) (Ok (flow.Evaluates c.begin_reading_here.new.e)) c.in_ok-count_one.ensures.ok.0 is
    (read_comes n in_function text (arc_value c.in_ok-reading.reading) (Ok (flow.Evaluates c.begin_reading_here.new.e)) read c.begin_reading_here.ensures.comes)
