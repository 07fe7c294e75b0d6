use Rattle.std.proofs.Common.{◌≡◌, ℕ, List, refl, subst, sym, ap, ◌∙◌}
use Rattle.std.specs.Prelude.{Some, Result, IsOk}
use Rattle.std.proofs.lemmas.Result.{err_from_is_err_and}
use Rattle.apl_arrays.specs.Array.{PlainArray}
use Rattle.apl_arrays.specs.declared.report.Report.{Report}
use Rattle.apl_execute.specs.Text.{text_of}
use Rattle.apl_meaning.specs.Expressions.{Found}
use Rattle.apl_meaning.specs.Nodes.{found_in}
use Rattle.apl_selection.proofs.WantLemmas.{on_want}
use Rattle.apl_values.specs.declared.part.Part.{Part}
use Rattle.apl_values.specs.declared.values.StackValue.{StackValue}
use Rattle.apl_values.specs.Values.{stack_value}
use Rattle.apl_statements.specs.declared.flow.Flow.{Flow}
use Rattle.apl_statements.specs.Evaluating.{evaluation_of}
use Rattle.apl_statements.specs.Holding.{parts_of}
use Rattle.apl_statements.specs.Interpreter.{PlainInterpreter}
use Rattle.apl_statements.specs.Stack.{executes}
use Rattle.apl_statements.specs.Wants.{NoReportIsDue}
use Rattle.apl_statements.proofs.Wants.{want_exit}
use Rattle.apl_calls.specs.Ended.{looked_at}
use Rattle.apl_calls.proofs.Looks.{no_text_looked_at, text_looked_at}
use Rattle.apl_calls.proofs.ending.execute.Goals as goal

pub returns-in_err-held-clause-memory : goal.returns-in_err-held-clause-memory
returns-in_err-held-clause-memory c =
    let m : PlainInterpreter = c.args.interpreter.now in
    let p = err_from_is_err_and c.from_residual.result c.from_residual.ensures.1 in
    want_exit c.from_residual.result p.0 _ (NoReportIsDue m (looked_at executes (found_in (evaluation_of m.workspace c.args.e.now).values))) p.1 p.2 tt

pub returns-in_err-text-clause-memory : goal.returns-in_err-text-clause-memory
returns-in_err-text-clause-memory c =
    let m : PlainInterpreter = c.args.interpreter.now in
    let h : StackValue = c.in_ok-held.held in
    let v : PlainArray = c.array_of.result.now in
    let own : v ≡ stack_value m.workspace (parts_of c.args.e.now) h =
    c.array_of.ensures ∙ ap (λ (parts : List Part). stack_value c.interpreter.inside.workspace parts h) (c.parts.ensures ∙ ap parts_of c.needed.ensures.same) ∙ ap (λ (x : PlainInterpreter). stack_value x.workspace (parts_of c.args.e.now) h) c.interpreter.view_is in
    let found : Found = found_in (evaluation_of m.workspace c.args.e.now).values in
    let is : found ≡ Some v = c.in_ok-held.ensures.found m.workspace ∙ ap (λ (x : PlainArray). Some x) (sym own) in
    let p = err_from_is_err_and c.from_residual-in_err-text.result c.from_residual-in_err-text.ensures.1 in
    want_exit c.from_residual-in_err-text.result p.0 c.in_err-text.field-0.0 (NoReportIsDue m (looked_at executes found)) p.1 (cc p.2) (no_text_looked_at Flow m found v c.in_err-text.field-0.0 is c.in_err-text.ensures.refused)

pub returns-clause-memory : goal.returns-clause-memory
returns-clause-memory c =
    let m : PlainInterpreter = c.args.interpreter.now in
    let h : StackValue = c.in_ok-held.held in
    let v : PlainArray = c.array_of.result.now in
    let own : v ≡ stack_value m.workspace (parts_of c.args.e.now) h =
    c.array_of.ensures ∙ ap (λ (parts : List Part). stack_value c.interpreter.inside.workspace parts h) (c.parts.ensures ∙ ap parts_of c.needed.ensures.same) ∙ ap (λ (x : PlainInterpreter). stack_value x.workspace (parts_of c.args.e.now) h) c.interpreter.view_is in
    let found : Found = found_in (evaluation_of m.workspace c.args.e.now).values in
    let is : found ≡ Some v = c.in_ok-held.ensures.found m.workspace ∙ ap (λ (x : PlainArray). Some x) (sym own) in
    let text : IsOk (text_of v) = subst (λ (r : Result (List ℕ) Report). IsOk r) (sym c.in_ok-text.ensures.ok) refl in
    on_want c.begin_text.result (NoReportIsDue m (looked_at executes found)) (text_looked_at m found v is text)
