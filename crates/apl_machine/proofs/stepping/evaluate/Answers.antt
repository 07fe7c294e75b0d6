use Rattle.std.proofs.Common.{◌≡◌, ◌≤◌, ◌-◌, length, sym, ◌∙◌, arith}
use Rattle.std.proofs.lemmas.Bool.{ltb-false}
use Rattle.std.proofs.lemmas.Result.{err_from_is_err_and}
use Rattle.std.specs.Prelude.{Err}
use Rattle.apl_statements.specs.declared.evaluation.Evaluation.{Evaluation}
use Rattle.apl_statements.specs.Interpreter.{PlainInterpreter}
use Rattle.apl_statements.specs.Moves.{Coming, Moves}
use Rattle.apl_statements.specs.Holding.{parts_of}
use Rattle.apl_statements.proofs.Same.{comes_exit}
use Rattle.apl_machine.proofs.Evaluates.{comes_on, ended_on, moved_on}
use Rattle.apl_machine.proofs.StepParts.{to_come}
use Rattle.apl_machine.proofs.stepping.evaluate.Goals.{then-parts-test+else-goes_on, else-parts-test}
use Rattle.apl_machine.proofs.stepping.evaluate.Goals as goal

pub returns-in_err-other-in-None-clause-comes : goal.returns-in_err-other-in-None-clause-comes
returns-in_err-other-in-None-clause-comes g c =
    let m : PlainInterpreter = c.args.interpreter.now in
    let p : PlainInterpreter = c.statements.interpreter in
    let n : PlainInterpreter = c.parts.interpreter in
    let o : PlainInterpreter = c.pass.new.interpreter in
    let first : Coming = to_come m c.args.evaluation in
    let why = c.in_err-other-in-None.field-0.0 in
    let exit = err_from_is_err_and c.from_residual-in_err-other-in-None.result c.from_residual-in_err-other-in-None.ensures.1 in
    let here : Moves p (to_come p c.statements.e) (c.pass.new.steps - c.statements.steps) o (to_come o c.pass.new.e) =
    moved_on p n o (to_come p c.statements.e) (to_come n c.parts.e) (to_come o c.pass.new.e) c.statements.steps c.parts.steps c.pass.new.steps c.parts.invariant.rises c.in_ok-pass.ensures.rises c.parts.invariant.moves c.in_ok-pass.ensures.comes in
    let late : c.statements.steps ≤ c.pass.new.steps = let a = c.parts.invariant.rises in let b = c.in_ok-pass.ensures.rises in omega (arith, a, b) in
    let early : c.args.steps.now ≤ c.pass.new.steps = let a = c.statements.invariant.rises in omega (arith, a, late) in
    let whole : Moves m first (c.pass.new.steps - c.args.steps.now) o (to_come o c.pass.new.e) =
    moved_on m p o first (to_come p c.statements.e) (to_come o c.pass.new.e) c.args.steps.now c.statements.steps c.pass.new.steps c.statements.invariant.rises late c.statements.invariant.moves here in
    comes_exit m c.go_on.new.interpreter first (c.go_on.new.steps - c.args.steps.now) c.from_residual-in_err-other-in-None.result exit.0 why exit.1 exit.2
    (comes_on m o c.go_on.new.interpreter first (to_come o c.pass.new.e) c.args.steps.now c.pass.new.steps c.go_on.new.steps (Err why) early c.in_err-other-in-None.ensures.rises whole c.in_err-other-in-None.ensures.comes)

pub returns-then-not-branch-2-clause-comes : goal.returns-then-not-branch-2-clause-comes
returns-then-not-branch-2-clause-comes g c =
    let m : PlainInterpreter = c.args.interpreter.now in
    let p : PlainInterpreter = c.statements.interpreter in
    let n : PlainInterpreter = c.parts.interpreter in
    let e : Evaluation = c.parts.e in
    let first : Coming = to_come m c.args.evaluation in
    let all : length (parts_of e) ≤ e.at =
    elim c.parts-test.branch [
      | then-parts-test+else-goes_on w ↦ ltb-false e.at (length (parts_of e)) (sym w.goes_on.ensures ∙ w.if-goes_on.false)
      | else-parts-test w ↦ absurd (let a = w.parts-test.false in let b = c.if-not-began.true in cc)
    ] in
    let whole : Moves m first (c.parts.steps - c.args.steps.now) n (to_come n e) =
    moved_on m p n first (to_come p c.statements.e) (to_come n e) c.args.steps.now c.statements.steps c.parts.steps c.statements.invariant.rises c.parts.invariant.rises c.statements.invariant.moves c.parts.invariant.moves in
    ended_on m n c.follow_here.new.interpreter c.end_statement.new.interpreter e c.follow_here.new.e first (c.parts.steps - c.args.steps.now) c.end_statement.result
    (c.in_ok-follow_here.ensures.left (let f = c.if-not-branch-2.true in cc)) all whole c.end_statement.ensures.comes
