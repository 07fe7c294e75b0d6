use Rattle.std.proofs.Common.{sym, ap, subst, ◌∙◌}
use Rattle.std.specs.Prelude.{Ok, map}
use Rattle.apl_workspace.specs.Workspace.{empty_workspace, look}
use Rattle.apl_meaning.specs.Calls.{call}
use Rattle.apl_meaning.specs.Meaning.{ran}
use Rattle.apl_values.specs.Values.{settled}
use Rattle.apl_statements.specs.declared.evaluation.Evaluation.{Evaluation}
use Rattle.apl_statements.specs.declared.flow.Flow.TheVariants as flow
use Rattle.apl_statements.specs.Evaluating.{caller_of, evaluation_of, function_by}
use Rattle.apl_statements.specs.Interpreter.{PlainInterpreter, here}
use Rattle.apl_statements.specs.Moves.{part_gives}
use Rattle.apl_statements.specs.Stack.{at_line, from_line, onward}
use Rattle.apl_statements.specs.Holding.{IsWithValues}
use Rattle.apl_statements.specs.Work.{parts_left}
use Rattle.apl_statements.proofs.Moving.{comes_after}
use Rattle.apl_statements.proofs.Renewing.{settled_sound}
use Rattle.apl_calls.proofs.Enters.{settled_enters}
use Rattle.apl_calls.proofs.Falling.{falls_entered}
use Rattle.apl_calls.proofs.Lines.{left_there}
use Rattle.apl_calls.proofs.entry.begin_call.Goals as goal

pub enter-requires-clause-settled : goal.enter-requires-clause-settled
enter-requires-clause-settled c =
    let m : PlainInterpreter = c.args.interpreter.now in
    let before : Evaluation = c.args.caller in
    let with : IsWithValues before (map (settled m.workspace) before.values.items) c.settle.new.self =
    subst (λ (x : PlainInterpreter). IsWithValues before (map (settled x.workspace) before.values.items) c.settle.new.self) c.interpreter.view_is c.in_ok-settle.ensures in
    settled_sound m.workspace empty_workspace before c.settle.new.self c.requires.sound with

pub returns-then-has_line-clause-comes : goal.returns-then-has_line-clause-comes
returns-then-has_line-clause-comes c =
    let m : PlainInterpreter = c.args.interpreter.now in
    let mid : PlainInterpreter = c.enter.new.interpreter in
    let before : Evaluation = c.args.caller in
    let with : IsWithValues before (map (settled m.workspace) before.values.items) c.settle.new.self =
    subst (λ (x : PlainInterpreter). IsWithValues before (map (settled x.workspace) before.values.items) c.settle.new.self) c.interpreter.view_is c.in_ok-settle.ensures in
    comes_after m mid c.begin_line_there.new.interpreter (part_gives m before (λ s. call ran c.args.name c.args.args s)) (from_line mid.stack 1) 0 c.begin_line_there.result
    (settled_enters m mid before c.settle.new.self c.args.name c.args.args c.requires.takes with c.in_ok-enter.ensures.done c.in_ok-enter.ensures.stack) c.begin_line_there.ensures.comes

pub returns-then-has_line-clause-within : goal.returns-then-has_line-clause-within
returns-then-has_line-clause-within c =
    let m : PlainInterpreter = c.args.interpreter.now in
    falls_entered (parts_left c.args.caller) m c.enter.new.interpreter c.begin_line_there.new.interpreter (at_line (function_by (look m.workspace c.args.name)) 0 (caller_of empty_workspace (here m) c.settle.new.self)) c.begin_line_there.result
    (ap (λ (x : PlainInterpreter). x.statements) c.in_ok-enter.ensures.beside) c.in_ok-enter.ensures.stack c.begin_line_there.ensures.afresh c.begin_line_there.ensures.falls

pub returns-in_ok-leave-clause-comes : goal.returns-in_ok-leave-clause-comes
returns-in_ok-leave-clause-comes c =
    let m : PlainInterpreter = c.args.interpreter.now in
    let mid : PlainInterpreter = c.enter.new.interpreter in
    let n : PlainInterpreter = c.leave.new.interpreter in
    let before : Evaluation = c.args.caller in
    let e : Evaluation = c.in_ok-leave.field-0 in
    let with : IsWithValues before (map (settled m.workspace) before.values.items) c.settle.new.self =
    subst (λ (x : PlainInterpreter). IsWithValues before (map (settled x.workspace) before.values.items) c.settle.new.self) c.interpreter.view_is c.in_ok-settle.ensures in
    comes_after m mid n (part_gives m before (λ s. call ran c.args.name c.args.args s)) (from_line mid.stack 1) 0 (Ok (flow.Evaluates e))
    (settled_enters m mid before c.settle.new.self c.args.name c.args.args c.requires.takes with c.in_ok-enter.ensures.done c.in_ok-enter.ensures.stack)
    (left_there mid n 1 (λ s. onward (evaluation_of n.workspace e) n.stack s) (sym c.has_line.ensures ∙ c.if-has_line.false) c.in_ok-leave.ensures.comes)
