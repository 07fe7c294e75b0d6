use Rattle.std.proofs.Common.{◌-◌, ap, arith}
use Rattle.std.specs.Prelude.{Bool, List, Result, Ok, Err}
use Rattle.std.proofs.lemmas.Result.{err_from_is_err_and}
use Rattle.apl_arrays.specs.declared.report.Fail.{Fail}
use Rattle.apl_arrays.specs.Array.{PlainArray}
use Rattle.apl_items.proofs.RowLemmas.{weaker_want}
use Rattle.line_trees.specs.declared.tree.Fun.TheVariants as fun
use Rattle.apl_meaning.specs.Meaning.{ran}
use Rattle.apl_meaning.specs.Nodes.{apply_step, assign_step, node_step}
use Rattle.apl_statements.specs.declared.evaluation.Evaluation.{Evaluation}
use Rattle.apl_statements.specs.declared.flow.Flow.TheVariants as flow
use Rattle.apl_statements.specs.Interpreter.{PlainInterpreter}
use Rattle.apl_statements.specs.Moves.{if_there, part_takes}
use Rattle.apl_statements.specs.Holding.{stack_values}
use Rattle.apl_statements.specs.Wants.{NoReportIsDue}
use Rattle.apl_statements.proofs.Moving.{moved_none, none_counted}
use Rattle.apl_statements.proofs.Same.{at_once, comes_as, comes_exit}
use Rattle.apl_statements.proofs.Wants.{want_exit}
use Rattle.apl_answers.specs.WentOn.{went_on}
use Rattle.apl_answers.proofs.Wanting.{want_as}
use Rattle.apl_machine.specs.Wants.{no_lines}
use Rattle.apl_machine.proofs.WantSteps.{assign_due, verb_due}
use Rattle.apl_machine.proofs.PlainSteps.{assign_next, paren_next, verb_next}
use Rattle.apl_machine.proofs.StepParts.{passed, to_come}
use Rattle.apl_machine.proofs.passing.pass_step.Goals as goal

pub returns-in-Parentheses-clause-comes : goal.returns-in-Parentheses-clause-comes
returns-in-Parentheses-clause-comes g c =
    let m : PlainInterpreter = c.args.interpreter.now in
    let e : Evaluation = c.args.e.now in
    moved_none m m (to_come m e) (to_come m (passed e)) (c.args.steps.now - c.args.steps.now) (omega arith) (at_once m (to_come m e) (to_come m (passed e)) (paren_next m e c.in-Parentheses.ensures))

pub returns-in_ok-perform_verb-in-Applies-clause-comes : goal.returns-in_ok-perform_verb-in-Applies-clause-comes
returns-in_ok-perform_verb-in-Applies-clause-comes g c =
    let m : PlainInterpreter = c.args.interpreter.now in
    let e : Evaluation = c.args.e.now in
    comes_as m m (to_come m e) (part_takes m (passed e) (apply_step ran (fun.Verb c.in-Applies.verb) (if_there c.in-Applies.has_left) (if_there c.in-Applies.has_axis))) (c.perform_verb.new.steps - c.args.steps.now) (Ok (flow.Evaluates c.perform_verb.new.e))
    (verb_next m e c.in-Applies.verb c.in-Applies.has_left c.in-Applies.has_axis c.in-Applies.ensures) c.in_ok-perform_verb-in-Applies.ensures.comes

pub returns-in_err-perform_verb-in-Applies-clause-comes : goal.returns-in_err-perform_verb-in-Applies-clause-comes
returns-in_err-perform_verb-in-Applies-clause-comes g c =
    let m : PlainInterpreter = c.args.interpreter.now in
    let e : Evaluation = c.args.e.now in
    let coming = part_takes m (passed e) (apply_step ran (fun.Verb c.in-Applies.verb) (if_there c.in-Applies.has_left) (if_there c.in-Applies.has_axis)) in
    let counted = c.perform_verb.new.steps - c.args.steps.now in
    let exit = err_from_is_err_and c.from_residual.result c.from_residual.ensures.1 in
    comes_as m m (to_come m e) coming counted (went_on c.perform_verb.new.e c.from_residual.result)
    (verb_next m e c.in-Applies.verb c.in-Applies.has_left c.in-Applies.has_axis c.in-Applies.ensures)
    (comes_exit m m coming counted (went_on c.perform_verb.new.e c.from_residual.result) exit.0 c.in_err-perform_verb-in-Applies.field-0.0 (ap (λ (r : Result _ Fail). went_on c.perform_verb.new.e r) exit.1) exit.2 c.in_err-perform_verb-in-Applies.ensures.comes)

pub returns-in_ok-assign_unshared-in-Assigns-clause-comes : goal.returns-in_ok-assign_unshared-in-Assigns-clause-comes
returns-in_ok-assign_unshared-in-Assigns-clause-comes g c =
    let m : PlainInterpreter = c.args.interpreter.now in
    let e : Evaluation = c.args.e.now in
    let coming = part_takes m (passed e) (assign_step c.in-Assigns.name) in
    none_counted m c.assign_unshared.new.interpreter (to_come m e) (c.args.steps.now - c.args.steps.now) (Ok (flow.Evaluates c.assign_unshared.new.e)) (omega arith)
    (comes_as m c.assign_unshared.new.interpreter (to_come m e) coming 0 (Ok (flow.Evaluates c.assign_unshared.new.e)) (assign_next m e c.in-Assigns.name c.in-Assigns.ensures) c.in_ok-assign_unshared-in-Assigns.ensures.comes)

pub returns-in_err-assign_unshared-in-Assigns-clause-comes : goal.returns-in_err-assign_unshared-in-Assigns-clause-comes
returns-in_err-assign_unshared-in-Assigns-clause-comes g c =
    let m : PlainInterpreter = c.args.interpreter.now in
    let n : PlainInterpreter = c.assign_unshared.new.interpreter in
    let e : Evaluation = c.args.e.now in
    let coming = part_takes m (passed e) (assign_step c.in-Assigns.name) in
    let after : Evaluation = c.assign_unshared.new.e in
    let exit = err_from_is_err_and c.from_residual-in_err-assign_unshared-in-Assigns.result c.from_residual-in_err-assign_unshared-in-Assigns.ensures.1 in
    none_counted m n (to_come m e) (c.args.steps.now - c.args.steps.now) (went_on after c.from_residual-in_err-assign_unshared-in-Assigns.result) (omega arith)
    (comes_as m n (to_come m e) coming 0 (went_on after c.from_residual-in_err-assign_unshared-in-Assigns.result) (assign_next m e c.in-Assigns.name c.in-Assigns.ensures)
    (comes_exit m n coming 0 (went_on after c.from_residual-in_err-assign_unshared-in-Assigns.result) exit.0 c.in_err-assign_unshared-in-Assigns.field-0.0 (ap (λ (r : Result _ Fail). went_on after r) exit.1) exit.2 c.in_err-assign_unshared-in-Assigns.ensures.comes))

-- ---- where memory ran out

pub returns-in_err-perform_verb-in-Applies-clause-memory : goal.returns-in_err-perform_verb-in-Applies-clause-memory
returns-in_err-perform_verb-in-Applies-clause-memory g c n next =
    let m : PlainInterpreter = c.args.interpreter.now in
    let e : Evaluation = c.args.e.now in
    let values : List PlainArray = stack_values m.workspace e in
    let why : Fail = c.in_err-perform_verb-in-Applies.field-0.0 in
    let fact : Type 0 = NoReportIsDue m (node_step no_lines n values) in
    let exit = err_from_is_err_and c.from_residual.result c.from_residual.ensures.1 in
    want_exit c.from_residual.result exit.0 why fact exit.1 exit.2
    (want_as (Unit {0}) Bool why fact
    (weaker_want {T = Unit {0}} (Err why) (NoReportIsDue m (apply_step no_lines (fun.Verb c.in-Applies.verb) (if_there c.in-Applies.has_left) (if_there c.in-Applies.has_axis) values)) fact
    (λ free. verb_due m e c.in-Applies.verb c.in-Applies.has_left c.in-Applies.has_axis n values c.in-Applies.ensures next free) c.in_err-perform_verb-in-Applies.ensures.memory))

pub returns-in_err-assign_unshared-in-Assigns-clause-memory : goal.returns-in_err-assign_unshared-in-Assigns-clause-memory
returns-in_err-assign_unshared-in-Assigns-clause-memory g c n next =
    let m : PlainInterpreter = c.args.interpreter.now in
    let e : Evaluation = c.args.e.now in
    let values : List PlainArray = stack_values m.workspace e in
    let why : Fail = c.in_err-assign_unshared-in-Assigns.field-0.0 in
    let fact : Type 0 = NoReportIsDue m (node_step no_lines n values) in
    let exit = err_from_is_err_and c.from_residual-in_err-assign_unshared-in-Assigns.result c.from_residual-in_err-assign_unshared-in-Assigns.ensures.1 in
    want_exit c.from_residual-in_err-assign_unshared-in-Assigns.result exit.0 why fact exit.1 exit.2
    (want_as (Unit {0}) Bool why fact
    (weaker_want {T = Unit {0}} (Err why) (NoReportIsDue m (assign_step c.in-Assigns.name values)) fact
    (λ free. assign_due m e c.in-Assigns.name n values c.in-Assigns.ensures next free) c.in_err-assign_unshared-in-Assigns.ensures.due))
