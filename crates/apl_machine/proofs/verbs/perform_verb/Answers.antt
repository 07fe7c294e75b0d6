use Rattle.std.proofs.Common.{◌≡◌, ◌-◌, refl, ap, subst, arith}
use Rattle.std.specs.Prelude.{Bool, Some, Result, Ok, Err}
use Rattle.std.proofs.lemmas.Result.{err_from_is_err_and}
use Rattle.apl_arrays.specs.Array.{PlainArray}
use Rattle.apl_arrays.specs.declared.report.Fail.{Fail}
use Rattle.apl_arrays.specs.declared.report.Report.TheVariants.{Value}
use Rattle.apl_selection.proofs.WantLemmas.{on_want}
use Rattle.apl_verbs.specs.declared.verb.Verb.{Verb}
use Rattle.line_trees.specs.declared.tree.Fun.TheVariants as fun
use Rattle.apl_meaning.specs.Meaning.{ran}
use Rattle.apl_meaning.specs.Nodes.{apply_step}
use Rattle.apl_meaning.specs.State.{gives, refuses}
use Rattle.apl_values.specs.declared.values.StackValue.TheVariants as held
use Rattle.apl_statements.specs.declared.evaluation.Evaluation.{Evaluation}
use Rattle.apl_statements.specs.declared.flow.Flow.TheVariants as flow
use Rattle.apl_statements.specs.Interpreter.{PlainInterpreter, state_at}
use Rattle.apl_statements.specs.Holding.{stack_values}
use Rattle.apl_statements.specs.Moves.{Coming, if_there, part_gives, part_takes}
use Rattle.apl_statements.specs.Wants.{NoReportIsDue}
use Rattle.apl_statements.proofs.Gives.{push_comes}
use Rattle.apl_statements.proofs.Moving.{comes_then, moved_none}
use Rattle.apl_statements.proofs.Same.{at_once, comes_exit}
use Rattle.apl_statements.proofs.Wants.{want_exit}
use Rattle.apl_answers.specs.WentOn.{went_on}
use Rattle.apl_machine.specs.Given.{ComesToGive}
use Rattle.apl_machine.specs.Wants.{UnlessReport, no_lines}
use Rattle.apl_machine.proofs.Gives.{given_refused}
use Rattle.apl_machine.proofs.OperandsThere.{oldest, oldest_waits, placed, placed_sound}
use Rattle.apl_machine.proofs.Performs.{performs_none}
use Rattle.apl_machine.proofs.WantPerforms.{want_told}
use Rattle.apl_machine.proofs.verbs.perform_verb.Goals as goal

-- what is still to come of a function of these arguments
abbrev taking : PlainInterpreter → Evaluation → Verb → Bool → Bool → Coming
taking m e verb has_left has_axis = part_takes m e (apply_step ran (fun.Verb verb) (if_there has_left) (if_there has_axis))

pub returns-in-None-clause-comes : goal.returns-in-None-clause-comes
returns-in-None-clause-comes g c =
    let m : PlainInterpreter = c.args.interpreter.now in
    let e : Evaluation = c.args.e.now in
    let coming : Coming = taking m e c.args.verb c.args.has_left c.args.has_axis in
    moved_none m m coming (λ s. refuses Value s) (c.args.steps.now - c.args.steps.now) (omega arith)
    (at_once m coming (λ s. refuses Value s) (λ asked count taken further. performs_none m e (fun.Verb c.args.verb) c.args.has_left c.args.has_axis (state_at m asked count taken further) (c.in-None.ensures.none refl)))

pub returns-in_err-array-in-Some-clause-comes : goal.returns-in_err-array-in-Some-clause-comes
returns-in_err-array-in-Some-clause-comes g c =
    let m : PlainInterpreter = c.args.interpreter.now in
    let e : Evaluation = c.args.e.now in
    let coming : Coming = taking m e c.args.verb c.args.has_left c.args.has_axis in
    let counted = c.verb_of.new.steps - c.args.steps.now in
    let under : Evaluation = oldest e c.in-Some.first in
    let exit = err_from_is_err_and c.from_residual.result c.from_residual.ensures.1 in
    let why : exit.0 ≡ c.in_err-array-in-Some.field-0.0 = cc exit.2 in
    comes_exit m m coming counted (went_on e c.from_residual.result) exit.0 c.in_err-array-in-Some.field-0.0 (ap (λ (r : Result (Unit {0}) Fail). went_on e r) exit.1) why (given_refused m coming counted under c.in_err-array-in-Some.field-0.0 (c.in_err-array-in-Some.ensures.gives under (record { same = refl; values = refl })))

pub returns-in_ok-array-in-Some-clause-comes : goal.returns-in_ok-array-in-Some-clause-comes
returns-in_ok-array-in-Some-clause-comes g c =
    let m : PlainInterpreter = c.args.interpreter.now in
    let e : Evaluation = c.args.e.now in
    let coming : Coming = taking m e c.args.verb c.args.has_left c.args.has_axis in
    let counted = c.verb_of.new.steps - c.args.steps.now in
    let under : Evaluation = oldest e c.in-Some.first in
    let array : PlainArray = c.in_ok-array-in-Some.array in
    comes_then m m m coming (part_gives m under (λ s. gives (Some array) s)) counted (Ok (flow.Evaluates c.put_at.new.e))
    (c.in_ok-array-in-Some.ensures.gives under (record { same = refl; values = refl }))
    (push_comes m under c.put_at.new.e (held.Made array) (oldest_waits m.workspace e c.in-Some.first c.requires.sound) (placed e c.put_at.new.e c.in-Some.first array c.put_at.ensures))

pub returns-in_ok-array-in-Some-clause-sound : goal.returns-in_ok-array-in-Some-clause-sound
returns-in_ok-array-in-Some-clause-sound g c =
    placed_sound c.args.interpreter.now.workspace c.args.e.now c.put_at.new.e c.in-Some.first c.in_ok-array-in-Some.array c.put_at.ensures c.requires.sound

-- ---- where memory ran out

-- no report of a function of these arguments is due
abbrev due : PlainInterpreter → Evaluation → Verb → Bool → Bool → Type 0
due m e verb has_left has_axis = NoReportIsDue m (apply_step no_lines (fun.Verb verb) (if_there has_left) (if_there has_axis) (stack_values m.workspace e))

pub returns-in_err-array-in-Some-clause-memory : goal.returns-in_err-array-in-Some-clause-memory
returns-in_err-array-in-Some-clause-memory g c =
    let fact : Type 0 = due c.args.interpreter.now c.args.e.now c.args.verb c.args.has_left c.args.has_axis in
    let exit = err_from_is_err_and c.from_residual.result c.from_residual.ensures.1 in
    let why : exit.0 ≡ c.in_err-array-in-Some.field-0.0 = cc exit.2 in
    want_exit c.from_residual.result exit.0 c.in_err-array-in-Some.field-0.0 fact exit.1 why
    (want_told PlainArray (Unit {0}) c.in_err-array-in-Some.field-0.0 fact c.in_err-array-in-Some.ensures.memory)
