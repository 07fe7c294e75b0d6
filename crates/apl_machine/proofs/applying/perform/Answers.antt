use Rattle.std.proofs.Common.{◌≡◌, ◌-◌, sym, ap, subst, ◌∙◌, arith}
use Rattle.std.specs.Prelude.{Bool, All, IfSome, Option, Some, option_map}
use Rattle.std.proofs.lemmas.Result.{err_from_is_err_and}
use Rattle.apl_arrays.specs.Array.{PlainArray}
use Rattle.apl_arrays.specs.declared.report.Fail.TheVariants as fail
use Rattle.apl_arrays.specs.declared.report.Report.{Report}
use Rattle.apl_arrays.specs.declared.report.Report.TheVariants.{Value}
use Rattle.apl_items.specs.Places.{OnWantOfMemory}
use Rattle.apl_items.proofs.RowLemmas.{weaker_want}
use Rattle.line_trees.specs.declared.tree.Fun.{Fun}
use Rattle.line_trees.specs.declared.tree.Fun.TheVariants as fun
use Rattle.apl_meaning.specs.Expressions.{performed}
use Rattle.apl_meaning.specs.Meaning.{ran}
use Rattle.apl_meaning.specs.Nodes.{apply_step}
use Rattle.apl_meaning.specs.Queries.{system_outcome}
use Rattle.apl_meaning.specs.State.{refuses}
use Rattle.apl_values.specs.declared.values.StackValue.{StackValue}
use Rattle.apl_values.specs.Values.{IsStackValue, stack_value}
use Rattle.apl_statements.specs.declared.evaluation.Evaluation.{Evaluation}
use Rattle.apl_statements.specs.declared.flow.Flow.{Flow}
use Rattle.apl_statements.specs.Interpreter.{PlainInterpreter, state_at}
use Rattle.apl_statements.specs.Moves.{Comes, Coming, if_there, part_gives, part_takes}
use Rattle.apl_statements.specs.Operands.{operand_list}
use Rattle.apl_statements.specs.Sound.{IsCaller}
use Rattle.apl_statements.specs.Holding.{parts_of, stack_values}
use Rattle.apl_statements.specs.Wants.{NoReportIsDue}
use Rattle.apl_statements.proofs.Moving.{none_counted}
use Rattle.apl_statements.proofs.Same.{SameAt, at_once, comes_as, comes_exit}
use Rattle.apl_statements.proofs.Taken.{taken_held, taken_sound}
use Rattle.apl_statements.proofs.Wants.{want_exit}
use Rattle.apl_calls.specs.Callings.{MayBeCalled}
use Rattle.apl_machine.specs.Wants.{no_lines}
use Rattle.apl_machine.proofs.Performs.{axis_held, left_held, no_axis_as, performs_as, performs_none, right_held}
use Rattle.apl_machine.proofs.WantPerforms.{defined_free, no_axis_wants, performs_free, system_free, want_told}
use Rattle.apl_machine.proofs.applying.perform.Given.{Over}
use Rattle.apl_machine.proofs.applying.perform.Goals as goal
use Rattle.apl_machine.proofs.applying.perform.Goals.{In_ok-left, In_ok-number}

-- what is still to come of a function of these arguments
abbrev taking : PlainInterpreter → Evaluation → Fun → Bool → Bool → Coming
taking m e f has_left has_axis = part_takes m e (apply_step ran f (if_there has_left) (if_there has_axis))

-- the statement is a caller still, and the arguments are arrays
sound : (g : Over) (c : In_ok-left g) → IsCaller c.args.interpreter.now.workspace c.take_operands.new.self
sound g c = taken_sound c.args.interpreter.now.workspace c.args.e c.take_operands.new.self (operand_list c.in_ok-left.field-0) c.take_operands.ensures.same c.in_ok-left.ensures.taken c.requires.sound

arrays : (g : Over) (c : In_ok-left g) → All (IsStackValue c.args.interpreter.now.workspace (parts_of c.take_operands.new.self)) (operand_list c.in_ok-left.field-0)
arrays g c = taken_held c.args.interpreter.now.workspace c.args.e c.take_operands.new.self (operand_list c.in_ok-left.field-0) c.take_operands.ensures.same c.in_ok-left.ensures.taken c.requires.sound

right : (g : Over) (c : In_ok-left g) → IsStackValue c.args.interpreter.now.workspace (parts_of c.take_operands.new.self) c.in_ok-left.field-0.right
right g c = right_held (IsStackValue c.args.interpreter.now.workspace (parts_of c.take_operands.new.self)) c.in_ok-left.field-0 (arrays g c)

left : (g : Over) (c : In_ok-left g) → IfSome c.in_ok-left.field-0.left (IsStackValue c.args.interpreter.now.workspace (parts_of c.take_operands.new.self))
left g c = left_held (IsStackValue c.args.interpreter.now.workspace (parts_of c.take_operands.new.self)) c.in_ok-left.field-0 (arrays g c)

-- the arguments as arrays
abbrev arrays_of : PlainInterpreter → Evaluation → Option StackValue → Option PlainArray
arrays_of m e h = option_map (stack_value m.workspace (parts_of e)) h

-- the function is performed with its arguments, where it is this one
performs_it : (g : Over) (c : In_ok-number g) (f : Fun) → c.args.function ≡ f
    → SameAt c.args.interpreter.now (taking c.args.interpreter.now c.args.e c.args.function c.args.has_left c.args.has_axis)
    (part_gives c.args.interpreter.now c.take_operands.new.self (performed ran f (arrays_of c.args.interpreter.now c.take_operands.new.self c.in_ok-left.field-0.left) (stack_value c.args.interpreter.now.workspace (parts_of c.take_operands.new.self) c.in_ok-left.field-0.right) c.in_ok-number.number))
performs_it g c f is asked count taken further =
    let m : PlainInterpreter = c.args.interpreter.now in
    let after : Evaluation = c.take_operands.new.self in
    performs_as m c.args.e after c.args.function c.args.has_left c.args.has_axis c.in_ok-left.field-0 c.in_ok-number.number c.take_operands.ensures.same c.in_ok-left.ensures.taken c.in_ok-left.ensures.left c.in_ok-left.ensures.axis c.in_ok-number.ensures.ok
    asked count taken further
    ∙ ap (λ (one : Fun). part_gives m after (performed ran one (arrays_of m after c.in_ok-left.field-0.left) (stack_value m.workspace (parts_of after) c.in_ok-left.field-0.right) c.in_ok-number.number) (state_at m asked count taken further)) is

pub returns-in_err-left-clause-comes : goal.returns-in_err-left-clause-comes
returns-in_err-left-clause-comes g c =
    let m : PlainInterpreter = c.args.interpreter.now in
    let coming : Coming = taking m c.args.e c.args.function c.args.has_left c.args.has_axis in
    let exit = err_from_is_err_and c.from_residual.result c.from_residual.ensures.1 in
    let first : exit.0 ≡ fail.Report c.in_err-left.field-0.0 = cc exit.2 in
    none_counted m m coming (c.args.steps.now - c.args.steps.now) c.from_residual.result (omega arith)
    (comes_exit m m coming 0 c.from_residual.result exit.0 (fail.Report Value) exit.1 (first ∙ ap (λ (r : Report). fail.Report r) c.in_err-left.ensures.none.0)
    (at_once m coming (λ s. refuses Value s) (λ asked count taken further.
    performs_none m c.args.e c.args.function c.args.has_left c.args.has_axis (state_at m asked count taken further) c.in_err-left.ensures.none.1)))

pub axis_of-requires : goal.axis_of-requires
axis_of-requires g c = axis_held (IsStackValue c.args.interpreter.now.workspace (parts_of c.take_operands.new.self)) c.in_ok-left.field-0 (arrays g (goal.at.axis_of-requires g c).In_ok-left)

pub returns-in_err-number-clause-comes : goal.returns-in_err-number-clause-comes
returns-in_err-number-clause-comes g c =
    let m : PlainInterpreter = c.args.interpreter.now in
    let coming : Coming = taking m c.args.e c.args.function c.args.has_left c.args.has_axis in
    let exit = err_from_is_err_and c.from_residual-in_err-number.result c.from_residual-in_err-number.ensures.1 in
    let why : exit.0 ≡ c.in_err-number.field-0.0 = cc exit.2 in
    none_counted m m coming (c.args.steps.now - c.args.steps.now) c.from_residual-in_err-number.result (omega arith)
    (comes_exit m m coming 0 c.from_residual-in_err-number.result exit.0 c.in_err-number.field-0.0 exit.1 why
    (no_axis_as m c.args.e c.take_operands.new.self c.args.function c.args.has_left c.args.has_axis c.in_ok-left.field-0 c.in_err-number.field-0.0 c.take_operands.ensures.same c.in_ok-left.ensures.taken c.in_ok-left.ensures.left c.in_ok-left.ensures.axis
    c.in_err-number.ensures.refused))

pub call_with-requires-clause-sound : goal.call_with-requires-clause-sound
call_with-requires-clause-sound g c = sound g (goal.at.call_with-requires-clause-sound g c).In_ok-left

pub call_with-requires-clause-left : goal.call_with-requires-clause-left
call_with-requires-clause-left g c = left g (goal.at.call_with-requires-clause-left g c).In_ok-left

pub call_with-requires-clause-right : goal.call_with-requires-clause-right
call_with-requires-clause-right g c = right g (goal.at.call_with-requires-clause-right g c).In_ok-left

pub system-requires-clause-sound : goal.system-requires-clause-sound
system-requires-clause-sound g c = sound g (goal.at.system-requires-clause-sound g c).In_ok-left

pub system-requires-clause-left : goal.system-requires-clause-left
system-requires-clause-left g c = left g (goal.at.system-requires-clause-left g c).In_ok-left

pub system-requires-clause-right : goal.system-requires-clause-right
system-requires-clause-right g c = right g (goal.at.system-requires-clause-right g c).In_ok-left

pub returns-in-Verb-clause-comes : goal.returns-in-Verb-clause-comes
returns-in-Verb-clause-comes g c =
    let m : PlainInterpreter = c.args.interpreter.now in
    subst (λ (f : Fun). Comes m (taking m c.args.e f c.args.has_left c.args.has_axis) (c.verb_flow.new.steps - c.args.steps.now) m c.verb_flow.result) (sym c.in-Verb.is) c.verb_flow.ensures.comes

pub returns-in-Defined-clause-comes : goal.returns-in-Defined-clause-comes
returns-in-Defined-clause-comes g c =
    let m : PlainInterpreter = c.args.interpreter.now in
    let coming : Coming = taking m c.args.e c.args.function c.args.has_left c.args.has_axis in
    none_counted m c.call_with.new.interpreter coming (c.args.steps.now - c.args.steps.now) c.call_with.result (omega arith)
    (comes_as m c.call_with.new.interpreter coming _ 0 c.call_with.result (performs_it g (goal.at.returns-in-Defined-clause-comes g c).In_ok-number (fun.Defined c.in-Defined.name) c.in-Defined.is) c.call_with.ensures.comes)

pub returns-in-System-clause-comes : goal.returns-in-System-clause-comes
returns-in-System-clause-comes g c =
    let m : PlainInterpreter = c.args.interpreter.now in
    let coming : Coming = taking m c.args.e c.args.function c.args.has_left c.args.has_axis in
    none_counted m m coming (c.args.steps.now - c.args.steps.now) c.system.result (omega arith)
    (comes_as m m coming _ 0 c.system.result (performs_it g (goal.at.returns-in-System-clause-comes g c).In_ok-number (fun.System c.in-System.name) c.in-System.is) c.system.ensures.comes)

-- ---- where memory ran out

-- no report of a function of these arguments is due, but what its lines tell
abbrev due : PlainInterpreter → Evaluation → Fun → Bool → Bool → Type 0
due m e f has_left has_axis = NoReportIsDue m (apply_step no_lines f (if_there has_left) (if_there has_axis) (stack_values m.workspace e))

-- where performing it has none, where it is this one
free_it : (g : Over) (c : In_ok-number g) (f : Fun) → c.args.function ≡ f
    → NoReportIsDue c.args.interpreter.now (performed no_lines f (arrays_of c.args.interpreter.now c.take_operands.new.self c.in_ok-left.field-0.left) (stack_value c.args.interpreter.now.workspace (parts_of c.take_operands.new.self) c.in_ok-left.field-0.right) c.in_ok-number.number)
    → due c.args.interpreter.now c.args.e c.args.function c.args.has_left c.args.has_axis
free_it g c f is free =
    let m : PlainInterpreter = c.args.interpreter.now in
    let after : Evaluation = c.take_operands.new.self in
    performs_free no_lines m c.args.e after c.args.function c.args.has_left c.args.has_axis c.in_ok-left.field-0 c.in_ok-number.number c.take_operands.ensures.same c.in_ok-left.ensures.taken c.in_ok-left.ensures.left c.in_ok-left.ensures.axis c.in_ok-number.ensures.ok
    (subst (λ (one : Fun). NoReportIsDue m (performed no_lines one (arrays_of m after c.in_ok-left.field-0.left) (stack_value m.workspace (parts_of after) c.in_ok-left.field-0.right) c.in_ok-number.number)) (sym is) free)

pub returns-in_err-number-clause-memory : goal.returns-in_err-number-clause-memory
returns-in_err-number-clause-memory g c =
    let m : PlainInterpreter = c.args.interpreter.now in
    let exit = err_from_is_err_and c.from_residual-in_err-number.result c.from_residual-in_err-number.ensures.1 in
    let why : exit.0 ≡ c.in_err-number.field-0.0 = cc exit.2 in
    want_exit c.from_residual-in_err-number.result exit.0 c.in_err-number.field-0.0 (due m c.args.e c.args.function c.args.has_left c.args.has_axis) exit.1 why
    (want_told Flow Flow c.in_err-number.field-0.0 (due m c.args.e c.args.function c.args.has_left c.args.has_axis) (no_axis_wants Flow (option_map (stack_value m.workspace (parts_of c.take_operands.new.self)) c.in_ok-left.field-0.axis) c.in_err-number.field-0.0 (due m c.args.e c.args.function c.args.has_left c.args.has_axis) c.in_err-number.ensures.refused))

pub returns-in-Verb-clause-memory : goal.returns-in-Verb-clause-memory
returns-in-Verb-clause-memory g c =
    let m : PlainInterpreter = c.args.interpreter.now in
    subst (λ (f : Fun). OnWantOfMemory c.verb_flow.result (due m c.args.e f c.args.has_left c.args.has_axis)) (sym c.in-Verb.is) c.verb_flow.ensures.memory

pub returns-in-Defined-clause-memory : goal.returns-in-Defined-clause-memory
returns-in-Defined-clause-memory g c =
    let d = (goal.at.returns-in-Defined-clause-memory g c).In_ok-number in
    let m : PlainInterpreter = c.args.interpreter.now in
    let left : Option PlainArray = arrays_of m c.take_operands.new.self c.in_ok-left.field-0.left in
    let right : PlainArray = stack_value m.workspace (parts_of c.take_operands.new.self) c.in_ok-left.field-0.right in
    weaker_want c.call_with.result (MayBeCalled m.workspace c.in-Defined.name (record { left = left; right = Some right })) (due m c.args.e c.args.function c.args.has_left c.args.has_axis)
    (λ may. free_it g d (fun.Defined c.in-Defined.name) c.in-Defined.is (defined_free m c.in-Defined.name left right c.in_ok-number.number may)) c.call_with.ensures.memory

pub returns-in-System-clause-memory : goal.returns-in-System-clause-memory
returns-in-System-clause-memory g c =
    let d = (goal.at.returns-in-System-clause-memory g c).In_ok-number in
    let m : PlainInterpreter = c.args.interpreter.now in
    let left : Option PlainArray = arrays_of m c.take_operands.new.self c.in_ok-left.field-0.left in
    let right : PlainArray = stack_value m.workspace (parts_of c.take_operands.new.self) c.in_ok-left.field-0.right in
    weaker_want c.system.result (NoReportIsDue m (system_outcome c.in-System.name left right)) (due m c.args.e c.args.function c.args.has_left c.args.has_axis)
    (λ free. free_it g d (fun.System c.in-System.name) c.in-System.is (system_free no_lines m c.in-System.name left right c.in_ok-number.number free)) c.system.ensures.memory
