use Rattle.std.proofs.Common.{◌≡◌, false, sym, ap, subst, ◌∙◌}
use Rattle.std.specs.Prelude.{All, IfSome, Option, Some, None, Result, Ok, option_map}
use Rattle.std.proofs.lemmas.Result.{err_from_is_err_and}
use Rattle.apl_arrays.specs.Array.{PlainArray}
use Rattle.apl_arrays.specs.declared.report.Fail.{Fail}
use Rattle.apl_arrays.specs.declared.report.Fail.TheVariants as fail
use Rattle.apl_arrays.specs.declared.report.Report.{Report}
use Rattle.apl_arrays.specs.declared.report.Report.TheVariants.{Value}
use Rattle.apl_items.proofs.RowLemmas.{weaker_want}
use Rattle.line_trees.specs.declared.tree.Fun.TheVariants as fun
use Rattle.apl_meaning.specs.Meaning.{ran}
use Rattle.apl_meaning.specs.Nodes.{apply_step}
use Rattle.apl_meaning.specs.State.{refuses}
use Rattle.apl_values.specs.Values.{IsStackValue, stack_value}
use Rattle.apl_statements.specs.declared.evaluation.Evaluation.{Evaluation}
use Rattle.apl_statements.specs.Interpreter.{PlainInterpreter, state_at}
use Rattle.apl_statements.specs.Moves.{Coming, if_there, part_takes}
use Rattle.apl_statements.specs.Operands.{operand_list}
use Rattle.apl_statements.specs.Sound.{IsCaller}
use Rattle.apl_statements.specs.Holding.{parts_of, stack_values}
use Rattle.apl_statements.specs.Wants.{NoReportIsDue}
use Rattle.apl_statements.proofs.Same.{at_once, comes_as, comes_exit}
use Rattle.apl_statements.proofs.Taken.{taken_held, taken_sound}
use Rattle.apl_calls.specs.Callings.{MayBeCalled}
use Rattle.apl_calls.specs.WentOn.{gone_on}
use Rattle.apl_machine.specs.Wants.{no_lines}
use Rattle.apl_machine.proofs.CallsNext.{no_axis}
use Rattle.apl_machine.proofs.Performs.{left_held, performs_as, performs_none, right_held}
use Rattle.apl_machine.proofs.WantPerforms.{defined_free, performs_free}
use Rattle.apl_machine.proofs.calls.perform_call.Goals as goal

pub returns-in_err-left-clause-comes : goal.returns-in_err-left-clause-comes
returns-in_err-left-clause-comes c =
    let m : PlainInterpreter = c.args.interpreter.now in
    let e : Evaluation = c.args.e.now in
    let after : Evaluation = c.take_operands.new.self in
    let coming : Coming = part_takes m e (apply_step ran (fun.Defined c.args.name) (if_there c.args.has_left) (if_there false)) in
    let exit = err_from_is_err_and c.from_residual.result c.from_residual.ensures.1 in
    let first : exit.0 ≡ fail.Report c.in_err-left.field-0.0 = cc exit.2 in
    comes_exit m m coming 0 (gone_on after c.from_residual.result) exit.0 (fail.Report Value) (ap (λ (r : Result _ Fail). gone_on after r) exit.1) (first ∙ ap (λ (r : Report). fail.Report r) c.in_err-left.ensures.none.0)
    (at_once m coming (λ s. refuses Value s) (λ asked count taken further. performs_none m e (fun.Defined c.args.name) c.args.has_left false (state_at m asked count taken further) c.in_err-left.ensures.none.1))

pub call_here-requires-clause-sound : goal.call_here-requires-clause-sound
call_here-requires-clause-sound c = taken_sound c.args.interpreter.now.workspace c.args.e.now c.take_operands.new.self (operand_list c.in_ok-left.field-0) c.take_operands.ensures.same c.in_ok-left.ensures.taken c.requires.sound

pub call_here-requires-clause-left : goal.call_here-requires-clause-left
call_here-requires-clause-left c =
    let m : PlainInterpreter = c.args.interpreter.now in
    left_held (IsStackValue m.workspace (parts_of c.take_operands.new.self)) c.in_ok-left.field-0
    (taken_held m.workspace c.args.e.now c.take_operands.new.self (operand_list c.in_ok-left.field-0) c.take_operands.ensures.same c.in_ok-left.ensures.taken c.requires.sound)

pub call_here-requires-clause-right : goal.call_here-requires-clause-right
call_here-requires-clause-right c =
    let m : PlainInterpreter = c.args.interpreter.now in
    right_held (IsStackValue m.workspace (parts_of c.take_operands.new.self)) c.in_ok-left.field-0
    (taken_held m.workspace c.args.e.now c.take_operands.new.self (operand_list c.in_ok-left.field-0) c.take_operands.ensures.same c.in_ok-left.ensures.taken c.requires.sound)

pub returns-clause-comes : goal.returns-clause-comes
returns-clause-comes c =
    let m : PlainInterpreter = c.args.interpreter.now in
    let e : Evaluation = c.args.e.now in
    let after : Evaluation = c.take_operands.new.self in
    let coming : Coming = part_takes m e (apply_step ran (fun.Defined c.args.name) (if_there c.args.has_left) (if_there false)) in
    comes_as m c.call_here.new.interpreter coming _ 0 (gone_on c.call_here.new.e c.call_here.result)
    (performs_as m e after (fun.Defined c.args.name) c.args.has_left false c.in_ok-left.field-0 None c.take_operands.ensures.same c.in_ok-left.ensures.taken c.in_ok-left.ensures.left c.in_ok-left.ensures.axis
    (no_axis (stack_value m.workspace (parts_of after)) c.in_ok-left.field-0.axis c.in_ok-left.ensures.axis)) c.call_here.ensures.comes

pub returns-clause-memory : goal.returns-clause-memory
returns-clause-memory c =
    let m : PlainInterpreter = c.args.interpreter.now in
    let e : Evaluation = c.args.e.now in
    let after : Evaluation = c.take_operands.new.self in
    let left : Option PlainArray = option_map (stack_value m.workspace (parts_of after)) c.in_ok-left.field-0.left in
    let right : PlainArray = stack_value m.workspace (parts_of after) c.in_ok-left.field-0.right in
    weaker_want c.call_here.result (MayBeCalled m.workspace c.args.name (record { left = left; right = Some right }))
    (NoReportIsDue m (apply_step no_lines (fun.Defined c.args.name) (if_there c.args.has_left) (if_there false) (stack_values m.workspace e)))
    (λ may. performs_free no_lines m e after (fun.Defined c.args.name) c.args.has_left false c.in_ok-left.field-0 None c.take_operands.ensures.same c.in_ok-left.ensures.taken c.in_ok-left.ensures.left c.in_ok-left.ensures.axis
    (no_axis (stack_value m.workspace (parts_of after)) c.in_ok-left.field-0.axis c.in_ok-left.ensures.axis)
    (defined_free m c.args.name left right None may)) c.call_here.ensures.memory
