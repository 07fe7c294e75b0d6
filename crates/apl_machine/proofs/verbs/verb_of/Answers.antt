use Rattle.std.proofs.Common.{◌≡◌, ◌+◌, ◌-◌, ◌++◌, Bool, List, length, drop, take, sym, ap, subst, ◌∙◌, arith}
use Rattle.std.specs.Prelude.{Result, Err, option_map, slice_get}
use Rattle.std.specs.Option.{option_copied}
use Rattle.std.specs.Slice.{IsItemAt}
use Rattle.std.proofs.lemmas.Result.{err_from_is_err_and}
use Rattle.apl_arrays.specs.Array.{PlainArray}
use Rattle.apl_arrays.specs.declared.report.Fail.{Fail}
use Rattle.apl_verbs.specs.declared.verb.Verb.{Verb}
use Rattle.line_trees.specs.declared.tree.Fun.TheVariants as fun
use Rattle.apl_meaning.specs.Expressions.{performed}
use Rattle.apl_meaning.specs.Meaning.{ran}
use Rattle.apl_meaning.specs.Nodes.{apply_step}
use Rattle.apl_meaning.specs.Verbs.{application}
use Rattle.apl_values.proofs.Found.{found_at}
use Rattle.apl_values.specs.declared.values.StackValue.{StackValue}
use Rattle.apl_values.specs.Values.{IsStackValue, stack_value}
use Rattle.apl_statements.specs.declared.evaluation.Evaluation.{Evaluation}
use Rattle.apl_statements.specs.declared.evaluation.Operands.{Operands}
use Rattle.apl_statements.specs.Holding.{parts_of, stack_values}
use Rattle.apl_statements.specs.Interpreter.{PlainInterpreter}
use Rattle.apl_statements.specs.Moves.{Coming, if_there, part_gives, part_takes}
use Rattle.apl_statements.specs.Operands.{operand_list}
use Rattle.apl_statements.specs.Wants.{NoReportIsDue}
use Rattle.apl_statements.proofs.Moving.{none_counted}
use Rattle.apl_machine.specs.Axes.{IsNoAxis}
use Rattle.apl_machine.specs.Given.{ComesToGive}
use Rattle.apl_machine.specs.Wants.{UnlessReport, no_lines}
use Rattle.apl_machine.proofs.Gives.{gives_as, refused_gives}
use Rattle.apl_machine.proofs.OperandsThere.{AreOperands, asked_held, before_operands, first_within, operands_lent}
use Rattle.apl_machine.proofs.Performs.{no_axis_as, performs_under}
use Rattle.apl_machine.proofs.WantPerforms.{no_axis_wants, performs_there, verb_free, weaker_unless}
use Rattle.apl_machine.proofs.verbs.verb_of.Goals as goal

pub number_of_axis-requires : goal.number_of_axis-requires
number_of_axis-requires g c =
    let items : List StackValue = c.args.e.now.values.items in
    asked_held (IsStackValue c.args.interpreter.now.workspace (parts_of c.args.e.now)) items (c.args.first + 1) c.args.has_axis (option_copied c.get.result) (option_copied c.if_asked-axis.result) c.requires.sound.evaluation.values
    (found_at c.deref-2.result.now (c.args.first + 1) c.get.result c.get.ensures.lookup ∙ ap (λ (list : List StackValue). slice_get list (c.args.first + 1)) c.deref-2.ensures.value) c.if_asked-axis.ensures

pub apply_verb-requires-clause-left : goal.apply_verb-requires-clause-left
apply_verb-requires-clause-left g c =
    let items : List StackValue = c.args.e.now.values.items in
    asked_held (IsStackValue c.args.interpreter.now.workspace (parts_of c.args.e.now)) items (length items - 1) c.args.has_left (option_copied c.last.result) (option_copied c.if_asked-left.result) c.requires.sound.evaluation.values
    (c.last.ensures.value ∙ ap (λ (list : List StackValue). slice_get list (length list - 1)) c.deref.ensures.value) c.if_asked-left.ensures

pub apply_verb-requires-clause-right : goal.apply_verb-requires-clause-right
apply_verb-requires-clause-right g c =
    subst (IsStackValue c.args.interpreter.now.workspace (parts_of c.args.e.now)) (sym c.index-right.ensures)
    (c.requires.sound.evaluation.values c.args.first c.index-right.result.now (first_within (length c.args.e.now.values.items) c.args.first c.args.has_left c.args.has_axis c.requires.first))

pub returns-clause-gives : goal.returns-clause-gives
returns-clause-gives g c under with =
    let m : PlainInterpreter = c.args.interpreter.now in
    let e : Evaluation = c.args.e.now in
    let items : List StackValue = e.values.items in
    let value : StackValue → PlainArray = stack_value m.workspace (parts_of e) in
    let operands : Operands = record { left = option_copied c.if_asked-left.result; axis = option_copied c.if_asked-axis.result; right = c.index-right.result.now } in
    let are : AreOperands (drop c.args.first items) c.args.has_left c.args.has_axis operands =
    operands_lent items c.args.first c.args.has_left c.args.has_axis c.last.result c.get.result operands.left operands.axis operands.right c.requires.first c.index-right.ensures
    (c.last.ensures.value ∙ ap (λ (list : List StackValue). slice_get list (length list - 1)) c.deref.ensures.value)
    (subst (λ (list : List StackValue). IsItemAt list (c.args.first + 1) c.get.result) c.deref-2.ensures.value c.get.ensures.lookup) c.if_asked-left.ensures c.if_asked-axis.ensures in
    let taken : items ≡ under.values.items ++ operand_list operands = before_operands items c.args.first c.args.has_left c.args.has_axis operands are ∙ ap (λ (front : List StackValue). front ++ operand_list operands) (sym with.values) in
    gives_as m (part_takes m e (apply_step ran (fun.Verb c.args.verb) (if_there c.args.has_left) (if_there c.args.has_axis)))
    (part_gives m under (performed ran (fun.Verb c.args.verb) (option_map value operands.left) (value operands.right) c.in_ok-number.number)) (c.apply_verb.new.steps - c.args.steps.now) under c.apply_verb.result
    (performs_under m e under (fun.Verb c.args.verb) c.args.has_left c.args.has_axis operands c.in_ok-number.number with.same taken are.left are.axis c.in_ok-number.ensures.ok) (c.apply_verb.ensures.gives under)

pub returns-in_err-number-clause-gives : goal.returns-in_err-number-clause-gives
returns-in_err-number-clause-gives g c under with =
    let m : PlainInterpreter = c.args.interpreter.now in
    let e : Evaluation = c.args.e.now in
    let items : List StackValue = e.values.items in
    let coming : Coming = part_takes m e (apply_step ran (fun.Verb c.args.verb) (if_there c.args.has_left) (if_there c.args.has_axis)) in
    let operands : Operands = record { left = option_copied c.if_asked-left.result; axis = option_copied c.if_asked-axis.result; right = c.index-right.result.now } in
    let are : AreOperands (drop c.args.first items) c.args.has_left c.args.has_axis operands =
    operands_lent items c.args.first c.args.has_left c.args.has_axis c.last.result c.get.result operands.left operands.axis operands.right c.requires.first c.index-right.ensures
    (c.last.ensures.value ∙ ap (λ (list : List StackValue). slice_get list (length list - 1)) c.deref.ensures.value)
    (subst (λ (list : List StackValue). IsItemAt list (c.args.first + 1) c.get.result) c.deref-2.ensures.value c.get.ensures.lookup) c.if_asked-left.ensures c.if_asked-axis.ensures in
    let taken : items ≡ under.values.items ++ operand_list operands = before_operands items c.args.first c.args.has_left c.args.has_axis operands are ∙ ap (λ (front : List StackValue). front ++ operand_list operands) (sym with.values) in
    let exit = err_from_is_err_and c.from_residual.result c.from_residual.ensures.1 in
    let why : exit.0 ≡ c.in_err-number.field-0.0 = cc exit.2 in
    let none : IsNoAxis (option_map (stack_value m.workspace (parts_of under)) operands.axis) c.in_err-number.field-0.0 =
    subst (λ (x : Evaluation). IsNoAxis (option_map (stack_value m.workspace (parts_of x)) operands.axis) c.in_err-number.field-0.0) (sym with.same) c.in_err-number.ensures.refused in
    subst (λ (r : Result PlainArray Fail). ComesToGive m coming (c.args.steps.now - c.args.steps.now) under r) (sym exit.1)
    (subst (λ (w : Fail). ComesToGive m coming (c.args.steps.now - c.args.steps.now) under (Err w)) (sym why)
    (refused_gives m coming (c.args.steps.now - c.args.steps.now) under c.in_err-number.field-0.0
    (none_counted m m coming (c.args.steps.now - c.args.steps.now) (Err c.in_err-number.field-0.0) (omega arith)
    (no_axis_as m e under (fun.Verb c.args.verb) c.args.has_left c.args.has_axis operands c.in_err-number.field-0.0 with.same taken are.left are.axis none))))

-- ---- where memory ran out

-- no report of a function of these arguments is due
abbrev due : PlainInterpreter → Evaluation → Verb → Bool → Bool → Type 0
due m e verb has_left has_axis = NoReportIsDue m (apply_step no_lines (fun.Verb verb) (if_there has_left) (if_there has_axis) (stack_values m.workspace e))

pub returns-clause-memory : goal.returns-clause-memory
returns-clause-memory g c =
    let m : PlainInterpreter = c.args.interpreter.now in
    let e : Evaluation = c.args.e.now in
    let items : List StackValue = e.values.items in
    let value : StackValue → PlainArray = stack_value m.workspace (parts_of e) in
    let operands : Operands = record { left = option_copied c.if_asked-left.result; axis = option_copied c.if_asked-axis.result; right = c.index-right.result.now } in
    let are : AreOperands (drop c.args.first items) c.args.has_left c.args.has_axis operands =
    operands_lent items c.args.first c.args.has_left c.args.has_axis c.last.result c.get.result operands.left operands.axis operands.right c.requires.first c.index-right.ensures
    (c.last.ensures.value ∙ ap (λ (list : List StackValue). slice_get list (length list - 1)) c.deref.ensures.value)
    (subst (λ (list : List StackValue). IsItemAt list (c.args.first + 1) c.get.result) c.deref-2.ensures.value c.get.ensures.lookup) c.if_asked-left.ensures c.if_asked-axis.ensures in
    weaker_unless c.apply_verb.result (NoReportIsDue m (application c.args.verb (option_map value operands.left) (value operands.right) c.in_ok-number.number)) (due m e c.args.verb c.args.has_left c.args.has_axis)
    (λ free. performs_there no_lines m e (fun.Verb c.args.verb) c.args.has_left c.args.has_axis (take c.args.first items) operands c.in_ok-number.number (before_operands items c.args.first c.args.has_left c.args.has_axis operands are) are.left are.axis
    c.in_ok-number.ensures.ok (verb_free no_lines m c.args.verb (option_map value operands.left) (value operands.right) c.in_ok-number.number free)) c.apply_verb.ensures.memory

pub returns-in_err-number-clause-memory : goal.returns-in_err-number-clause-memory
returns-in_err-number-clause-memory g c =
    let m : PlainInterpreter = c.args.interpreter.now in
    let e : Evaluation = c.args.e.now in
    let fact : Type 0 = due m e c.args.verb c.args.has_left c.args.has_axis in
    let exit = err_from_is_err_and c.from_residual.result c.from_residual.ensures.1 in
    let why : exit.0 ≡ c.in_err-number.field-0.0 = cc exit.2 in
    subst (λ (r : Result PlainArray Fail). UnlessReport r fact) (sym exit.1)
    (subst (λ (w : Fail). UnlessReport {T = PlainArray} (Err w) fact) (sym why)
    (no_axis_wants PlainArray (option_map (stack_value m.workspace (parts_of e)) (option_copied c.if_asked-axis.result)) c.in_err-number.field-0.0 fact c.in_err-number.ensures.refused))
