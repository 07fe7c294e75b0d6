use Rattle.std.proofs.Common.{◌≡◌, ◌-◌, List, sym, ap, subst, ◌∙◌, arith}
use Rattle.std.specs.Prelude.{IsOk, Option, is_some, option_map}
use Rattle.std.specs.Option.{option_copied}
use Rattle.apl_arrays.specs.Array.{PlainArray}
use Rattle.apl_arrays.specs.declared.report.Report.TheVariants.{Syntax}
use Rattle.apl_items.specs.Answers.{Answers, ArrayResult}
use Rattle.apl_items.specs.Places.{OnWantOfMemory}
use Rattle.operator_rules.specs.Apply.{applied}
use Rattle.apl_meaning.specs.Expressions.{valued}
use Rattle.apl_meaning.specs.State.{refuses}
use Rattle.apl_meaning.specs.Verbs.{application, may_be_applied}
use Rattle.apl_values.specs.declared.part.Part.{Part}
use Rattle.apl_values.specs.declared.values.StackValue.{StackValue}
use Rattle.apl_values.specs.Values.{stack_value}
use Rattle.apl_statements.specs.Interpreter.{PlainInterpreter}
use Rattle.apl_statements.specs.Holding.{parts_of}
use Rattle.apl_statements.specs.Moves.{part_gives}
use Rattle.apl_statements.specs.Wants.{NoReportIsDue}
use Rattle.apl_statements.proofs.Moving.{moved_none}
use Rattle.apl_statements.proofs.Same.{at_once}
use Rattle.apl_machine.proofs.Applies.{copied_there, may_tested}
use Rattle.apl_machine.proofs.Gives.{applied_gives, not_applied}
use Rattle.apl_machine.proofs.WantParts.{applied_free}
use Rattle.apl_machine.proofs.WantPerforms.{answer_free}
use Rattle.apl_machine.proofs.verbs.apply_verb.Given.{Over}
use Rattle.apl_machine.proofs.verbs.apply_verb.Goals as goal
use Rattle.apl_machine.proofs.verbs.apply_verb.Goals.{After-may_be_applied, After-apply}

-- the left argument as an array, where there is one
abbrev left_of : PlainInterpreter → List Part → Option StackValue → Option PlainArray
left_of m parts left = option_map (stack_value m.workspace parts) left

-- whether the function may be applied, as it was tested
tested : (g : Over) (c : After-may_be_applied g) → may_be_applied c.args.verb (left_of c.args.interpreter.now (parts_of c.args.e.now) (option_copied c.args.left)) c.args.axis ≡ c.may_be_applied.result
tested g c =
    let one : c.is_some.result ≡ is_some (option_copied c.args.left) = c.is_some.ensures ∙ sym (copied_there c.args.left) in
    let two : c.is_some-2.result ≡ is_some c.args.axis = cc in
    may_tested c.args.verb (stack_value c.args.interpreter.now.workspace (parts_of c.args.e.now)) (option_copied c.args.left) c.args.axis c.is_some.result c.is_some-2.result c.may_be_applied.result one two c.may_be_applied.ensures

-- the answer of the call is that of the arguments
same : (g : Over) (c : After-apply g) → applied c.args.verb (option_copied c.lent.result) c.array_of.result.now c.args.axis
    ≡ applied c.args.verb (left_of c.args.interpreter.now (parts_of c.args.e.now) (option_copied c.args.left)) (stack_value c.args.interpreter.now.workspace (parts_of c.args.e.now) c.args.right.now) c.args.axis
same g c =
    let m : PlainInterpreter = c.args.interpreter.now in
    let right : PlainArray = stack_value m.workspace (parts_of c.args.e.now) c.args.right.now in
    let own : c.array_of.result.now ≡ right =
    c.array_of.ensures ∙ ap (λ (parts : List Part). stack_value c.interpreter.inside.workspace parts c.args.right.now) c.parts.ensures ∙ ap (λ (x : PlainInterpreter). stack_value x.workspace (parts_of c.args.e.now) c.args.right.now) c.interpreter.view_is in
    ap (λ (second : PlainArray). applied c.args.verb (option_copied c.lent.result) second c.args.axis) own ∙ ap (λ (first : Option PlainArray). applied c.args.verb first right c.args.axis) c.lent.ensures

pub returns-then-not-may_be_applied-clause-gives : goal.returns-then-not-may_be_applied-clause-gives
returns-then-not-may_be_applied-clause-gives g c under =
    let m : PlainInterpreter = c.args.interpreter.now in
    let left : Option PlainArray = left_of m (parts_of c.args.e.now) (option_copied c.args.left) in
    let right : PlainArray = stack_value m.workspace (parts_of c.args.e.now) c.args.right.now in
    moved_none m m (part_gives m under (λ s. valued (application c.args.verb left right c.args.axis s))) (λ s. refuses Syntax s) (c.args.steps.now - c.args.steps.now) (omega arith)
    (at_once m (part_gives m under (λ s. valued (application c.args.verb left right c.args.axis s))) (λ s. refuses Syntax s)
    (not_applied m under c.args.verb left right c.args.axis (tested g (goal.at.returns-then-not-may_be_applied-clause-gives g c).After-may_be_applied ∙ c.if-not-may_be_applied.true)))

pub returns-clause-gives : goal.returns-clause-gives
returns-clause-gives g c under =
    let m : PlainInterpreter = c.args.interpreter.now in
    applied_gives m under c.args.verb (left_of m (parts_of c.args.e.now) (option_copied c.args.left)) (stack_value m.workspace (parts_of c.args.e.now) c.args.right.now) c.args.axis (c.apply.new.steps - c.args.steps.now) c.apply.result
    (tested g (goal.at.returns-clause-gives g c).After-may_be_applied ∙ c.if-not-may_be_applied.false) (omega (arith, c.apply.ensures.steps)) (subst (λ (a : ArrayResult). Answers c.apply.result a) (same g (goal.at.returns-clause-gives g c).After-apply) c.apply.ensures.value)

pub returns-clause-memory : goal.returns-clause-memory
returns-clause-memory g c =
    let m : PlainInterpreter = c.args.interpreter.now in
    let left : Option PlainArray = left_of m (parts_of c.args.e.now) (option_copied c.args.left) in
    let right : PlainArray = stack_value m.workspace (parts_of c.args.e.now) c.args.right.now in
    let given : ArrayResult = applied c.args.verb left right c.args.axis in
    let own = same g (goal.at.returns-clause-memory g c).After-apply in
    answer_free c.apply.result given (NoReportIsDue m (application c.args.verb left right c.args.axis))
    (applied_free m c.args.verb left right c.args.axis (tested g (goal.at.returns-clause-memory g c).After-may_be_applied ∙ c.if-not-may_be_applied.false))
    (subst (λ (a : ArrayResult). Answers c.apply.result a) own c.apply.ensures.value) (subst (λ (a : ArrayResult). OnWantOfMemory c.apply.result (IsOk a)) own c.apply.ensures.memory)
