use Rattle.std.proofs.Common.{◌≡◌, ◌-◌, Bool, true, false, refl, sym, ap, subst, ◌∙◌, arith}
use Rattle.std.specs.Prelude.{ℕ, Result, None, Option, Some, is_some, List, option_map, slice_get}
use Rattle.apl_arrays.specs.Array.{PlainArray, PlainItems, plain_items}
use Rattle.apl_arrays.specs.List.{Listed}
use Rattle.apl_arrays.specs.declared.report.Fail.{Fail}
use Rattle.apl_items.specs.Places.{OnWantOfMemory}
use Rattle.apl_statements.specs.declared.flow.Flow.{Flow}
use Rattle.apl_arrays.specs.declared.report.Report.TheVariants.{WsFull}
use Rattle.apl_items.proofs.RowLemmas.{weaker_want}
use Rattle.apl_selection.proofs.WantLemmas.{on_want}
use Rattle.apl_workspace.specs.declared.args.Args.{Args}
use Rattle.line_trees.specs.Nodes as node
use Rattle.line_trees.specs.Nodes.{PlainNode, plain_node}
use Rattle.line_trees.specs.declared.tree.Fun.{Fun}
use Rattle.line_trees.specs.declared.tree.Node.{Node}
use Rattle.line_trees.specs.declared.tree.Node.TheVariants as coded
use Rattle.apl_meaning.specs.Calls.{call}
use Rattle.apl_meaning.specs.Expressions.{valued}
use Rattle.apl_meaning.specs.Meaning.{ran}
use Rattle.apl_meaning.specs.Nodes.{apply_step, assign_step, indexed_step, node_step}
use Rattle.apl_meaning.specs.State.{gives, refuses}
use Rattle.apl_meaning.specs.Variables.{reference}
use Rattle.apl_values.specs.declared.values.StackValue.TheVariants as held
use Rattle.apl_values.specs.Parts.{IsKeptNode, IsPart, plain_part}
use Rattle.apl_values.specs.Values.{stack_value}
use Rattle.apl_statements.specs.declared.evaluation.Evaluation.{Evaluation}
use Rattle.apl_statements.specs.Interpreter.{PlainInterpreter, state_at}
use Rattle.apl_statements.specs.Moves.{if_there, part_gives, part_takes}
use Rattle.apl_statements.specs.Stack.{assignment_step}
use Rattle.apl_statements.specs.Holding.{parts_of, stack_values}
use Rattle.apl_statements.specs.Wants.{NoReportIsDue}
use Rattle.apl_statements.proofs.Moving.{moved_none, none_counted}
use Rattle.apl_statements.proofs.Same.{at_once, comes_as}
use Rattle.apl_subscripts.specs.Held.{places_at, places_in}
use Rattle.apl_machine.specs.Nexts.{IsNext, given_places}
use Rattle.apl_machine.proofs.StepParts.{given_is, next_apply, next_assign, next_constant, next_gives, next_paren, next_takes, next_too_large, passed, read_next, read_part, read_sound, to_come}
use Rattle.apl_calls.specs.Callings.{MayBeCalled}
use Rattle.apl_machine.specs.Wants.{looks_first, no_lines}
use Rattle.apl_machine.proofs.WantSteps.{apply_free, constant_free, items_late, niladic_free, node_free, value_free}
use Rattle.apl_machine.proofs.stepping.step.Given.{Over}
use Rattle.apl_machine.proofs.stepping.step.Goals as goal
use Rattle.apl_machine.proofs.stepping.step.Goals.{After-index, In-Other}

-- the part that was read is the next one
here_is : (g : Over) (c : After-index g) → slice_get (parts_of c.args.e) c.args.e.at ≡ Some c.index.result.now
here_is g c = read_part c.args.e c.deref.result.now c.index.result.now c.deref.ensures c.index.ensures c.requires.next

-- a node, and it is this one
next_is : (g : Over) (c : In-Other g) (n : Node) → c.in-Other.node ≡ n → IsNext c.args.e (plain_node n)
next_is g c n is =
    read_next c.args.e c.index.result.now (plain_node n) (read_part c.args.e c.deref.result.now c.index.result.now c.deref.ensures c.index.ensures c.requires.next) (ap plain_part c.in-Other.is ∙ ap plain_node is)

pub returns-in-Constant-clause-comes : goal.returns-in-Constant-clause-comes
returns-in-Constant-clause-comes g c =
    let m : PlainInterpreter = c.args.interpreter.now in
    let e : Evaluation = c.args.e in
    let here : slice_get (parts_of e) e.at ≡ Some c.index.result.now = here_is g (goal.at.returns-in-Constant-clause-comes g c).After-index in
    none_counted m m (to_come m e) (c.args.steps.now - c.args.steps.now) c.give.result (omega arith)
    (comes_as m m (to_come m e) (part_gives m (passed e) (λ s. gives (Some (stack_value m.workspace (parts_of (passed e)) (held.Constant e.at))) s)) 0 c.give.result
    (next_constant m e c.in-Constant.field-0 (here ∙ ap (λ part. Some part) c.in-Constant.is) c.requires.sound.there (subst IsPart c.in-Constant.is (read_sound e c.index.result.now here c.requires.sound.evaluation.reading.parts))) c.give.ensures.comes)

pub returns-in-Constant-node-clause-comes : goal.returns-in-Constant-node-clause-comes
returns-in-Constant-node-clause-comes g c =
    let m : PlainInterpreter = c.args.interpreter.now in
    let e : Evaluation = c.args.e in
    let here : slice_get (parts_of e) e.at ≡ Some c.index.result.now = here_is g (goal.at.returns-in-Constant-node-clause-comes g c).After-index in
    let items : PlainItems = plain_items c.in-Constant-node.field-0 in
    let next : IsNext e (node.constant items) = next_is g (goal.at.returns-in-Constant-node-clause-comes g c).In-Other (coded.Constant c.in-Constant-node.field-0) c.in-Constant-node.is in
    moved_none m m (to_come m e) (λ s. refuses WsFull s) (c.args.steps.now - c.args.steps.now) (omega arith) (at_once m (to_come m e) (λ s. refuses WsFull s)
    (next_too_large m e items next c.requires.sound.there (subst IsKeptNode (ap plain_node c.in-Constant-node.is) (subst IsPart c.in-Other.is (read_sound e c.index.result.now here c.requires.sound.evaluation.reading.parts)))))

pub returns-in-Value-clause-comes : goal.returns-in-Value-clause-comes
returns-in-Value-clause-comes g c =
    let m : PlainInterpreter = c.args.interpreter.now in
    let e : Evaluation = c.args.e in
    let next : IsNext e (node.value c.in-Value.name) = next_is g (goal.at.returns-in-Value-clause-comes g c).In-Other (coded.Value c.in-Value.name) c.in-Value.is in
    none_counted m m (to_come m e) (c.args.steps.now - c.args.steps.now) c.refer.result (omega arith)
    (comes_as m m (to_come m e) (part_gives m (passed e) (λ s. valued (reference c.in-Value.name s))) 0 c.refer.result
    (next_gives m e (node.value c.in-Value.name) (λ s. valued (reference c.in-Value.name s)) next c.requires.sound.there (λ values t. refl)) c.refer.ensures.comes)

pub returns-in-Niladic-clause-comes : goal.returns-in-Niladic-clause-comes
returns-in-Niladic-clause-comes g c =
    let m : PlainInterpreter = c.args.interpreter.now in
    let e : Evaluation = c.args.e in
    let next : IsNext e (node.niladic c.in-Niladic.name) = next_is g (goal.at.returns-in-Niladic-clause-comes g c).In-Other (coded.Niladic c.in-Niladic.name) c.in-Niladic.is in
    none_counted m c.call.new.interpreter (to_come m e) (c.args.steps.now - c.args.steps.now) c.call.result (omega arith)
    (comes_as m c.call.new.interpreter (to_come m e) (part_gives m (passed e) (λ s. call ran c.in-Niladic.name c.no_arguments.result s)) 0 c.call.result (λ asked count taken further.
    next_gives m e (node.niladic c.in-Niladic.name) (λ s. call ran c.in-Niladic.name (record { left = None; right = None }) s) next c.requires.sound.there (λ values t. refl) asked count taken further
    ∙ ap (λ (args : Args). part_gives m (passed e) (λ s. call ran c.in-Niladic.name args s) (state_at m asked count taken further)) (sym c.no_arguments.ensures)) c.call.ensures.comes)

pub returns-in-Paren-clause-comes : goal.returns-in-Paren-clause-comes
returns-in-Paren-clause-comes g c =
    let m : PlainInterpreter = c.args.interpreter.now in
    let e : Evaluation = c.args.e in
    let next : IsNext e (node.paren c.in-Paren.field-0) = next_is g (goal.at.returns-in-Paren-clause-comes g c).In-Other (coded.Paren c.in-Paren.field-0) c.in-Paren.is in
    moved_none m m (to_come m e) (to_come m (passed e)) (c.args.steps.now - c.args.steps.now) (omega arith) (at_once m (to_come m e) (to_come m (passed e)) (next_paren m e c.in-Paren.field-0 next c.requires.sound.there))

pub returns-in-Indexed-clause-comes : goal.returns-in-Indexed-clause-comes
returns-in-Indexed-clause-comes g c =
    let m : PlainInterpreter = c.args.interpreter.now in
    let e : Evaluation = c.args.e in
    let next : IsNext e (node.indexed c.in-Indexed.value c.in-Indexed.subs.items) = next_is g (goal.at.returns-in-Indexed-clause-comes g c).In-Other (coded.Indexed c.in-Indexed.value c.in-Indexed.subs) c.in-Indexed.is in
    none_counted m m (to_come m e) (c.args.steps.now - c.args.steps.now) c.index_value.result (omega arith)
    (comes_as m m (to_come m e) (part_takes m (passed e) (indexed_step (places_at (passed e) e.at))) 0 c.index_value.result (λ asked count taken further.
    next_takes m e (node.indexed c.in-Indexed.value c.in-Indexed.subs.items) next c.requires.sound.there asked count taken further
    ∙ ap (λ (places : List (Option ℕ)). part_takes m (passed e) (indexed_step places) (state_at m asked count taken further)) (sym (ap places_in next))) c.index_value.ensures.comes)

pub returns-in-Apply-clause-comes : goal.returns-in-Apply-clause-comes
returns-in-Apply-clause-comes g c =
    let m : PlainInterpreter = c.args.interpreter.now in
    let e : Evaluation = c.args.e in
    let next : IsNext e (node.apply c.in-Apply.function c.in-Apply.left c.in-Apply.right c.in-Apply.axis) = next_is g (goal.at.returns-in-Apply-clause-comes g c).In-Other (coded.Apply c.in-Apply.function c.in-Apply.left c.in-Apply.right c.in-Apply.axis) c.in-Apply.is in
    let has_left : is_some c.in-Apply.left ≡ c.is_some-has_left.result = cc in
    let has_axis : is_some c.in-Apply.axis ≡ c.is_some-has_axis.result = cc in
    comes_as m c.perform.new.interpreter (to_come m e) (part_takes m (passed e) (apply_step ran c.in-Apply.function (if_there c.is_some-has_left.result) (if_there c.is_some-has_axis.result))) (c.perform.new.steps - c.args.steps.now) c.perform.result (λ asked count taken further.
    next_apply m e c.in-Apply.function c.in-Apply.left c.in-Apply.right c.in-Apply.axis next c.requires.sound.there asked count taken further
    ∙ ap (λ (b : Bool). part_takes m (passed e) (apply_step ran c.in-Apply.function (if_there b) (if_there (is_some c.in-Apply.axis))) (state_at m asked count taken further)) has_left
    ∙ ap (λ (b : Bool). part_takes m (passed e) (apply_step ran c.in-Apply.function (if_there c.is_some-has_left.result) (if_there b)) (state_at m asked count taken further)) has_axis) c.perform.ensures.comes

pub returns-in-Assign-clause-comes : goal.returns-in-Assign-clause-comes
returns-in-Assign-clause-comes g c =
    let m : PlainInterpreter = c.args.interpreter.now in
    let e : Evaluation = c.args.e in
    let next : IsNext e (plain_node (coded.Assign c.in-Assign.target c.in-Assign.subs c.in-Assign.right)) = next_is g (goal.at.returns-in-Assign-clause-comes g c).In-Other (coded.Assign c.in-Assign.target c.in-Assign.subs c.in-Assign.right) c.in-Assign.is in
    let has_subs : c.is_some-has_subs.result ≡ is_some c.in-Assign.subs = cc in
    let given : given_places c.is_some-has_subs.result (places_at (passed e) e.at) ≡ option_map (λ places. places.items) c.in-Assign.subs =
    ap (λ (n : Option PlainNode). given_places c.is_some-has_subs.result (places_in n)) next ∙ given_is c.in-Assign.target c.in-Assign.subs c.in-Assign.right c.is_some-has_subs.result has_subs in
    none_counted m c.assign_to.new.interpreter (to_come m e) (c.args.steps.now - c.args.steps.now) c.assign_to.result (omega arith)
    (comes_as m c.assign_to.new.interpreter (to_come m e) (part_takes m (passed e) (assignment_step c.in-Assign.target (given_places c.is_some-has_subs.result (places_at (passed e) e.at)))) 0 c.assign_to.result (λ asked count taken further.
    next_assign m e c.in-Assign.target c.in-Assign.subs c.in-Assign.right next c.requires.sound.there asked count taken further
    ∙ ap (λ (places : Option (List (Option ℕ))). part_takes m (passed e) (assignment_step c.in-Assign.target places) (state_at m asked count taken further)) (sym given)) c.assign_to.ensures.comes)

-- ---- where memory ran out

-- no report of a function is due, but what its lines tell
abbrev due : PlainInterpreter → Fun → List PlainArray → Bool → Bool → Type 0
due m f values left axis = NoReportIsDue m (apply_step no_lines f (if_there left) (if_there axis) values)

pub returns-in-Constant-clause-memory : goal.returns-in-Constant-clause-memory
returns-in-Constant-clause-memory g c n next first =
    let m : PlainInterpreter = c.args.interpreter.now in
    let e : Evaluation = c.args.e in
    let here : slice_get (parts_of e) e.at ≡ Some c.index.result.now = here_is g (goal.at.returns-in-Constant-clause-memory g c).After-index in
    let own : IsNext e (node.constant c.in-Constant.field-0.items) = ap (option_map plain_part) (here ∙ ap (λ part. Some part) c.in-Constant.is) in
    on_want c.give.result (NoReportIsDue m (node_step no_lines n (stack_values m.workspace e)))
    (node_free m e (node.constant c.in-Constant.field-0.items) n (stack_values m.workspace e) own next
    (constant_free m c.in-Constant.field-0 (stack_values m.workspace e) (subst IsPart c.in-Constant.is (read_sound e c.index.result.now here c.requires.sound.evaluation.reading.parts))))

pub returns-in-Value-clause-memory : goal.returns-in-Value-clause-memory
returns-in-Value-clause-memory g c n next first =
    let m : PlainInterpreter = c.args.interpreter.now in
    let e : Evaluation = c.args.e in
    let own : IsNext e (node.value c.in-Value.name) = next_is g (goal.at.returns-in-Value-clause-memory g c).In-Other (coded.Value c.in-Value.name) c.in-Value.is in
    weaker_want c.refer.result (NoReportIsDue m (reference c.in-Value.name)) (NoReportIsDue m (node_step no_lines n (stack_values m.workspace e)))
    (λ free. node_free m e (node.value c.in-Value.name) n (stack_values m.workspace e) own next (value_free m c.in-Value.name (stack_values m.workspace e) free)) c.refer.ensures.memory

pub returns-in-Niladic-clause-memory : goal.returns-in-Niladic-clause-memory
returns-in-Niladic-clause-memory g c n next first =
    let m : PlainInterpreter = c.args.interpreter.now in
    let e : Evaluation = c.args.e in
    let own : IsNext e (node.niladic c.in-Niladic.name) = next_is g (goal.at.returns-in-Niladic-clause-memory g c).In-Other (coded.Niladic c.in-Niladic.name) c.in-Niladic.is in
    weaker_want c.call.result (MayBeCalled m.workspace c.in-Niladic.name c.no_arguments.result) (NoReportIsDue m (node_step no_lines n (stack_values m.workspace e)))
    (λ may. node_free m e (node.niladic c.in-Niladic.name) n (stack_values m.workspace e) own next
    (niladic_free m c.in-Niladic.name (stack_values m.workspace e) (subst (MayBeCalled m.workspace c.in-Niladic.name) c.no_arguments.ensures may))) c.call.ensures.memory

pub returns-in-Indexed-clause-memory : goal.returns-in-Indexed-clause-memory
returns-in-Indexed-clause-memory g c n next first =
    let m : PlainInterpreter = c.args.interpreter.now in
    let e : Evaluation = c.args.e in
    let values : List PlainArray = stack_values m.workspace e in
    let own : IsNext e (node.indexed c.in-Indexed.value c.in-Indexed.subs.items) = next_is g (goal.at.returns-in-Indexed-clause-memory g c).In-Other (coded.Indexed c.in-Indexed.value c.in-Indexed.subs) c.in-Indexed.is in
    weaker_want c.index_value.result (NoReportIsDue m (indexed_step (places_at (passed e) e.at) values)) (NoReportIsDue m (node_step no_lines n values))
    (λ free. node_free m e (node.indexed c.in-Indexed.value c.in-Indexed.subs.items) n values own next (λ asked count taken. subst (λ (places : List (Option ℕ)). NoReportIsDue m (indexed_step places values)) (ap places_in own) free asked count taken))
    c.index_value.ensures.memory

pub returns-in-Apply-clause-memory : goal.returns-in-Apply-clause-memory
returns-in-Apply-clause-memory g c n next first =
    let m : PlainInterpreter = c.args.interpreter.now in
    let e : Evaluation = c.args.e in
    let values : List PlainArray = stack_values m.workspace e in
    let own : IsNext e (node.apply c.in-Apply.function c.in-Apply.left c.in-Apply.right c.in-Apply.axis) = next_is g (goal.at.returns-in-Apply-clause-memory g c).In-Other (coded.Apply c.in-Apply.function c.in-Apply.left c.in-Apply.right c.in-Apply.axis) c.in-Apply.is in
    let has_left : is_some c.in-Apply.left ≡ c.is_some-has_left.result = cc in
    let has_axis : is_some c.in-Apply.axis ≡ c.is_some-has_axis.result = cc in
    weaker_want c.perform.result (due m c.in-Apply.function values c.is_some-has_left.result c.is_some-has_axis.result) (NoReportIsDue m (node_step no_lines n values))
    (λ free. node_free m e (node.apply c.in-Apply.function c.in-Apply.left c.in-Apply.right c.in-Apply.axis) n values own next
    (apply_free m c.in-Apply.function c.in-Apply.left c.in-Apply.right c.in-Apply.axis values
    (subst (λ (b : Bool). due m c.in-Apply.function values (is_some c.in-Apply.left) b) (sym has_axis) (subst (λ (b : Bool). due m c.in-Apply.function values b c.is_some-has_axis.result) (sym has_left) free))))
    c.perform.ensures.memory

-- an assignment to a name, where it is no assignment to items
assigned : (m : PlainInterpreter) (e : Evaluation) (target : List ℕ) (subs : Option (Listed (Option ℕ))) (right : ℕ) (has_subs : Bool) (n : PlainNode) (values : List PlainArray) (r : Result Flow Fail) → is_some subs ≡ has_subs
    → IsNext e (plain_node (coded.Assign target subs right)) → IsNext e n → looks_first n ≡ true → (has_subs ≡ false → OnWantOfMemory r (NoReportIsDue m (assign_step target values))) → OnWantOfMemory r (NoReportIsDue m (node_step no_lines n values))
assigned m e target None right has_subs n values r is own next looks due =
    weaker_want r (NoReportIsDue m (assign_step target values)) (NoReportIsDue m (node_step no_lines n values)) (λ free. node_free m e (node.assign target right) n values own next free) (due (sym is))
assigned m e target (Some places) right has_subs n values r is own next looks due = absurd (items_late e target places right n own next looks)

pub returns-in-Assign-clause-memory : goal.returns-in-Assign-clause-memory
returns-in-Assign-clause-memory g c n next first =
    let m : PlainInterpreter = c.args.interpreter.now in
    let own : IsNext c.args.e (plain_node (coded.Assign c.in-Assign.target c.in-Assign.subs c.in-Assign.right)) = next_is g (goal.at.returns-in-Assign-clause-memory g c).In-Other (coded.Assign c.in-Assign.target c.in-Assign.subs c.in-Assign.right) c.in-Assign.is in
    let has_subs : is_some c.in-Assign.subs ≡ c.is_some-has_subs.result = cc in
    assigned m c.args.e c.in-Assign.target c.in-Assign.subs c.in-Assign.right c.is_some-has_subs.result n (stack_values m.workspace c.args.e) c.assign_to.result has_subs own next first c.assign_to.ensures.due
