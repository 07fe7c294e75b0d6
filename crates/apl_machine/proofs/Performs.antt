-- A function takes its arguments from the values of a statement.
use Rattle.std.proofs.Common.{◌≡◌, ◌<◌, Bool, true, false, List, [], ◌∷◌, ◌++◌, length, refl, sym, ap, subst, ◌∙◌, arith, append_assoc}
use Rattle.std.specs.Prelude.{ℤ, Option, Some, None, Result, Err, All, IfSome, is_some, map, option_map, option_to_list, reverse}
use Rattle.std.proofs.lemmas.List.{map-append, reverse-append, length-map, length-reverse}
use Rattle.std.proofs.lemmas.List.Elements.{All-head, All-tail}
use Rattle.apl_arrays.specs.Array.{PlainArray}
use Rattle.apl_arrays.specs.declared.report.Fail.{Fail}
use Rattle.apl_arrays.specs.declared.report.Fail.TheVariants as fail
use Rattle.apl_arrays.specs.declared.report.Report.{Report}
use Rattle.apl_arrays.specs.declared.report.Report.TheVariants.{Value}
use Rattle.apl_workspace.specs.Workspace.{PlainWorkspace}
use Rattle.line_trees.specs.declared.tree.Fun.{Fun}
use Rattle.apl_meaning.specs.State.{State, Outcome, refuses, and_then, outcome_of}
use Rattle.apl_meaning.specs.Tasks.{Next}
use Rattle.apl_meaning.specs.Expressions.{Found, performed}
use Rattle.apl_meaning.specs.Nodes.{Values, apply_step, leaving_values}
use Rattle.apl_meaning.specs.Meaning.{ran}
use Rattle.apl_values.specs.declared.values.StackValue.{StackValue}
use Rattle.apl_values.specs.Values.{stack_value}
use Rattle.apl_statements.specs.declared.evaluation.Evaluation.{Evaluation}
use Rattle.apl_statements.specs.declared.evaluation.Operands.{Operands}
use Rattle.apl_statements.specs.Interpreter.{PlainInterpreter, state_at}
use Rattle.apl_statements.specs.Evaluating.{evaluation_of}
use Rattle.apl_statements.specs.Stack.{onward}
use Rattle.apl_statements.specs.Moves.{Comes, if_there, part_gives, part_takes}
use Rattle.apl_statements.specs.Operands.{operand_count, operand_list}
use Rattle.apl_statements.specs.Holding.{stack_values, parts_of}
use Rattle.apl_statements.proofs.Gives.{takes_values}
use Rattle.apl_statements.proofs.Parts.{performed_where, performs}
use Rattle.apl_statements.proofs.Same.{SameAt, at_once}
use Rattle.apl_statements.proofs.Taken.{all_back, all_front}
use Rattle.apl_machine.specs.Axes.{IsAxis, IsNoAxis}

pub there : {A B : Type 0} (f : A → B) (o : Option A) → is_some (option_map f o) ≡ is_some o
there f None = refl
there f (Some a) = refl

one_or_none : {A B : Type 0} (f : A → B) (o : Option A) → reverse (map f (option_to_list o)) ≡ option_to_list (option_map f o)
one_or_none f None = refl
one_or_none f (Some a) = refl

-- the arguments are the newest values: the left one, the axis, and then the right one
pub operands_first : (f : StackValue → PlainArray) (values : List StackValue) (operands : Operands)
    → reverse (map f (values ++ operand_list operands)) ≡ option_to_list (option_map f operands.left) ++ (option_to_list (option_map f operands.axis) ++ f operands.right ∷ reverse (map f values))
operands_first f values operands =
    let right = operands.right in
    let axis = option_to_list operands.axis in
    let left = option_to_list operands.left in
    ap (λ (hs : List StackValue). reverse (map f hs)) (sym (append_assoc values (right ∷ axis) left))
    ∙ ap reverse (map-append f (values ++ right ∷ axis) left)
    ∙ reverse-append (map f (values ++ right ∷ axis)) (map f left)
    ∙ ap (λ (list : List PlainArray). list ++ reverse (map f (values ++ right ∷ axis))) (one_or_none f operands.left)
    ∙ ap (λ (list : List PlainArray). option_to_list (option_map f operands.left) ++ list)
    (ap (λ (hs : List StackValue). reverse (map f hs)) (sym (append_assoc values (right ∷ []) axis))
    ∙ ap reverse (map-append f (values ++ right ∷ []) axis)
    ∙ reverse-append (map f (values ++ right ∷ [])) (map f axis)
    ∙ ap (λ (list : List PlainArray). list ++ reverse (map f (values ++ right ∷ []))) (one_or_none f operands.axis)
    ∙ ap (λ (list : List PlainArray). option_to_list (option_map f operands.axis) ++ list) (ap reverse (map-append f values (right ∷ [])) ∙ reverse-append (map f values) (f right ∷ [])))

-- where the axis has this number, it is the axis of the function
along : (f : Fun) (left axis : Option PlainArray) (right : PlainArray) (number : Option ℤ) (s : State) → IsAxis axis number → performed_where f left axis right s ≡ performed ran f left right number s
along f left None right number s is = ap (λ (k : Option ℤ). performed ran f left right k s) (sym is)
along f left (Some axis) right None s is = absurd is
along f left (Some axis) right (Some number) s is = ap (λ (r : Result ℤ Report). and_then (outcome_of r s) (λ k s. performed ran f left right (Some k) s)) is

-- a function takes its arguments, and is performed
pub performs_by : (m : PlainInterpreter) (e after : Evaluation) (f : Fun) (operands : Operands) (number : Option ℤ) (s : State)
    → after ≡ record e { values = after.values } → e.values.items ≡ after.values.items ++ operand_list operands
    → IsAxis (option_map (stack_value m.workspace (parts_of e)) operands.axis) number
    → part_takes m e (apply_step ran f (if_there (is_some operands.left)) (if_there (is_some operands.axis))) s
    ≡ part_gives m after (performed ran f (option_map (stack_value m.workspace (parts_of e)) operands.left) (stack_value m.workspace (parts_of e) operands.right) number) s
performs_by m e after f operands number s same taken is =
    let value : StackValue → PlainArray = stack_value m.workspace (parts_of e) in
    let left : Option PlainArray = option_map value operands.left in
    let axis : Option PlainArray = option_map value operands.axis in
    let values : List PlainArray = stack_values m.workspace after in
    let under : reverse (map value after.values.items) ≡ values = ap (stack_values m.workspace) (sym same) in
    takes_values m e after (option_to_list left ++ (option_to_list axis ++ value operands.right ∷ values)) (apply_step ran f (if_there (is_some operands.left)) (if_there (is_some operands.axis)))
    (performed ran f left (value operands.right) number) s same
    (ap (λ (hs : List StackValue). reverse (map value hs)) taken ∙ operands_first value after.values.items operands
    ∙ ap (λ (list : List PlainArray). option_to_list left ++ (option_to_list axis ++ value operands.right ∷ list)) under)
    (ap (λ (b : Bool). apply_step ran f (if_there b) (if_there (is_some operands.axis)) (option_to_list left ++ (option_to_list axis ++ value operands.right ∷ values)) s) (sym (there value operands.left))
    ∙ ap (λ (b : Bool). apply_step ran f (if_there (is_some left)) (if_there b) (option_to_list left ++ (option_to_list axis ++ value operands.right ∷ values)) s) (sym (there value operands.axis))
    ∙ performs f left axis (value operands.right) values s
    ∙ ap (leaving_values values) (along f left axis (value operands.right) number s is))

-- too few values
lacks : (f : Fun) (has_left has_axis : Bool) (values : List PlainArray) (s : State) → length values < operand_count has_left has_axis → apply_step ran f (if_there has_left) (if_there has_axis) values s ≡ refuses Value s
lacks f false false [] s few = refl
lacks f false false (a ∷ values) s few = absurd (omega (arith, few))
lacks f false true [] s few = refl
lacks f false true (a ∷ []) s few = refl
lacks f false true (a ∷ b ∷ values) s few = absurd (omega (arith, few))
lacks f true false [] s few = refl
lacks f true false (a ∷ []) s few = refl
lacks f true false (a ∷ b ∷ values) s few = absurd (omega (arith, few))
lacks f true true [] s few = refl
lacks f true true (a ∷ []) s few = refl
lacks f true true (a ∷ b ∷ []) s few = refl
lacks f true true (a ∷ b ∷ c ∷ values) s few = absurd (omega (arith, few))

held_count : (w : PlainWorkspace) (e : Evaluation) → length (stack_values w e) ≡ length e.values.items
held_count w e = length-reverse (map (stack_value w (parts_of e)) e.values.items) ∙ length-map e.values.items (stack_value w (parts_of e))

-- a function that lacks an argument
pub performs_none : (m : PlainInterpreter) (e : Evaluation) (f : Fun) (has_left has_axis : Bool) (s : State) → length e.values.items < operand_count has_left has_axis
    → part_takes m e (apply_step ran f (if_there has_left) (if_there has_axis)) s ≡ refuses Value s
performs_none m e f has_left has_axis s few =
    let fewer : length (stack_values m.workspace e) < operand_count has_left has_axis = omega (arith, held_count m.workspace e) in
    ap (λ (o : Outcome Values). and_then o (λ values t. onward (record (evaluation_of m.workspace e) { values = values }) m.stack t)) (lacks f has_left has_axis (stack_values m.workspace e) s fewer)

-- where an axis has no number, the function is not performed
pub performs_no_axis : (m : PlainInterpreter) (e after : Evaluation) (f : Fun) (operands : Operands) (why : Report) (s : State)
    → after ≡ record e { values = after.values } → e.values.items ≡ after.values.items ++ operand_list operands
    → performed_where f (option_map (stack_value m.workspace (parts_of e)) operands.left) (option_map (stack_value m.workspace (parts_of e)) operands.axis) (stack_value m.workspace (parts_of e) operands.right) s ≡ refuses why s
    → part_takes m e (apply_step ran f (if_there (is_some operands.left)) (if_there (is_some operands.axis))) s ≡ refuses why s
performs_no_axis m e after f operands why s same taken is =
    let value : StackValue → PlainArray = stack_value m.workspace (parts_of e) in
    let left : Option PlainArray = option_map value operands.left in
    let axis : Option PlainArray = option_map value operands.axis in
    let values : List PlainArray = reverse (map value after.values.items) in
    let all : List PlainArray = option_to_list left ++ (option_to_list axis ++ value operands.right ∷ values) in
    let onto : Outcome Values → Outcome Next = λ o. and_then o (λ values t. onward (record (evaluation_of m.workspace e) { values = values }) m.stack t) in
    ap (λ (list : List PlainArray). onto (apply_step ran f (if_there (is_some operands.left)) (if_there (is_some operands.axis)) list s)) (ap (λ (hs : List StackValue). reverse (map value hs)) taken ∙ operands_first value after.values.items operands)
    ∙ ap (λ (b : Bool). onto (apply_step ran f (if_there b) (if_there (is_some operands.axis)) all s)) (sym (there value operands.left))
    ∙ ap (λ (b : Bool). onto (apply_step ran f (if_there (is_some left)) (if_there b) all s)) (sym (there value operands.axis))
    ∙ ap onto (performs f left axis (value operands.right) values s)
    ∙ ap (λ (o : Outcome Found). onto (leaving_values values o)) is

-- ---- where the arguments are asked for so

-- a function takes its arguments, and is performed
pub performs_under : (m : PlainInterpreter) (e after : Evaluation) (f : Fun) (has_left has_axis : Bool) (operands : Operands) (number : Option ℤ)
    → after ≡ record e { values = after.values } → e.values.items ≡ after.values.items ++ operand_list operands → is_some operands.left ≡ has_left → is_some operands.axis ≡ has_axis
    → IsAxis (option_map (stack_value m.workspace (parts_of e)) operands.axis) number
    → SameAt m (part_takes m e (apply_step ran f (if_there has_left) (if_there has_axis)))
    (part_gives m after (performed ran f (option_map (stack_value m.workspace (parts_of e)) operands.left) (stack_value m.workspace (parts_of e) operands.right) number))
performs_under m e after f has_left has_axis operands number same items left axis is asked count taken further =
    let s : State = state_at m asked count taken further in
    ap (λ (b : Bool). part_takes m e (apply_step ran f (if_there b) (if_there has_axis)) s) (sym left)
    ∙ ap (λ (b : Bool). part_takes m e (apply_step ran f (if_there (is_some operands.left)) (if_there b)) s) (sym axis)
    ∙ performs_by m e after f operands number s same items is

pub performs_as : (m : PlainInterpreter) (e after : Evaluation) (f : Fun) (has_left has_axis : Bool) (operands : Operands) (number : Option ℤ)
    → after ≡ record e { values = after.values } → e.values.items ≡ after.values.items ++ operand_list operands → is_some operands.left ≡ has_left → is_some operands.axis ≡ has_axis
    → IsAxis (option_map (stack_value m.workspace (parts_of after)) operands.axis) number
    → SameAt m (part_takes m e (apply_step ran f (if_there has_left) (if_there has_axis)))
    (part_gives m after (performed ran f (option_map (stack_value m.workspace (parts_of after)) operands.left) (stack_value m.workspace (parts_of after) operands.right) number))
performs_as m e after f has_left has_axis operands number same items left axis is asked count taken further =
    let s : State = state_at m asked count taken further in
    performs_under m e after f has_left has_axis operands number same items left axis (subst (λ (other : Evaluation). IsAxis (option_map (stack_value m.workspace (parts_of other)) operands.axis) number) same is) asked count taken further
    ∙ ap (λ (other : Evaluation). part_gives m after (performed ran f (option_map (stack_value m.workspace (parts_of other)) operands.left) (stack_value m.workspace (parts_of other) operands.right) number) s) (sym same)

along_none : (f : Fun) (left axis : Option PlainArray) (right : PlainArray) (report : Report) (s : State) → IsNoAxis axis (fail.Report report) → performed_where f left axis right s ≡ refuses report s
along_none f left None right report s is = absurd is
along_none f left (Some axis) right report s is = ap (λ (r : Result ℤ Report). and_then (outcome_of r s) (λ k s. performed ran f left right (Some k) s)) is

-- an axis that has no number
pub no_axis_as : (m : PlainInterpreter) (e after : Evaluation) (f : Fun) (has_left has_axis : Bool) (operands : Operands) (why : Fail)
    → after ≡ record e { values = after.values } → e.values.items ≡ after.values.items ++ operand_list operands → is_some operands.left ≡ has_left → is_some operands.axis ≡ has_axis
    → IsNoAxis (option_map (stack_value m.workspace (parts_of after)) operands.axis) why → Comes m (part_takes m e (apply_step ran f (if_there has_left) (if_there has_axis))) 0 m (Err why)
no_axis_as m e after f has_left has_axis operands (fail.Report report) same items left axis is =
    let value : StackValue → PlainArray = stack_value m.workspace (parts_of e) in
    let none : IsNoAxis (option_map value operands.axis) (fail.Report report) = subst (λ (other : Evaluation). IsNoAxis (option_map (stack_value m.workspace (parts_of other)) operands.axis) (fail.Report report)) same is in
    at_once m (part_takes m e (apply_step ran f (if_there has_left) (if_there has_axis))) (λ s. refuses report s) (λ asked count taken further.
    let s : State = state_at m asked count taken further in
    ap (λ (b : Bool). part_takes m e (apply_step ran f (if_there b) (if_there has_axis)) s) (sym left)
    ∙ ap (λ (b : Bool). part_takes m e (apply_step ran f (if_there (is_some operands.left)) (if_there b)) s) (sym axis)
    ∙ performs_no_axis m e after f operands report s same items (along_none f (option_map value operands.left) (option_map value operands.axis) (value operands.right) report s none))
no_axis_as m e after f has_left has_axis operands fail.WantOfMemory same items left axis is = tt

-- the arguments are arrays
option_held : {A : Type 0} (P : A → Type 0) (o : Option A) → All P (option_to_list o) → IfSome o P
option_held P None h = tt
option_held P (Some a) h = All-head P a [] h

pub right_held : (P : StackValue → Type 0) (operands : Operands) → All P (operand_list operands) → P operands.right
right_held P operands h = All-head P operands.right (option_to_list operands.axis ++ option_to_list operands.left) h

pub axis_held : (P : StackValue → Type 0) (operands : Operands) → All P (operand_list operands) → IfSome operands.axis P
axis_held P operands h =
    option_held P operands.axis (all_front P (option_to_list operands.axis) (option_to_list operands.left) (All-tail P operands.right (option_to_list operands.axis ++ option_to_list operands.left) h))

pub left_held : (P : StackValue → Type 0) (operands : Operands) → All P (operand_list operands) → IfSome operands.left P
left_held P operands h =
    option_held P operands.left (all_back P (option_to_list operands.axis) (option_to_list operands.left) (All-tail P operands.right (option_to_list operands.axis ++ option_to_list operands.left) h))
