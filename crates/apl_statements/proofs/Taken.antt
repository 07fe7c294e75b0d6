-- A part takes its values, and the statement is left with the others.
use Rattle.std.proofs.Common.{◌≡◌, ℕ, List, [], ◌∷◌, ◌++◌, refl, sym, ap, subst, ◌∙◌}
use Rattle.std.specs.Prelude.{Option, Some, Result, Ok, Err, All}
use Rattle.std.proofs.lemmas.List.Elements.{All-cons, All-head, All-nil, All-tail}
use Rattle.apl_arrays.specs.Array.{PlainArray}
use Rattle.apl_arrays.specs.declared.report.Fail.{Fail}
use Rattle.apl_arrays.specs.declared.report.Fail.TheVariants as fail
use Rattle.apl_items.specs.Answers.{ArrayResult, Answers}
use Rattle.apl_selection.specs.Assignment.{assign_of}
use Rattle.apl_selection.specs.Indexing.{selection_of}
use Rattle.apl_workspace.specs.Workspace.{PlainWorkspace, look}
use Rattle.apl_workspace.specs.declared.meaning.Meaning.{Meaning}
use Rattle.apl_meaning.specs.State.{State, Outcome, gives, refuses, and_then, outcome_of}
use Rattle.apl_meaning.specs.Expressions.{Found, valued}
use Rattle.apl_meaning.specs.Nodes.{assign_step, indexed_step, items_step, leaving_values, popped}
use Rattle.apl_meaning.specs.Variables.{assignment, target_by}
use Rattle.apl_values.specs.declared.values.StackValue.{StackValue}
use Rattle.apl_values.specs.Pending.{assigned_giving}
use Rattle.apl_values.specs.Values.{IsStackValue, stack_value}
use Rattle.apl_statements.specs.declared.evaluation.Evaluation.{Evaluation}
use Rattle.apl_statements.specs.declared.flow.Flow.{Flow}
use Rattle.apl_statements.specs.Evaluating.{caller_of}
use Rattle.apl_statements.specs.Interpreter.{PlainInterpreter, here, state_at}
use Rattle.apl_statements.specs.Moves.{Comes, part_gives, part_takes}
use Rattle.apl_statements.specs.Sound.{IsCaller, IsEvaluation}
use Rattle.apl_statements.specs.Stack.{carried_on}
use Rattle.apl_statements.specs.Holding.{stack_values, parts_of}
use Rattle.apl_statements.proofs.Gives.{fewer_sound, takes_values, with_values_sound}
use Rattle.apl_statements.proofs.Held.{taken_one}
use Rattle.apl_statements.proofs.Same.{SameAt, at_once, comes_as}

pub all_front : {A : Type 0} (P : A → Type 0) (xs ys : List A) → All P (xs ++ ys) → All P xs
all_front P [] ys h = All-nil P
all_front P (x ∷ xs) ys h = All-cons P x xs (All-head P x (xs ++ ys) h) (all_front P xs ys (All-tail P x (xs ++ ys) h))

pub all_back : {A : Type 0} (P : A → Type 0) (xs ys : List A) → All P (xs ++ ys) → All P ys
all_back P [] ys h = h
all_back P (x ∷ xs) ys h = all_back P xs ys (All-tail P x (xs ++ ys) h)

-- without its newest values a statement is one still, and so is a caller
pub taken_evaluation : (w : PlainWorkspace) (e after : Evaluation) (newest : List StackValue) → after ≡ record e { values = after.values } → e.values.items ≡ after.values.items ++ newest → IsEvaluation w e → IsEvaluation w after
taken_evaluation w e after newest same items is =
    with_values_sound w e after after.values.items is (all_front (IsStackValue w (parts_of e)) after.values.items newest (subst (All (IsStackValue w (parts_of e))) items is.values)) (record { same = same; values = refl })

pub taken_sound : (w : PlainWorkspace) (e after : Evaluation) (newest : List StackValue) → after ≡ record e { values = after.values } → e.values.items ≡ after.values.items ++ newest → IsCaller w e → IsCaller w after
taken_sound w e after newest same items is =
    fewer_sound w e after same (all_front (IsStackValue w (parts_of e)) after.values.items newest (subst (All (IsStackValue w (parts_of e))) items is.evaluation.values)) is

-- and they are arrays
pub taken_held : (w : PlainWorkspace) (e after : Evaluation) (newest : List StackValue) → after ≡ record e { values = after.values } → e.values.items ≡ after.values.items ++ newest → IsCaller w e → All (IsStackValue w (parts_of after)) newest
taken_held w e after newest same items is =
    subst (λ (other : Evaluation). All (IsStackValue w (parts_of other)) newest) (sym same)
    (all_back (IsStackValue w (parts_of e)) after.values.items newest (subst (All (IsStackValue w (parts_of e))) items is.evaluation.values))

-- values that are taken twice
pub same_twice : (e mid after : Evaluation) → mid ≡ record e { values = mid.values } → after ≡ record mid { values = after.values } → after ≡ record e { values = after.values }
same_twice e mid after first second = second ∙ ap (λ (x : Evaluation). record x { values = after.values }) first

-- a statement that differs in its values alone is a caller where it is one under evaluation
pub caller_from : (w : PlainWorkspace) (e after : Evaluation) → after ≡ record e { values = after.values } → IsEvaluation w after → IsCaller w e → IsCaller w after
caller_from w e after same sound is = record { evaluation = sound; there = ap (λ (x : Evaluation). x.is_wanting) same ∙ is.there }

-- subscripts are taken, and then one value
pub subs_then_one : (w : PlainWorkspace) (e mid after : Evaluation) (places : List (Option ℕ)) (h : StackValue) (right : PlainArray) → after ≡ record mid { values = after.values } → stack_values w mid ≡ (popped places (stack_values w e)).values
    → mid.values.items ≡ after.values.items ++ h ∷ [] → right ≡ stack_value w (parts_of after) h → (popped places (stack_values w e)).values ≡ right ∷ stack_values w after
subs_then_one w e mid after places h right same rest items is =
    sym rest ∙ taken_one w mid after h same items ∙ ap (λ (v : PlainArray). v ∷ stack_values w after) (ap (λ (x : Evaluation). stack_value w (parts_of x) h) (sym same) ∙ sym is)

-- ---- what a call answers

pub answer_gives : (m : PlainInterpreter) (e : Evaluation) (answer : ArrayResult) (array : PlainArray) → answer ≡ Ok array → SameAt m (part_gives m e (λ s. valued (outcome_of answer s))) (part_gives m e (λ s. gives (Some array) s))
answer_gives m e answer array is asked count taken further = ap (λ (a : ArrayResult). carried_on (valued (outcome_of a (state_at m asked count taken further))) (caller_of m.workspace (here m) e) m.stack) is

pub answer_ends : (m : PlainInterpreter) (e : Evaluation) (answer : ArrayResult) (why : Fail) → Answers (Err why) answer → Comes m (part_gives m e (λ s. valued (outcome_of answer s))) 0 m (Err why)
answer_ends m e answer (fail.Report report) is =
    at_once m (part_gives m e (λ s. valued (outcome_of answer s))) (λ s. refuses report s) (λ asked count taken further.
    ap (λ (a : ArrayResult). carried_on (valued (outcome_of a (state_at m asked count taken further))) (caller_of m.workspace (here m) e) m.stack) is)
answer_ends m e answer fail.WantOfMemory is = tt

-- ---- an assignment takes its right side

pub assign_takes : (m : PlainInterpreter) (e after : Evaluation) (name : List ℕ) (h : StackValue) (right : PlainArray) (s : State) → after ≡ record e { values = after.values } → e.values.items ≡ after.values.items ++ h ∷ [] → right ≡ stack_value m.workspace (parts_of after) h
    → part_takes m e (assign_step name) s ≡ part_gives m after (assigned_giving name right right) s
assign_takes m e after name h right s same items is =
    let value : PlainArray = stack_value m.workspace (parts_of e) h in
    let values : List PlainArray = stack_values m.workspace after in
    let own : right ≡ value = is ∙ ap (λ (other : Evaluation). stack_value m.workspace (parts_of other) h) same in
    takes_values m e after (value ∷ values) (assign_step name) (assigned_giving name right right) s same (taken_one m.workspace e after h same items)
    (ap (λ (v : PlainArray). leaving_values values (assigned_giving name v v s)) (sym own))

-- ---- an array is indexed

pub index_takes : (m : PlainInterpreter) (e after : Evaluation) (places : List (Option ℕ)) (subs : List (Option PlainArray)) (array : PlainArray) (values : List PlainArray) (s : State) → after ≡ record e { values = after.values }
    → stack_values m.workspace e ≡ array ∷ values → subs ≡ (popped places values).subs → stack_values m.workspace after ≡ (popped places values).values
    → part_takes m e (indexed_step places) s ≡ part_gives m after (λ s. valued (outcome_of (selection_of array subs) s)) s
index_takes m e after places subs array values s same are subs_are rest =
    takes_values m e after (array ∷ values) (indexed_step places) (λ s. valued (outcome_of (selection_of array subs) s)) s same are
    (ap (λ (list : List PlainArray). leaving_values list (valued (outcome_of (selection_of array (popped places values).subs) s))) (sym rest)
    ∙ ap (λ (list : List (Option PlainArray)). leaving_values (stack_values m.workspace after) (valued (outcome_of (selection_of array list) s))) (sym subs_are))

-- the statement gets what was indexed
pub index_comes : (m : PlainInterpreter) (e after : Evaluation) (places : List (Option ℕ)) (subs : List (Option PlainArray)) (array : PlainArray) (values : List PlainArray) (picked : PlainArray) (r : Result Flow Fail) → after ≡ record e { values = after.values }
    → stack_values m.workspace e ≡ array ∷ values → subs ≡ (popped places values).subs → stack_values m.workspace after ≡ (popped places values).values → selection_of array subs ≡ Ok picked
    → Comes m (part_gives m after (λ s. gives (Some picked) s)) 0 m r → Comes m (part_takes m e (indexed_step places)) 0 m r
index_comes m e after places subs array values picked r same are subs_are rest is comes =
    comes_as m m (part_takes m e (indexed_step places)) (part_gives m after (λ s. gives (Some picked) s)) 0 r (λ asked count taken further.
    index_takes m e after places subs array values (state_at m asked count taken further) same are subs_are rest ∙ answer_gives m after (selection_of array subs) picked is asked count taken further) comes

-- or the line ends
pub index_ends : (m : PlainInterpreter) (e after : Evaluation) (places : List (Option ℕ)) (subs : List (Option PlainArray)) (array : PlainArray) (values : List PlainArray) (why : Fail) → after ≡ record e { values = after.values }
    → stack_values m.workspace e ≡ array ∷ values → subs ≡ (popped places values).subs → stack_values m.workspace after ≡ (popped places values).values → Answers (Err why) (selection_of array subs)
    → Comes m (part_takes m e (indexed_step places)) 0 m (Err why)
index_ends m e after places subs array values why same are subs_are rest is =
    comes_as m m (part_takes m e (indexed_step places)) (part_gives m after (λ s. valued (outcome_of (selection_of array subs) s))) 0 (Err why) (λ asked count taken further.
    index_takes m e after places subs array values (state_at m asked count taken further) same are subs_are rest) (answer_ends m after (selection_of array subs) why is)

-- ---- items of a name are replaced

-- where the name stands for this, its items are replaced, and the right side is given
abbrev pub items_where : Meaning → List ℕ → List (Option PlainArray) → PlainArray → State → Outcome Found
items_where seen name subs right s =
    and_then (and_then (target_by seen name s) (λ old s. and_then (outcome_of (assign_of old subs right) s) (λ new s. assignment name new s))) (λ _ s. gives (Some right) s)

pub items_take : (m : PlainInterpreter) (e after : Evaluation) (name : List ℕ) (places : List (Option ℕ)) (subs : List (Option PlainArray)) (right : PlainArray) (s : State) → after ≡ record e { values = after.values }
    → subs ≡ (popped places (stack_values m.workspace e)).subs → (popped places (stack_values m.workspace e)).values ≡ right ∷ stack_values m.workspace after
    → part_takes m e (λ values. items_step name (popped places values).subs (popped places values).values) s ≡ part_gives m after (items_where (look s.workspace name) name subs right) s
items_take m e after name places subs right s same subs_are rest =
    let all : List PlainArray = stack_values m.workspace e in
    takes_values m e after all (λ values. items_step name (popped places values).subs (popped places values).values) (items_where (look s.workspace name) name subs right) s same refl
    (ap (λ (list : List PlainArray). items_step name (popped places all).subs list s) rest
    ∙ ap (λ (list : List (Option PlainArray)). leaving_values (stack_values m.workspace after) (items_where (look s.workspace name) name list right s)) (sym subs_are))

-- the subscripts and the right side are taken, where the name stands for this
pub items_take_where : (m : PlainInterpreter) (e after : Evaluation) (name : List ℕ) (places : List (Option ℕ)) (subs : List (Option PlainArray)) (right : PlainArray) (seen : Meaning) → after ≡ record e { values = after.values }
    → subs ≡ (popped places (stack_values m.workspace e)).subs → (popped places (stack_values m.workspace e)).values ≡ right ∷ stack_values m.workspace after → look m.workspace name ≡ seen
    → SameAt m (part_takes m e (λ values. items_step name (popped places values).subs (popped places values).values)) (part_gives m after (items_where seen name subs right))
items_take_where m e after name places subs right seen same subs_are rest is asked count taken further =
    let s : State = state_at m asked count taken further in
    items_take m e after name places subs right s same subs_are rest
    ∙ ap (λ (found : Meaning). part_gives m after (items_where found name subs right) s) is
