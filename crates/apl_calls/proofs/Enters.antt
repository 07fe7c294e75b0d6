-- A call enters a function: its frame stands before the others, and the statement that called it waits.
use Rattle.std.proofs.Common.{◌≡◌, ℕ, ◌<◌, ◌≤◌, ◌⊎◌, inl, inr, Bool, true, false, List, ◌∷◌, length, refl, sym, ap, subst, ◌∙◌, leb, arith}
use Rattle.std.specs.Prelude.{Option, Some, None, Err, is_some, map, option_map, if◌then◌else◌}
use Rattle.std.proofs.lemmas.Bool.{and_parts, false≢true, le-leb, leb-true}
use Rattle.std.proofs.lemmas.Bool.Decides.{nat_tests}
use Rattle.apl_arrays.specs.declared.report.Fail.{Fail}
use Rattle.apl_arrays.specs.declared.report.Fail.TheVariants as fail
use Rattle.apl_arrays.specs.declared.report.Report.{Report}
use Rattle.apl_arrays.specs.declared.report.Report.TheVariants.{Syntax, WsFull}
use Rattle.apl_workspace.specs.Frame.{AreArgumentsOf}
use Rattle.apl_workspace.specs.Function.{PlainFunction}
use Rattle.apl_workspace.specs.Header.{PlainHeader}
use Rattle.apl_workspace.specs.Limits.{most_depth, most_weight}
use Rattle.apl_workspace.specs.Workspace.{AreArgumentsFor, IsNotEntered, PlainWorkspace, empty_workspace, look, with_frame, workspace_weight}
use Rattle.apl_workspace.specs.declared.args.Args.{Args}
use Rattle.apl_workspace.specs.declared.meaning.Meaning.{Meaning}
use Rattle.apl_workspace.specs.declared.meaning.Meaning.TheVariants as meaning
use Rattle.apl_meaning.specs.State.{State, Effect, Outcome, gives, refuses, and_then, with_workspace}
use Rattle.apl_meaning.specs.Tasks.{Next}
use Rattle.apl_meaning.specs.Calls.{call, call_by, called, entering, takes}
use Rattle.apl_meaning.specs.Expressions.{Found}
use Rattle.apl_meaning.specs.Verbs.{both_or_neither}
use Rattle.apl_meaning.specs.Meaning.{ran}
use Rattle.apl_values.specs.declared.values.StackValue.{StackValue}
use Rattle.apl_values.specs.Values.{settled}
use Rattle.apl_statements.specs.declared.evaluation.Evaluation.{Evaluation}
use Rattle.apl_statements.specs.Evaluating.{caller_of, function_by, takes_by}
use Rattle.apl_statements.specs.Interpreter.{PlainInterpreter, here, state_at}
use Rattle.apl_statements.specs.Moves.{Comes, Does, Moves, part_gives}
use Rattle.apl_statements.specs.Stack.{PlainCaller, PlainWaiting, at_line, carried_on, from_line, onward_lines}
use Rattle.apl_statements.specs.Holding.{IsWithValues}
use Rattle.apl_statements.proofs.Renewing.{above, settled_caller}
use Rattle.apl_statements.proofs.Same.{SameAt, at_once, behind_done, moves_as, moves_then}
use Rattle.apl_statements.proofs.Steps.{call_enters}
use Rattle.apl_calls.specs.Callings.{IsNotCalled, MayBeCalled, arguments, takes_so}

-- one that is
pub takes_function : (m : Meaning) (args : Args) → takes_by m args ≡ true → (m ≡ meaning.Function (function_by m)) × (takes (function_by m).header args ≡ true)
takes_function meaning.Nothing args is = absurd (false≢true is)
takes_function (meaning.Value value) args is = absurd (false≢true is)
takes_function (meaning.Function function) args is = (refl, is)
takes_function (meaning.Label line) args is = absurd (false≢true is)
takes_function (meaning.Shared copy) args is = absurd (false≢true is)

alike : (a b : Bool) → both_or_neither a b ≡ true → a ≡ b
alike true true is = refl
alike true false is = absurd (false≢true is)
alike false true is = absurd (false≢true is)
alike false false is = refl

arguments_of : (header : PlainHeader) (args : Args) → takes header args ≡ true → AreArgumentsOf header args
arguments_of header args is =
    let parts = and_parts (both_or_neither (is_some header.left) (is_some args.left)) (both_or_neither (is_some header.right) (is_some args.right)) is in
    record { left = sym (alike (is_some header.left) (is_some args.left) parts.0); right = sym (alike (is_some header.right) (is_some args.right) parts.1) }

pub arguments_for : (m : Meaning) (args : Args) → takes_by m args ≡ true → AreArgumentsFor m args
arguments_for meaning.Nothing args is = absurd (false≢true is)
arguments_for (meaning.Value value) args is = absurd (false≢true is)
arguments_for (meaning.Function function) args is = arguments_of function.header args is
arguments_for (meaning.Label line) args is = absurd (false≢true is)
arguments_for (meaning.Shared copy) args is = absurd (false≢true is)

-- whether a name takes such arguments is whether it takes these
pub takes_as : (seen : Meaning) (args : Args) → takes_so seen (is_some args.left) (is_some args.right) ≡ takes_by seen args
takes_as meaning.Nothing args = refl
takes_as (meaning.Value value) args = refl
takes_as (meaning.Function function) args = refl
takes_as (meaning.Label line) args = refl
takes_as (meaning.Shared copy) args = refl

-- an interpreter in which a function was entered
abbrev pub entered_by : PlainInterpreter → List ℕ → Args → PlainFunction → PlainCaller → PlainInterpreter
entered_by m name args function caller = record m { workspace = with_frame m.workspace name args; stack = at_line function 0 caller ∷ m.stack }

pub enters : (m : PlainInterpreter) (name : List ℕ) (args : Args) (function : PlainFunction) (caller : PlainCaller) → caller.here ≡ here m → length m.workspace.frames < most_depth → workspace_weight (with_frame m.workspace name args) ≤ most_weight
    → Does m (λ s. entering name args s) (entered_by m name args function caller)
enters m name args function caller stood few fits = record {
  same = λ asked count taken further.
      let s : State = state_at m asked count taken further in
      let v : PlainWorkspace = with_frame m.workspace name args in
      ap (λ (b : Bool). if b then refuses WsFull s else (if leb (workspace_weight v) most_weight then gives tt (record s { workspace = v }) else refuses WsFull s)) (above most_depth (length m.workspace.frames) few)
      ∙ ap (λ (b : Bool). if b then gives tt (record s { workspace = v }) else refuses WsFull s) (le-leb (workspace_weight v) most_weight fits)
      ∙ ap (λ (shown : List ℕ). gives tt (record s { workspace = v; here = shown })) (sym refl);
}

-- what is to come of a call of a function: it is entered, and then its first line
pub call_is_to_enter : (m : PlainInterpreter) (e : Evaluation) (name : List ℕ) (args : Args) (function : PlainFunction) → look m.workspace name ≡ meaning.Function function → takes function.header args ≡ true
    → SameAt m (part_gives m e (λ s. call ran name args s)) (λ s. and_then (entering name args s) (λ _ t. onward_lines function 1 (caller_of m.workspace (here m) e) m.stack t))
call_is_to_enter m e name args function is fits asked count taken further = call_enters (caller_of m.workspace (here m) e) m.stack function name args (state_at m asked count taken further) is fits refl

-- where it was entered, its first line is next
pub enters_at_line : (m n : PlainInterpreter) (e : Evaluation) (name : List ℕ) (args : Args) (function : PlainFunction) (caller : PlainCaller) → look m.workspace name ≡ meaning.Function function → takes function.header args ≡ true
    → Does m (λ s. entering name args s) n → n.stack ≡ at_line function 0 caller ∷ m.stack → caller ≡ caller_of m.workspace (here m) e → Moves m (part_gives m e (λ s. call ran name args s)) 0 n (from_line n.stack 1)
enters_at_line m n e name args function caller is fits done stacked waits =
    let rest : State → Outcome Next = λ t. onward_lines function 1 (caller_of m.workspace (here m) e) m.stack t in
    moves_as m n (part_gives m e (λ s. call ran name args s)) (λ s. and_then (entering name args s) (λ _ t. rest t)) (from_line n.stack 1) 0 (call_is_to_enter m e name args function is fits)
    (moves_then m n (λ s. and_then (entering name args s) (λ _ t. rest t)) rest (from_line n.stack 1) 0 (λ t.
    ap (λ (c : PlainCaller). onward_lines function 1 c m.stack t) (sym waits) ∙ ap (λ (ws : List PlainWaiting). from_line ws 1 t) (sym stacked)) (behind_done m n (λ s. entering name args s) rest done))

-- the same where its caller is settled
pub settled_enters : (m n : PlainInterpreter) (before e : Evaluation) (name : List ℕ) (args : Args) → takes_by (look m.workspace name) args ≡ true → IsWithValues before (map (settled m.workspace) before.values.items) e → Does m (λ s. entering name args s) n
    → n.stack ≡ at_line (function_by (look m.workspace name)) 0 (caller_of empty_workspace (here m) e) ∷ m.stack → Moves m (part_gives m before (λ s. call ran name args s)) 0 n (from_line n.stack 1)
settled_enters m n before e name args takes with done stacked =
    let is = takes_function (look m.workspace name) args takes in
    enters_at_line m n before name args (function_by (look m.workspace name)) (caller_of empty_workspace (here m) e) is.0 is.1 done stacked (settled_caller m.workspace empty_workspace (here m) before e with)

-- where as many functions are under way as may be it is not entered
pub too_deep : (m : PlainInterpreter) (e : Evaluation) (name : List ℕ) (args : Args) → takes_by (look m.workspace name) args ≡ true → leb most_depth (length m.workspace.frames) ≡ true
    → Moves m (part_gives m e (λ s. call ran name args s)) 0 m (λ s. refuses WsFull s)
too_deep m e name args takes deep =
    let is = takes_function (look m.workspace name) args takes in
    let function : PlainFunction = function_by (look m.workspace name) in
    let rest : State → Outcome Next = λ t. onward_lines function 1 (caller_of m.workspace (here m) e) m.stack t in
    moves_as m m (part_gives m e (λ s. call ran name args s)) (λ s. and_then (entering name args s) (λ _ t. rest t)) (λ s. refuses WsFull s) 0 (call_is_to_enter m e name args function is.0 is.1)
    (at_once m (λ s. and_then (entering name args s) (λ _ t. rest t)) (λ s. refuses WsFull s) (λ asked count taken further.
    let s : State = state_at m asked count taken further in
    ap (λ (b : Bool). and_then (if b then refuses WsFull s else with_workspace (with_frame m.workspace name args) s) (λ _ t. rest t)) deep))

same_either : (b : Bool) (effect : Effect) → (if b then effect else effect) ≡ effect
same_either true effect = refl
same_either false effect = refl

-- where its frame weighs too much it is not entered
pub too_heavy : (m : PlainInterpreter) (e : Evaluation) (name : List ℕ) (args : Args) → takes_by (look m.workspace name) args ≡ true → leb (workspace_weight (with_frame m.workspace name args)) most_weight ≡ false
    → Moves m (part_gives m e (λ s. call ran name args s)) 0 m (λ s. refuses WsFull s)
too_heavy m e name args takes heavy =
    let is = takes_function (look m.workspace name) args takes in
    let function : PlainFunction = function_by (look m.workspace name) in
    let rest : State → Outcome Next = λ t. onward_lines function 1 (caller_of m.workspace (here m) e) m.stack t in
    moves_as m m (part_gives m e (λ s. call ran name args s)) (λ s. and_then (entering name args s) (λ _ t. rest t)) (λ s. refuses WsFull s) 0 (call_is_to_enter m e name args function is.0 is.1)
    (at_once m (λ s. and_then (entering name args s) (λ _ t. rest t)) (λ s. refuses WsFull s) (λ asked count taken further.
    let s : State = state_at m asked count taken further in
    let v : PlainWorkspace = with_frame m.workspace name args in
    let deep : Bool = leb most_depth (length m.workspace.frames) in
    ap (λ (b : Bool). and_then (if deep then refuses WsFull s else (if b then gives tt (record s { workspace = v }) else refuses WsFull s)) (λ _ t. rest t)) heavy
    ∙ ap (λ (o : Effect). and_then o (λ _ t. rest t)) (same_either deep (refuses WsFull s))))

pub shallow : (most n : ℕ) → leb most n ≡ false → n < most
shallow most n e = grind (arith, nat_tests)

no_call : (seen : Meaning) (name : List ℕ) (args : Args) (s : State) → takes_by seen args ≡ false → call_by ran seen name args s ≡ refuses Syntax s
no_call meaning.Nothing name args s other = refl
no_call (meaning.Value value) name args s other = refl
no_call (meaning.Function function) name args s other = ap (λ (b : Bool). if b then called ran function name args s else refuses Syntax s) other
no_call (meaning.Label line) name args s other = refl
no_call (meaning.Shared copy) name args s other = refl

-- a function whose frame does not fit, or that is one too many
pub is_full : (m : PlainInterpreter) (e : Evaluation) (name : List ℕ) (args : Args) (fits : Bool) → takes_by (look m.workspace name) args ≡ true → fits ≡ leb (workspace_weight (with_frame m.workspace name args)) most_weight
    → (fits ≡ false) ⊎ (most_depth ≤ length m.workspace.frames) → Moves m (part_gives m e (λ s. call ran name args s)) 0 m (λ s. refuses WsFull s)
is_full m e name args fits takes is (inl heavy) = too_heavy m e name args takes (sym is ∙ heavy)
is_full m e name args fits takes is (inr deep) = too_deep m e name args takes (le-leb most_depth (length m.workspace.frames) deep)

-- a function that is not called ends the line
pub not_called : (m : PlainInterpreter) (e : Evaluation) (name : List ℕ) (args : Args) (why : Report) (takes fits : Bool) → takes ≡ takes_by (look m.workspace name) args → fits ≡ leb (workspace_weight (with_frame m.workspace name args)) most_weight
    → IsNotCalled takes fits (length m.workspace.frames) why → Comes m (part_gives m e (λ s. call ran name args s)) 0 m (Err (fail.Report why))
not_called m e name args why true fits is fitting refused =
    subst (λ (r : Report). Moves m (part_gives m e (λ s. call ran name args s)) 0 m (λ s. refuses r s)) (sym (refused.0))
    (is_full m e name args fits (sym is) fitting (refused.1))
not_called m e name args why false fits is fitting refused =
    subst (λ (r : Report). Moves m (part_gives m e (λ s. call ran name args s)) 0 m (λ s. refuses r s)) (sym refused)
    (at_once m (part_gives m e (λ s. call ran name args s)) (λ s. refuses Syntax s) (λ asked count taken further.
    ap (λ (o : Outcome Found). carried_on o (caller_of m.workspace (here m) e) m.stack) (no_call (look m.workspace name) name args (state_at m asked count taken further) (sym is))))

-- a function of these arguments, of which fewer are under way than may be, and whose frame fits, may be called
pub may_call : (m : PlainInterpreter) (name : List ℕ) (args : Args) (takes fits : Bool) → takes ≡ takes_by (look m.workspace name) args → fits ≡ leb (workspace_weight (with_frame m.workspace name args)) most_weight
    → takes ≡ true → length m.workspace.frames < most_depth → fits ≡ true → MayBeCalled m.workspace name args
may_call m name args takes fits is fitting may few fit = record { takes = sym is ∙ may; shallow = few; fits = leb-true (workspace_weight (with_frame m.workspace name args)) most_weight (sym fitting ∙ fit) }

-- where it may be entered, that it was not is want of memory
pub only_memory : (before after : PlainWorkspace) (why : Fail) → IsNotEntered before after why → length before.frames < most_depth → workspace_weight after ≤ most_weight → why ≡ fail.WantOfMemory
only_memory before after (fail.Report report) is few fits = absurd (neither is.1)
  where
    neither : (most_depth ≤ length before.frames) ⊎ (most_weight < workspace_weight after) → ⊥
    neither (inl deep) = omega (arith, deep, few)
    neither (inr heavy) = omega (arith, heavy, fits)
only_memory before after fail.WantOfMemory is few fits = refl

-- ---- arguments that a statement holds

-- an argument that is seen as an array is there as before
pub mapped : {A B : Type 0} (f : A → B) (found : Option A) → is_some (option_map f found) ≡ is_some found
mapped f None = refl
mapped f (Some a) = refl

-- whether the frame fits is asked of what is lent
pub fitting : (w : PlainWorkspace) (caller : Evaluation) (name : List ℕ) (lent left : Option StackValue) (right : StackValue) (fits : Bool) → fits ≡ leb (workspace_weight (with_frame w name (arguments w caller lent right))) most_weight → lent ≡ left
    → fits ≡ leb (workspace_weight (with_frame w name (arguments w caller left right))) most_weight
fitting w caller name lent left right fits is same = is ∙ ap (λ (held : Option StackValue). leb (workspace_weight (with_frame w name (arguments w caller held right))) most_weight) same
