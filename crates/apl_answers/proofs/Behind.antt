-- A statement that goes on behind a change of the workspace, or that the change ends.
use Rattle.std.proofs.Common.{◌≡◌, ℕ, true, List, refl, sym, ap, subst}
use Rattle.std.specs.Prelude.{Option, Some, None, Result, is_some, map, unwrap_or}
use Rattle.apl_arrays.specs.Array.{PlainArray}
use Rattle.apl_arrays.specs.declared.report.Fail.{Fail}
use Rattle.apl_workspace.specs.Meaning.{is_shared_meaning}
use Rattle.apl_workspace.specs.Workspace.{PlainWorkspace, look}
use Rattle.apl_workspace.specs.declared.meaning.Meaning.TheVariants as meaning
use Rattle.apl_meaning.specs.Deeds.{value_of}
use Rattle.apl_meaning.specs.Expressions.{Found}
use Rattle.apl_meaning.specs.State.{State, Outcome, Effect, gives, and_then}
use Rattle.apl_values.specs.declared.part.Part.{Part}
use Rattle.apl_values.specs.declared.values.StackValue.{StackValue}
use Rattle.apl_values.specs.Pending.{act_asked_for, assigned_giving, sets}
use Rattle.apl_values.specs.Values.{IsStackValue, stack_value, no_array, settled}
use Rattle.apl_values.proofs.Seen.{shared_as}
use Rattle.apl_statements.specs.declared.evaluation.Evaluation.{Evaluation}
use Rattle.apl_statements.specs.declared.flow.Flow.{Flow}
use Rattle.apl_statements.specs.Evaluating.{caller_of}
use Rattle.apl_statements.specs.Interpreter.{PlainInterpreter, here, state_at}
use Rattle.apl_statements.specs.Moves.{Comes, Does, Moves, part_gives}
use Rattle.apl_statements.specs.Stack.{carried_on}
use Rattle.apl_statements.specs.Holding.{IsWithValues, stack_value_given, parts_of}
use Rattle.apl_statements.proofs.Moving.{comes_after}
use Rattle.apl_statements.proofs.Opened.{set_opens}
use Rattle.apl_statements.proofs.Renewing.{on, settled_caller}
use Rattle.apl_statements.proofs.Same.{SameAt}
use Rattle.apl_answers.proofs.Brings.{done_then}

-- a part was done on another workspace, and the statement goes on
pub goes_behind : (m n : PlainInterpreter) (v : PlainWorkspace) (e after : Evaluation) (part : State → Effect) (rest : State → Outcome Found) (r : Result Flow Fail)
    → n ≡ on m v → Does m part n → IsWithValues e (map (settled m.workspace) e.values.items) after → Comes n (part_gives n after rest) 0 n r → Comes m (part_gives m e (λ s. and_then (part s) (λ _ t. rest t))) 0 n r
goes_behind m n v e after part rest r is does with comes =
    let first : Moves m (part_gives m e (λ s. and_then (part s) (λ _ t. rest t))) 0 (on m v) (part_gives (on m v) after rest) =
    done_then m v e after part rest (subst (λ (x : PlainInterpreter). Does m part x) is does) (settled_caller m.workspace v (here m) e after with) in
    comes_after m n n (part_gives m e (λ s. and_then (part s) (λ _ t. rest t))) (part_gives n after rest) 0 r
    (subst (λ (x : PlainInterpreter). Moves m (part_gives m e (λ s. and_then (part s) (λ _ t. rest t))) 0 x (part_gives x after rest)) (sym is) first) comes

-- the statement gets this value
pub gets : (m : PlainInterpreter) (e : Evaluation) (h : StackValue) (value : PlainArray) (r : Result Flow Fail) → stack_value m.workspace (parts_of e) h ≡ value
    → Comes m (part_gives m e (λ s. gives (Some (stack_value m.workspace (parts_of e) h)) s)) 0 m r → Comes m (part_gives m e (λ s. gives (Some value) s)) 0 m r
gets m e h value r is comes = subst (λ (v : PlainArray). Comes m (part_gives m e (λ s. gives (Some v) s)) 0 m r) is comes

-- ---- what an assignment gives

pub given_value : (w : PlainWorkspace) (parts : List Part) (name : List ℕ) (gives_it : Option PlainArray) (value : PlainArray) → value_of (look w name) ≡ Some value → stack_value w parts (stack_value_given name gives_it) ≡ unwrap_or gives_it value
given_value w parts name None value is = ap (λ (found : Option PlainArray). unwrap_or found no_array) is
given_value w parts name (Some other) value is = refl

pub given_is_held : (w : PlainWorkspace) (parts : List Part) (name : List ℕ) (gives_it : Option PlainArray) (value : PlainArray) → value_of (look w name) ≡ Some value → IsStackValue w parts (stack_value_given name gives_it)
given_is_held w parts name None value is = ap is_some is
given_is_held w parts name (Some other) value is = refl

-- ---- a set of a shared name

pub set_stays_open : (m : PlainInterpreter) (e : Evaluation) (name : List ℕ) (value other : PlainArray) → is_shared_meaning (look m.workspace name) ≡ true
    → SameAt m (part_gives m e (assigned_giving name value other)) (part_gives m e (act_asked_for (sets name value other)))
set_stays_open m e name value other is asked count taken further =
    let seen : (copy : Option PlainArray) × (look m.workspace name ≡ meaning.Shared copy) = shared_as (look m.workspace name) is in
    ap (λ (found : Outcome Found). carried_on found (caller_of m.workspace (here m) e) m.stack) (set_opens name value other seen.0 (state_at m asked count taken further) seen.1)
