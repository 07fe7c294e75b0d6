-- A function is left, and the statement that called it goes on with its result.
use Rattle.std.proofs.Common.{◌≡◌, ℕ, List, [], ◌∷◌, ◌++◌, drop, refl, sym, ap, subst, ◌∙◌}
use Rattle.std.specs.Prelude.{Some, None, All, map, reverse}
use Rattle.std.proofs.lemmas.Bool.{false≢true}
use Rattle.std.proofs.lemmas.List.Elements.{All-head, All-push, All-tail}
use Rattle.apl_arrays.specs.Array.{PlainArray}
use Rattle.apl_workspace.specs.Workspace.{PlainWorkspace, empty_workspace, without_frame}
use Rattle.apl_meaning.specs.State.{State}
use Rattle.apl_meaning.specs.Calls.{result_of}
use Rattle.apl_meaning.specs.Expressions.{Found}
use Rattle.apl_values.specs.declared.part.Part.{Part}
use Rattle.apl_values.specs.declared.values.StackValue.{StackValue}
use Rattle.apl_values.specs.declared.values.StackValue.TheVariants as held
use Rattle.apl_values.specs.Values.{IsStackValue, stack_value}
use Rattle.apl_statements.specs.declared.evaluation.Evaluation.{Evaluation}
use Rattle.apl_statements.specs.Evaluating.{caller_of, evaluation_of, here_of}
use Rattle.apl_statements.specs.Interpreter.{PlainInterpreter, state_at}
use Rattle.apl_statements.specs.Moves.{Moves}
use Rattle.apl_statements.specs.Sound.{IsCaller, IsEvaluation}
use Rattle.apl_statements.specs.Stack.{PlainCaller, PlainEvaluation, PlainWaiting, from_end, onward, resumed}
use Rattle.apl_statements.specs.Holding.{IsResumedWith, parts_of}
use Rattle.apl_statements.proofs.Gives.{with_values_sound}
use Rattle.apl_statements.proofs.Held.{pushed}
use Rattle.apl_statements.proofs.Same.{moves_to}

-- a value that is no name's is the same on any workspace
pub held_anywhere : (w : PlainWorkspace) (parts : List Part) (h : StackValue) → IsStackValue empty_workspace parts h → IsStackValue w parts h × (stack_value w parts h ≡ stack_value empty_workspace parts h)
held_anywhere w parts (held.Made array) is = (is, refl)
held_anywhere w parts (held.Constant at) is = (is, refl)
held_anywhere w parts (held.Named name) is = absurd (false≢true is)

pub all_held_anywhere : (w : PlainWorkspace) (parts : List Part) (hs : List StackValue) → All (IsStackValue empty_workspace parts) hs → All (IsStackValue w parts) hs
all_held_anywhere w parts hs are k d lt = (held_anywhere w parts _ (are k d lt)).0

pub values_anywhere : (w : PlainWorkspace) (parts : List Part) (hs : List StackValue) → All (IsStackValue empty_workspace parts) hs → map (stack_value w parts) hs ≡ map (stack_value empty_workspace parts) hs
values_anywhere w parts [] are = refl
values_anywhere w parts (h ∷ hs) are =
    ap (λ (a : PlainArray). a ∷ map (stack_value w parts) hs) (held_anywhere w parts h (All-head (IsStackValue empty_workspace parts) h hs are)).1
    ∙ ap (λ (list : List PlainArray). stack_value empty_workspace parts h ∷ list) (values_anywhere w parts hs (All-tail (IsStackValue empty_workspace parts) h hs are))

-- a caller that waits is one on any workspace
pub caller_anywhere : (w : PlainWorkspace) (e : Evaluation) → IsCaller empty_workspace e → IsCaller w e
caller_anywhere w e is = record {
  evaluation = record { reading = is.evaluation.reading; at = is.evaluation.at; values = all_held_anywhere w (parts_of e) e.values.items is.evaluation.values };
  there = is.there;
}

pub same_caller : (w : PlainWorkspace) (shown : List ℕ) (e : Evaluation) → IsCaller empty_workspace e → caller_of w shown e ≡ caller_of empty_workspace shown e
same_caller w shown e is = ap (λ (values : List PlainArray). record (caller_of empty_workspace shown e) { values = reverse values }) (values_anywhere w (parts_of e) e.values.items is.evaluation.values)

-- a caller got what the function gave
pub resumed_is : (w : PlainWorkspace) (shown : List ℕ) (found : Found) (e after : Evaluation) → IsCaller empty_workspace e → IsResumedWith found e after → evaluation_of w after ≡ resumed found (caller_of empty_workspace shown e)
resumed_is w shown None e after is with = ap (evaluation_of w) with ∙ ap (λ (caller : PlainCaller). resumed None caller) (same_caller w shown e is)
resumed_is w shown (Some array) e after is with = pushed w shown e after (held.Made array) is.there with ∙ ap (λ (caller : PlainCaller). resumed (Some array) caller) (same_caller w shown e is)

pub resumed_sound : (w : PlainWorkspace) (found : Found) (e after : Evaluation) → IsCaller empty_workspace e → IsResumedWith found e after → IsEvaluation w after
resumed_sound w None e after is with = subst (IsEvaluation w) (sym with) (record { reading = is.evaluation.reading; at = is.evaluation.at; values = (caller_anywhere w e is).evaluation.values })
resumed_sound w (Some array) e after is with =
    with_values_sound w e after (e.values.items ++ held.Made array ∷ []) (caller_anywhere w e is).evaluation
    (All-push (IsStackValue w (parts_of e)) e.values.items (held.Made array) (caller_anywhere w e is).evaluation.values refl) with

-- an interpreter without its innermost function
abbrev pub left_one : PlainInterpreter → PlainInterpreter
left_one m = record m { workspace = without_frame m.workspace; stack = drop 1 m.stack }

-- the innermost function is left with its result
pub leaves : (m : PlainInterpreter) (w : PlainWaiting) (ws : List PlainWaiting) (e : Evaluation) (caller : Evaluation) → m.stack ≡ w ∷ ws → w.caller ≡ caller_of empty_workspace (here_of m.input ws) caller
    → IsCaller empty_workspace caller → IsResumedWith (result_of w.function m.workspace) caller e
    → Moves m (from_end m.stack) 0 (left_one m) (λ s. onward (evaluation_of (left_one m).workspace e) (left_one m).stack s)
leaves m w ws e caller stacked called is with =
    moves_to m (left_one m) (from_end m.stack) (λ s. onward (evaluation_of (left_one m).workspace e) (left_one m).stack s) (λ asked count taken further.
    let s : State = state_at m asked count taken further in
    ap (λ (stack : List PlainWaiting). from_end stack s) stacked
    ∙ ap (λ (c : PlainCaller). onward (resumed (result_of w.function m.workspace) c) ws (record s { workspace = without_frame s.workspace; here = c.here })) called
    ∙ ap (λ (p : PlainEvaluation). onward p ws (record s { workspace = without_frame s.workspace; here = here_of m.input ws })) (sym (resumed_is (without_frame m.workspace) (here_of m.input ws) (result_of w.function m.workspace) caller e is with))
    ∙ ap (λ (stack : List PlainWaiting). onward (evaluation_of (without_frame m.workspace) e) (drop 1 stack) (record s { workspace = without_frame s.workspace; here = here_of m.input (drop 1 stack) })) (sym stacked))
