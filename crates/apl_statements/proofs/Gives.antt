-- A statement gets a value, or a part of it takes values.
use Rattle.std.proofs.Common.{◌≡◌, List, [], ◌∷◌, ◌++◌, sym, ap, subst, ◌∙◌}
use Rattle.std.specs.Prelude.{Some, All}
use Rattle.apl_arrays.specs.Array.{PlainArray}
use Rattle.apl_workspace.specs.Workspace.{PlainWorkspace}
use Rattle.apl_meaning.specs.State.{State, Outcome, gives, and_then}
use Rattle.apl_meaning.specs.Tasks.{Next}
use Rattle.apl_meaning.specs.Expressions.{Found}
use Rattle.apl_meaning.specs.Nodes.{Values, leaving_values}
use Rattle.apl_values.specs.declared.values.StackValue.{StackValue}
use Rattle.apl_values.specs.Values.{IsStackValue, stack_value}
use Rattle.apl_statements.specs.declared.evaluation.Evaluation.{Evaluation}
use Rattle.apl_statements.specs.declared.flow.Flow.TheVariants as flow
use Rattle.apl_statements.specs.Evaluating.{caller_of, evaluation_of}
use Rattle.apl_statements.specs.Interpreter.{PlainInterpreter, here, state_at}
use Rattle.apl_statements.specs.Moves.{Moves, flow_to_come, part_gives, part_takes}
use Rattle.apl_statements.specs.Sound.{IsCaller, IsEvaluation}
use Rattle.apl_statements.specs.Stack.{PlainEvaluation, carried_on, onward}
use Rattle.apl_statements.specs.Holding.{IsWithValues, stack_values, parts_of}
use Rattle.apl_statements.proofs.Held.{pushed}
use Rattle.apl_statements.proofs.Parts.{part_leaves}
use Rattle.apl_statements.proofs.Same.{at_once}

-- a statement with other values, which are arrays, is one still
pub with_values_sound : (w : PlainWorkspace) (e after : Evaluation) (these : List StackValue) → IsEvaluation w e → All (IsStackValue w (parts_of e)) these → IsWithValues e these after → IsEvaluation w after
with_values_sound w e after these is held with =
    subst (IsEvaluation w) (sym with.same) (record { reading = is.reading; at = is.at; values = subst (All (IsStackValue w (parts_of e))) (sym with.values) held })

-- what is to come of a statement that got a value
pub push_comes : (m : PlainInterpreter) (e after : Evaluation) (h : StackValue) → IsCaller m.workspace e → IsWithValues e (e.values.items ++ h ∷ []) after
    → Moves m (part_gives m e (λ s. gives (Some (stack_value m.workspace (parts_of e) h)) s)) 0 m (flow_to_come m (flow.Evaluates after))
push_comes m e after h is with =
    at_once m (part_gives m e (λ s. gives (Some (stack_value m.workspace (parts_of e) h)) s)) (flow_to_come m (flow.Evaluates after)) (λ asked count taken further.
    ap (λ (p : PlainEvaluation). onward p m.stack (state_at m asked count taken further)) (sym (pushed m.workspace (here m) e after h is.there with)))

-- a statement without its newest values is one still, and so is a caller
pub fewer_sound : (w : PlainWorkspace) (e after : Evaluation) → after ≡ record e { values = after.values } → All (IsStackValue w (parts_of e)) after.values.items → IsCaller w e → IsCaller w after
fewer_sound w e after same held is =
    subst (IsCaller w) (sym same) (record { evaluation = record { reading = is.evaluation.reading; at = is.evaluation.at; values = held }; there = is.there })

-- a part takes its values, leaves those under them, and gives what it gives
pub takes_values : (m : PlainInterpreter) (e after : Evaluation) (values : List PlainArray) (part : List PlainArray → State → Outcome Values) (found : State → Outcome Found) (s : State)
    → after ≡ record e { values = after.values } → stack_values m.workspace e ≡ values → part values s ≡ leaving_values (stack_values m.workspace after) (found s)
    → part_takes m e part s ≡ part_gives m after found s
takes_values m e after values part found s same are gives_it =
    let onto : Outcome Values → Outcome Next = λ o. and_then o (λ values t. onward (record (evaluation_of m.workspace e) { values = values }) m.stack t) in
    ap (λ (list : List PlainArray). onto (part list s)) are
    ∙ ap onto gives_it
    ∙ part_leaves m e (stack_values m.workspace after) (found s)
    ∙ ap (λ (other : Evaluation). carried_on (found s) (record (caller_of m.workspace (here m) other) { values = stack_values m.workspace after }) m.stack) (sym same)
