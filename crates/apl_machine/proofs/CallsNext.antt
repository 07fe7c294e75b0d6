-- Functions that are called where the statement stands.
use Rattle.std.proofs.Common.{◌≡◌, ◌≢◌, ℕ, Bool, List, false, refl, sym, ap, subst, ◌∙◌}
use Rattle.std.specs.Prelude.{ℤ, Option, None, Some, Result, Ok, Err, IfSome, is_some, option_map}
use Rattle.apl_arrays.specs.Array.{PlainArray}
use Rattle.line_trees.specs.Nodes as node
use Rattle.line_trees.specs.Nodes.{PlainNode}
use Rattle.line_trees.specs.declared.tree.Fun.{Fun}
use Rattle.line_trees.specs.declared.tree.Fun.TheVariants as fun
use Rattle.apl_meaning.specs.Meaning.{ran}
use Rattle.apl_meaning.specs.Nodes.{apply_step}
use Rattle.apl_values.specs.declared.values.StackValue.{StackValue}
use Rattle.apl_statements.specs.declared.evaluation.Evaluation.{Evaluation}
use Rattle.apl_statements.specs.Interpreter.{PlainInterpreter, state_at}
use Rattle.apl_statements.specs.Moves.{if_there, part_takes}
use Rattle.apl_statements.proofs.Same.{SameAt}
use Rattle.apl_machine.specs.Axes.{IsAxis}
use Rattle.apl_machine.specs.Calls.{CallsNext, IsCallOf}
use Rattle.apl_machine.specs.Nexts.{IsNext}
use Rattle.apl_machine.proofs.StepParts.{next_apply, passed, to_come}

-- a node that applies a function of a name calls it
pub call_is : (n : PlainNode) (f : Fun) (left : Option ℕ) (right : ℕ) (has_left : Bool) (found : Option (List ℕ × Bool)) → n ≡ node.apply f left right None → is_some left ≡ has_left
    → IfSome found (λ call. (f ≡ fun.Defined call.0) × (call.1 ≡ has_left)) → IfSome found (λ call. IsCallOf n call.0 call.1)
call_is n f left right has_left None is there defined = tt
call_is n f left right has_left (Some call) is there defined = (left, right, is ∙ ap (λ (f : Fun). node.apply f left right None) defined.0, there ∙ sym defined.1)

pub next_calls : (e : Evaluation) (n : PlainNode) (found : Option (List ℕ × Bool)) → IsNext e n → e.is_wanting ≡ false → IfSome found (λ call. IsCallOf n call.0 call.1) → IfSome found (λ call. CallsNext e call.0 call.1)
next_calls e n None is there calls = tt
next_calls e n (Some call) is there calls = record { there = there; which = n; is = is; calls = calls }

-- the function takes its arguments
pub called_next : (m : PlainInterpreter) (e : Evaluation) (name : List ℕ) (has_left : Bool) → CallsNext e name has_left
    → SameAt m (to_come m e) (part_takes m (passed e) (apply_step ran (fun.Defined name) (if_there has_left) (if_there false)))
called_next m e name has_left d asked count taken further =
    next_apply m e (fun.Defined name) d.calls.0 d.calls.1 None (subst (IsNext e) d.calls.2 d.is) d.there asked count taken further
    ∙ ap (λ (b : Bool). part_takes m (passed e) (apply_step ran (fun.Defined name) (if_there b) (if_there false)) (state_at m asked count taken further)) d.calls.3

-- no axis is there where none is asked for
pub no_axis : (value : StackValue → PlainArray) (axis : Option StackValue) → is_some axis ≡ false → IsAxis (option_map value axis) None
no_axis value None none = refl
no_axis value (Some held) none = absurd cc
