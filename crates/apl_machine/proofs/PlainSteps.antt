-- Parts that are done where the statement stands.
use Rattle.std.proofs.Common.{◌≡◌, ℕ, Bool, List, false, ap, subst, ◌∙◌}
use Rattle.std.specs.Prelude.{Option, is_some}
use Rattle.line_trees.specs.Nodes as node
use Rattle.line_trees.specs.Nodes.{PlainNode}
use Rattle.line_trees.specs.declared.tree.Fun.TheVariants as fun
use Rattle.apl_verbs.specs.declared.verb.Verb.{Verb}
use Rattle.apl_meaning.specs.Meaning.{ran}
use Rattle.apl_meaning.specs.Nodes.{apply_step, assign_step}
use Rattle.apl_statements.specs.declared.evaluation.Evaluation.{Evaluation}
use Rattle.apl_statements.specs.Interpreter.{PlainInterpreter, state_at}
use Rattle.apl_statements.specs.Moves.{if_there, part_takes}
use Rattle.apl_statements.proofs.Same.{SameAt}
use Rattle.apl_machine.specs.declared.passing.PlainStep.{PlainStep}
use Rattle.apl_machine.specs.declared.passing.PlainStep.TheVariants as step
use Rattle.apl_machine.specs.Nexts.{DoesNext, IsNext, IsNextStep, IsStepOf}
use Rattle.apl_machine.proofs.StepParts.{next_apply, next_paren, next_takes, passed, to_come}

-- the next part is this node, and does this
pub next_does : (e : Evaluation) (n : PlainNode) (next : PlainStep) → IsNext e n → e.is_wanting ≡ false → IsStepOf n next → IsNextStep e next
next_does e n step.Parentheses is there does = record { there = there; which = n; is = is; does = does }
next_does e n (step.Applies verb has_left has_axis) is there does = record { there = there; which = n; is = is; does = does }
next_does e n (step.Assigns name) is there does = record { there = there; which = n; is = is; does = does }
next_does e n step.Other is there does = tt

-- a pair of parentheses
pub paren_next : (m : PlainInterpreter) (e : Evaluation) → DoesNext e step.Parentheses → SameAt m (to_come m e) (to_come m (passed e))
paren_next m e d = next_paren m e d.does.0 (subst (IsNext e) d.does.1 d.is) d.there

-- a primitive function
pub verb_next : (m : PlainInterpreter) (e : Evaluation) (verb : Verb) (has_left has_axis : Bool) → DoesNext e (step.Applies verb has_left has_axis)
    → SameAt m (to_come m e) (part_takes m (passed e) (apply_step ran (fun.Verb verb) (if_there has_left) (if_there has_axis)))
verb_next m e verb has_left has_axis d asked count taken further =
    let left : Option ℕ = d.does.0 in
    let axis : Option ℕ = d.does.2 in
    next_apply m e (fun.Verb verb) left d.does.1 axis (subst (IsNext e) d.does.3 d.is) d.there asked count taken further
    ∙ ap (λ (b : Bool). part_takes m (passed e) (apply_step ran (fun.Verb verb) (if_there b) (if_there (is_some axis))) (state_at m asked count taken further)) d.does.4
    ∙ ap (λ (b : Bool). part_takes m (passed e) (apply_step ran (fun.Verb verb) (if_there has_left) (if_there b)) (state_at m asked count taken further)) d.does.5

-- an assignment
pub assign_next : (m : PlainInterpreter) (e : Evaluation) (name : List ℕ) → DoesNext e (step.Assigns name) → SameAt m (to_come m e) (part_takes m (passed e) (assign_step name))
assign_next m e name d = next_takes m e (node.assign name d.does.0) (subst (IsNext e) d.does.1 d.is) d.there
