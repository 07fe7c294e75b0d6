-- A part that only gives a value is done at once.
use Rattle.std.proofs.Common.{◌≡◌, ℕ, false, List, refl, sym, ap, subst, ◌∙◌}
use Rattle.std.specs.Prelude.{pos, Option, Some, None, IfSome, IsSome, slice_get, unwrap_or}
use Rattle.apl_workspace.specs.Workspace.{look}
use Rattle.apl_workspace.specs.declared.meaning.Meaning.{Meaning}
use Rattle.apl_workspace.specs.declared.meaning.Meaning.TheVariants as meaning
use Rattle.line_trees.specs.Nodes as node
use Rattle.apl_meaning.specs.Deeds.{value_of}
use Rattle.apl_meaning.specs.Expressions.{valued}
use Rattle.apl_meaning.specs.State.{gives}
use Rattle.apl_meaning.specs.Variables.{reference}
use Rattle.apl_arrays.specs.Array.{PlainArray, scalar}
use Rattle.apl_values.specs.declared.part.Part.{Part}
use Rattle.apl_values.specs.declared.part.Part.TheVariants as part
use Rattle.apl_values.specs.declared.values.StackValue.{StackValue}
use Rattle.apl_values.specs.declared.values.StackValue.TheVariants as held
use Rattle.apl_values.specs.Parts.{IsConstant}
use Rattle.apl_values.specs.Values.{constant_of, stack_value, no_array}
use Rattle.apl_statements.specs.declared.evaluation.Evaluation.{Evaluation}
use Rattle.apl_statements.specs.Evaluating.{caller_of}
use Rattle.apl_statements.specs.Interpreter.{PlainInterpreter, here, state_at}
use Rattle.apl_statements.specs.Moves.{part_gives}
use Rattle.apl_statements.specs.Stack.{carried_on}
use Rattle.apl_statements.specs.Holding.{parts_of}
use Rattle.apl_statements.proofs.Same.{at_once}
use Rattle.apl_machine.specs.Nexts.{IsHeldAs, IsHeldFor, IsNext, IsNextStackValue}
use Rattle.apl_machine.proofs.StepParts.{next_constant, next_gives, passed, refers_to, to_come}

-- a constant
pub constant_next : (m : PlainInterpreter) (e : Evaluation) (array : PlainArray) → slice_get (parts_of e) e.at ≡ Some (part.Constant array) → e.is_wanting ≡ false → IsConstant array → IsNextStackValue m e (held.Constant e.at)
constant_next m e array is there constant = record {
  there = there;
  is_held = subst (λ (found : Option Part). IsSome (constant_of found)) (sym is) refl;
  moves = at_once m (to_come m e) (part_gives m (passed e) (λ s. gives (Some (stack_value m.workspace (parts_of e) (held.Constant e.at))) s)) (next_constant m e array is there constant);
}

-- a name that has a value
value_next : (m : PlainInterpreter) (e : Evaluation) (name : List ℕ) (array : PlainArray) (one : StackValue) → IsNext e (node.value name) → e.is_wanting ≡ false → look m.workspace name ≡ meaning.Value array → IsHeldAs array name one → IsNextStackValue m e one
value_next m e name array (held.Constant at) next there seen is = absurd is
value_next m e name array (held.Made made) next there seen is = subst (λ (one : PlainArray). IsNextStackValue m e (held.Made one)) (sym is) (record {
  there = there;
  is_held = refl;
  moves = at_once m (to_come m e) (part_gives m (passed e) (λ s. gives (Some (stack_value m.workspace (parts_of e) (held.Made array))) s)) (λ asked count taken further.
      next_gives m e (node.value name) (λ s. valued (reference name s)) next there (λ values t. refl) asked count taken further
      ∙ refers_to m (passed e) name (meaning.Value array) seen asked count taken further);
})
value_next m e name array (held.Named other) next there seen is = subst (λ (one : List ℕ). IsNextStackValue m e (held.Named one)) (sym is) (record {
  there = there;
  is_held = subst (λ (found : Meaning). IsSome (value_of found)) (sym seen) refl;
  moves = at_once m (to_come m e) (part_gives m (passed e) (λ s. gives (Some (stack_value m.workspace (parts_of e) (held.Named name))) s)) (λ asked count taken further.
      next_gives m e (node.value name) (λ s. valued (reference name s)) next there (λ values t. refl) asked count taken further
      ∙ refers_to m (passed e) name (meaning.Value array) seen asked count taken further
      ∙ ap (λ (found : Meaning). carried_on (gives (Some (unwrap_or (value_of found) no_array)) (state_at m asked count taken further)) (caller_of m.workspace (here m) (passed e)) m.stack) (sym seen));
})

-- a name that has a value, or is a label
held_next : (m : PlainInterpreter) (e : Evaluation) (name : List ℕ) (seen : Meaning) (one : StackValue) → IsNext e (node.value name) → e.is_wanting ≡ false → look m.workspace name ≡ seen → IsHeldFor seen name one → IsNextStackValue m e one
held_next m e name meaning.Nothing one next there seen is = absurd is
held_next m e name (meaning.Function function) one next there seen is = absurd is
held_next m e name (meaning.Shared copy) one next there seen is = absurd is
held_next m e name (meaning.Value array) one next there seen is = value_next m e name array one next there seen is
held_next m e name (meaning.Label line) one next there seen is = subst (IsNextStackValue m e) (sym is) (record {
  there = there;
  is_held = refl;
  moves = at_once m (to_come m e) (part_gives m (passed e) (λ s. gives (Some (stack_value m.workspace (parts_of e) (held.Made (scalar (pos line))))) s)) (λ asked count taken further.
      next_gives m e (node.value name) (λ s. valued (reference name s)) next there (λ values t. refl) asked count taken further
      ∙ refers_to m (passed e) name (meaning.Label line) seen asked count taken further);
})

pub name_next : (m : PlainInterpreter) (e : Evaluation) (name : List ℕ) (found : Option StackValue) → IsNext e (node.value name) → e.is_wanting ≡ false → IfSome found (IsHeldFor (look m.workspace name) name) → IfSome found (IsNextStackValue m e)
name_next m e name None next there is = tt
name_next m e name (Some one) next there is = held_next m e name (look m.workspace name) one next there refl is
