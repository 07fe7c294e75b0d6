-- The next part of a statement where the statement goes on behind it in any case.
use Rattle.std.specs.Prelude.{◌≡◌, ◌<◌, ◌+◌, ℕ, pos, List, Bool, true, false, Option, Some, None, is_some, option_map, slice_get}
use Rattle.apl_arrays.specs.Array.{PlainArray, scalar}
use Rattle.apl_workspace.specs.Workspace.{PlainWorkspace, is_assignable}
use Rattle.apl_workspace.specs.declared.meaning.Meaning.{Meaning}
use Rattle.apl_workspace.specs.declared.meaning.Meaning.TheVariants as meaning
use Rattle.line_trees.specs.Nodes as node
use Rattle.line_trees.specs.Nodes.{PlainNode}
use Rattle.line_trees.specs.declared.tree.Fun.TheVariants as fun
use Rattle.apl_meaning.specs.State.{gives}
use Rattle.apl_values.specs.Parts.{plain_part}
use Rattle.apl_values.specs.declared.values.StackValue.{StackValue}
use Rattle.apl_values.specs.declared.values.StackValue.TheVariants as held
use Rattle.apl_values.specs.Values.{IsStackValue, stack_value}
use Rattle.apl_statements.specs.declared.evaluation.Evaluation.{Evaluation}
use Rattle.apl_machine.specs.declared.passing.PlainStep.{PlainStep}
use Rattle.apl_machine.specs.declared.passing.PlainStep.TheVariants as step
use Rattle.apl_statements.specs.Evaluating.{evaluation_of}
use Rattle.apl_statements.specs.Interpreter.{PlainInterpreter}
use Rattle.apl_statements.specs.Moves.{Moves, part_gives}
use Rattle.apl_statements.specs.Stack.{onward}
use Rattle.apl_statements.specs.Holding.{parts_of}
use Rattle.apl_statements.specs.Work.{parts_left}
use Rattle.apl_subscripts.specs.Held.{MayBeReplaced, behind_subs, subs_held}

-- the value of a name is held so: by the name, or itself
abbrev pub IsHeldAs : PlainArray → List ℕ → StackValue → Type 0
IsHeldAs array name (held.Made made) = made ≡ array
IsHeldAs array name (held.Constant at) = ⊥
IsHeldAs array name (held.Named other) = other ≡ name

-- a name that stands for this is held so: one that has a value by the name or as the value, a label as the number of its line, and no other at all
abbrev pub IsHeldFor : Meaning → List ℕ → StackValue → Type 0
IsHeldFor meaning.Nothing name value = ⊥
IsHeldFor (meaning.Value array) name value = IsHeldAs array name value
IsHeldFor (meaning.Function function) name value = ⊥
IsHeldFor (meaning.Label line) name value = value ≡ held.Made (scalar (pos line))
IsHeldFor (meaning.Shared copy) name value = ⊥

-- no value is wanting, and the next part gives this one
pub record IsNextStackValue (m : PlainInterpreter) (e : Evaluation) (held : StackValue) : Type 0 where
  pub there : e.is_wanting ≡ false
  pub is_held : IsStackValue m.workspace (parts_of e) held
  pub moves : Moves m (λ s. onward (evaluation_of m.workspace e) m.stack s) 0 m (part_gives m (record e { at = e.at + 1 }) (λ s. gives (Some (stack_value m.workspace (parts_of e) held)) s))

-- the places of an assignment to items, and none where a name is assigned
abbrev pub given_places : Bool → List (Option ℕ) → Option (List (Option ℕ))
given_places false places = None
given_places true places = Some places

-- what a name stands for takes a value; where items of it are replaced at these places, they may be replaced by what a statement holds
abbrev pub MayBeAssigned : Option (List (Option ℕ)) → PlainWorkspace → Evaluation → Meaning → Type 0
MayBeAssigned None w e seen = is_assignable seen ≡ true
MayBeAssigned (Some places) w e seen = MayBeReplaced seen (subs_held w e places) (behind_subs w e places)

-- a part was done, or the statement is as it was
abbrev pub HasPassed : Evaluation → Evaluation → Bool → Type 0
HasPassed before after true = parts_left after < parts_left before
HasPassed before after false = after ≡ before

-- the next part is this node
abbrev pub IsNext : Evaluation → PlainNode → Type 0
IsNext e n = option_map plain_part (slice_get (parts_of e) e.at) ≡ Some n

-- a node does this, or something else
abbrev pub IsStepOf : PlainNode → PlainStep → Type 0
IsStepOf n step.Parentheses = (k : ℕ) × (n ≡ node.paren k)
IsStepOf n (step.Applies verb has_left has_axis) = (left : Option ℕ) × (right : ℕ) × (axis : Option ℕ) × (n ≡ node.apply (fun.Verb verb) left right axis) × (is_some left ≡ has_left) × (is_some axis ≡ has_axis)
IsStepOf n (step.Assigns name) = (right : ℕ) × (n ≡ node.assign name right)
IsStepOf n step.Other = Unit {0}

-- no value is wanting, and the next part does this
pub record DoesNext (e : Evaluation) (next : PlainStep) : Type 0 where
  pub there : e.is_wanting ≡ false
  pub which : PlainNode
  pub is : IsNext e which
  pub does : IsStepOf which next

-- the next part does this, or something else
abbrev pub IsNextStep : Evaluation → PlainStep → Type 0
IsNextStep e step.Parentheses = DoesNext e step.Parentheses
IsNextStep e (step.Applies verb has_left has_axis) = DoesNext e (step.Applies verb has_left has_axis)
IsNextStep e (step.Assigns name) = DoesNext e (step.Assigns name)
IsNextStep e step.Other = Unit {0}
