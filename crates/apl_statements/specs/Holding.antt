-- What a statement under evaluation holds: its parts, and the values that no part has taken yet.
use Rattle.std.specs.Prelude.{◌≡◌, ◌++◌, ℕ, true, List, [], ◌∷◌, Option, Some, None, map, reverse}
use Rattle.std.specs.Arc.{arc_value}
use Rattle.apl_arrays.specs.Array.{PlainArray}
use Rattle.apl_workspace.specs.Workspace.{PlainWorkspace}
use Rattle.apl_values.specs.declared.part.Part.{Part}
use Rattle.apl_values.specs.declared.values.StackValue.{StackValue}
use Rattle.apl_values.specs.declared.values.StackValue.TheVariants as held
use Rattle.apl_values.specs.Values.{stack_value}
use Rattle.apl_statements.specs.declared.evaluation.Evaluation.{Evaluation}

-- the parts of a statement
abbrev pub parts_of : Evaluation → List Part
parts_of e = (arc_value e.reading).parts.items

-- the values that no part of a statement has taken yet, the newest first
abbrev pub stack_values : PlainWorkspace → Evaluation → List PlainArray
stack_values w e = reverse (map (stack_value w (parts_of e)) e.values.items)

-- a statement that differs in its values alone, which are these
pub record IsWithValues (before : Evaluation) (these : List StackValue) (after : Evaluation) : Type 0 where
  pub same : after ≡ record before { values = after.values }
  pub values : after.values.items ≡ these

-- a statement got what a function gave: a value behind its others, or none, and then one is wanting
abbrev pub IsResumedWith : Option PlainArray → Evaluation → Evaluation → Type 0
IsResumedWith None before after = after ≡ record before { is_wanting = true }
IsResumedWith (Some array) before after = IsWithValues before (before.values.items ++ held.Made array ∷ []) after

-- what an assignment to a name gives: another value where there is one, else the one that the name has then
abbrev pub stack_value_given : List ℕ → Option PlainArray → StackValue
stack_value_given name None = held.Named name
stack_value_given name (Some array) = held.Made array
