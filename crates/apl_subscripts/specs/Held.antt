-- Subscripts that a statement still holds, and what is wrong with items that they replace.
use Rattle.std.specs.Prelude.{◌≡◌, ℕ, List, [], ◌∷◌, Option, Some, None, Ok, Err, IsOk, option_map, slice_get}
use Rattle.apl_arrays.specs.Array.{PlainArray}
use Rattle.apl_arrays.specs.declared.report.Report.TheVariants.{Value}
use Rattle.apl_items.specs.Answers.{ArrayResult}
use Rattle.apl_selection.specs.Assignment.{assign_of}
use Rattle.apl_workspace.specs.Workspace.{PlainWorkspace}
use Rattle.apl_workspace.specs.declared.meaning.Meaning.{Meaning}
use Rattle.apl_workspace.specs.declared.meaning.Meaning.TheVariants as meaning
use Rattle.line_trees.specs.Nodes as node
use Rattle.line_trees.specs.Nodes.{PlainNode}
use Rattle.apl_meaning.specs.Nodes.{popped}
use Rattle.apl_values.specs.Parts.{plain_part}
use Rattle.apl_statements.specs.declared.evaluation.Evaluation.{Evaluation}
use Rattle.apl_statements.specs.Holding.{parts_of, stack_values}

-- the places between the brackets of a part: of an indexing, or of an assignment to items
abbrev pub places_in : Option PlainNode → List (Option ℕ)
places_in None = []
places_in (Some (node.constant items)) = []
places_in (Some (node.value name)) = []
places_in (Some (node.niladic name)) = []
places_in (Some (node.paren k)) = []
places_in (Some (node.indexed v places)) = places
places_in (Some (node.apply f left right axis)) = []
places_in (Some (node.assign name right)) = []
places_in (Some (node.assign_at name places right)) = places

-- those of a part of a statement
abbrev pub places_at : Evaluation → ℕ → List (Option ℕ)
places_at e at = places_in (option_map plain_part (slice_get (parts_of e) at))

-- the subscripts that a statement holds, one for each place between the brackets: its newest values, where they are given
abbrev pub subs_held : PlainWorkspace → Evaluation → List (Option ℕ) → List (Option PlainArray)
subs_held w e places = (popped places (stack_values w e)).subs

-- the values that a statement holds behind its subscripts
abbrev pub behind_subs : PlainWorkspace → Evaluation → List (Option ℕ) → List PlainArray
behind_subs w e places = (popped places (stack_values w e)).values

-- an array whose items are replaced: the first of these values is the right side
abbrev pub replaced_by : PlainArray → List (Option PlainArray) → List PlainArray → ArrayResult
replaced_by old subs [] = Err Value
replaced_by old subs (right ∷ values) = assign_of old subs right

-- items of what a name stands for may be replaced: there is a right side, and nothing is wrong with an array whose items are. A shared name is used first
abbrev pub MayBeReplaced : Meaning → List (Option PlainArray) → List PlainArray → Type 0
MayBeReplaced seen subs [] = ⊥
MayBeReplaced meaning.Nothing subs (right ∷ values) = ⊥
MayBeReplaced (meaning.Value old) subs (right ∷ values) = IsOk (assign_of old subs right)
MayBeReplaced (meaning.Function function) subs (right ∷ values) = ⊥
MayBeReplaced (meaning.Label line) subs (right ∷ values) = ⊥
MayBeReplaced (meaning.Shared copy) subs (right ∷ values) = Unit {0}

-- what takes the place of the value of a name whose items are replaced; nothing yet where it is shared, and used first
abbrev pub IsReplacement : Meaning → List (Option PlainArray) → List PlainArray → Option PlainArray → Type 0
IsReplacement seen subs values None = (copy : Option PlainArray) × (seen ≡ meaning.Shared copy) × MayBeReplaced seen subs values
IsReplacement seen subs values (Some new) = (old : PlainArray) × (seen ≡ meaning.Value old) × (replaced_by old subs values ≡ Ok new)
