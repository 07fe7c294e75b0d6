-- References to names, assignments to them, and assignments to their items.
use Rattle.std.specs.Prelude.{ℕ, pos, List, Option}
use Rattle.apl_arrays.specs.Array.{PlainArray, scalar}
use Rattle.apl_arrays.specs.declared.report.Report.TheVariants.{Syntax, Value}
use Rattle.apl_selection.specs.Assignment.{assign_of}
use Rattle.apl_workspace.specs.Workspace.{assigned, look}
use Rattle.apl_workspace.specs.declared.meaning.Meaning.{Meaning}
use Rattle.apl_workspace.specs.declared.meaning.Meaning.TheVariants as meaning
use Rattle.apl_meaning.specs.State.{State, Outcome, gives, refuses, Effect, and_then, outcome_of, with_workspace}
use Rattle.apl_meaning.specs.Answers.{use_of, set_of}

-- the value of a name that stands for this: a label's is the number of its line, and a shared name is used. No statement refers to a function so
abbrev pub reference_by : Meaning → List ℕ → State → Outcome PlainArray
reference_by meaning.Nothing name s = refuses Value s
reference_by (meaning.Value value) name s = gives value s
reference_by (meaning.Function function) name s = refuses Syntax s
reference_by (meaning.Label line) name s = gives (scalar (pos line)) s
reference_by (meaning.Shared copy) name s = use_of name s

-- a reference to a name
abbrev pub reference : List ℕ → State → Outcome PlainArray
reference name s = reference_by (look s.workspace name) name s

-- a name that stands for this gets a value: a shared name is set, and a label or a function takes none
abbrev pub assignment_by : Meaning → List ℕ → PlainArray → State → Effect
assignment_by meaning.Nothing name value s = with_workspace (assigned s.workspace name value) s
assignment_by (meaning.Value old) name value s = with_workspace (assigned s.workspace name value) s
assignment_by (meaning.Function function) name value s = refuses Syntax s
assignment_by (meaning.Label line) name value s = refuses Syntax s
assignment_by (meaning.Shared copy) name value s = set_of name value s

-- an assignment to a name
abbrev pub assignment : List ℕ → PlainArray → State → Effect
assignment name value s = assignment_by (look s.workspace name) name value s

-- the array whose items are to be replaced, where the name stands for this; a label's are not
abbrev pub target_by : Meaning → List ℕ → State → Outcome PlainArray
target_by meaning.Nothing name s = refuses Value s
target_by (meaning.Value value) name s = gives value s
target_by (meaning.Function function) name s = refuses Syntax s
target_by (meaning.Label line) name s = refuses Syntax s
target_by (meaning.Shared copy) name s = use_of name s

-- an assignment to items of a name: the name's value with these items replaced is assigned to the name. So a shared name is used and then set
abbrev pub items_assignment : List ℕ → List (Option PlainArray) → PlainArray → State → Effect
items_assignment name subs value s =
    and_then (target_by (look s.workspace name) name s) (λ old s.
    and_then (outcome_of (assign_of old subs value) s) (λ new s. assignment name new s))
