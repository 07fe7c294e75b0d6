-- Calls of defined functions.
use Rattle.std.specs.Prelude.{◌&&◌, ℕ, Bool, pos, List, [], ◌∷◌, Option, Some, None, length, nat_le, is_some, option_and_then, unwrap_or, if◌then◌else◌}
use Rattle.apl_arrays.specs.Array.{PlainArray, scalar}
use Rattle.apl_arrays.specs.declared.report.Report.TheVariants.{Syntax, WsFull}
use Rattle.apl_workspace.specs.Function.{PlainFunction}
use Rattle.apl_workspace.specs.Header.{PlainHeader}
use Rattle.apl_workspace.specs.Limits.{most_depth}
use Rattle.apl_workspace.specs.Meaning.{NameTable, meaning_in}
use Rattle.apl_workspace.specs.Workspace.{PlainWorkspace, look, with_frame, without_frame}
use Rattle.apl_workspace.specs.declared.args.Args.{Args}
use Rattle.apl_workspace.specs.declared.meaning.Meaning.{Meaning}
use Rattle.apl_workspace.specs.declared.meaning.Meaning.TheVariants as meaning
use Rattle.apl_meaning.specs.State.{State, Outcome, gives, refuses, Effect, and_then, with_workspace}
use Rattle.apl_meaning.specs.Tasks.{Run, lines_from}
use Rattle.apl_meaning.specs.Verbs.{both_or_neither}

-- a function is entered; where as many are under way as may be, or its frame would weigh too much, that is WS FULL
abbrev pub entering : List ℕ → Args → State → Effect
entering name args s =
    if nat_le most_depth (length s.workspace.frames) then refuses WsFull s
    else with_workspace (with_frame s.workspace name args) s

-- the value of a local name that stands for this: a label's is the number of its line
abbrev pub local_value : Meaning → Option PlainArray
local_value meaning.Nothing = None
local_value (meaning.Value value) = Some value
local_value (meaning.Function function) = None
local_value (meaning.Label line) = Some (scalar (pos line))
local_value (meaning.Shared copy) = None

-- the value of a result in the innermost frame
abbrev pub result_value_in : List NameTable → List ℕ → Option PlainArray
result_value_in [] result = None
result_value_in (frame ∷ frames) result = local_value (unwrap_or (meaning_in frame result) meaning.Nothing)

-- the result of a function under way, if it has one
abbrev pub result_of : PlainFunction → PlainWorkspace → Option PlainArray
result_of function w = option_and_then (result_value_in w.frames) function.header.result

-- a function is left with its result, and the statement that called it goes on
abbrev pub leaving : PlainFunction → List ℕ → State → Outcome (Option PlainArray)
leaving function caller s = gives (result_of function s.workspace) (record s { workspace = without_frame s.workspace; here = caller })

-- the arguments are those of a header
abbrev pub takes : PlainHeader → Args → Bool
takes header args = both_or_neither (is_some header.left) (is_some args.left) && both_or_neither (is_some header.right) (is_some args.right)

-- a function is called: it is entered, its lines are begun from the first on, and it is left
abbrev pub called : Run → PlainFunction → List ℕ → Args → State → Outcome (Option PlainArray)
called run function name args s =
    and_then (entering name args s) (λ _ t. and_then (run (lines_from function 1) t) (λ _ t. leaving function s.here t))

-- a call where the name stands for this: the function is entered, its lines are begun from the first on, and it is left. No statement calls what is no function
abbrev pub call_by : Run → Meaning → List ℕ → Args → State → Outcome (Option PlainArray)
call_by run meaning.Nothing name args s = refuses Syntax s
call_by run (meaning.Value value) name args s = refuses Syntax s
call_by run (meaning.Function function) name args s = if takes function.header args then called run function name args s else refuses Syntax s
call_by run (meaning.Label line) name args s = refuses Syntax s
call_by run (meaning.Shared copy) name args s = refuses Syntax s

-- a call of the function that a name stands for
abbrev pub call : Run → List ℕ → Args → State → Outcome (Option PlainArray)
call run name args s = call_by run (look s.workspace name) name args s
