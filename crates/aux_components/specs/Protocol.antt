-- The protocol of component files: what is done at each value in each state.
use Rattle.std.specs.Prelude.{◌≡◌, ◌⊎◌, ℕ, List, [], ◌∷◌, Option, None, Some, Result, Ok, Err, length, nat_le, if◌then◌else◌}
use Rattle.apl_arrays.specs.Array.{PlainArray}
use Rattle.apl_arrays.specs.File.{is_file_name}
use Rattle.apl_io.specs.declared.store_error.StoreError.{StoreError}
use Rattle.apl_io.specs.declared.store_error.StoreError.TheVariants.{Failed, WantOfMemory}
use Rattle.auxiliaries.specs.File.{most_file_bytes}
use Rattle.auxiliaries.specs.Protocol.{code}
use Rattle.aux_components.specs.Request.{Request, count, get, next, append, replace, other, request_of}
use Rattle.aux_components.specs.File.{AreComponents, AreNoComponents, component_asked, components_changed, file_bytes}

-- between requests, with an array to be handed out, or with the name of a file that is to be changed and the number of the component whose place an array takes; without a number it goes last
pub data FileState : Type 0 where
  idle : FileState
  holding : PlainArray → FileState
  taking : List ℕ → Option ℕ → FileState

-- what a value leads to: an answer and the next state with no call of the store, a look at a file, or a change of one
pub data Step : Type 0 where
  answers : PlainArray → FileState → Step
  asks : List ℕ → Option ℕ → Step
  changes : List ℕ → Option ℕ → PlainArray → Step

-- no request here: 2, and nothing changes
abbrev pub no_request : FileState → Step
no_request state = answers (code 2) state

-- COUNT and GET read the file
abbrev pub step_ask : List ℕ → Option ℕ → FileState → Step
step_ask name number state = if is_file_name name then asks name number else no_request state

-- APPEND and REPLACE wait for an array
abbrev pub step_take : List ℕ → Option ℕ → FileState → Step
step_take name number state = if is_file_name name then answers (code 0) (taking name number) else no_request state

-- NEXT hands out the array that is held
abbrev pub step_next : FileState → Step
step_next idle = no_request idle
step_next (holding array) = answers array idle
step_next (taking name number) = no_request (taking name number)

-- what a request leads to
abbrev pub request_step : Request → FileState → Step
request_step (count name) state = step_ask name None state
request_step (get name number) state = step_ask name (Some number) state
request_step next state = step_next state
request_step (append name) state = step_take name None state
request_step (replace name number) state = step_take name (Some number) state
request_step other state = no_request state

-- what a value leads to: the array that a file waits for may be any
abbrev pub protocol_step : PlainArray → FileState → Step
protocol_step value idle = request_step (request_of value) idle
protocol_step value (holding array) = request_step (request_of value) (holding array)
protocol_step value (taking name number) = changes name number value

-- what was asked of the components of a file is held: 5 where there is no such component
abbrev pub Finds : Option PlainArray → PlainArray → FileState → Type 0
Finds None answer state = (answer ≡ code 5) × (state ≡ idle)
Finds (Some array) answer state = (answer ≡ code 0) × (state ≡ holding array)

-- after the store was asked for the file: 1 where there is none, 3 where the store failed, 4 where it is no component file
abbrev pub AfterAsked : Option ℕ → Result (Option (List ℕ)) StoreError → PlainArray → FileState → Type 0
AfterAsked number (Ok None) answer state = (answer ≡ code 1) × (state ≡ idle)
AfterAsked number (Ok (Some bytes)) answer state = ((arrays : List PlainArray) × AreComponents bytes arrays × Finds (component_asked number arrays) answer state) ⊎ (AreNoComponents bytes × (answer ≡ code 4) × (state ≡ idle))
AfterAsked number (Err Failed) answer state = (answer ≡ code 3) × (state ≡ idle)
AfterAsked number (Err WantOfMemory) answer state = ⊥

-- what is due of a file that is to be changed, once it was read: that the change is refused by a number, or that the file is replaced by these bytes
pub data DueChange : Type 0 where
  refuses : ℕ → DueChange
  writes : List ℕ → DueChange

-- the components after the change are written: 5 where there is no such component, 4 where the file would be too large
abbrev pub due_of : Option (List PlainArray) → DueChange
due_of None = refuses 5
due_of (Some arrays) = if nat_le (length (file_bytes arrays)) most_file_bytes then writes (file_bytes arrays) else refuses 4

-- a file that is not there begins with what is added to it; no component of it can be replaced
abbrev pub due_of_none : Option ℕ → PlainArray → DueChange
due_of_none None value = due_of (components_changed None [] value)
due_of_none (Some number) value = refuses 1

-- what is due by the answer of the store: 1, 3 and 4 as for a look
abbrev pub IsDue : Option ℕ → PlainArray → Result (Option (List ℕ)) StoreError → DueChange → Type 0
IsDue number value (Ok None) due = due ≡ due_of_none number value
IsDue number value (Ok (Some bytes)) due = ((arrays : List PlainArray) × AreComponents bytes arrays × (due ≡ due_of (components_changed number arrays value))) ⊎ (AreNoComponents bytes × (due ≡ refuses 4))
IsDue number value (Err Failed) due = due ≡ refuses 3
IsDue number value (Err WantOfMemory) due = ⊥

-- after the store was asked to replace the file: 3 where it failed
abbrev pub AfterWritten : {T : Type 0} → Result T StoreError → PlainArray → Type 0
AfterWritten (Ok _) answer = answer ≡ code 0
AfterWritten (Err Failed) answer = answer ≡ code 3
AfterWritten (Err WantOfMemory) answer = ⊥
