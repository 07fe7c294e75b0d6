-- The protocol of the text auxiliary: what it does at each request in each state.
use Rattle.std.specs.Prelude.{◌≡◌, ◌⊎◌, ◌++◌, ℕ, pos, Bool, true, false, List, [], ◌∷◌, Option, None, Some, Result, Ok, Err, length, nat_le, if◌then◌else◌}
use Rattle.apl_arrays.specs.Array.{PlainArray, numbers, chars, scalar}
use Rattle.apl_arrays.specs.File.{is_file_name}
use Rattle.apl_io.specs.declared.store_error.StoreError.{StoreError}
use Rattle.apl_io.specs.declared.store_error.StoreError.TheVariants.{Failed, WantOfMemory}
use Rattle.auxiliaries.specs.Request.{Request, read, next, write, put, done, other}
use Rattle.auxiliaries.specs.File.{IsText, IsNoText, most_file_bytes}
use Rattle.line_text.specs.Lines.{line_text}

-- between files, with the lines of a file that are left to read, or with the name and the bytes so far of a file to be written
pub data TextState : Type 0 where
  idle : TextState
  reading : List (List ℕ) → TextState
  writing : List ℕ → List ℕ → TextState

-- whether a file is written
abbrev pub is_writing : TextState → Bool
is_writing idle = false
is_writing (reading lines) = false
is_writing (writing file bytes) = true

-- the answers that are numbers: 0 done, 1 no such file, 2 no request here, 3 the store failed, 4 no text or too large
abbrev pub code : ℕ → PlainArray
code number = scalar (pos number)

-- a line as an answer
abbrev pub line_answer : List ℕ → PlainArray
line_answer glyphs = record { shape = length glyphs ∷ []; items = chars glyphs }

-- the answer past the last line: the empty numeric vector
abbrev pub no_line : PlainArray
no_line = record { shape = 0 ∷ []; items = numbers [] }

-- what a request leads to: an answer and the next state with no call of the store, or one call of it
pub data Step : Type 0 where
  answers : PlainArray → TextState → Step
  reads : List ℕ → Step
  replaces : List ℕ → List ℕ → Step

-- no request here: 2, and nothing changes
abbrev pub no_request : TextState → Step
no_request state = answers (code 2) state

-- READ asks the store for the file, unless lines are being written
abbrev pub step_read : List ℕ → TextState → Step
step_read name idle = if is_file_name name then reads name else no_request idle
step_read name (reading lines) = if is_file_name name then reads name else no_request (reading lines)
step_read name (writing file bytes) = no_request (writing file bytes)

-- NEXT answers the next line, and past the last the empty numeric vector, again and again
abbrev pub step_next : TextState → Step
step_next idle = no_request idle
step_next (reading []) = answers no_line (reading [])
step_next (reading (line ∷ lines)) = answers (line_answer line) (reading lines)
step_next (writing file bytes) = no_request (writing file bytes)

-- WRITE begins a file with no lines, unless lines are being written
abbrev pub step_write : List ℕ → TextState → Step
step_write name idle = if is_file_name name then answers (code 0) (writing name []) else no_request idle
step_write name (reading lines) = if is_file_name name then answers (code 0) (writing name []) else no_request (reading lines)
step_write name (writing file bytes) = no_request (writing file bytes)

-- PUT adds a line, unless the file would be too large
abbrev pub step_put : List ℕ → TextState → Step
step_put text idle = no_request idle
step_put text (reading lines) = no_request (reading lines)
step_put text (writing file bytes) = if nat_le (length (bytes ++ line_text text)) most_file_bytes then answers (code 0) (writing file (bytes ++ line_text text)) else answers (code 4) (writing file bytes)

-- DONE asks the store to replace the file
abbrev pub step_done : TextState → Step
step_done idle = no_request idle
step_done (reading lines) = no_request (reading lines)
step_done (writing file bytes) = replaces file bytes

-- what a request leads to in a state
abbrev pub protocol_step : Request → TextState → Step
protocol_step (read name) state = step_read name state
protocol_step next state = step_next state
protocol_step (write name) state = step_write name state
protocol_step (put text) state = step_put text state
protocol_step done state = step_done state
protocol_step other state = no_request state

-- after the store was asked for a file: the lines of its text; 1 where there is none, 3 where the store failed, 4 where it is no text
abbrev pub AfterRead : Result (Option (List ℕ)) StoreError → PlainArray → TextState → Type 0
AfterRead (Ok None) answer state = (answer ≡ code 1) × (state ≡ idle)
AfterRead (Ok (Some bytes)) answer state = ((lines : List (List ℕ)) × IsText bytes lines × (answer ≡ code 0) × (state ≡ reading lines)) ⊎ (IsNoText bytes × (answer ≡ code 4) × (state ≡ idle))
AfterRead (Err Failed) answer state = (answer ≡ code 3) × (state ≡ idle)
AfterRead (Err WantOfMemory) answer state = ⊥

-- after the store was asked to replace a file: 3 where it failed, and the lines are kept
abbrev pub AfterReplace : {T : Type 0} → Result T StoreError → TextState → PlainArray → TextState → Type 0
AfterReplace (Ok _) before answer state = (answer ≡ code 0) × (state ≡ idle)
AfterReplace (Err Failed) before answer state = (answer ≡ code 3) × (state ≡ before)
AfterReplace (Err WantOfMemory) before answer state = ⊥
