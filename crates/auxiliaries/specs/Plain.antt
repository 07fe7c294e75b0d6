-- States and requests of the code as plain data.
use Rattle.std.specs.Prelude.{◌≤◌, ℤ, pos, All, length, map}
use Rattle.std.specs.String.{string_bytes}
use Rattle.apl_arrays.specs.List.{glyphs_in}
use Rattle.auxiliaries.specs.File.{most_file_line_glyphs}
use Rattle.auxiliaries.specs.Request.{Request as PlainRequest, read, next, write, put, done, other}
use Rattle.auxiliaries.specs.Protocol.{TextState as PlainState, idle, reading, writing}
use Rattle.auxiliaries.specs.declared.answer.Code.{Code}
use Rattle.auxiliaries.specs.declared.answer.Code.TheVariants.{Done, Missing, Refused, Fault, NoText}
use Rattle.auxiliaries.specs.declared.request.Request.{Request}
use Rattle.auxiliaries.specs.declared.request.Request.TheVariants.{Read, Next, Write, Put, Done as DoneWord, Other}
use Rattle.auxiliaries.specs.declared.text_state.TextState.{TextState}
use Rattle.auxiliaries.specs.declared.text_state.TextState.TheVariants.{Idle, Reading, Writing}

-- a request, whatever it borrows from
abbrev pub plain_request : Request → PlainRequest
plain_request (Read name) = read name.now
plain_request Next = next
plain_request (Write name) = write name.now
plain_request (Put text) = put text.now
plain_request DoneWord = done
plain_request Other = other

-- a state, whatever room its lists have
abbrev pub plain_state : TextState → PlainState
plain_state Idle = idle
plain_state (Reading lines) = reading (map glyphs_in lines.items)
plain_state (Writing name bytes) = writing (string_bytes name) bytes.items

-- each line that is left can be an answer
abbrev pub HasShortLines : PlainState → Type 0
HasShortLines idle = Unit {0}
HasShortLines (reading lines) = All (λ line. length line ≤ most_file_line_glyphs) lines
HasShortLines (writing name bytes) = Unit {0}

-- the number of a code
abbrev pub code_number : Code → ℤ
code_number Done = pos 0
code_number Missing = pos 1
code_number Refused = pos 2
code_number Fault = pos 3
code_number NoText = pos 4
