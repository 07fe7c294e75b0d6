-- Requests, states and what is due, as plain data.
use Rattle.std.specs.Prelude.{ℕ}
use Rattle.std.specs.String.{string_bytes}
use Rattle.aux_components.specs.Request.{Request as PlainRequest, count, get, next, append, replace, other}
use Rattle.aux_components.specs.Protocol.{FileState as PlainState, idle, holding, taking, DueChange as PlainDue, refuses, writes}
use Rattle.aux_components.specs.declared.code.Code.{Code}
use Rattle.aux_components.specs.declared.code.Code.TheVariants.{Done, Missing, Refused, Fault, NoFile, NoComponent}
use Rattle.aux_components.specs.declared.request.Request.{Request}
use Rattle.aux_components.specs.declared.request.Request.TheVariants.{Count, Get, Next, Append, Replace, Other}
use Rattle.aux_components.specs.declared.due.DueChange.{DueChange}
use Rattle.aux_components.specs.declared.due.DueChange.TheVariants.{Refusal, Bytes}
use Rattle.aux_components.specs.declared.state.FileState.{FileState}
use Rattle.aux_components.specs.declared.state.FileState.TheVariants.{Idle, Holding, Taking}

-- a request, whatever it borrows from
abbrev pub plain_request : Request → PlainRequest
plain_request (Count name) = count name.now
plain_request (Get name number) = get name.now number
plain_request Next = next
plain_request (Append name) = append name.now
plain_request (Replace name number) = replace name.now number
plain_request Other = other

-- a state, whatever room its name has
abbrev pub plain_state : FileState → PlainState
plain_state Idle = idle
plain_state (Holding array) = holding array
plain_state (Taking name number) = taking (string_bytes name) number

-- the number of a code: 0 done, 1 no such file, 2 no request here, 3 the store failed, 4 no component file or too large, 5 no such component
abbrev pub code_number : Code → ℕ
code_number Done = 0
code_number Missing = 1
code_number Refused = 2
code_number Fault = 3
code_number NoFile = 4
code_number NoComponent = 5

-- what is due, whatever room the bytes have
abbrev pub plain_due : DueChange → PlainDue
plain_due (Refusal reason) = refuses (code_number reason)
plain_due (Bytes bytes) = writes bytes.items
