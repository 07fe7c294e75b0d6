-- What holds where memory ran out behind an answer.
use Rattle.std.specs.Prelude.{[], IsSome, unwrap_or}
use Rattle.sv_events.specs.Answer.{PlainAnswer}
use Rattle.sv_events.specs.Row.{answer_row}
use Rattle.apl_meaning.specs.Queries.{list_outcome, name_matrix, party_vector}
use Rattle.apl_values.specs.Pending.{PlainActPurpose, refers, sets, replaces, in_rows, parties_asked, names_asked}
use Rattle.apl_statements.specs.Interpreter.{PlainInterpreter}
use Rattle.apl_statements.specs.Wants.{NoReportIsDue}

-- an answer has what its act was for, beside the room for a copy: that of a use has a value, and a list is not too large
abbrev pub BringsEnough : PlainInterpreter → PlainActPurpose → PlainAnswer → Type 0
BringsEnough m (refers name) answer = IsSome (answer_row answer).value
BringsEnough m (sets name value other) answer = Unit {0}
BringsEnough m (replaces name subs right) answer = IsSome (answer_row answer).value
BringsEnough m (in_rows numbers rows shape) answer = Unit {0}
BringsEnough m parties_asked answer = NoReportIsDue m (list_outcome (party_vector (unwrap_or (answer_row answer).parties [])))
BringsEnough m (names_asked party) answer = NoReportIsDue m (list_outcome (name_matrix (unwrap_or (answer_row answer).names [])))
