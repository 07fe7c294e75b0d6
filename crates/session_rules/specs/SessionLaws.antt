-- What holds of sessions.
use Rattle.std.specs.Prelude.{◌≡◌, ◌<◌, ◌++◌, ℕ, Bool, List, [], ◌∷◌, Some, None, IsSome, IsTrue, count_by, length, not}
use Rattle.sv_events.specs.Answer.{PlainAnswer}
use Rattle.sv_events.specs.Fits.{is_full_kind}
use Rattle.sv_events.specs.Row.{answer_row}
use Rattle.sv_events.specs.declared.event.Act.{Act}
use Rattle.sv_rules.specs.Entries.{is_leave}
use Rattle.session_rules.specs.Session.{session_of}
use Rattle.session_rules.specs.Shelf.{ShelfReply}

-- an act that waits takes the next answer, and no other does
abbrev pub TheNextAnswerIsTaken : Type 0
TheNextAnswerIsTaken =
    (lines : List (List ℕ)) (answers : List PlainAnswer) (replies : List ShelfReply) (answer : PlainAnswer) (asked : Act) → (session_of lines answers replies).waits ≡ Some asked
    → (session_of lines (answers ++ answer ∷ []) replies).acts ≡ (session_of lines answers replies).acts ++ asked ∷ []

-- while an act waits each answer was taken, one by each act
abbrev pub AnswersAreTakenOneByOne : Type 0
AnswersAreTakenOneByOne =
    (lines : List (List ℕ)) (answers : List PlainAnswer) (replies : List ShelfReply) → IsSome (session_of lines answers replies).waits
    → ((session_of lines answers replies).answers ≡ []) × (length (session_of lines answers replies).acts ≡ length answers)

-- a session that is finished takes no more answers
abbrev pub MoreAnswersComeBack : Type 0
MoreAnswersComeBack =
    (lines : List (List ℕ)) (answers more : List PlainAnswer) (replies : List ShelfReply) → (session_of lines answers replies).waits ≡ None
    → session_of lines (answers ++ more) replies ≡ record (session_of lines answers replies) { answers = (session_of lines answers replies).answers ++ more }

-- what was echoed and printed with some answers is the beginning of what is with more
abbrev pub TranscriptsGrow : Type 0
TranscriptsGrow =
    (lines : List (List ℕ)) (answers more : List PlainAnswer) (replies : List ShelfReply)
    → (others : List (List ℕ)) × ((session_of lines (answers ++ more) replies).terminal.transcript ≡ (session_of lines answers replies).terminal.transcript ++ others)

-- no line asks to leave
abbrev pub NoLineLeaves : Type 0
NoLineLeaves =
    (lines : List (List ℕ)) (answers : List PlainAnswer) (replies : List ShelfReply) (asked : Act) → (session_of lines answers replies).waits ≡ Some asked → IsTrue (not (is_leave asked))

-- an answer tells that the journal is full
abbrev pub tells_full : PlainAnswer → Bool
tells_full answer = is_full_kind (answer_row answer).row.kind

-- while an act waits, fewer answers than lines told that the journal is full, since such an answer ends its line
abbrev pub FullEndsItsLine : Type 0
FullEndsItsLine =
    (lines : List (List ℕ)) (answers : List PlainAnswer) (replies : List ShelfReply) → IsSome (session_of lines answers replies).waits
    → count_by tells_full answers < length lines
