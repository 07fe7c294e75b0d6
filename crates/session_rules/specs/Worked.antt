-- Worked sessions: lines as they are written, and what comes of them.
use Rattle.std.specs.Prelude.{ℕ, List, [], ◌∷◌, Option, Some}
use Rattle.apl_meaning.specs.Worked.{texts, worked_statements}
use Rattle.sv_events.specs.Answer.{PlainAnswer}
use Rattle.sv_events.specs.declared.event.Act.{Act}
use Rattle.session_rules.specs.Course.{Course, course_beginning}
use Rattle.session_rules.specs.Session.{lines_done}
use Rattle.session_rules.specs.Shelf.{Exchange, ShelfReply}

-- what comes of lines with these answers and replies, where each line may begin as many statements as a worked line
abbrev pub worked_with : List (List ℕ) → List PlainAnswer → List ShelfReply → Course
worked_with lines answers replies = lines_done worked_statements (texts lines) (course_beginning answers replies)

-- and with no replies
abbrev pub worked : List (List ℕ) → List PlainAnswer → Course
worked lines answers = worked_with lines answers []

-- what they echo and print
abbrev pub shown_by : List (List ℕ) → List PlainAnswer → List (List ℕ)
shown_by lines answers = (worked lines answers).terminal.transcript

-- the acts that they ask and that are answered
abbrev pub acts_asked_by : List (List ℕ) → List PlainAnswer → List Act
acts_asked_by lines answers = (worked lines answers).acts

-- the act that waits, if one does
abbrev pub waits_in : List (List ℕ) → List PlainAnswer → Option Act
waits_in lines answers = (worked lines answers).waits

-- what they echo and print with these replies
abbrev pub shown_with : List (List ℕ) → List PlainAnswer → List ShelfReply → List (List ℕ)
shown_with lines answers replies = (worked_with lines answers replies).terminal.transcript
