-- A session: what comes of a user's lines, one after another, with the answers that their acts are given, and the replies of the user's shelf.
use Rattle.std.specs.Prelude.{ℕ, Bool, true, false, List, [], ◌∷◌, Option, Some, None, if◌then◌else◌}
use Rattle.apl_meaning.specs.Meaning.{mean_of_line, most_statements}
use Rattle.fn_editor.specs.Editing.{fed}
use Rattle.fn_editor.specs.Editor.{PlainEditor}
use Rattle.fn_editor.specs.Opening.{opened}
use Rattle.fn_editor.specs.Prompt.{prompt_text}
use Rattle.sv_events.specs.Answer.{PlainAnswer}
use Rattle.sv_events.specs.declared.event.Act.{Act}
use Rattle.session_rules.specs.Commands.{command_done}
use Rattle.session_rules.specs.Course.{Course, course_beginning, course_behind, with_terminal}
use Rattle.session_rules.specs.Shelf.{ShelfReply}
use Rattle.apl_terminal.specs.LineKind.{is_command, is_opening}
use Rattle.apl_terminal.specs.Terminal.{echoing, editing, free_prompt}

-- a statement, where it may begin so many
abbrev pub statement_done : ℕ → List ℕ → Course → Course
statement_done left line c = course_behind c (mean_of_line line c.terminal.workspace c.answers left)

-- a line that opens a definition
abbrev pub opening_done : List ℕ → Course → Course
opening_done line c = with_terminal (editing line (opened c.terminal.workspace line) c.terminal) c

-- a line that is read while no definition is open: it opens one, or it is a command, or a statement
abbrev pub free_line : ℕ → List ℕ → Course → Course
free_line left line c =
    if is_opening line then opening_done line c
    else if is_command line then command_done line c
    else statement_done left line c

-- a line is echoed behind its prompt and done: an open definition takes it, and else it stands alone
abbrev pub line_done_by : ℕ → List ℕ → Option PlainEditor → Course → Course
line_done_by left line None c = free_line left line (with_terminal (echoing free_prompt line c.terminal) c)
line_done_by left line (Some editor) c = with_terminal (editing line (fed editor line) (echoing (prompt_text editor.number) line c.terminal)) c

-- a line more, unless an act waits, or the user has ended the session
abbrev pub next_line : ℕ → Option Act → Bool → List ℕ → Course → Course
next_line left (Some act) ended line c = c
next_line left None true line c = c
next_line left None false line c = line_done_by left line c.terminal.definition c

-- lines in their order, each of which may begin so many statements
abbrev pub lines_done : ℕ → List (List ℕ) → Course → Course
lines_done left [] c = c
lines_done left (line ∷ lines) c = lines_done left lines (next_line left c.waits c.terminal.ended line c)

-- what comes of a user's lines with these answers and these replies: it is finished where no act waits, and a definition that is open then is dropped
abbrev pub session_of : List (List ℕ) → List PlainAnswer → List ShelfReply → Course
session_of lines answers replies = lines_done most_statements lines (course_beginning answers replies)
