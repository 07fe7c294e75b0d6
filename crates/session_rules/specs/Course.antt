-- How far a session has come.
use Rattle.std.specs.Prelude.{◌++◌, List, [], Option, None}
use Rattle.apl_meaning.specs.Laws.{waiting_act}
use Rattle.apl_meaning.specs.State.{Effect, state_of}
use Rattle.sv_events.specs.Answer.{PlainAnswer}
use Rattle.sv_events.specs.declared.event.Act.{Act}
use Rattle.apl_terminal.specs.Terminal.{PlainTerminal, new_terminal}
use Rattle.session_rules.specs.Shelf.{Exchange, ShelfReply}

-- how far a session has come: what its user works on; the acts that were asked and answered; the answers that no act took; the calls of the shelf with their replies, the newest first; the replies that no call took; and the act that waits for an answer, if one does
pub record Course : Type 0 where
  pub terminal : PlainTerminal
  pub acts : List Act
  pub answers : List PlainAnswer
  pub exchanges : List Exchange
  pub replies : List ShelfReply
  pub waits : Option Act

-- no line is done, and these answers and replies are given
abbrev pub course_beginning : List PlainAnswer → List ShelfReply → Course
course_beginning answers replies = record { terminal = new_terminal; acts = []; answers = answers; exchanges = []; replies = replies; waits = None }

-- how far a session has come between two lines, with these acts answered and these exchanges, and with these answers and replies to come
abbrev pub course_at : PlainTerminal → List Act → List Exchange → List PlainAnswer → List ShelfReply → Course
course_at t acts exchanges further rest = record { terminal = t; acts = acts; answers = further; exchanges = exchanges; replies = rest; waits = None }

-- a line is done that asks no act
abbrev pub with_terminal : PlainTerminal → Course → Course
with_terminal t c = record c { terminal = t }

-- what a statement came to is behind what was before: its printed lines and its acts follow those there were, and it may wait
abbrev pub course_behind : Course → Effect → Course
course_behind c end = record c {
  terminal = record c.terminal { workspace = (state_of end).workspace; definition = None; transcript = c.terminal.transcript ++ (state_of end).printed };
  acts = c.acts ++ (state_of end).asked;
  answers = (state_of end).answers;
  waits = waiting_act end;
}
