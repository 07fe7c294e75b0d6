-- A user's turn, said of the journal, of the user's lines, and of what it waits for.
use Rattle.std.specs.Prelude.{◌≡◌, ℕ, false, List, ◌∷◌, None, Some, IsTrue}
use Rattle.sv_events.specs.Answer.{abandoned, full, held}
use Rattle.sv_events.specs.declared.event.Act.{Act}
use Rattle.sv_events.specs.declared.event.Act.TheVariants as act
use Rattle.sv_events.specs.declared.event.Hold.{Hold}
use Rattle.sv_rules.specs.Entries.{Entries, has_left, is_full}
use Rattle.sv_rules.specs.Legal.{entry_for}
use Rattle.sv_rules.specs.Refused.{awaited, refused}
use Rattle.sv_rules.specs.Work.{is_stuck}
use Rattle.session_rules.specs.Session.{session_of}
use Rattle.replay_rules.specs.SoFarLaws.{Asks, user_with_answer}
use Rattle.replay_rules.specs.Turns.{Participant, AfterTurn, turn}

-- nothing was entered, and nothing heard
abbrev pub passed : Entries → Participant → AfterTurn
passed journal user = record { journal = journal; user = user }

-- nothing was entered, and the user heard that the journal is full
abbrev pub refused_room : Entries → Participant → AfterTurn
refused_room journal user = record { journal = journal; user = user_with_answer user full }

-- the entry of an act was made, and the user heard nothing yet
abbrev pub entry_made : Entries → Participant → Act → AfterTurn
entry_made journal user made = record { journal = entry_for journal user.number made ∷ journal; user = user }

-- it was made, and the user heard its answer
abbrev pub entered_and_heard : Entries → Participant → Act → AfterTurn
entered_and_heard journal user made = record {
  journal = entry_for journal user.number made ∷ journal;
  user = user_with_answer user (entry_for journal user.number made).answer;
}

-- a user that does not wait makes an act: it hears Full, where there is no room; else the act is entered, and the user has to
-- wait where it is refused, or hears the answer
pub data MakesAct (journal : Entries) (user : Participant) (made : Act) (after : AfterTurn) : Type 0 where
  finds_no_room : IsTrue (is_full journal) → after ≡ refused_room journal user → MakesAct journal user made after
  has_to_wait : (hold : Hold) → is_full journal ≡ false → refused journal user.number made ≡ Some hold → (entry_for journal user.number made).answer ≡ held hold → after ≡ entry_made journal user made → MakesAct journal user made after
  is_answered : is_full journal ≡ false → refused journal user.number made ≡ None → after ≡ entered_and_heard journal user made → MakesAct journal user made after

-- a user tries again the act that it waits for: it hears Full, where there is no room; it is held still, where the act is
-- refused and somebody can go on, and gives it up, where nobody can; where nothing refuses it any more, it hears the answer
pub data HearsAgain (numbers : List ℕ) (journal : Entries) (user : Participant) (waited : Act) (after : AfterTurn) : Type 0 where
  has_no_room : IsTrue (is_full journal) → after ≡ refused_room journal user → HearsAgain numbers journal user waited after
  is_still_held : (hold : Hold) → is_full journal ≡ false → refused journal user.number waited ≡ Some hold → is_stuck numbers journal ≡ false → after ≡ passed journal user → HearsAgain numbers journal user waited after
  gives_up : (hold : Hold) → is_full journal ≡ false → refused journal user.number waited ≡ Some hold → IsTrue (is_stuck numbers journal) → (entry_for journal user.number waited).answer ≡ abandoned hold →
      after ≡ entered_and_heard journal user waited → HearsAgain numbers journal user waited after
  goes_through : is_full journal ≡ false → refused journal user.number waited ≡ None → after ≡ entered_and_heard journal user waited → HearsAgain numbers journal user waited after

-- a user that has left does nothing, and one whose lines ask no act any more leaves; another makes the act that they ask, or
-- tries again the one that it waits for
pub data IsUserTurn (numbers : List ℕ) (journal : Entries) (user : Participant) (after : AfterTurn) : Type 0 where
  has_gone : IsTrue (has_left journal user.number) → after ≡ passed journal user → IsUserTurn numbers journal user after
  leaves : has_left journal user.number ≡ false → (session_of user.lines user.answers user.replies).waits ≡ None → after ≡ entry_made journal user act.Leave → IsUserTurn numbers journal user after
  makes : (made : Act) → has_left journal user.number ≡ false → Asks user made → awaited journal user.number ≡ None → MakesAct journal user made after → IsUserTurn numbers journal user after
  tries : (next waited : Act) → has_left journal user.number ≡ false → Asks user next → awaited journal user.number ≡ Some waited → HearsAgain numbers journal user waited after → IsUserTurn numbers journal user after

-- each turn of a user is so
abbrev pub UsersTakeTurns : Type 0
UsersTakeTurns = (numbers : List ℕ) (journal : Entries) (user : Participant) → IsUserTurn numbers journal user (turn numbers journal user)
