-- What holds of a journal in which no entry sets a control: nothing is held, so nobody waits.
use Rattle.std.specs.Prelude.{◌≡◌, ℕ, List, false, All}
use Rattle.sv_events.specs.Answer.{PlainAnswer, held, abandoned}
use Rattle.sv_events.specs.declared.event.Act.{Act}
use Rattle.sv_events.specs.declared.event.Hold.{Hold}
use Rattle.sv_rules.specs.Entries.{Entries}
use Rattle.sv_rules.specs.Legal.{IsLegal, answer_to}
use Rattle.sv_rules.specs.Refused.{waits}
use Rattle.sv_story_laws.specs.WaitLaws.{SetNoControl}

-- an answer that neither holds an act nor gives it up
pub record IsNoHold (answer : PlainAnswer) : Type 0 where
  pub held : (hold : Hold) → ¬ (answer ≡ held hold)
  pub given_up : (hold : Hold) → ¬ (answer ≡ abandoned hold)

-- where no entry sets a control, no act of any party would be held or given up
abbrev pub NoActIsHeld : Type 0
NoActIsHeld = (journal : Entries) (party : ℕ) (act : Act) → SetNoControl journal → IsNoHold (answer_to journal party act)

-- and in a legal journal without controls no entry was
abbrev pub NoEntryIsHeld : Type 0
NoEntryIsHeld = (users : List ℕ) (journal : Entries) → IsLegal users journal → SetNoControl journal → All (λ e. IsNoHold e.answer) journal

-- so nobody waits there
abbrev pub NobodyWaits : Type 0
NobodyWaits = (users : List ℕ) (journal : Entries) → IsLegal users journal → SetNoControl journal → (party : ℕ) → waits journal party ≡ false
