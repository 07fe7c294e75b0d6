-- The end of a replay.
use Rattle.std.specs.Prelude.{◌≡◌, ◌++◌, ℕ, List, [], Option, All, IsTrue, map}
use Rattle.apl_arrays.specs.Array.{PlainArray}
use Rattle.apl_io.specs.Content.{Told}
use Rattle.bundle_text.specs.Rules.{PlainBundle}
use Rattle.sv_journal.specs.Output.{PlainTranscript}
use Rattle.sv_rules.specs.Entries.{Entries}
use Rattle.sv_rules.specs.Legal.{IsLegal}
use Rattle.party_turns.specs.Participants.{users_of}
use Rattle.aplsv_replay.specs.Rounds.{IsReplay}
use Rattle.party_turns.specs.Seats.{HasPrinted, transcript_of}
use Rattle.party_turns.specs.Sittings.{Sitting, seats_in}
use Rattle.aplsv_replay.specs.Together.{AreTogether, none_is_lost}
use Rattle.session_rules.specs.Run.{Dealings, IsRun}
use Rattle.replay_rules.specs.Turns.{newcomer}
use Rattle.aplsv_replay.specs.declared.parties.Parties.{Parties}

-- a run whose parties are these at its end is whole: memory ran out for nobody; it has the processor's journal, which is legal; and its transcripts are the users', where all answers were heard
pub record RunIsWhole {X Y K : Type 0} (told : K → Option (Told (ℕ × List ℕ))) (faults : K → ℕ) (p : Parties X Y K) (transcripts : List PlainTranscript) (journal : Entries) : Type 0 where
  pub here : IsTrue (none_is_lost p)
  pub same : journal ≡ p.core.journal
  pub legal : IsLegal p.core.users journal
  pub printed : (sittings : List (Sitting K)) → seats_in sittings ≡ p.seats.items → All (HasPrinted told faults) sittings → transcripts ≡ map transcript_of sittings

module _ {X Y K : Type 0} (forgets_ten : X → ℕ → X → Type 0) (replies_ten : X → ℕ → PlainArray → PlainArray → X → Type 0)
    (forgets_twenty : Y → ℕ → Y → Type 0) (replies_twenty : Y → ℕ → PlainArray → PlainArray → Y → Type 0)
    (told : K → Option (Told (ℕ × List ℕ))) (faults : K → ℕ) where
  -- what came of the parties of a bundle with this order: a run of it with some dealings; and where nobody had had a turn, the journal of its replay with them
  pub record IsRunWith (bundle : PlainBundle) (order : List ℕ) (p : Parties X Y K) (transcripts : List PlainTranscript) (journal : Entries) (ten ten_then : X) (twenty twenty_then : Y) (shelves shelves_then : List K) : Type 0 where
    pub dealings : Dealings
    pub run : IsRun forgets_ten replies_ten forgets_twenty replies_twenty told faults bundle dealings journal transcripts ten ten_then twenty twenty_then shelves shelves_then
    pub turns : p.core.journal ≡ [] → ((final : Dealings) → users_of final p.seats.items ≡ map (newcomer final) bundle.users) → order ≡ bundle.order → IsReplay bundle dealings journal

  -- so of whatever bundle they were, and whatever shelves were left
  abbrev pub ComesOf : List ℕ → Parties X Y K → List K → List PlainTranscript → Entries → X → Y → List K → Type 0
  ComesOf order p left transcripts journal ten_then twenty_then shelves_then =
      (bundle : PlainBundle) (ten : X) (twenty : Y) (lent : List K) (sittings : List (Sitting K)) → AreTogether forgets_ten replies_ten forgets_twenty replies_twenty told faults bundle ten twenty lent p sittings
      → IsRunWith bundle order p transcripts journal ten ten_then twenty twenty_then (lent ++ left) shelves_then
