-- What a run on threads promises.
use Rattle.std.specs.Prelude.{◌≡◌, ℕ, List, Option}
use Rattle.apl_arrays.specs.Array.{PlainArray}
use Rattle.apl_io.specs.Clock.{Ticks}
use Rattle.apl_io.specs.Content.{Told}
use Rattle.auxiliaries.specs.Clock.{RepliesByReading}
use Rattle.auxiliaries.specs.Protocol.{TextState, idle}
use Rattle.auxiliaries.specs.Served.{Replies, forgotten}
use Rattle.bundle_text.specs.Rules.{PlainBundle}
use Rattle.sv_journal.specs.Output.{PlainTranscript}
use Rattle.sv_rules.specs.Entries.{Entries}
use Rattle.session_rules.specs.Run.{Dealings, IsRun}
use Rattle.aplsv_serve.specs.Receipts.{HaveReceipts}

module _ {X Y K : Type 0} (forgets_ten : X → ℕ → X → Type 0) (replies_ten : X → ℕ → PlainArray → PlainArray → X → Type 0)
    (forgets_twenty : Y → ℕ → Y → Type 0) (replies_twenty : Y → ℕ → PlainArray → PlainArray → Y → Type 0)
    (told : K → Option (Told (ℕ × List ℕ))) (faults : K → ℕ) where
  -- a run of a bundle, with some dealings, and with the receipts of each user's session
  pub record IsSomeRun (bundle : PlainBundle) (journal : Entries) (transcripts : List PlainTranscript) (ten ten_then : X) (twenty twenty_then : Y) (shelves shelves_then : List K) : Type 0 where
    pub dealings : Dealings
    pub run : IsRun forgets_ten replies_ten forgets_twenty replies_twenty told faults bundle dealings journal transcripts ten ten_then twenty twenty_then shelves shelves_then
    pub receipts : HaveReceipts told faults dealings journal bundle.users transcripts

-- one whose auxiliaries are the clock and the text files: the protocol of text files begins between files, and stands somewhere at the end
pub record IsRunOverDevices {C T K : Type 0} (ticks : C → Option Ticks) (clock_faults : C → ℕ) (text_told : T → Option (Told (List ℕ))) (text_faults : T → ℕ) (told : K → Option (Told (ℕ × List ℕ))) (faults : K → ℕ)
    (bundle : PlainBundle) (journal : Entries) (transcripts : List PlainTranscript) (clock clock_then : C) (text text_then : T) (shelves shelves_then : List K) : Type 0 where
  pub state : TextState
  pub run : IsSomeRun (λ old party new. new ≡ old) (λ old party value answer new. RepliesByReading ticks clock_faults old value answer new)
      (λ old party new. new ≡ forgotten old) (λ old party value answer new. Replies text_told text_faults old value answer new) told faults
      bundle journal transcripts clock clock_then (record { store = text; state = idle }) (record { store = text_then; state = state }) shelves shelves_then
