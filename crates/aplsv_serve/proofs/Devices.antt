-- A run over a clock and a text store.
use Rattle.std.proofs.Common.{◌≡◌, ℕ, List, subst, sym}
use Rattle.std.specs.Prelude.{Option}
use Rattle.aux_parties.specs.Auxiliaries.{text_party}
use Rattle.apl_io.specs.Clock.{Ticks}
use Rattle.apl_io.specs.Content.{Told, KeepsPlaces}
use Rattle.apl_session.specs.Ended.{IfWhole}
use Rattle.apl_session.specs.declared.outcome.Ended.{Ended}
use Rattle.auxiliaries.specs.Clock.{RepliesByReading}
use Rattle.auxiliaries.specs.Protocol.{idle}
use Rattle.auxiliaries.specs.Served.{Replies, Served, forgotten}
use Rattle.auxiliaries.proofs.Places.{run_keeps}
use Rattle.bundle_text.specs.Rules.{PlainBundle}
use Rattle.session_rules.specs.Auxiliaries.{events_of}
use Rattle.sv_journal.specs.Output.{PlainTranscript}
use Rattle.aux_parties.specs.declared.auxiliary.AuxiliaryKind.TheVariants.{TextFiles}
use Rattle.sv_rules.specs.Entries.{Entries}
use Rattle.aplsv_serve.specs.Runs.{IsRunOverDevices, IsSomeRun}
use Rattle.party_turns.proofs.Parts.{whole_more}

module _ {C T K : Type 0} (ticks : C → Option Ticks) (clock_faults : C → ℕ) (text_told : T → Option (Told (List ℕ))) (text_faults : T → ℕ) (told : K → Option (Told (ℕ × List ℕ))) (faults : K → ℕ) (bundle : PlainBundle) (shelves shelves_then : List K) where
  -- a run with the repliers of the clock and the text files
  abbrev IsRunOver : List PlainTranscript → Entries → C → C → Served T → Served T → Type 0
  IsRunOver transcripts journal ten ten_then twenty twenty_then =
      IsSomeRun (λ old party new. new ≡ old) (λ old party value answer new. RepliesByReading ticks clock_faults old value answer new) (λ old party new. new ≡ forgotten old)
      (λ old party value answer new. Replies text_told text_faults old value answer new) told faults bundle journal transcripts ten ten_then twenty twenty_then shelves shelves_then

  -- is a run over the devices
  pub device_runs : (ended : Ended) (clock clock_then ten ten_then : C) (text text_then : T) (twenty twenty_then : Served T) → ten ≡ clock → clock_then ≡ ten_then
      → (twenty ≡ (let s : Served T = record { store = text; state = idle } in s)) → text_then ≡ twenty_then.store
      → IfWhole ended (λ transcripts journal. IsRunOver transcripts journal ten ten_then twenty twenty_then)
      → IfWhole ended (λ transcripts journal. IsRunOverDevices ticks clock_faults text_told text_faults told faults bundle journal transcripts clock clock_then text text_then shelves shelves_then)
  device_runs ended clock clock_then ten ten_then text text_then twenty twenty_then begins ends begins_text ends_text whole =
      whole_more ended (λ transcripts journal. IsRunOver transcripts journal ten ten_then twenty twenty_then)
      (λ transcripts journal. IsRunOverDevices ticks clock_faults text_told text_faults told faults bundle journal transcripts clock clock_then text text_then shelves shelves_then)
      (λ transcripts journal run. record {
        state = twenty_then.state;
        run = subst (λ (a : C). IsRunOver transcripts journal a clock_then (record { store = text; state = idle }) (record { store = text_then; state = twenty_then.state })) begins
            (subst (λ (b : C). IsRunOver transcripts journal ten b (record { store = text; state = idle }) (record { store = text_then; state = twenty_then.state })) (sym ends)
            (subst (λ (s : Served T). IsRunOver transcripts journal ten ten_then s (record { store = text_then; state = twenty_then.state })) begins_text
            (subst (λ (t : T). IsRunOver transcripts journal ten ten_then twenty (record { store = t; state = twenty_then.state })) (sym ends_text) run)));
      }) whole

  -- and its text store is given no place
  pub device_places : (ended : Ended) (clock clock_then ten ten_then : C) (text text_then : T) (twenty twenty_then : Served T) → ten ≡ clock → clock_then ≡ ten_then
      → (twenty ≡ (let s : Served T = record { store = text; state = idle } in s)) → text_then ≡ twenty_then.store
      → IfWhole ended (λ transcripts journal. IsRunOver transcripts journal ten ten_then twenty twenty_then)
      → IfWhole ended (λ transcripts journal. KeepsPlaces (text_told text) (text_told text_then))
  device_places ended clock clock_then ten ten_then text text_then twenty twenty_then begins ends begins_text ends_text whole =
      whole_more ended (λ transcripts journal. IsRunOverDevices ticks clock_faults text_told text_faults told faults bundle journal transcripts clock clock_then text text_then shelves shelves_then)
      (λ transcripts journal. KeepsPlaces (text_told text) (text_told text_then))
      (λ transcripts journal run.
      run_keeps text_told text_faults (record { store = text; state = idle }) (events_of journal text_party) (record { store = text_then; state = run.state }) (run.run.run.parts TextFiles).answers)
      (device_runs ended clock clock_then ten ten_then text text_then twenty twenty_then begins ends begins_text ends_text whole)
