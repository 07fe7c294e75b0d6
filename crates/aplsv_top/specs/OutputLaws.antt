-- What holds of outputs.
use Rattle.std.specs.Prelude.{◌≡◌, ℕ, true, false, List, Option, None, IsSome, map}
use Rattle.apl_arrays.specs.Name.{name_order}
use Rattle.apl_io.specs.Clock.{Ticks}
use Rattle.apl_io.specs.Content.{Told}
use Rattle.auxiliaries.specs.Served.{Replies, forgotten}
use Rattle.bundle_devices.specs.Telling.{AllTellThroughout, HoldsThroughout, TellsAll}
use Rattle.bundle_text.specs.Bundle.{IsBundle, PlainBundle}
use Rattle.sv_journal.specs.Output.{PlainTranscript}
use Rattle.sv_rules.specs.Entries.{Entries}
use Rattle.aux_parties.specs.declared.auxiliary.AuxiliaryKind.TheVariants.{TextFiles}
use Rattle.sv_delivery_laws.specs.DeliveryLaws.{WhatControlGives}
use Rattle.aplsv_replay.specs.Replayed.{IsDeviceRun}
use Rattle.aplsv_words.specs.Meaning.{Asked}
use Rattle.aplsv_top.specs.Headline.{IsOutputAs, IsOutputFor, IsOutputOver}

-- for the bytes read there is one output and no other
abbrev pub BundlesHaveOneOutput : Type 0
BundlesHaveOneOutput = (bytes text other : List ℕ) → IsOutputFor bytes text → IsOutputFor bytes other → text ≡ other

-- under full control nothing is lost in the journal that is printed but what its receiver set over
abbrev pub PrintedControlLosesNothing : Type 0
PrintedControlLosesNothing = (bytes text : List ℕ) → (output : IsOutputFor bytes text) → WhatControlGives output.run.journal

-- ---- replays over devices that tell

-- a replay is asked for, and no word names a device
pub record ReplaysItsOwn (asked : Asked) : Type 0 where
  pub replay : asked.replay ≡ true
  pub text : asked.text ≡ None
  pub clock : asked.clock ≡ false
  pub library : asked.library ≡ None

module _ {C T K : Type 0} (ticks : C → Option Ticks) (clock_faults : C → ℕ) (text_told : T → Option (Told (List ℕ))) (text_faults : T → ℕ) (told : K → Option (Told (ℕ × List ℕ))) (faults : K → ℕ) where
  -- a run whose devices tell what they keep, and leave no entry of it untold
  pub record LeavesNoneUntold (bundle : PlainBundle) (journal : Entries) (transcripts : List PlainTranscript) (clock clock_then : C) (text text_then : T) (shelves shelves_then : List K)
      (run : IsDeviceRun ticks clock_faults text_told text_faults told faults bundle journal transcripts clock clock_then text text_then shelves shelves_then) : Type 0 where
    pub readings : IsSome (ticks clock)
    pub files : HoldsThroughout (λ old party new. new ≡ forgotten old) (λ old party value answer new. Replies text_told text_faults old value answer new) (λ served. TellsAll name_order (text_told served.store))
        _ _ _ (run.run.run.parts TextFiles).answers
    pub saved : AllTellThroughout told faults run.run.dealings bundle.users shelves shelves_then run.run.run.shelves_served

  -- two replays of a bundle over devices that tell the same at the start, and leave no entry untold, have one journal, and the same transcripts
  abbrev pub ReplaysAreDetermined : Type 0
  ReplaysAreDetermined =
      (bundle : PlainBundle) (journal other : Entries) (transcripts others : List PlainTranscript) (clock clock_then another another_then : C) (text text_then files files_then : T) (shelves shelves_then racks racks_then : List K)
      → IsBundle bundle
      → (run : IsDeviceRun ticks clock_faults text_told text_faults told faults bundle journal transcripts clock clock_then text text_then shelves shelves_then)
      → (rerun : IsDeviceRun ticks clock_faults text_told text_faults told faults bundle other others another another_then files files_then racks racks_then)
      → LeavesNoneUntold bundle journal transcripts clock clock_then text text_then shelves shelves_then run → LeavesNoneUntold bundle other others another another_then files files_then racks racks_then rerun
      → ticks clock ≡ ticks another → text_told text ≡ text_told files → map told shelves ≡ map told racks → (journal ≡ other) × (transcripts ≡ others)

  -- so two outputs of a bundle over such devices are one text
  abbrev pub OutputsAreDetermined : Type 0
  OutputsAreDetermined =
      (bundle : PlainBundle) (text other : List ℕ) (clock clock_then another another_then : C) (texts texts_then files files_then : T) (shelves shelves_then racks racks_then : List K)
      → IsBundle bundle
      → (output : IsOutputOver ticks clock_faults text_told text_faults told faults bundle text clock clock_then texts texts_then shelves shelves_then)
      → (again : IsOutputOver ticks clock_faults text_told text_faults told faults bundle other another another_then files files_then racks racks_then)
      → LeavesNoneUntold bundle output.journal output.transcripts clock clock_then texts texts_then shelves shelves_then output.run
      → LeavesNoneUntold bundle again.journal again.transcripts another another_then files files_then racks racks_then again.run
      → ticks clock ≡ ticks another → text_told texts ≡ text_told files → map told shelves ≡ map told racks → text ≡ other

  -- where a replay is asked for and no word names a device, the output is one function of the bytes read, and of whether component files and a relay are asked for
  abbrev pub OwnOutputsAreOne : Type 0
  OwnOutputsAreOne =
      (asked wanted : Asked) (clock clock_then another another_then : C) (texts texts_then files files_then : T) (shelves shelves_then racks racks_then : List K) (bytes text other : List ℕ)
      → ReplaysItsOwn asked → ReplaysItsOwn wanted → asked.components ≡ wanted.components → asked.relay ≡ wanted.relay
      → IsOutputAs ticks clock_faults text_told text_faults told faults asked clock clock_then texts texts_then shelves shelves_then bytes text
      → IsOutputAs ticks clock_faults text_told text_faults told faults wanted another another_then files files_then racks racks_then bytes other → text ≡ other
