-- What is printed, whatever devices a run had.
use Rattle.std.specs.Prelude.{◌≡◌, ℕ, true, false, List, None, Option, reverse}
use Rattle.apl_io.specs.Clock.{Ticks}
use Rattle.apl_io.specs.Content.{Told}
use Rattle.bundle_text.specs.Bundle.{BundleText, PlainBundle}
use Rattle.sv_journal.specs.Output.{PlainTranscript, output_text}
use Rattle.sv_journal.specs.Printable.{ArePrintable}
use Rattle.sv_rules.specs.Entries.{Entries}
use Rattle.sv_rules.specs.Legal.{IsLegal}
use Rattle.session_rules.specs.Run.{AreUserParts, Dealings, user_numbers}
use Rattle.journal_laws.specs.JournalLaws.{AccessesFollowTheTable, FullJournalsTakeLeavesAlone, TranscriptsAreEvaluatedAlone, UsesGiveTheLastValue}
use Rattle.aplsv_words.specs.Meaning.{Asked}
use Rattle.aplsv_top.specs.Headline.{IsOutputAs, IsOutputFor, WritesRun}

-- the text tells of the bundle that the bytes are the text of: a transcript of each user's lines, with some dealings with its shelf, and a legal journal. There are no other transcripts and no other journal that it tells of
pub record IsPrinted (bytes text : List ℕ) : Type 0 where
  pub bundle : PlainBundle
  pub read : BundleText bytes bundle
  pub transcripts : List PlainTranscript
  pub journal : Entries
  pub dealings : Dealings
  pub legal : IsLegal (user_numbers bundle) journal
  pub users : AreUserParts dealings journal bundle.users transcripts
  pub output : text ≡ output_text transcripts (reverse journal)
  pub printable : ArePrintable transcripts (reverse journal)

module _ {C T K : Type 0} (ticks : C → Option Ticks) (clock_faults : C → ℕ) (text_told : T → Option (Told (List ℕ))) (text_faults : T → ℕ) (told : K → Option (Told (ℕ × List ℕ))) (faults : K → ℕ) where
  -- whatever was asked for and whatever devices there were, the output of a run is printed so
  abbrev pub OutputsArePrinted : Type 0
  OutputsArePrinted = (asked : Asked) (clock clock_then : C) (files files_then : T) (shelves shelves_then : List K) (bytes text : List ℕ)
      → IsOutputAs ticks clock_faults text_told text_faults told faults asked clock clock_then files files_then shelves shelves_then bytes text → IsPrinted bytes text

  -- so where all was written, what the sink got tells of the bundle that the source gave
  abbrev pub WhatIsWrittenIsPrinted : Type 0
  WhatIsWrittenIsPrinted = (asked : Asked) (clock clock_then : C) (files files_then : T) (shelves shelves_then : List K) (left rest held now : Option (List ℕ))
      → WritesRun (IsOutputAs ticks clock_faults text_told text_faults told faults asked clock clock_then files files_then shelves shelves_then) left rest held now → WritesRun IsPrinted left rest held now

  -- where a replay is asked for, and no word names a device, component files or a relay, it is the output of a run over the bundle's own, so that it is the only one
  abbrev pub OwnOutputsAreTheBundles : Type 0
  OwnOutputsAreTheBundles = (asked : Asked) (clock clock_then : C) (files files_then : T) (shelves shelves_then : List K) (bytes text : List ℕ) → asked.replay ≡ true → asked.text ≡ None → asked.clock ≡ false → asked.library ≡ None → asked.components ≡ false → asked.relay ≡ false
      → IsOutputAs ticks clock_faults text_told text_faults told faults asked clock clock_then files files_then shelves shelves_then bytes text → IsOutputFor bytes text

-- in what is printed each set and each use of an offered name is granted exactly where the access table allows it over the entries before it, and else refused by the element that it names
abbrev pub PrintedAccessesFollowTheTable : Type 0
PrintedAccessesFollowTheTable = (bytes text : List ℕ) → (printed : IsPrinted bytes text) → AccessesFollowTheTable printed.journal

-- each use that is not refused gives the last value set in its coupling, or alone what its party knows, or none
abbrev pub PrintedUsesGiveTheLastValue : Type 0
PrintedUsesGiveTheLastValue = (bytes text : List ℕ) → (printed : IsPrinted bytes text) → UsesGiveTheLastValue printed.journal

-- each transcript is its user's lines, evaluated alone with the answers that the journal gives that user
abbrev pub PrintedTranscriptsAreEvaluatedAlone : Type 0
PrintedTranscriptsAreEvaluatedAlone =
    (bytes text : List ℕ) → (printed : IsPrinted bytes text) → TranscriptsAreEvaluatedAlone printed.dealings printed.bundle.users printed.journal printed.transcripts

-- past its limit the journal takes leaves alone, and no entry has the answer Full
abbrev pub PrintedJournalsAnswerFullPastTheirLimit : Type 0
PrintedJournalsAnswerFullPastTheirLimit = (bytes text : List ℕ) → (printed : IsPrinted bytes text) → FullJournalsTakeLeavesAlone printed.journal
