-- What the program promises of a load.
use Rattle.std.specs.Prelude.{◌≡◌, ℕ, true, List, Option, reverse}
use Rattle.std.specs.Io.KnownBytes.{Appends}
use Rattle.apl_io.specs.Clock.{Ticks}
use Rattle.apl_io.specs.Content.{Told}
use Rattle.apl_io.specs.Faults.{Rose}
use Rattle.apl_io.specs.Whole.{AppendsPrefix}
use Rattle.sv_rules.specs.Entries.{Entries}
use Rattle.sv_journal.specs.Output.{PlainTranscript}
use Rattle.bundle_text.specs.Bundle.{BundleText, PlainBundle}
use Rattle.bundle_text.specs.Load.{load_text}
use Rattle.apl_session.specs.declared.outcome.Ended.{Ended}
use Rattle.apl_session.specs.declared.outcome.Ended.TheVariants.{Whole, WantOfMemory}
use Rattle.aplsv_words.specs.Meaning.{Asked}
use Rattle.aplsv_top.specs.Causes.{Device}
use Rattle.aplsv_top.specs.Headline.{NamedRun}
use Rattle.aplsv_top.specs.Summary.{IsSummary}
use Rattle.aplsv_top.specs.declared.status.Status.{Status}
use Rattle.aplsv_top.specs.declared.status.Status.TheVariants as status

-- the text is what is written of a run of a load of n numbers that is whole
abbrev pub IsSummaryIn : ℕ → Ended → List ℕ → Type 0
IsSummaryIn n (Whole transcripts journal) text = IsSummary n transcripts.items journal.items text
IsSummaryIn n WantOfMemory text = ⊥

-- the text is the summary of a run of the bundle of n numbers over what is asked for; it is a run in turns, so its journal is that of the bundle's replay
pub record IsLoadAs {C T K : Type 0} (ticks : C → Option Ticks) (clock_faults : C → ℕ) (text_told : T → Option (Told (List ℕ))) (text_faults : T → ℕ) (told : K → Option (Told (ℕ × List ℕ))) (faults : K → ℕ)
    (n : ℕ) (asked : Asked) (clock clock_then : C) (files files_then : T) (shelves shelves_then : List K) (text : List ℕ) : Type 0 where
  pub bundle : PlainBundle
  pub made : BundleText (load_text n) bundle
  pub transcripts : List PlainTranscript
  pub journal : Entries
  pub run : NamedRun true ticks clock_faults text_told text_faults told faults asked.text asked.components asked.relay asked.clock asked.library bundle journal transcripts clock clock_then files files_then shelves shelves_then
  pub summary : IsSummary n transcripts (reverse journal) text

-- how a load can end
abbrev pub IsLoadEnding : Status → Type 0
IsLoadEnding status.Done = Unit {0}
IsLoadEnding status.WriteFault = Unit {0}
IsLoadEnding status.WantOfMemory = Unit {0}
IsLoadEnding status.Usage = ⊥
IsLoadEnding (status.Malformed offset rule) = ⊥
IsLoadEnding status.ReadFault = ⊥
IsLoadEnding status.TooLong = ⊥
IsLoadEnding (status.NotARun found) = ⊥

-- what stands behind a status of a load: which texts sum up a run of it, and the sink before and after
pub record HasLoadCause (SumsUp : List ℕ → Type 0) (ending : Status) (sink grown : Device) : Type 0 where
  pub done : ending ≡ status.Done → (text : List ℕ) × SumsUp text × Appends sink.bytes grown.bytes text
  pub front : ending ≡ status.WriteFault → (text : List ℕ) × SumsUp text × AppendsPrefix sink.bytes grown.bytes text
  pub fault : ending ≡ status.WriteFault → Rose sink.faults grown.faults
  pub only : IsLoadEnding ending
