-- What is found of a text that is said to be the output of a run of a bundle.
use Rattle.std.specs.Prelude.{◌≡◌, ℕ, List, None, Option, Some, reverse}
use Rattle.apl_io.specs.Kept.{Keeper, Timer}
use Rattle.auxiliaries.specs.Clock.{RepliesByReading}
use Rattle.auxiliaries.specs.Protocol.{idle}
use Rattle.auxiliaries.specs.Served.{Replies, Served, forgotten}
use Rattle.bundle_devices.specs.Devices.{clock_of, shelves_of, text_store_of}
use Rattle.bundle_text.specs.Rules.{PlainBundle}
use Rattle.printed_text.specs.Departs.{DepartsAt}
use Rattle.printed_text.specs.MayBePrinted.{MayBePrinted}
use Rattle.sv_events.specs.Entry.{PlainEntry}
use Rattle.sv_journal.specs.Output.{PlainTranscript, output_text}
use Rattle.sv_rules.specs.Entries.{Entries}
use Rattle.session_rules.specs.Run.{Dealings, IsRun, user_numbers}
use Rattle.check_rules.specs.Fits.{EntriesFit, IsFirstUnfit}
use Rattle.check_rules.specs.Saw.{IsFirstDifference, first_there}
use Rattle.check_rules.specs.declared.verdict.Verdict.{Verdict}
use Rattle.check_rules.specs.declared.verdict.Verdict.TheVariants.{Yes, Text, Entry, Unfinished, Line}

-- the users that an output of a bundle has
abbrev pub users_named : PlainBundle → Option (List ℕ)
users_named bundle = Some (user_numbers bundle)

-- a run of a bundle over its own files, its own readings and empty shelves, from before their first calls
pub record IsOwnRun (bundle : PlainBundle) (journal : Entries) (transcripts : List PlainTranscript) : Type 0 where
  pub dealings : Dealings
  pub clock : Timer
  pub files : Served (Keeper (List ℕ))
  pub shelves : List (Keeper (ℕ × List ℕ))
  pub run : IsRun (λ old party new. new ≡ old) (λ old party value answer new. RepliesByReading (λ c. Some c.told) (λ c. c.faults) old value answer new)
      (λ old party new. new ≡ forgotten old) (λ old party value answer new. Replies (λ t. Some t.told) (λ t. t.faults) old value answer new) (λ k. Some k.told) (λ k. k.faults)
      bundle dealings journal transcripts (clock_of bundle) clock (record { store = text_store_of bundle; state = idle }) files (shelves_of bundle) shelves

-- the text tells these transcripts and these entries, the oldest first, of the bundle's users
pub record TellsOutput (bundle : PlainBundle) (text : List ℕ) (transcripts : List PlainTranscript) (entries : List PlainEntry) : Type 0 where
  pub printed : MayBePrinted (users_named bundle) transcripts entries
  pub is : text ≡ output_text transcripts entries

-- the text is the output of such a run
pub record IsLegalOutput (bundle : PlainBundle) (text : List ℕ) : Type 0 where
  pub transcripts : List PlainTranscript
  pub journal : Entries
  pub run : IsOwnRun bundle journal transcripts
  pub tells : TellsOutput bundle text transcripts (reverse journal)

-- the text is an output, of which the entry at this place is the first that does not fit
pub record HasUnfit (bundle : PlainBundle) (text : List ℕ) (place : ℕ) : Type 0 where
  pub transcripts : List PlainTranscript
  pub entries : List PlainEntry
  pub tells : TellsOutput bundle text transcripts entries
  pub first : IsFirstUnfit bundle entries place

-- the text is an output whose entries fit, and this is the lowest user that has not left
pub record HasUnfinished (bundle : PlainBundle) (text : List ℕ) (user : ℕ) : Type 0 where
  pub transcripts : List PlainTranscript
  pub entries : List PlainEntry
  pub tells : TellsOutput bundle text transcripts entries
  pub fit : EntriesFit bundle (reverse entries)
  pub first : first_there bundle (reverse entries) ≡ Some user

-- the text is an output whose entries fit and in which all have left, and this is the lowest user of whom it has other lines than the user saw, and the first of these lines
pub record HasOtherLine (bundle : PlainBundle) (text : List ℕ) (user line : ℕ) : Type 0 where
  pub transcripts : List PlainTranscript
  pub entries : List PlainEntry
  pub tells : TellsOutput bundle text transcripts entries
  pub fit : EntriesFit bundle (reverse entries)
  pub left : first_there bundle (reverse entries) ≡ None
  pub first : IsFirstDifference (reverse entries) bundle.users transcripts user line

-- what is found
abbrev pub IsVerdict : PlainBundle → List ℕ → Verdict → Type 0
IsVerdict bundle text Yes = IsLegalOutput bundle text
IsVerdict bundle text (Text at) = DepartsAt (users_named bundle) text at
IsVerdict bundle text (Entry place) = HasUnfit bundle text place
IsVerdict bundle text (Unfinished user) = HasUnfinished bundle text user
IsVerdict bundle text (Line user line) = HasOtherLine bundle text user line
