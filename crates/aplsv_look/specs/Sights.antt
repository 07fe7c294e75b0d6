-- What a look at a printed output shows.
use Rattle.std.specs.Prelude.{◌≡◌, ◌⊎◌, ◌+◌, ◌<◌, ℕ, List, ◌∷◌, ◌++◌, Option, Some, None, length, map, reverse}
use Rattle.line_text.specs.Lines.{lines_text}
use Rattle.sv_events.specs.Entry.{PlainEntry}
use Rattle.sv_journal.specs.Output.{PlainTranscript, output_text}
use Rattle.printed_text.specs.Departs.{DepartsAt}
use Rattle.printed_text.specs.MayBePrinted.{MayBePrinted}
use Rattle.printed_text.specs.declared.refused.PrintedRefused.{PrintedRefused}
use Rattle.printed_text.specs.declared.refused.PrintedRefused.TheVariants as printed
use Rattle.run_judging.specs.FirstIllegal.{IsFirstIllegal}
use Rattle.run_picture.specs.Shown.{IsPicture}
use Rattle.run_picture.specs.Window.{window_of}
use Rattle.run_picture.specs.declared.window.Window.{Window}
use Rattle.run_reasons.specs.Why.{why_lines}
use Rattle.aplsv_words.specs.declared.look.Look.{Look}
use Rattle.aplsv_words.specs.declared.look.Look.TheVariants.{Picture, Why}
use Rattle.aplsv_look.specs.declared.refused.LookRefused.{LookRefused}
use Rattle.aplsv_look.specs.declared.refused.LookRefused.TheVariants as refused

-- the users of an output
abbrev pub users_in : List PlainTranscript → List ℕ
users_in transcripts = map (λ transcript. transcript.user) transcripts

-- the bytes are a picture of the entries from one place to another: of the window that this is in a journal, oldest first
abbrev pub ShowsEntries : Option ℕ → Option ℕ → List PlainEntry → List ℕ → Type 0
ShowsEntries from to journal bytes = (window : Window) × (window_of (length journal) from to ≡ Some window) × IsPicture window journal bytes

-- the entry stands at this place, behind these others
abbrev pub StandsBehind : {X : Type 0} → ℕ → List X → List X → X → Type 0
StandsBehind {X} place entries before e = (behind : List X) × (entries ≡ before ++ e ∷ behind) × (place ≡ length before + 1)

-- the bytes say why an entry behind others is what it is: of these and of it alone, and of the first among them that may not follow those before it in a run of these users
abbrev pub SaysWhy : List ℕ → List PlainEntry → PlainEntry → List ℕ → Type 0
SaysWhy users before e bytes = (illegal : Option ℕ) × IsFirstIllegal users (reverse before) illegal × (bytes ≡ lines_text (why_lines illegal (reverse before) e))

-- the bytes say why the entry at a place is what it is
pub record IsWhy (place : ℕ) (transcripts : List PlainTranscript) (journal : List PlainEntry) (bytes : List ℕ) : Type 0 where
  pub before : List PlainEntry
  pub e : PlainEntry
  pub at : StandsBehind place journal before e
  pub says : SaysWhy (users_in transcripts) before e bytes

-- the bytes are what a look at what an output tells shows
abbrev pub IsSightOf : Look → List PlainTranscript → List PlainEntry → List ℕ → Type 0
IsSightOf (Picture from to) transcripts journal bytes = ShowsEntries from to journal bytes
IsSightOf (Why place) transcripts journal bytes = IsWhy place transcripts journal bytes

-- no entry stands at a place, where there are so many
abbrev pub IsPastEnd : ℕ → ℕ → Type 0
IsPastEnd place count = (place ≡ 0) ⊎ (count < place)

-- a journal has no entry where a look is at
abbrev pub HasNoEntry : Look → List PlainEntry → Type 0
HasNoEntry (Picture from to) journal = window_of (length journal) from to ≡ None
HasNoEntry (Why place) journal = IsPastEnd place (length journal)

-- why a look at a journal shows nothing: no entry is there, or memory ran out
abbrev pub LacksEntry : Look → List PlainEntry → LookRefused → Type 0
LacksEntry look journal refused.NoEntry = HasNoEntry look journal
LacksEntry look journal refused.WantOfMemory = Unit {0}
LacksEntry look journal (refused.NoOutput at) = ⊥

-- the text is an output that tells these transcripts and this journal
abbrev pub IsOutput : List ℕ → List PlainTranscript → List PlainEntry → Type 0
IsOutput text transcripts journal = MayBePrinted None transcripts journal × (text ≡ output_text transcripts journal)

-- the bytes are what a look at a text shows: it is an output, and they are what a look at what this tells shows
pub record IsSight (look : Look) (text bytes : List ℕ) : Type 0 where
  pub transcripts : List PlainTranscript
  pub journal : List PlainEntry
  pub output : IsOutput text transcripts journal
  pub sight : IsSightOf look transcripts journal bytes

-- the text is an output whose journal has no entry where a look is at
pub record HasEntryNowhere (look : Look) (text : List ℕ) : Type 0 where
  pub transcripts : List PlainTranscript
  pub journal : List PlainEntry
  pub output : IsOutput text transcripts journal
  pub none : HasNoEntry look journal

-- why a look at a text shows nothing
abbrev pub IsLookRefusal : Look → List ℕ → LookRefused → Type 0
IsLookRefusal look text (refused.NoOutput at) = DepartsAt None text at
IsLookRefusal look text refused.NoEntry = HasEntryNowhere look text
IsLookRefusal look text refused.WantOfMemory = Unit {0}

-- the same refusal, of a text that is no output
abbrev pub refusal_of_text : PrintedRefused → LookRefused
refusal_of_text (printed.Departs at) = refused.NoOutput at
refusal_of_text printed.WantOfMemory = refused.WantOfMemory
