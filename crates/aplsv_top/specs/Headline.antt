-- What the program promises of the bytes that it reads and writes.
use Rattle.std.specs.Prelude.{◌≡◌, ◌≤◌, ℕ, Bool, true, false, List, [], ◌∷◌, None, Option, Some, drop, length, map, option_map, reverse, take}
use Rattle.std.specs.Io.KnownBytes.{Appends}
use Rattle.apl_arrays.specs.Array.{PlainArray}
use Rattle.apl_io.specs.Clock.{Ticks}
use Rattle.apl_io.specs.Content.{Told, placed}
use Rattle.apl_io.specs.Kept.{Keeper, Timer}
use Rattle.apl_io.specs.Whole.{ReadsAll, AppendsPrefix}
use Rattle.sv_rules.specs.Entries.{Entries}
use Rattle.sv_journal.specs.Output.{PlainTranscript, output_text}
use Rattle.sv_journal.specs.Printable.{ArePrintable}
use Rattle.bundle_devices.specs.Devices.{clock_of, shelves_of, text_store_of}
use Rattle.bundle_text.specs.Breaks.{Breaks}
use Rattle.bundle_text.specs.Bundle.{BundleText, IsNoBundle, PlainBundle}
use Rattle.bundle_text.specs.declared.refused.BundleRule.{BundleRule}
use Rattle.apl_session.specs.declared.outcome.Ended.{Ended}
use Rattle.apl_session.specs.declared.outcome.Ended.TheVariants.{Whole, WantOfMemory}
use Rattle.auxiliaries.specs.Clock.{RepliesByReading}
use Rattle.auxiliaries.specs.Protocol.{TextState, idle}
use Rattle.auxiliaries.specs.Served.{Replies, Served, forgotten}
use Rattle.aux_components.specs.Filed as component
use Rattle.aux_components.specs.Filed.{Filed}
use Rattle.aux_components.specs.Protocol as component_state
use Rattle.aux_components.specs.Protocol.{FileState}
use Rattle.aux_relay.specs.Queues.{Queues, Relays}
use Rattle.aplsv_replay.specs.Replayed.{IsDeviceRun, IsRunInTurns}
use Rattle.aplsv_serve.specs.Runs.{IsSomeRun}
use Rattle.aplsv_words.specs.Meaning.{Asked}

-- the text is the output of a run of this bundle over its files, its readings and empty shelves: its transcripts, and its journal with the oldest entry first, which is the journal of the bundle's replay. They are printable, and no others that are have this output
pub record IsOutputOf (bundle : PlainBundle) (text : List ℕ) : Type 0 where
  pub transcripts : List PlainTranscript
  pub journal : Entries
  pub clock : Timer
  pub files : Keeper (List ℕ)
  pub shelves : List (Keeper (ℕ × List ℕ))
  pub run : IsDeviceRun (λ c. Some c.told) (λ c. c.faults) (λ t. Some t.told) (λ t. t.faults) (λ k. Some k.told) (λ k. k.faults) bundle journal transcripts
      (clock_of bundle) clock (text_store_of bundle) files (shelves_of bundle) shelves
  pub output : text ≡ output_text transcripts (reverse journal)
  pub printable : ArePrintable transcripts (reverse journal)

-- the bytes are the text of a bundle, and the text is the output of a run of it
pub record IsOutputFor (bytes text : List ℕ) : Type 0 where
  pub bundle : PlainBundle
  pub read : BundleText bytes bundle
  pub run : IsOutputOf bundle text

-- the text is what is written of a run that is whole
abbrev pub IsOutputIn : Ended → List ℕ → Type 0
IsOutputIn (Whole transcripts journal) text = (text ≡ output_text transcripts.items journal.items) × ArePrintable transcripts.items journal.items
IsOutputIn WantOfMemory text = ⊥

-- the text is the output of a run of this bundle over a clock, a text store and shelves, from what they were to what they are then
pub record IsOutputOver {C T K : Type 0} (ticks : C → Option Ticks) (clock_faults : C → ℕ) (text_told : T → Option (Told (List ℕ))) (text_faults : T → ℕ) (told : K → Option (Told (ℕ × List ℕ))) (faults : K → ℕ)
    (bundle : PlainBundle) (text : List ℕ) (clock clock_then : C) (files files_then : T) (shelves shelves_then : List K) : Type 0 where
  pub transcripts : List PlainTranscript
  pub journal : Entries
  pub run : IsDeviceRun ticks clock_faults text_told text_faults told faults bundle journal transcripts clock clock_then files files_then shelves shelves_then
  pub output : text ≡ output_text transcripts (reverse journal)
  pub printable : ArePrintable transcripts (reverse journal)

-- what may be said of what answers behind an auxiliary: by what it forgets and what it replies, and what it is before and after
abbrev pub SaidOfReplier : Type 1
SaidOfReplier = (S : Type 0) → (S → ℕ → S → Type 0) → (S → ℕ → PlainArray → PlainArray → S → Type 0) → S → S → Type 0

-- and of the shelves of a run: by what they tell, their faults, and what they are before and after
abbrev pub SaidOfShelves : Type 1
SaidOfShelves = (K : Type 0) → (K → Option (Told (ℕ × List ℕ))) → (K → ℕ) → List K → List K → Type 0

-- it holds of the readings of this clock
abbrev pub OverClock : {C : Type 0} → (C → Option Ticks) → (C → ℕ) → C → C → SaidOfReplier → Type 0
OverClock {C} ticks faults clock clock_then Holds = Holds C (λ old party new. new ≡ old) (λ old party value answer new. RepliesByReading ticks faults old value answer new) clock clock_then

-- it holds of what answers behind 10: a relay that held nothing, where one is asked for; else the clock that was handed in, where it is named; and else one of the bundle's readings
abbrev pub BehindTen : {C : Type 0} → (C → Option Ticks) → (C → ℕ) → Bool → Bool → PlainBundle → C → C → SaidOfReplier → Type 0
BehindTen ticks faults true named bundle clock clock_then Holds = (queues : Queues) × Holds Queues (λ old party new. new ≡ old) Relays [] queues
BehindTen ticks faults false true bundle clock clock_then Holds = OverClock ticks faults clock clock_then Holds
BehindTen ticks faults false false bundle clock clock_then Holds = (readings : Timer) × OverClock (λ c. Some c.told) (λ c. c.faults) (clock_of bundle) readings Holds

-- it holds of the files in this store: of component files, where they are asked for, and else of files of lines. The protocol begins between files, and stands somewhere at the end
abbrev pub OverFiles : {T : Type 0} → (T → Option (Told (List ℕ))) → (T → ℕ) → Bool → T → T → SaidOfReplier → Type 0
OverFiles {T} told faults true files files_then Holds =
    (state : FileState) × Holds (Filed T) (λ old party new. new ≡ component.forgotten old) (λ old party value answer new. component.Replies told faults old value answer new)
    (record { store = files; state = component_state.idle }) (record { store = files_then; state = state })
OverFiles {T} told faults false files files_then Holds =
    (state : TextState) × Holds (Served T) (λ old party new. new ≡ forgotten old) (λ old party value answer new. Replies told faults old value answer new)
    (record { store = files; state = idle }) (record { store = files_then; state = state })

-- a store tells what it told before, with this place more behind its places, where it told anything; and its count of faults did not fall
abbrev pub IsPlaced : {T : Type 0} → (T → Option (Told (List ℕ))) → (T → ℕ) → List ℕ → T → T → Type 0
IsPlaced told faults place before now = (told now ≡ option_map (placed place) (told before)) × (faults before ≤ faults now)

-- it holds of what answers behind 20: of files in the store that was handed in, at its place, where that is named, and else in one of the bundle's files
abbrev pub BehindTwenty : {T : Type 0} → (T → Option (Told (List ℕ))) → (T → ℕ) → Option (List ℕ) → Bool → PlainBundle → T → T → SaidOfReplier → Type 0
BehindTwenty {T} told faults (Some place) components bundle files files_then Holds = (placed : T) × IsPlaced told faults place files placed × OverFiles told faults components placed files_then Holds
BehindTwenty told faults None components bundle files files_then Holds = (kept : Keeper (List ℕ)) × OverFiles (λ t. Some t.told) (λ t. t.faults) components (text_store_of bundle) kept Holds

-- of shelves before and now, one by one as far as there are of both, no count of faults fell
abbrev pub NoneFell : {K : Type 0} → (K → ℕ) → List K → List K → Type 0
NoneFell faults [] now = Unit {0}
NoneFell faults (shelf ∷ before) [] = Unit {0}
NoneFell faults (shelf ∷ before) (shelf_now ∷ now) = (faults shelf ≤ faults shelf_now) × NoneFell faults before now

-- each of the first so many shelves tells what it told before, with this place more behind its places, where it told anything; no count of faults fell; and the shelves behind them are as they were
pub record AreToldTheirPlace {K : Type 0} (told : K → Option (Told (ℕ × List ℕ))) (faults : K → ℕ) (place : List ℕ) (count : ℕ) (before now : List K) : Type 0 where
  pub tell : map told (take count now) ≡ map (λ shelf. option_map (placed place) (told shelf)) (take count before)
  pub counted : NoneFell faults before now
  pub others : drop count now ≡ drop count before

-- it holds of the shelves that were handed in, each user's at its place, where they are named, and else of empty ones, one for each user
abbrev pub OverShelves : {K : Type 0} → (K → Option (Told (ℕ × List ℕ))) → (K → ℕ) → Option (List ℕ) → PlainBundle → List K → List K → SaidOfShelves → Type 0
OverShelves {K} told faults (Some place) bundle shelves shelves_then Holds = (placed : List K) × AreToldTheirPlace told faults place (length bundle.users) shelves placed × Holds K told faults placed shelves_then
OverShelves told faults None bundle shelves shelves_then Holds = (kept : List (Keeper (ℕ × List ℕ))) × Holds (Keeper (ℕ × List ℕ)) (λ k. Some k.told) (λ k. k.faults) (shelves_of bundle) kept

-- a run of this bundle by one of the drivers: this is its journal, and these are its transcripts. It is in turns, so that its journal is that of the bundle's replay, or it is on threads, whoever had his turn when
abbrev pub RunBy : {X Y K : Type 0} → Bool → (X → ℕ → X → Type 0) → (X → ℕ → PlainArray → PlainArray → X → Type 0) → (Y → ℕ → Y → Type 0) → (Y → ℕ → PlainArray → PlainArray → Y → Type 0) → (K → Option (Told (ℕ × List ℕ))) → (K → ℕ)
    → PlainBundle → Entries → List PlainTranscript → X → X → Y → Y → List K → List K → Type 0
RunBy true forgets_ten replies_ten forgets_twenty replies_twenty told faults bundle journal transcripts ten ten_then twenty twenty_then shelves shelves_then =
    IsRunInTurns forgets_ten replies_ten forgets_twenty replies_twenty told faults bundle journal transcripts ten ten_then twenty twenty_then shelves shelves_then
RunBy false forgets_ten replies_ten forgets_twenty replies_twenty told faults bundle journal transcripts ten ten_then twenty twenty_then shelves shelves_then =
    IsSomeRun forgets_ten replies_ten forgets_twenty replies_twenty told faults bundle journal transcripts ten ten_then twenty twenty_then shelves shelves_then

-- over what answers behind 10 and 20, and the shelves that are named
abbrev pub ShelvedRun : {X Y K : Type 0} → Bool → (X → ℕ → X → Type 0) → (X → ℕ → PlainArray → PlainArray → X → Type 0) → (Y → ℕ → Y → Type 0) → (Y → ℕ → PlainArray → PlainArray → Y → Type 0) → (K → Option (Told (ℕ × List ℕ))) → (K → ℕ)
    → Option (List ℕ) → PlainBundle → Entries → List PlainTranscript → X → X → Y → Y → List K → List K → Type 0
ShelvedRun in_turns forgets_ten replies_ten forgets_twenty replies_twenty told faults library bundle journal transcripts ten ten_then twenty twenty_then shelves shelves_then =
    OverShelves told faults library bundle shelves shelves_then (λ K told faults shelves shelves_then.
    RunBy in_turns forgets_ten replies_ten forgets_twenty replies_twenty told faults bundle journal transcripts ten ten_then twenty twenty_then shelves shelves_then)

-- over what answers behind 20, and what is named for 10 and for shelves
abbrev pub TwentyRun : {C Y K : Type 0} → Bool → (C → Option Ticks) → (C → ℕ) → (Y → ℕ → Y → Type 0) → (Y → ℕ → PlainArray → PlainArray → Y → Type 0) → (K → Option (Told (ℕ × List ℕ))) → (K → ℕ)
    → Bool → Bool → Option (List ℕ) → PlainBundle → Entries → List PlainTranscript → C → C → Y → Y → List K → List K → Type 0
TwentyRun in_turns ticks clock_faults forgets_twenty replies_twenty told faults relay named library bundle journal transcripts clock clock_then twenty twenty_then shelves shelves_then =
    BehindTen ticks clock_faults relay named bundle clock clock_then (λ X forgets_ten replies_ten ten ten_then.
    ShelvedRun in_turns forgets_ten replies_ten forgets_twenty replies_twenty told faults library bundle journal transcripts ten ten_then twenty twenty_then shelves shelves_then)

-- over all that is named
abbrev pub NamedRun : {C T K : Type 0} → Bool → (C → Option Ticks) → (C → ℕ) → (T → Option (Told (List ℕ))) → (T → ℕ) → (K → Option (Told (ℕ × List ℕ))) → (K → ℕ)
    → Option (List ℕ) → Bool → Bool → Bool → Option (List ℕ) → PlainBundle → Entries → List PlainTranscript → C → C → T → T → List K → List K → Type 0
NamedRun in_turns ticks clock_faults text_told text_faults told faults place components relay named library bundle journal transcripts clock clock_then files files_then shelves shelves_then =
    BehindTwenty text_told text_faults place components bundle files files_then (λ Y forgets_twenty replies_twenty twenty twenty_then.
    TwentyRun in_turns ticks clock_faults forgets_twenty replies_twenty told faults relay named library bundle journal transcripts clock clock_then twenty twenty_then shelves shelves_then)

-- the bytes are the text of a bundle, and the text is the output of a run of it over what is asked for: in turns, where a replay is asked for, and else on threads
pub record IsOutputAs {C T K : Type 0} (ticks : C → Option Ticks) (clock_faults : C → ℕ) (text_told : T → Option (Told (List ℕ))) (text_faults : T → ℕ) (told : K → Option (Told (ℕ × List ℕ))) (faults : K → ℕ)
    (asked : Asked) (clock clock_then : C) (files files_then : T) (shelves shelves_then : List K) (bytes text : List ℕ) : Type 0 where
  pub bundle : PlainBundle
  pub read : BundleText bytes bundle
  pub transcripts : List PlainTranscript
  pub journal : Entries
  pub run : NamedRun asked.replay ticks clock_faults text_told text_faults told faults asked.text asked.components asked.relay asked.clock asked.library bundle journal transcripts clock clock_then files files_then shelves shelves_then
  pub output : text ≡ output_text transcripts (reverse journal)
  pub printable : ArePrintable transcripts (reverse journal)

-- all bytes were read, to their end, and the output of a run of their bundle was written
pub record WritesRun (IsRunOf : List ℕ → List ℕ → Type 0) (left rest held now : Option (List ℕ)) : Type 0 where
  pub bytes : List ℕ
  pub text : List ℕ
  pub read : ReadsAll left rest bytes
  pub run : IsRunOf bytes text
  pub written : Appends held now text

-- all bytes were read, to their end, and a part of the output of a run of their bundle was written, from its front on
pub record WritesFront (IsRunOf : List ℕ → List ℕ → Type 0) (left rest held now : Option (List ℕ)) : Type 0 where
  pub bytes : List ℕ
  pub text : List ℕ
  pub read : ReadsAll left rest bytes
  pub run : IsRunOf bytes text
  pub written : AppendsPrefix held now text

-- all bytes were read, to their end, and the part of them that is to be a bundle is the text of none, since this rule is broken at this offset
pub record FindsNoBundle (IsPartOf : List ℕ → List ℕ → Type 0) (left rest : Option (List ℕ)) (offset : ℕ) (rule : BundleRule) : Type 0 where
  pub bytes : List ℕ
  pub part : List ℕ
  pub read : ReadsAll left rest bytes
  pub of : IsPartOf bytes part
  pub refused : Breaks part offset rule
  pub none : IsNoBundle part
