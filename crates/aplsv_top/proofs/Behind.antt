-- What answers behind 10 and 20 is what was asked for.
use Rattle.std.proofs.Common.{◌≡◌, ◌∙◌, ℕ, Bool, true, false, List, [], Option, ap, refl, subst, sym}
use Rattle.apl_arrays.specs.Array.{PlainArray}
use Rattle.apl_io.specs.Clock.{Ticks}
use Rattle.apl_io.specs.Content.{Told}
use Rattle.apl_io.specs.Kept.{Keeper, Timer}
use Rattle.aux_choice.specs.OneOf.{Forgets, Replies}
use Rattle.aux_choice.specs.declared.one_of.OneOf.{OneOf}
use Rattle.aux_choice.specs.declared.one_of.OneOf.TheVariants.{First, Second}
use Rattle.aux_components.specs.Filed as component
use Rattle.aux_components.specs.Filed.{Filed}
use Rattle.aux_components.specs.Protocol as component_state
use Rattle.aux_relay.specs.Queues.{Queues, Relays}
use Rattle.auxiliaries.specs.Clock.{RepliesByReading}
use Rattle.auxiliaries.specs.Protocol.{idle}
use Rattle.auxiliaries.specs.Served as line
use Rattle.auxiliaries.specs.Served.{Served, forgotten}
use Rattle.bundle_text.specs.Bundle.{PlainBundle}
use Rattle.sv_journal.specs.Output.{PlainTranscript}
use Rattle.sv_rules.specs.Entries.{Entries}
use Rattle.bundle_devices.specs.Devices.{clock_of, text_store_of}
use Rattle.aplsv_top.specs.Headline.{ShelvedRun, TwentyRun}
use Rattle.aplsv_top.specs.StoredFiles.{files_in, store_of}
use Rattle.aplsv_top.proofs.OneOfRuns.{ten_is_first, ten_is_second, twenty_is_first, twenty_is_second}
use Rattle.aplsv_top.proofs.Over.{FilesRun, clock_faults_of, faults_of, ticks_of, told_of}

-- ---- behind 10

-- the clock that was handed in, or what a run has of its own: a relay, or a clock of the bundle's readings
abbrev pub ForgetsTen : {C : Type 0} → OneOf C (OneOf Queues Timer) → ℕ → OneOf C (OneOf Queues Timer) → Type 0
ForgetsTen = Forgets (λ old party new. new ≡ old) (Forgets (λ old party new. new ≡ old) (λ old party new. new ≡ old))

abbrev pub RepliesTen : {C : Type 0} → (C → Option Ticks) → (C → ℕ) → OneOf C (OneOf Queues Timer) → ℕ → PlainArray → PlainArray → OneOf C (OneOf Queues Timer) → Type 0
RepliesTen ticks faults = Replies (λ old party value answer new. RepliesByReading ticks faults old value answer new) (Replies Relays (λ old party value answer new. RepliesByReading ticks_of clock_faults_of old value answer new))

-- the first of two, or this where it is the second
abbrev first_or : {X Y : Type 0} → X → OneOf X Y → X
first_or otherwise (First x) = x
first_or otherwise (Second y) = otherwise

module _ (in_turns : Bool) {C Y K : Type 0} (forgets_clock : C → ℕ → C → Type 0) (replies_clock : C → ℕ → PlainArray → PlainArray → C → Type 0) (forgets_own : Timer → ℕ → Timer → Type 0) (replies_own : Timer → ℕ → PlainArray → PlainArray → Timer → Type 0)
    (forgets_twenty : Y → ℕ → Y → Type 0) (replies_twenty : Y → ℕ → PlainArray → PlainArray → Y → Type 0) (told : K → Option (Told (ℕ × List ℕ))) (faults : K → ℕ)
    (library : Option (List ℕ)) (bundle : PlainBundle) (journal : Entries) (transcripts : List PlainTranscript) (twenty twenty_then : Y) (shelves shelves_then : List K) where
  -- what a run has of its own: a relay, or a clock of the bundle's readings
  abbrev ForgetsOwn : OneOf Queues Timer → ℕ → OneOf Queues Timer → Type 0
  ForgetsOwn = Forgets (λ old party new. new ≡ old) forgets_own

  abbrev RepliesOwn : OneOf Queues Timer → ℕ → PlainArray → PlainArray → OneOf Queues Timer → Type 0
  RepliesOwn = Replies Relays replies_own

  -- the clock that was handed in, or what the run has of its own
  abbrev pub RunBehindTen : OneOf C (OneOf Queues Timer) → OneOf C (OneOf Queues Timer) → Type 0
  RunBehindTen ten ten_then =
      ShelvedRun in_turns (Forgets forgets_clock ForgetsOwn) (Replies replies_clock RepliesOwn) forgets_twenty replies_twenty told faults library bundle journal transcripts ten ten_then twenty twenty_then shelves shelves_then

  -- over a relay
  pub over_relay : (queues : Queues) (ten_then : OneOf C (OneOf Queues Timer)) → queues ≡ [] → RunBehindTen (Second (First queues)) ten_then
      → (last : Queues) × ShelvedRun in_turns (λ old party new. new ≡ old) Relays forgets_twenty replies_twenty told faults library bundle journal transcripts [] last twenty twenty_then shelves shelves_then
  over_relay queues ten_then empty over =
      let own = ten_is_second in_turns forgets_clock replies_clock ForgetsOwn RepliesOwn forgets_twenty replies_twenty told faults library bundle journal transcripts ten_then twenty twenty_then shelves shelves_then (First queues) over in
      let relay =
      ten_is_first in_turns (λ old party new. new ≡ old) Relays forgets_own replies_own forgets_twenty replies_twenty told faults library bundle journal transcripts own.0 twenty twenty_then shelves shelves_then queues own.2 in (
        relay.0,
        subst (λ (q : Queues). ShelvedRun in_turns (λ old party new. new ≡ old) Relays forgets_twenty replies_twenty told faults library bundle journal transcripts q relay.0 twenty twenty_then shelves shelves_then) empty relay.2,
      )

  -- over the clock that was handed in
  pub over_clock : (clock clock_then : C) (ten_then : OneOf C (OneOf Queues Timer)) → ten_then ≡ First clock_then → RunBehindTen (First clock) ten_then
      → ShelvedRun in_turns forgets_clock replies_clock forgets_twenty replies_twenty told faults library bundle journal transcripts clock clock_then twenty twenty_then shelves shelves_then
  over_clock clock clock_then ten_then is over =
      let handed = ten_is_first in_turns forgets_clock replies_clock ForgetsOwn RepliesOwn forgets_twenty replies_twenty told faults library bundle journal transcripts ten_then twenty twenty_then shelves shelves_then clock over in
      let same : handed.0 ≡ clock_then = ap (first_or clock) (sym handed.1 ∙ is) in
      subst (λ (c : C). ShelvedRun in_turns forgets_clock replies_clock forgets_twenty replies_twenty told faults library bundle journal transcripts clock c twenty twenty_then shelves shelves_then) same handed.2

  -- over the bundle's readings
  pub over_readings : (readings : Timer) (ten_then : OneOf C (OneOf Queues Timer)) → readings ≡ clock_of bundle → RunBehindTen (Second (Second readings)) ten_then
      → (left : Timer) × ShelvedRun in_turns forgets_own replies_own forgets_twenty replies_twenty told faults library bundle journal transcripts (clock_of bundle) left twenty twenty_then shelves shelves_then
  over_readings readings ten_then is over =
      let own = ten_is_second in_turns forgets_clock replies_clock ForgetsOwn RepliesOwn forgets_twenty replies_twenty told faults library bundle journal transcripts ten_then twenty twenty_then shelves shelves_then (Second readings) over in
      let clock =
      ten_is_second in_turns (λ old party new. new ≡ old) Relays forgets_own replies_own forgets_twenty replies_twenty told faults library bundle journal transcripts own.0 twenty twenty_then shelves shelves_then readings own.2 in (
        clock.0,
        subst (λ (c : Timer). ShelvedRun in_turns forgets_own replies_own forgets_twenty replies_twenty told faults library bundle journal transcripts c clock.0 twenty twenty_then shelves shelves_then) is clock.2,
      )

-- ---- behind 20

-- files in a store: of lines, or component files
abbrev pub ForgetsFiles : {T : Type 0} → OneOf (Served T) (Filed T) → ℕ → OneOf (Served T) (Filed T) → Type 0
ForgetsFiles = Forgets (λ old party new. new ≡ forgotten old) (λ old party new. new ≡ component.forgotten old)

abbrev pub RepliesFiles : {T : Type 0} → (T → Option (Told (List ℕ))) → (T → ℕ) → OneOf (Served T) (Filed T) → ℕ → PlainArray → PlainArray → OneOf (Served T) (Filed T) → Type 0
RepliesFiles told faults = Replies (λ old party value answer new. line.Replies told faults old value answer new) (λ old party value answer new. component.Replies told faults old value answer new)

module _ (in_turns : Bool) {C T K : Type 0} (ticks : C → Option Ticks) (clock_faults : C → ℕ) (text_told : T → Option (Told (List ℕ))) (text_faults : T → ℕ) (told : K → Option (Told (ℕ × List ℕ))) (faults : K → ℕ)
    (relay named : Bool) (library : Option (List ℕ)) (bundle : PlainBundle) (journal : Entries) (transcripts : List PlainTranscript) (clock clock_then : C) (shelves shelves_then : List K) where
  -- they are in the store that was handed in
  pub over_files : (components : Bool) (store store_then : T) (files files_then : OneOf (Served T) (Filed T)) → files ≡ files_in components store → store_then ≡ store_of files_then
      → TwentyRun in_turns ticks clock_faults ForgetsFiles (RepliesFiles text_told text_faults) told faults relay named library bundle journal transcripts clock clock_then files files_then shelves shelves_then
      → FilesRun in_turns ticks clock_faults text_told text_faults told faults components relay named library bundle journal transcripts clock clock_then store store_then shelves shelves_then
  over_files true store store_then files files_then begins ends over =
      let start : Filed T = record { store = store; state = component_state.idle } in
      let filed =
      twenty_is_second in_turns ticks clock_faults (λ old party new. new ≡ forgotten old) (λ old party value answer new. line.Replies text_told text_faults old value answer new) (λ old party new. new ≡ component.forgotten old)
      (λ old party value answer new. component.Replies text_told text_faults old value answer new) told faults relay named library bundle journal transcripts clock clock_then files_then shelves shelves_then start
      (subst (λ (f : OneOf (Served T) (Filed T)). TwentyRun in_turns ticks clock_faults ForgetsFiles (RepliesFiles text_told text_faults) told faults relay named library bundle journal transcripts clock clock_then f files_then shelves shelves_then) begins over) in
      let is : filed.0.store ≡ store_then = sym (ends ∙ ap store_of filed.1) in (
        filed.0.state,
        subst
            (λ (t : T). TwentyRun in_turns ticks clock_faults (λ old party new. new ≡ component.forgotten old) (λ old party value answer new. component.Replies text_told text_faults old value answer new) told faults relay named library bundle journal transcripts
            clock clock_then start (record { store = t; state = filed.0.state }) shelves shelves_then) is filed.2,
      )
  over_files false store store_then files files_then begins ends over =
      let start : Served T = record { store = store; state = idle } in
      let served =
      twenty_is_first in_turns ticks clock_faults (λ old party new. new ≡ forgotten old) (λ old party value answer new. line.Replies text_told text_faults old value answer new) (λ old party new. new ≡ component.forgotten old)
      (λ old party value answer new. component.Replies text_told text_faults old value answer new) told faults relay named library bundle journal transcripts clock clock_then files_then shelves shelves_then start
      (subst (λ (f : OneOf (Served T) (Filed T)). TwentyRun in_turns ticks clock_faults ForgetsFiles (RepliesFiles text_told text_faults) told faults relay named library bundle journal transcripts clock clock_then f files_then shelves shelves_then) begins over) in
      let is : served.0.store ≡ store_then = sym (ends ∙ ap store_of served.1) in (
        served.0.state,
        subst
            (λ (t : T). TwentyRun in_turns ticks clock_faults (λ old party new. new ≡ forgotten old) (λ old party value answer new. line.Replies text_told text_faults old value answer new) told faults relay named library bundle journal transcripts
            clock clock_then start (record { store = t; state = served.0.state }) shelves shelves_then) is served.2,
      )

module _ (in_turns : Bool) {C F K : Type 0} (ticks : C → Option Ticks) (clock_faults : C → ℕ) (forgets_files : F → ℕ → F → Type 0) (replies_files : F → ℕ → PlainArray → PlainArray → F → Type 0) (told : K → Option (Told (ℕ × List ℕ))) (faults : K → ℕ)
    (relay named : Bool) (library : Option (List ℕ)) (bundle : PlainBundle) (journal : Entries) (transcripts : List PlainTranscript) (clock clock_then : C) (shelves shelves_then : List K) where
  -- the files in the store that was handed in, or in the bundle's
  abbrev pub RunBehindTwenty : OneOf F (OneOf (Served (Keeper (List ℕ))) (Filed (Keeper (List ℕ)))) → OneOf F (OneOf (Served (Keeper (List ℕ))) (Filed (Keeper (List ℕ)))) → Type 0
  RunBehindTwenty twenty twenty_then =
      TwentyRun in_turns ticks clock_faults (Forgets forgets_files ForgetsFiles) (Replies replies_files (RepliesFiles told_of faults_of)) told faults relay named library bundle journal transcripts
      clock clock_then twenty twenty_then shelves shelves_then

  -- over those that were handed in
  pub over_handed_files : (files files_then : F) (twenty_then : OneOf F (OneOf (Served (Keeper (List ℕ))) (Filed (Keeper (List ℕ))))) → twenty_then ≡ First files_then → RunBehindTwenty (First files) twenty_then
      → TwentyRun in_turns ticks clock_faults forgets_files replies_files told faults relay named library bundle journal transcripts clock clock_then files files_then shelves shelves_then
  over_handed_files files files_then twenty_then is over =
      let handed =
      twenty_is_first in_turns ticks clock_faults forgets_files replies_files ForgetsFiles (RepliesFiles told_of faults_of) told faults relay named library bundle journal transcripts clock clock_then twenty_then shelves shelves_then files over in
      let same : handed.0 ≡ files_then = ap (first_or files) (sym handed.1 ∙ is) in
      subst (λ (f : F). TwentyRun in_turns ticks clock_faults forgets_files replies_files told faults relay named library bundle journal transcripts clock clock_then files f shelves shelves_then) same handed.2

  -- over the bundle's own
  pub over_own_files : (components : Bool) (own : Keeper (List ℕ)) (files : OneOf (Served (Keeper (List ℕ))) (Filed (Keeper (List ℕ)))) (twenty_then : OneOf F (OneOf (Served (Keeper (List ℕ))) (Filed (Keeper (List ℕ)))))
      → files ≡ files_in components own → own ≡ text_store_of bundle → RunBehindTwenty (Second files) twenty_then
      → (kept : Keeper (List ℕ)) × FilesRun in_turns ticks clock_faults told_of faults_of told faults components relay named library bundle journal transcripts clock clock_then (text_store_of bundle) kept shelves shelves_then
  over_own_files components own files twenty_then begins is over =
      let kept =
      twenty_is_second in_turns ticks clock_faults forgets_files replies_files ForgetsFiles (RepliesFiles told_of faults_of) told faults relay named library bundle journal transcripts clock clock_then twenty_then shelves shelves_then files over in (
        store_of kept.0,
        over_files in_turns ticks clock_faults told_of faults_of told faults relay named library bundle journal transcripts clock clock_then shelves shelves_then components (text_store_of bundle) (store_of kept.0) files kept.0
            (begins ∙ ap (files_in components) is) refl kept.2,
      )
