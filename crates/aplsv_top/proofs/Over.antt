-- What is written of a run over the devices that were asked for.
use Rattle.std.proofs.Common.{◌≡◌, ℕ, Bool, true, false, List, [], None, Option, Some, ap, reverse, subst, subst₂, sym, ◌∙◌}
use Rattle.std.proofs.lemmas.Bool.{false≢true}
use Rattle.std.proofs.lemmas.List.{reverse-reverse}
use Rattle.apl_arrays.specs.Array.{PlainArray}
use Rattle.aux_parties.specs.Auxiliaries.{clock_party, text_party}
use Rattle.apl_io.specs.Clock.{Ticks}
use Rattle.apl_io.specs.Content.{Told}
use Rattle.apl_io.specs.Kept.{Keeper, Timer}
use Rattle.aux_parties.specs.declared.auxiliary.AuxiliaryKind.TheVariants.{Clock, TextFiles}
use Rattle.apl_session.specs.Ended.{IfWhole}
use Rattle.apl_session.specs.declared.outcome.Ended.{Ended}
use Rattle.apl_session.specs.declared.outcome.Ended.TheVariants.{Whole, WantOfMemory}
use Rattle.auxiliaries.specs.Clock.{RepliesByReading}
use Rattle.auxiliaries.specs.Protocol.{idle}
use Rattle.auxiliaries.specs.Run.{IsReplierRun}
use Rattle.auxiliaries.specs.Served.{Replies, forgotten}
use Rattle.aux_components.specs.Filed as component
use Rattle.aux_components.specs.Protocol as component_state
use Rattle.aux_relay.specs.Queues.{Queues, Relays}
use Rattle.aplsv_replay.specs.Replayed.{IsDeviceRun}
use Rattle.bundle_text.specs.Bundle.{BundleText, PlainBundle}
use Rattle.session_rules.specs.Auxiliaries.{events_of}
use Rattle.session_rules.specs.Run.{AreUserParts, Dealings, IsRun, user_numbers}
use Rattle.sv_journal.specs.Output.{PlainTranscript, output_text}
use Rattle.sv_journal.specs.Printable.{ArePrintable}
use Rattle.sv_rules.specs.Entries.{Entries}
use Rattle.sv_rules.specs.Legal.{IsLegal}
use Rattle.aplsv_words.specs.Meaning.{Asked}
use Rattle.bundle_devices.specs.Devices.{clock_of, shelves_of, text_store_of}
use Rattle.aplsv_top.specs.Headline.{IsOutputAs, IsOutputIn, IsOutputOf, NamedRun, OverFiles, RunBy, ShelvedRun, TwentyRun}

-- what devices in memory tell, and their faults
abbrev pub ticks_of : Timer → Option Ticks
ticks_of c = Some c.told

abbrev pub clock_faults_of : Timer → ℕ
clock_faults_of c = c.faults

abbrev pub told_of : {N : Type 0} → Keeper N → Option (Told N)
told_of k = Some k.told

abbrev pub faults_of : {N : Type 0} → Keeper N → ℕ
faults_of k = k.faults

-- what follows of a run that is whole
pub if_whole : (ended : Ended) (P Q : List PlainTranscript → Entries → Type 0) → ((transcripts : List PlainTranscript) (journal : Entries) → P transcripts journal → Q transcripts journal) → IfWhole ended P → IfWhole ended Q
if_whole (Whole transcripts journal) P Q follows run = follows transcripts.items (reverse journal.items) run
if_whole WantOfMemory P Q follows run = tt

-- a relay that held nothing gave the replies that party 10 set in a journal
abbrev pub RelaysThroughout : Entries → Type 0
RelaysThroughout journal = (queues : Queues) × IsReplierRun (λ old party new. new ≡ old) Relays [] (events_of journal clock_party) queues

-- ---- whatever devices a run had, its journal is legal, and each user has its part

pub record HasParts (bundle : PlainBundle) (journal : Entries) (transcripts : List PlainTranscript) : Type 0 where
  pub dealings : Dealings
  pub legal : IsLegal (user_numbers bundle) journal
  pub users : AreUserParts dealings journal bundle.users transcripts

module _ {X Y K : Type 0} (forgets_ten : X → ℕ → X → Type 0) (replies_ten : X → ℕ → PlainArray → PlainArray → X → Type 0) (forgets_twenty : Y → ℕ → Y → Type 0) (replies_twenty : Y → ℕ → PlainArray → PlainArray → Y → Type 0)
    (told : K → Option (Told (ℕ × List ℕ))) (faults : K → ℕ) where
  -- whoever gave the turns, it is a run with some dealings
  pub run_itself : (in_turns : Bool) (bundle : PlainBundle) (journal : Entries) (transcripts : List PlainTranscript) (ten ten_then : X) (twenty twenty_then : Y) (shelves shelves_then : List K)
      → RunBy in_turns forgets_ten replies_ten forgets_twenty replies_twenty told faults bundle journal transcripts ten ten_then twenty twenty_then shelves shelves_then → (dealings : Dealings) × IsRun forgets_ten replies_ten forgets_twenty replies_twenty told faults bundle dealings journal transcripts ten ten_then twenty twenty_then shelves shelves_then
  run_itself true bundle journal transcripts ten ten_then twenty twenty_then shelves shelves_then over = (over.dealings, over.run)
  run_itself false bundle journal transcripts ten ten_then twenty twenty_then shelves shelves_then over = (over.dealings, over.run)

  -- what it did behind 10, and behind 20
  pub answers_of_ten : (in_turns : Bool) (bundle : PlainBundle) (journal : Entries) (transcripts : List PlainTranscript) (ten ten_then : X) (twenty twenty_then : Y) (shelves shelves_then : List K)
      → RunBy in_turns forgets_ten replies_ten forgets_twenty replies_twenty told faults bundle journal transcripts ten ten_then twenty twenty_then shelves shelves_then → IsReplierRun forgets_ten replies_ten ten (events_of journal clock_party) ten_then
  answers_of_ten in_turns bundle journal transcripts ten ten_then twenty twenty_then shelves shelves_then over = ((run_itself in_turns bundle journal transcripts ten ten_then twenty twenty_then shelves shelves_then over).1.parts Clock).answers

  pub answers_of_twenty : (in_turns : Bool) (bundle : PlainBundle) (journal : Entries) (transcripts : List PlainTranscript) (ten ten_then : X) (twenty twenty_then : Y) (shelves shelves_then : List K)
      → RunBy in_turns forgets_ten replies_ten forgets_twenty replies_twenty told faults bundle journal transcripts ten ten_then twenty twenty_then shelves shelves_then → IsReplierRun forgets_twenty replies_twenty twenty (events_of journal text_party) twenty_then
  answers_of_twenty in_turns bundle journal transcripts ten ten_then twenty twenty_then shelves shelves_then over = ((run_itself in_turns bundle journal transcripts ten ten_then twenty twenty_then shelves shelves_then over).1.parts TextFiles).answers

  driven_parts : (in_turns : Bool) (bundle : PlainBundle) (journal : Entries) (transcripts : List PlainTranscript) (ten ten_then : X) (twenty twenty_then : Y) (shelves shelves_then : List K)
      → RunBy in_turns forgets_ten replies_ten forgets_twenty replies_twenty told faults bundle journal transcripts ten ten_then twenty twenty_then shelves shelves_then → HasParts bundle journal transcripts
  driven_parts in_turns bundle journal transcripts ten ten_then twenty twenty_then shelves shelves_then over =
      let some = run_itself in_turns bundle journal transcripts ten ten_then twenty twenty_then shelves shelves_then over in
      record { dealings = some.0; legal = some.1.legal; users = some.1.users }

module _ (in_turns : Bool) {X Y K : Type 0} (forgets_ten : X → ℕ → X → Type 0) (replies_ten : X → ℕ → PlainArray → PlainArray → X → Type 0) (forgets_twenty : Y → ℕ → Y → Type 0) (replies_twenty : Y → ℕ → PlainArray → PlainArray → Y → Type 0)
    (told : K → Option (Told (ℕ × List ℕ))) (faults : K → ℕ) where
  shelved_parts : (library : Option (List ℕ)) (bundle : PlainBundle) (journal : Entries) (transcripts : List PlainTranscript) (ten ten_then : X) (twenty twenty_then : Y) (shelves shelves_then : List K)
      → ShelvedRun in_turns forgets_ten replies_ten forgets_twenty replies_twenty told faults library bundle journal transcripts ten ten_then twenty twenty_then shelves shelves_then → HasParts bundle journal transcripts
  shelved_parts (Some place) bundle journal transcripts ten ten_then twenty twenty_then shelves shelves_then over =
      driven_parts forgets_ten replies_ten forgets_twenty replies_twenty told faults in_turns bundle journal transcripts ten ten_then twenty twenty_then over.0 shelves_then over.2
  shelved_parts None bundle journal transcripts ten ten_then twenty twenty_then shelves shelves_then over =
      driven_parts forgets_ten replies_ten forgets_twenty replies_twenty told_of faults_of in_turns bundle journal transcripts ten ten_then twenty twenty_then (shelves_of bundle) over.0 over.1

module _ (in_turns : Bool) {C Y K : Type 0} (ticks : C → Option Ticks) (clock_faults : C → ℕ) (forgets_twenty : Y → ℕ → Y → Type 0) (replies_twenty : Y → ℕ → PlainArray → PlainArray → Y → Type 0) (told : K → Option (Told (ℕ × List ℕ))) (faults : K → ℕ) where
  twenty_parts : (relay named : Bool) (library : Option (List ℕ)) (bundle : PlainBundle) (journal : Entries) (transcripts : List PlainTranscript) (clock clock_then : C) (twenty twenty_then : Y) (shelves shelves_then : List K)
      → TwentyRun in_turns ticks clock_faults forgets_twenty replies_twenty told faults relay named library bundle journal transcripts clock clock_then twenty twenty_then shelves shelves_then → HasParts bundle journal transcripts
  twenty_parts true named library bundle journal transcripts clock clock_then twenty twenty_then shelves shelves_then over =
      shelved_parts in_turns (λ old party new. new ≡ old) Relays forgets_twenty replies_twenty told faults library bundle journal transcripts [] over.0 twenty twenty_then shelves shelves_then over.1
  twenty_parts false true library bundle journal transcripts clock clock_then twenty twenty_then shelves shelves_then over =
      shelved_parts in_turns (λ old party new. new ≡ old) (λ old party value answer new. RepliesByReading ticks clock_faults old value answer new) forgets_twenty replies_twenty told faults library bundle journal transcripts clock clock_then twenty twenty_then
      shelves shelves_then over
  twenty_parts false false library bundle journal transcripts clock clock_then twenty twenty_then shelves shelves_then over =
      shelved_parts in_turns (λ old party new. new ≡ old) (λ old party value answer new. RepliesByReading ticks_of clock_faults_of old value answer new) forgets_twenty replies_twenty told faults library bundle journal transcripts (clock_of bundle) over.0
      twenty twenty_then shelves shelves_then over.1

  -- where there is a relay, its replies are those of the journal
  twenty_relayed : (named : Bool) (library : Option (List ℕ)) (bundle : PlainBundle) (journal : Entries) (transcripts : List PlainTranscript) (clock clock_then : C) (twenty twenty_then : Y) (shelves shelves_then : List K)
      → TwentyRun in_turns ticks clock_faults forgets_twenty replies_twenty told faults true named library bundle journal transcripts clock clock_then twenty twenty_then shelves shelves_then → RelaysThroughout journal
  twenty_relayed named (Some place) bundle journal transcripts clock clock_then twenty twenty_then shelves shelves_then over =
      (over.0, answers_of_ten (λ old party new. new ≡ old) Relays forgets_twenty replies_twenty told faults in_turns bundle journal transcripts [] over.0 twenty twenty_then over.1.0 shelves_then over.1.2)
  twenty_relayed named None bundle journal transcripts clock clock_then twenty twenty_then shelves shelves_then over =
      (over.0, answers_of_ten (λ old party new. new ≡ old) Relays forgets_twenty replies_twenty told_of faults_of in_turns bundle journal transcripts [] over.0 twenty twenty_then (shelves_of bundle) over.1.0 over.1.1)

module _ (in_turns : Bool) {C T K : Type 0} (ticks : C → Option Ticks) (clock_faults : C → ℕ) (text_told : T → Option (Told (List ℕ))) (text_faults : T → ℕ) (told : K → Option (Told (ℕ × List ℕ))) (faults : K → ℕ) where
  -- a run over the files in a store, and all else that is named
  abbrev pub FilesRun : Bool → Bool → Bool → Option (List ℕ) → PlainBundle → Entries → List PlainTranscript → C → C → T → T → List K → List K → Type 0
  FilesRun components relay named library bundle journal transcripts clock clock_then files files_then shelves shelves_then =
      OverFiles text_told text_faults components files files_then (λ Y forgets_twenty replies_twenty twenty twenty_then.
      TwentyRun in_turns ticks clock_faults forgets_twenty replies_twenty told faults relay named library bundle journal transcripts clock clock_then twenty twenty_then shelves shelves_then)

  files_parts : (components relay named : Bool) (library : Option (List ℕ)) (bundle : PlainBundle) (journal : Entries) (transcripts : List PlainTranscript) (clock clock_then : C) (files files_then : T) (shelves shelves_then : List K)
      → FilesRun components relay named library bundle journal transcripts clock clock_then files files_then shelves shelves_then → HasParts bundle journal transcripts
  files_parts true relay named library bundle journal transcripts clock clock_then files files_then shelves shelves_then over =
      twenty_parts in_turns ticks clock_faults (λ old party new. new ≡ component.forgotten old) (λ old party value answer new. component.Replies text_told text_faults old value answer new) told faults relay named library bundle journal transcripts
      clock clock_then (record { store = files; state = component_state.idle }) (record { store = files_then; state = over.0 }) shelves shelves_then over.1
  files_parts false relay named library bundle journal transcripts clock clock_then files files_then shelves shelves_then over =
      twenty_parts in_turns ticks clock_faults (λ old party new. new ≡ forgotten old) (λ old party value answer new. Replies text_told text_faults old value answer new) told faults relay named library bundle journal transcripts
      clock clock_then (record { store = files; state = idle }) (record { store = files_then; state = over.0 }) shelves shelves_then over.1

  files_relayed : (components named : Bool) (library : Option (List ℕ)) (bundle : PlainBundle) (journal : Entries) (transcripts : List PlainTranscript) (clock clock_then : C) (files files_then : T) (shelves shelves_then : List K)
      → FilesRun components true named library bundle journal transcripts clock clock_then files files_then shelves shelves_then → RelaysThroughout journal
  files_relayed true named library bundle journal transcripts clock clock_then files files_then shelves shelves_then over =
      twenty_relayed in_turns ticks clock_faults (λ old party new. new ≡ component.forgotten old) (λ old party value answer new. component.Replies text_told text_faults old value answer new) told faults named library bundle journal transcripts
      clock clock_then (record { store = files; state = component_state.idle }) (record { store = files_then; state = over.0 }) shelves shelves_then over.1
  files_relayed false named library bundle journal transcripts clock clock_then files files_then shelves shelves_then over =
      twenty_relayed in_turns ticks clock_faults (λ old party new. new ≡ forgotten old) (λ old party value answer new. Replies text_told text_faults old value answer new) told faults named library bundle journal transcripts
      clock clock_then (record { store = files; state = idle }) (record { store = files_then; state = over.0 }) shelves shelves_then over.1

module _ (in_turns : Bool) {C T K : Type 0} (ticks : C → Option Ticks) (clock_faults : C → ℕ) (text_told : T → Option (Told (List ℕ))) (text_faults : T → ℕ) (told : K → Option (Told (ℕ × List ℕ))) (faults : K → ℕ) where
  pub named_parts : (place : Option (List ℕ)) (components relay named : Bool) (library : Option (List ℕ)) (bundle : PlainBundle) (journal : Entries) (transcripts : List PlainTranscript) (clock clock_then : C) (files files_then : T) (shelves shelves_then : List K)
      → NamedRun in_turns ticks clock_faults text_told text_faults told faults place components relay named library bundle journal transcripts clock clock_then files files_then shelves shelves_then → HasParts bundle journal transcripts
  named_parts (Some place) components relay named library bundle journal transcripts clock clock_then files files_then shelves shelves_then over =
      files_parts in_turns ticks clock_faults text_told text_faults told faults components relay named library bundle journal transcripts clock clock_then over.0 files_then shelves shelves_then over.2
  named_parts None components relay named library bundle journal transcripts clock clock_then files files_then shelves shelves_then over =
      files_parts in_turns ticks clock_faults told_of faults_of told faults components relay named library bundle journal transcripts clock clock_then (text_store_of bundle) over.0 shelves shelves_then over.1

  pub named_relayed : (place : Option (List ℕ)) (components relay named : Bool) (library : Option (List ℕ)) (bundle : PlainBundle) (journal : Entries) (transcripts : List PlainTranscript) (clock clock_then : C) (files files_then : T) (shelves shelves_then : List K) → relay ≡ true
      → NamedRun in_turns ticks clock_faults text_told text_faults told faults place components relay named library bundle journal transcripts clock clock_then files files_then shelves shelves_then → RelaysThroughout journal
  named_relayed place components false named library bundle journal transcripts clock clock_then files files_then shelves shelves_then is over = absurd (false≢true is)
  named_relayed (Some place) components true named library bundle journal transcripts clock clock_then files files_then shelves shelves_then is over =
      files_relayed in_turns ticks clock_faults text_told text_faults told faults components named library bundle journal transcripts clock clock_then over.0 files_then shelves shelves_then over.2
  named_relayed None components true named library bundle journal transcripts clock clock_then files files_then shelves shelves_then is over =
      files_relayed in_turns ticks clock_faults told_of faults_of told faults components named library bundle journal transcripts clock clock_then (text_store_of bundle) over.0 shelves shelves_then over.1

  -- ---- a run that ended whole

  -- the run was over what was asked for
  abbrev pub RunAs : Asked → PlainBundle → Entries → List PlainTranscript → C → C → T → T → List K → List K → Type 0
  RunAs asked bundle journal transcripts clock clock_then files files_then shelves shelves_then =
      NamedRun in_turns ticks clock_faults text_told text_faults told faults asked.text asked.components asked.relay asked.clock asked.library bundle journal transcripts clock clock_then files files_then shelves shelves_then

  -- devices that are others by name alone
  pub run_of_same : (asked : Asked) (bundle : PlainBundle) (journal : Entries) (transcripts : List PlainTranscript) (clock clock_then clock_now : C) (files files_then files_now : T) (shelves shelves_then shelves_now : List K)
      → clock_then ≡ clock_now → files_then ≡ files_now → shelves_then ≡ shelves_now
      → RunAs asked bundle journal transcripts clock clock_then files files_then shelves shelves_then → RunAs asked bundle journal transcripts clock clock_now files files_now shelves shelves_now
  run_of_same asked bundle journal transcripts clock clock_then clock_now files files_then files_now shelves shelves_then shelves_now same_clock same_files same_shelves run =
      subst (λ (k : List K). RunAs asked bundle journal transcripts clock clock_now files files_now shelves k) same_shelves
      (subst₂ (λ (c : C) (t : T). RunAs asked bundle journal transcripts clock c files t shelves shelves_then) same_clock same_files run)

  -- what is written of it is its output
  pub output_as : (asked : Asked) → in_turns ≡ asked.replay → (bundle : PlainBundle) (bytes text : List ℕ) (clock clock_then clock_now : C) (files files_then files_now : T) (shelves shelves_then shelves_now : List K) (ended : Ended) → BundleText bytes bundle
      → IfWhole ended (λ transcripts journal. RunAs asked bundle journal transcripts clock clock_then files files_then shelves shelves_then) → IsOutputIn ended text
      → clock_then ≡ clock_now → files_then ≡ files_now → shelves_then ≡ shelves_now
      → IsOutputAs ticks clock_faults text_told text_faults told faults asked clock clock_now files files_now shelves shelves_now bytes text
  output_as asked driver bundle bytes text clock clock_then clock_now files files_then files_now shelves shelves_then shelves_now (Whole transcripts journal) read run written same_clock same_files same_shelves =
      let twice : journal.items ≡ reverse (reverse journal.items) = sym (reverse-reverse journal.items) in
      record {
        bundle = bundle;
        read = read;
        transcripts = transcripts.items;
        journal = reverse journal.items;
        run =
            subst (λ (b : Bool). NamedRun b ticks clock_faults text_told text_faults told faults asked.text asked.components asked.relay asked.clock asked.library bundle (reverse journal.items) transcripts.items clock clock_now files files_now shelves shelves_now) driver
            (run_of_same asked bundle (reverse journal.items) transcripts.items clock clock_then clock_now files files_then files_now shelves shelves_then shelves_now same_clock same_files same_shelves run);
        output = written.0 ∙ ap (output_text transcripts.items) twice;
        printable = subst (ArePrintable transcripts.items) twice written.1;
      }
  output_as asked driver bundle bytes text clock clock_then clock_now files files_then files_now shelves shelves_then shelves_now WantOfMemory read run written same_clock same_files same_shelves = absurd written

-- what is written of a run over the bundle's own readings, files and shelves is its output
pub own_written : (bundle : PlainBundle) (text : List ℕ) (clock clock_then : Timer) (files files_then : Keeper (List ℕ)) (shelves shelves_then : List (Keeper (ℕ × List ℕ))) (ended : Ended)
    → clock ≡ clock_of bundle → files ≡ text_store_of bundle → shelves ≡ shelves_of bundle
    → IfWhole ended (λ transcripts journal. IsDeviceRun ticks_of clock_faults_of told_of faults_of told_of faults_of bundle journal transcripts clock clock_then files files_then shelves shelves_then)
    → IsOutputIn ended text → IsOutputOf bundle text
own_written bundle text clock clock_then files files_then shelves shelves_then (Whole transcripts journal) of_clock of_files of_shelves run written =
    let twice : journal.items ≡ reverse (reverse journal.items) = sym (reverse-reverse journal.items) in
    record {
      transcripts = transcripts.items;
      journal = reverse journal.items;
      clock = clock_then;
      files = files_then;
      shelves = shelves_then;
      run = subst (λ (k : List (Keeper (ℕ × List ℕ))). IsDeviceRun ticks_of clock_faults_of told_of faults_of told_of faults_of bundle (reverse journal.items) transcripts.items (clock_of bundle) clock_then (text_store_of bundle) files_then k shelves_then) of_shelves
          (subst₂ (λ (c : Timer) (t : Keeper (List ℕ)). IsDeviceRun ticks_of clock_faults_of told_of faults_of told_of faults_of bundle (reverse journal.items) transcripts.items c clock_then t files_then shelves shelves_then) of_clock of_files run);
      output = written.0 ∙ ap (output_text transcripts.items) twice;
      printable = subst (ArePrintable transcripts.items) twice written.1;
    }
own_written bundle text clock clock_then files files_then shelves shelves_then WantOfMemory of_clock of_files of_shelves run written = absurd written
