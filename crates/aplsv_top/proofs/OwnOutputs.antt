-- The output of a run over the bundle's own devices is one, with component files and a relay too.
use Rattle.std.proofs.Common.{◌≡◌, ℕ, Bool, true, false, List, [], reverse, Option, Some, None, refl, sym, ap₂, subst, subst₂, ◌∙◌}
use Rattle.apl_arrays.specs.Array.{PlainArray}
use Rattle.aux_components.specs.Filed as component
use Rattle.aux_components.specs.Filed.{Filed}
use Rattle.aux_components.specs.Protocol as component_state
use Rattle.aux_parties.specs.Auxiliaries.{clock_party, text_party}
use Rattle.aux_parties.specs.declared.auxiliary.AuxiliaryKind.TheVariants.{Clock, TextFiles}
use Rattle.aux_relay.specs.Queues.{Relays}
use Rattle.apl_io.specs.Clock.{Ticks}
use Rattle.apl_io.specs.Content.{Told}
use Rattle.apl_io.specs.Kept.{Keeper}
use Rattle.auxiliaries.specs.Clock.{RepliesByReading}
use Rattle.auxiliaries.specs.Protocol.{idle}
use Rattle.auxiliaries.specs.Served.{Replies, Served, forgotten}
use Rattle.bundle_text.specs.Bundle.{BundleText, IsBundle, PlainBundle}
use Rattle.sv_journal.specs.Output.{PlainTranscript, output_text}
use Rattle.sv_rules.specs.Entries.{Entries}
use Rattle.session_rules.specs.RunLaws.{PartsMakeOneTranscript}
use Rattle.aplsv_replay.specs.Replayed.{IsRunInTurns}
use Rattle.bundle_devices.specs.Devices.{clock_of, empty_shelf, shelves_of, text_store_of}
use Rattle.aplsv_top.specs.Headline.{NamedRun, OverFiles}
use Rattle.aplsv_top.specs.OutputLaws.{OwnOutputsAreOne}
use Rattle.bundle_devices.proofs.Clocks.{TickAlike, clocks_are_determined}
use Rattle.aplsv_top.proofs.ComponentAnswers.{FiledAlike, FilesBegin, OneList, components_are_determined}
use Rattle.bundle_devices.proofs.Determined.{Answers, IsDetermined}
use Rattle.bundle_devices.proofs.Files.{BeginsWith, KnownReplies, OneText, ServeAlike, files_are_determined, known_run}
use Rattle.bundle_devices.proofs.OwnDevices.{files_are_sound, files_told, shelf_told}
use Rattle.aplsv_top.proofs.OneReplay.{one_run}
use Rattle.aplsv_top.proofs.Over.{clock_faults_of, faults_of, ticks_of, told_of}
use Rattle.aplsv_top.proofs.RelayAnswers.{RelayAlike, relays_are_determined}
use Rattle.bundle_devices.proofs.Sound.{files_sound, shelves_sound}

module _ (one_transcript : PartsMakeOneTranscript) (bundle : PlainBundle) (rules : IsBundle bundle)
    {S U : Type 0} (forgets_ten : S → ℕ → S → Type 0) (replies_ten : S → ℕ → PlainArray → PlainArray → S → Type 0) (BeginsTen : S → Type 0) (AlikeTen : S → S → Type 0) (one_ten : IsDetermined forgets_ten replies_ten BeginsTen AlikeTen)
    (forgets_twenty : U → ℕ → U → Type 0) (replies_twenty : U → ℕ → PlainArray → PlainArray → U → Type 0) (BeginsTwenty : U → Type 0) (AlikeTwenty : U → U → Type 0) (one_twenty : IsDetermined forgets_twenty replies_twenty BeginsTwenty AlikeTwenty)
    {X Y : Type 0} (forgets_x : X → ℕ → X → Type 0) (replies_x : X → ℕ → PlainArray → PlainArray → X → Type 0) (forgets_y : Y → ℕ → Y → Type 0) (replies_y : Y → ℕ → PlainArray → PlainArray → Y → Type 0) where
  -- a run over the bundle's empty shelves
  abbrev Run : Entries → List PlainTranscript → X → X → Y → Y → List (Keeper (ℕ × List ℕ)) → Type 0
  Run journal transcripts ten ten_then twenty twenty_then shelves_then =
      IsRunInTurns forgets_x replies_x forgets_y replies_y told_of faults_of bundle journal transcripts ten ten_then twenty twenty_then (shelves_of bundle) shelves_then

  -- what answers behind 10 and 20 has runs over its journal that are determined
  abbrev AreDetermined : Entries → Type 0
  AreDetermined journal = Answers forgets_ten replies_ten BeginsTen clock_party journal × Answers forgets_twenty replies_twenty BeginsTwenty text_party journal

  -- there is one
  one_of_own : (journal other : Entries) (transcripts others : List PlainTranscript) (ten ten_then tenth : X) (twenty twenty_then twentieth : Y) (shelves_then racks_then : List (Keeper (ℕ × List ℕ)))
      → Run journal transcripts ten ten_then twenty twenty_then shelves_then → Run other others ten tenth twenty twentieth racks_then → AreDetermined journal → AreDetermined other → (journal ≡ other) × (transcripts ≡ others)
  one_of_own journal other transcripts others ten ten_then tenth twenty twenty_then twentieth shelves_then racks_then run rerun answered also =
      one_run forgets_ten replies_ten BeginsTen AlikeTen one_ten forgets_twenty replies_twenty BeginsTwenty AlikeTwenty one_twenty told_of faults_of bundle rules forgets_x replies_x forgets_y replies_y one_transcript
      journal other transcripts others ten ten_then ten tenth twenty twenty_then twenty twentieth (shelves_of bundle) shelves_then (shelves_of bundle) racks_then run rerun answered also
      (shelves_sound told_of faults_of empty_shelf shelf_told run.dealings bundle.users shelves_then run.run.shelves_served)
      (shelves_sound told_of faults_of empty_shelf shelf_told rerun.dealings bundle.users racks_then rerun.run.shelves_served) refl

-- ---- over component files, or files of lines

module _ (one_text : OneText) (one_list : OneList) (one_transcript : PartsMakeOneTranscript) (bundle : PlainBundle) (rules : IsBundle bundle)
    {X : Type 0} (forgets_ten : X → ℕ → X → Type 0) (replies_ten : X → ℕ → PlainArray → PlainArray → X → Type 0) (BeginsTen : X → Type 0) (AlikeTen : X → X → Type 0) (one_ten : IsDetermined forgets_ten replies_ten BeginsTen AlikeTen)
    (ten : X) (begins : BeginsTen ten) where
  -- a run over the bundle's files and its empty shelves, and this behind 10
  abbrev pub OverOwnFiles : Bool → Entries → List PlainTranscript → X → Keeper (List ℕ) → List (Keeper (ℕ × List ℕ)) → Type 0
  OverOwnFiles components journal transcripts ten_then kept shelves_then =
      OverFiles told_of faults_of components (text_store_of bundle) kept (λ Y forgets_twenty replies_twenty twenty twenty_then.
      IsRunInTurns forgets_ten replies_ten forgets_twenty replies_twenty told_of faults_of bundle journal transcripts ten ten_then twenty twenty_then (shelves_of bundle) shelves_then)

  pub one_of_files : (components : Bool) (journal other : Entries) (transcripts others : List PlainTranscript) (ten_then tenth : X) (kept held : Keeper (List ℕ)) (shelves_then racks_then : List (Keeper (ℕ × List ℕ)))
      → OverOwnFiles components journal transcripts ten_then kept shelves_then → OverOwnFiles components other others tenth held racks_then → (journal ≡ other) × (transcripts ≡ others)
  one_of_files true journal other transcripts others ten_then tenth kept held shelves_then racks_then over again =
      let start : Filed (Keeper (List ℕ)) = record { store = text_store_of bundle; state = component_state.idle } in
      let content : Told (List ℕ) = (text_store_of bundle).told in
      one_of_own one_transcript bundle rules forgets_ten replies_ten BeginsTen AlikeTen one_ten
      (λ old party new. new ≡ component.forgotten old) (λ old party value answer new. component.Replies told_of faults_of old value answer new) (FilesBegin one_list told_of faults_of content) (FiledAlike one_list told_of faults_of)
      (components_are_determined one_list told_of faults_of content (files_are_sound bundle))
      forgets_ten replies_ten (λ old party new. new ≡ component.forgotten old) (λ old party value answer new. component.Replies told_of faults_of old value answer new)
      journal other transcripts others ten ten_then tenth start (record { store = kept; state = over.0 }) (record { store = held; state = again.0 }) shelves_then racks_then over.1 again.1 (
        (ten, begins, (ten_then, (over.1.run.parts Clock).answers)),
        (start, record { tells = refl; state = refl }, (record { store = kept; state = over.0 }, (over.1.run.parts TextFiles).answers)),
      ) (
        (ten, begins, (tenth, (again.1.run.parts Clock).answers)),
        (start, record { tells = refl; state = refl }, (record { store = held; state = again.0 }, (again.1.run.parts TextFiles).answers)),
      )
  one_of_files false journal other transcripts others ten_then tenth kept held shelves_then racks_then over again =
      let start : Served (Keeper (List ℕ)) = record { store = text_store_of bundle; state = idle } in
      let content : Told (List ℕ) = (text_store_of bundle).told in
      one_of_own one_transcript bundle rules forgets_ten replies_ten BeginsTen AlikeTen one_ten
      (λ old party new. new ≡ forgotten old) (KnownReplies one_text told_of faults_of) (BeginsWith one_text told_of faults_of content) (ServeAlike one_text told_of faults_of)
      (files_are_determined one_text told_of faults_of content)
      forgets_ten replies_ten (λ old party new. new ≡ forgotten old) (λ old party value answer new. Replies told_of faults_of old value answer new)
      journal other transcripts others ten ten_then tenth start (record { store = kept; state = over.0 }) (record { store = held; state = again.0 }) shelves_then racks_then over.1 again.1 (
        (ten, begins, (ten_then, (over.1.run.parts Clock).answers)),
        (
          start,
          record { tells = refl; state = refl },
          (
            record { store = kept; state = over.0 },
            known_run one_text told_of faults_of _ _ _ (over.1.run.parts TextFiles).answers (files_sound told_of faults_of _ _ _ (over.1.run.parts TextFiles).answers (files_told bundle)),
          ),
        ),
      ) (
        (ten, begins, (tenth, (again.1.run.parts Clock).answers)),
        (
          start,
          record { tells = refl; state = refl },
          (
            record { store = held; state = again.0 },
            known_run one_text told_of faults_of _ _ _ (again.1.run.parts TextFiles).answers (files_sound told_of faults_of _ _ _ (again.1.run.parts TextFiles).answers (files_told bundle)),
          ),
        ),
      )

-- ---- over a relay, or the bundle's readings

module _ (one_text : OneText) (one_list : OneList) (one_transcript : PartsMakeOneTranscript) {C T K : Type 0} (ticks : C → Option Ticks) (clock_faults : C → ℕ) (text_told : T → Option (Told (List ℕ))) (text_faults : T → ℕ)
    (told : K → Option (Told (ℕ × List ℕ))) (faults : K → ℕ) where
  -- a run in turns for which no word names a device
  abbrev OwnRun : Bool → Bool → PlainBundle → Entries → List PlainTranscript → C → C → T → T → List K → List K → Type 0
  OwnRun components relay bundle journal transcripts clock clock_then files files_then shelves shelves_then =
      NamedRun true ticks clock_faults text_told text_faults told faults None components relay false None bundle journal transcripts clock clock_then files files_then shelves shelves_then

  one_own : (components relay : Bool) (bundle : PlainBundle) → IsBundle bundle → (journal other : Entries) (transcripts others : List PlainTranscript)
      (clock clock_then another another_then : C) (texts texts_then files files_then : T) (shelves shelves_then racks racks_then : List K)
      → OwnRun components relay bundle journal transcripts clock clock_then texts texts_then shelves shelves_then → OwnRun components relay bundle other others another another_then files files_then racks racks_then
      → (journal ≡ other) × (transcripts ≡ others)
  one_own true true bundle rules journal other transcripts others clock clock_then another another_then texts texts_then files files_then shelves shelves_then racks racks_then over again =
      one_of_files one_text one_list one_transcript bundle rules (λ old party new. new ≡ old) Relays (λ queues. queues ≡ []) RelayAlike relays_are_determined [] refl true
      journal other transcripts others over.1.1.0 again.1.1.0 over.0 again.0 over.1.1.1.0 again.1.1.1.0 (over.1.0, over.1.1.1.1) (again.1.0, again.1.1.1.1)
  one_own false true bundle rules journal other transcripts others clock clock_then another another_then texts texts_then files files_then shelves shelves_then racks racks_then over again =
      one_of_files one_text one_list one_transcript bundle rules (λ old party new. new ≡ old) Relays (λ queues. queues ≡ []) RelayAlike relays_are_determined [] refl false
      journal other transcripts others over.1.1.0 again.1.1.0 over.0 again.0 over.1.1.1.0 again.1.1.1.0 (over.1.0, over.1.1.1.1) (again.1.0, again.1.1.1.1)
  one_own true false bundle rules journal other transcripts others clock clock_then another another_then texts texts_then files files_then shelves shelves_then racks racks_then over again =
      one_of_files one_text one_list one_transcript bundle rules (λ old party new. new ≡ old) (λ old party value answer new. RepliesByReading ticks_of clock_faults_of old value answer new)
      (λ c. ticks_of c ≡ Some (clock_of bundle).told) (TickAlike ticks_of clock_faults_of) (clocks_are_determined ticks_of clock_faults_of (clock_of bundle).told) (clock_of bundle) refl true
      journal other transcripts others over.1.1.0 again.1.1.0 over.0 again.0 over.1.1.1.0 again.1.1.1.0 (over.1.0, over.1.1.1.1) (again.1.0, again.1.1.1.1)
  one_own false false bundle rules journal other transcripts others clock clock_then another another_then texts texts_then files files_then shelves shelves_then racks racks_then over again =
      one_of_files one_text one_list one_transcript bundle rules (λ old party new. new ≡ old) (λ old party value answer new. RepliesByReading ticks_of clock_faults_of old value answer new)
      (λ c. ticks_of c ≡ Some (clock_of bundle).told) (TickAlike ticks_of clock_faults_of) (clocks_are_determined ticks_of clock_faults_of (clock_of bundle).told) (clock_of bundle) refl false
      journal other transcripts others over.1.1.0 again.1.1.0 over.0 again.0 over.1.1.1.0 again.1.1.1.0 (over.1.0, over.1.1.1.1) (again.1.0, again.1.1.1.1)

  -- a run for which no word names a device is one over the bundle's own
  own_run : (in_turns : Bool) (place : Option (List ℕ)) (components relay named : Bool) (library : Option (List ℕ)) (bundle : PlainBundle) (journal : Entries) (transcripts : List PlainTranscript) (clock clock_then : C) (files files_then : T) (shelves shelves_then : List K)
      → in_turns ≡ true → place ≡ None → named ≡ false → library ≡ None → NamedRun in_turns ticks clock_faults text_told text_faults told faults place components relay named library bundle journal transcripts clock clock_then files files_then shelves shelves_then
      → OwnRun components relay bundle journal transcripts clock clock_then files files_then shelves shelves_then
  own_run in_turns place components relay named library bundle journal transcripts clock clock_then files files_then shelves shelves_then replayed no_text no_clock no_library over =
      subst (λ (l : Option (List ℕ)). NamedRun true ticks clock_faults text_told text_faults told faults None components relay false l bundle journal transcripts clock clock_then files files_then shelves shelves_then) no_library
      (subst₂ (λ (p : Option (List ℕ)) (n : Bool). NamedRun true ticks clock_faults text_told text_faults told faults p components relay n library bundle journal transcripts clock clock_then files files_then shelves shelves_then) no_text no_clock
      (subst (λ (b : Bool). NamedRun b ticks clock_faults text_told text_faults told faults place components relay named library bundle journal transcripts clock clock_then files files_then shelves shelves_then) replayed over))

  -- so the bytes read have one output, whatever was asked for but a device
  pub own_outputs_one : ((bytes : List ℕ) (bundle other : PlainBundle) → BundleText bytes bundle → BundleText bytes other → bundle ≡ other) → OwnOutputsAreOne ticks clock_faults text_told text_faults told faults
  own_outputs_one one_bundle asked wanted clock clock_then another another_then texts texts_then files files_then shelves shelves_then racks racks_then bytes text other none also same_files same_relay output again =
      let same : output.bundle ≡ again.bundle = one_bundle bytes output.bundle again.bundle output.read again.read in
      let over = own_run asked.replay asked.text asked.components asked.relay asked.clock asked.library output.bundle output.journal output.transcripts clock clock_then texts texts_then shelves shelves_then none.replay none.text none.clock none.library output.run in
      let ran = own_run wanted.replay wanted.text wanted.components wanted.relay wanted.clock wanted.library again.bundle again.journal again.transcripts another another_then files files_then racks racks_then also.replay also.text also.clock also.library again.run in
      let likewise = subst (λ (b : PlainBundle). OwnRun asked.components asked.relay b again.journal again.transcripts another another_then files files_then racks racks_then) (sym same)
      (subst₂ (λ (c r : Bool). OwnRun c r again.bundle again.journal again.transcripts another another_then files files_then racks racks_then) (sym same_files) (sym same_relay) ran) in
      let one = one_own asked.components asked.relay output.bundle output.read.rules output.journal again.journal output.transcripts again.transcripts clock clock_then another another_then texts texts_then files files_then
      shelves shelves_then racks racks_then over likewise in
      output.output ∙ (ap₂ (λ (t : List PlainTranscript) (j : Entries). output_text t (reverse j)) one.1 one.0 ∙ sym again.output)
