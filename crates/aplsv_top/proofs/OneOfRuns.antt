-- A run over one of two is a run over the one that it is.
use Rattle.std.proofs.Common.{◌≡◌, ℕ, Bool, true, false, List, [], None, Option, Some}
use Rattle.apl_arrays.specs.Array.{PlainArray}
use Rattle.aux_parties.specs.Auxiliaries.{clock_party, text_party}
use Rattle.apl_io.specs.Clock.{Ticks}
use Rattle.apl_io.specs.Content.{Told}
use Rattle.aux_choice.specs.OneOf.{Forgets, Replies}
use Rattle.aux_choice.specs.declared.one_of.OneOf.{OneOf}
use Rattle.aux_choice.specs.declared.one_of.OneOf.TheVariants.{First, Second}
use Rattle.aux_choice.proofs.ChoiceLemmas.{first_stays, second_stays}
use Rattle.aux_parties.specs.Auxiliaries.{party_of}
use Rattle.aux_parties.specs.declared.auxiliary.AuxiliaryKind.{AuxiliaryKind}
use Rattle.aux_parties.specs.declared.auxiliary.AuxiliaryKind.TheVariants.{Clock, TextFiles}
use Rattle.auxiliaries.specs.Clock.{RepliesByReading}
use Rattle.auxiliaries.specs.Run.{IsReplierRun}
use Rattle.aux_relay.specs.Queues.{Relays}
use Rattle.bundle_text.specs.Bundle.{PlainBundle}
use Rattle.session_rules.specs.Auxiliaries.{IsAuxiliaryPart, events_of}
use Rattle.session_rules.specs.Behind.{forgets_of, of_each, replies_of}
use Rattle.session_rules.specs.Run.{Dealings, IsRun, user_numbers}
use Rattle.sv_journal.specs.Output.{PlainTranscript}
use Rattle.sv_rules.specs.Entries.{Entries}
use Rattle.bundle_devices.specs.Devices.{clock_of, shelves_of}
use Rattle.aplsv_top.specs.Headline.{RunBy, ShelvedRun, TwentyRun}
use Rattle.aplsv_top.proofs.Over.{answers_of_ten, answers_of_twenty, clock_faults_of, faults_of, ticks_of, told_of}

-- ---- a run with something else behind 10, or behind 20, that gave the same replies

module _ {X Z Y : Type 0} (forgets_one : X → ℕ → X → Type 0) (replies_one : X → ℕ → PlainArray → PlainArray → X → Type 0) (forgets_other : Z → ℕ → Z → Type 0) (replies_other : Z → ℕ → PlainArray → PlainArray → Z → Type 0)
    (forgets_beside : Y → ℕ → Y → Type 0) (replies_beside : Y → ℕ → PlainArray → PlainArray → Y → Type 0) (users : List ℕ) (journal : Entries) (one one_then : X) (other other_then : Z) (beside beside_then : Y) where
  parts_with_ten : IsReplierRun forgets_other replies_other other (events_of journal clock_party) other_then
      → ((kind : AuxiliaryKind) → IsAuxiliaryPart (forgets_of forgets_one forgets_beside kind) (replies_of replies_one replies_beside kind) users (party_of kind) journal (of_each one beside kind) (of_each one_then beside_then kind))
      → (kind : AuxiliaryKind) → IsAuxiliaryPart (forgets_of forgets_other forgets_beside kind) (replies_of replies_other replies_beside kind) users (party_of kind) journal (of_each other beside kind) (of_each other_then beside_then kind)
  parts_with_ten answers parts Clock = record { answers = answers; among = (parts Clock).among }
  parts_with_ten answers parts TextFiles = parts TextFiles

  parts_with_twenty : IsReplierRun forgets_other replies_other other (events_of journal text_party) other_then
      → ((kind : AuxiliaryKind) → IsAuxiliaryPart (forgets_of forgets_beside forgets_one kind) (replies_of replies_beside replies_one kind) users (party_of kind) journal (of_each beside one kind) (of_each beside_then one_then kind))
      → (kind : AuxiliaryKind) → IsAuxiliaryPart (forgets_of forgets_beside forgets_other kind) (replies_of replies_beside replies_other kind) users (party_of kind) journal (of_each beside other kind) (of_each beside_then other_then kind)
  parts_with_twenty answers parts Clock = parts Clock
  parts_with_twenty answers parts TextFiles = record { answers = answers; among = (parts TextFiles).among }

module _ {X Z Y K : Type 0} (forgets_one : X → ℕ → X → Type 0) (replies_one : X → ℕ → PlainArray → PlainArray → X → Type 0) (forgets_other : Z → ℕ → Z → Type 0) (replies_other : Z → ℕ → PlainArray → PlainArray → Z → Type 0)
    (forgets_beside : Y → ℕ → Y → Type 0) (replies_beside : Y → ℕ → PlainArray → PlainArray → Y → Type 0) (told : K → Option (Told (ℕ × List ℕ))) (faults : K → ℕ)
    (bundle : PlainBundle) (journal : Entries) (transcripts : List PlainTranscript) (one one_then : X) (other other_then : Z) (beside beside_then : Y) (shelves shelves_then : List K) where
  run_with_ten : (dealings : Dealings) → IsReplierRun forgets_other replies_other other (events_of journal clock_party) other_then
      → IsRun forgets_one replies_one forgets_beside replies_beside told faults bundle dealings journal transcripts one one_then beside beside_then shelves shelves_then
      → IsRun forgets_other replies_other forgets_beside replies_beside told faults bundle dealings journal transcripts other other_then beside beside_then shelves shelves_then
  run_with_ten dealings answers run = record {
    legal = run.legal;
    users = run.users;
    shelves_served = run.shelves_served;
    parts = parts_with_ten forgets_one replies_one forgets_other replies_other forgets_beside replies_beside (user_numbers bundle) journal one one_then other other_then beside beside_then answers run.parts;
  }

  driven_with_ten : (in_turns : Bool) → IsReplierRun forgets_other replies_other other (events_of journal clock_party) other_then
      → RunBy in_turns forgets_one replies_one forgets_beside replies_beside told faults bundle journal transcripts one one_then beside beside_then shelves shelves_then
      → RunBy in_turns forgets_other replies_other forgets_beside replies_beside told faults bundle journal transcripts other other_then beside beside_then shelves shelves_then
  driven_with_ten true answers over = record { dealings = over.dealings; run = run_with_ten over.dealings answers over.run; turns = over.turns }
  driven_with_ten false answers over = record { dealings = over.dealings; run = run_with_ten over.dealings answers over.run; receipts = over.receipts }

  run_with_twenty : (dealings : Dealings) → IsReplierRun forgets_other replies_other other (events_of journal text_party) other_then
      → IsRun forgets_beside replies_beside forgets_one replies_one told faults bundle dealings journal transcripts beside beside_then one one_then shelves shelves_then
      → IsRun forgets_beside replies_beside forgets_other replies_other told faults bundle dealings journal transcripts beside beside_then other other_then shelves shelves_then
  run_with_twenty dealings answers run = record {
    legal = run.legal;
    users = run.users;
    shelves_served = run.shelves_served;
    parts = parts_with_twenty forgets_one replies_one forgets_other replies_other forgets_beside replies_beside (user_numbers bundle) journal one one_then other other_then beside beside_then answers run.parts;
  }

  driven_with_twenty : (in_turns : Bool) → IsReplierRun forgets_other replies_other other (events_of journal text_party) other_then
      → RunBy in_turns forgets_beside replies_beside forgets_one replies_one told faults bundle journal transcripts beside beside_then one one_then shelves shelves_then
      → RunBy in_turns forgets_beside replies_beside forgets_other replies_other told faults bundle journal transcripts beside beside_then other other_then shelves shelves_then
  driven_with_twenty true answers over = record { dealings = over.dealings; run = run_with_twenty over.dealings answers over.run; turns = over.turns }
  driven_with_twenty false answers over = record { dealings = over.dealings; run = run_with_twenty over.dealings answers over.run; receipts = over.receipts }

-- ---- so it is over the shelves that are named

module _ (in_turns : Bool) {X Y K : Type 0} (forgets_ten : X → ℕ → X → Type 0) (replies_ten : X → ℕ → PlainArray → PlainArray → X → Type 0) (forgets_twenty : Y → ℕ → Y → Type 0) (replies_twenty : Y → ℕ → PlainArray → PlainArray → Y → Type 0)
    (told : K → Option (Told (ℕ × List ℕ))) (faults : K → ℕ) (bundle : PlainBundle) (journal : Entries) (transcripts : List PlainTranscript) (ten ten_then : X) (twenty twenty_then : Y) (shelves shelves_then : List K) where
  -- what it did behind 10, and behind 20
  shelved_ten : (library : Option (List ℕ)) → ShelvedRun in_turns forgets_ten replies_ten forgets_twenty replies_twenty told faults library bundle journal transcripts ten ten_then twenty twenty_then shelves shelves_then
      → IsReplierRun forgets_ten replies_ten ten (events_of journal clock_party) ten_then
  shelved_ten (Some place) over = answers_of_ten forgets_ten replies_ten forgets_twenty replies_twenty told faults in_turns bundle journal transcripts ten ten_then twenty twenty_then over.0 shelves_then over.2
  shelved_ten None over = answers_of_ten forgets_ten replies_ten forgets_twenty replies_twenty told_of faults_of in_turns bundle journal transcripts ten ten_then twenty twenty_then (shelves_of bundle) over.0 over.1

  shelved_twenty : (library : Option (List ℕ)) → ShelvedRun in_turns forgets_ten replies_ten forgets_twenty replies_twenty told faults library bundle journal transcripts ten ten_then twenty twenty_then shelves shelves_then
      → IsReplierRun forgets_twenty replies_twenty twenty (events_of journal text_party) twenty_then
  shelved_twenty (Some place) over = answers_of_twenty forgets_ten replies_ten forgets_twenty replies_twenty told faults in_turns bundle journal transcripts ten ten_then twenty twenty_then over.0 shelves_then over.2
  shelved_twenty None over = answers_of_twenty forgets_ten replies_ten forgets_twenty replies_twenty told_of faults_of in_turns bundle journal transcripts ten ten_then twenty twenty_then (shelves_of bundle) over.0 over.1

module _ (in_turns : Bool) {X Z Y K : Type 0} (forgets_one : X → ℕ → X → Type 0) (replies_one : X → ℕ → PlainArray → PlainArray → X → Type 0) (forgets_other : Z → ℕ → Z → Type 0) (replies_other : Z → ℕ → PlainArray → PlainArray → Z → Type 0)
    (forgets_beside : Y → ℕ → Y → Type 0) (replies_beside : Y → ℕ → PlainArray → PlainArray → Y → Type 0) (told : K → Option (Told (ℕ × List ℕ))) (faults : K → ℕ)
    (bundle : PlainBundle) (journal : Entries) (transcripts : List PlainTranscript) (one one_then : X) (other other_then : Z) (beside beside_then : Y) (shelves shelves_then : List K) where
  shelved_with_ten : (library : Option (List ℕ)) → IsReplierRun forgets_other replies_other other (events_of journal clock_party) other_then
      → ShelvedRun in_turns forgets_one replies_one forgets_beside replies_beside told faults library bundle journal transcripts one one_then beside beside_then shelves shelves_then
      → ShelvedRun in_turns forgets_other replies_other forgets_beside replies_beside told faults library bundle journal transcripts other other_then beside beside_then shelves shelves_then
  shelved_with_ten (Some place) answers over = (
    over.0,
    over.1,
    driven_with_ten forgets_one replies_one forgets_other replies_other forgets_beside replies_beside told faults bundle journal transcripts one one_then other other_then beside beside_then over.0 shelves_then in_turns answers over.2,
  )
  shelved_with_ten None answers over = (
    over.0,
    driven_with_ten forgets_one replies_one forgets_other replies_other forgets_beside replies_beside told_of faults_of bundle journal transcripts one one_then other other_then beside beside_then (shelves_of bundle) over.0 in_turns answers over.1,
  )

  shelved_with_twenty : (library : Option (List ℕ)) → IsReplierRun forgets_other replies_other other (events_of journal text_party) other_then
      → ShelvedRun in_turns forgets_beside replies_beside forgets_one replies_one told faults library bundle journal transcripts beside beside_then one one_then shelves shelves_then
      → ShelvedRun in_turns forgets_beside replies_beside forgets_other replies_other told faults library bundle journal transcripts beside beside_then other other_then shelves shelves_then
  shelved_with_twenty (Some place) answers over = (
    over.0,
    over.1,
    driven_with_twenty forgets_one replies_one forgets_other replies_other forgets_beside replies_beside told faults bundle journal transcripts one one_then other other_then beside beside_then over.0 shelves_then in_turns answers over.2,
  )
  shelved_with_twenty None answers over = (
    over.0,
    driven_with_twenty forgets_one replies_one forgets_other replies_other forgets_beside replies_beside told_of faults_of bundle journal transcripts one one_then other other_then beside beside_then (shelves_of bundle) over.0 in_turns answers over.1,
  )

-- ---- and over what is named for 10

module _ (in_turns : Bool) {C Y K : Type 0} (ticks : C → Option Ticks) (clock_faults : C → ℕ) (forgets_twenty : Y → ℕ → Y → Type 0) (replies_twenty : Y → ℕ → PlainArray → PlainArray → Y → Type 0) (told : K → Option (Told (ℕ × List ℕ))) (faults : K → ℕ)
    (library : Option (List ℕ)) (bundle : PlainBundle) (journal : Entries) (transcripts : List PlainTranscript) (clock clock_then : C) (twenty twenty_then : Y) (shelves shelves_then : List K) where
  -- what it did behind 20
  twenty_answers : (relay named : Bool) → TwentyRun in_turns ticks clock_faults forgets_twenty replies_twenty told faults relay named library bundle journal transcripts clock clock_then twenty twenty_then shelves shelves_then
      → IsReplierRun forgets_twenty replies_twenty twenty (events_of journal text_party) twenty_then
  twenty_answers true named over =
      shelved_twenty in_turns (λ old party new. new ≡ old) Relays forgets_twenty replies_twenty told faults bundle journal transcripts [] over.0 twenty twenty_then shelves shelves_then library over.1
  twenty_answers false true over =
      shelved_twenty in_turns (λ old party new. new ≡ old) (λ old party value answer new. RepliesByReading ticks clock_faults old value answer new) forgets_twenty replies_twenty told faults bundle journal transcripts clock clock_then twenty twenty_then
      shelves shelves_then library over
  twenty_answers false false over =
      shelved_twenty in_turns (λ old party new. new ≡ old) (λ old party value answer new. RepliesByReading ticks_of clock_faults_of old value answer new) forgets_twenty replies_twenty told faults bundle journal transcripts (clock_of bundle) over.0
      twenty twenty_then shelves shelves_then library over.1

module _ (in_turns : Bool) {C Y Z K : Type 0} (ticks : C → Option Ticks) (clock_faults : C → ℕ) (forgets_twenty : Y → ℕ → Y → Type 0) (replies_twenty : Y → ℕ → PlainArray → PlainArray → Y → Type 0) (forgets_other : Z → ℕ → Z → Type 0)
    (replies_other : Z → ℕ → PlainArray → PlainArray → Z → Type 0) (told : K → Option (Told (ℕ × List ℕ))) (faults : K → ℕ)
    (library : Option (List ℕ)) (bundle : PlainBundle) (journal : Entries) (transcripts : List PlainTranscript) (clock clock_then : C) (twenty twenty_then : Y) (other other_then : Z) (shelves shelves_then : List K) where
  with_twenty : (relay named : Bool) → IsReplierRun forgets_other replies_other other (events_of journal text_party) other_then
      → TwentyRun in_turns ticks clock_faults forgets_twenty replies_twenty told faults relay named library bundle journal transcripts clock clock_then twenty twenty_then shelves shelves_then
      → TwentyRun in_turns ticks clock_faults forgets_other replies_other told faults relay named library bundle journal transcripts clock clock_then other other_then shelves shelves_then
  with_twenty true named answers over = (
    over.0,
    shelved_with_twenty in_turns forgets_twenty replies_twenty forgets_other replies_other (λ old party new. new ≡ old) Relays told faults bundle journal transcripts twenty twenty_then other other_then [] over.0 shelves shelves_then library answers over.1,
  )
  with_twenty false true answers over =
      shelved_with_twenty in_turns forgets_twenty replies_twenty forgets_other replies_other (λ old party new. new ≡ old) (λ old party value answer new. RepliesByReading ticks clock_faults old value answer new) told faults bundle journal transcripts
      twenty twenty_then other other_then clock clock_then shelves shelves_then library answers over
  with_twenty false false answers over = (
    over.0,
    shelved_with_twenty in_turns forgets_twenty replies_twenty forgets_other replies_other (λ old party new. new ≡ old) (λ old party value answer new. RepliesByReading ticks_of clock_faults_of old value answer new) told faults bundle journal transcripts
        twenty twenty_then other other_then (clock_of bundle) over.0 shelves shelves_then library answers over.1,
  )

-- ---- behind 10: the first of two, or the second

module _ (in_turns : Bool) {A B Y K : Type 0} (forgets_first : A → ℕ → A → Type 0) (replies_first : A → ℕ → PlainArray → PlainArray → A → Type 0) (forgets_second : B → ℕ → B → Type 0) (replies_second : B → ℕ → PlainArray → PlainArray → B → Type 0)
    (forgets_twenty : Y → ℕ → Y → Type 0) (replies_twenty : Y → ℕ → PlainArray → PlainArray → Y → Type 0) (told : K → Option (Told (ℕ × List ℕ))) (faults : K → ℕ)
    (library : Option (List ℕ)) (bundle : PlainBundle) (journal : Entries) (transcripts : List PlainTranscript) (end : OneOf A B) (twenty twenty_then : Y) (shelves shelves_then : List K) where
  abbrev RunOfTen : OneOf A B → Type 0
  RunOfTen start =
      ShelvedRun in_turns (Forgets forgets_first forgets_second) (Replies replies_first replies_second) forgets_twenty replies_twenty told faults library bundle journal transcripts start end twenty twenty_then shelves shelves_then

  pub ten_is_first : (start : A) → RunOfTen (First start)
      → (last : A) × (end ≡ First last) × ShelvedRun in_turns forgets_first replies_first forgets_twenty replies_twenty told faults library bundle journal transcripts start last twenty twenty_then shelves shelves_then
  ten_is_first start over =
      let stays =
      first_stays forgets_first replies_first forgets_second replies_second start (events_of journal clock_party) end
      (shelved_ten in_turns (Forgets forgets_first forgets_second) (Replies replies_first replies_second) forgets_twenty replies_twenty told faults bundle journal transcripts (First start) end twenty twenty_then shelves shelves_then library over) in (
        stays.0,
        stays.1,
        shelved_with_ten in_turns (Forgets forgets_first forgets_second) (Replies replies_first replies_second) forgets_first replies_first forgets_twenty replies_twenty told faults bundle journal transcripts (First start) end start stays.0 twenty twenty_then
            shelves shelves_then library stays.2 over,
      )

  pub ten_is_second : (start : B) → RunOfTen (Second start)
      → (last : B) × (end ≡ Second last) × ShelvedRun in_turns forgets_second replies_second forgets_twenty replies_twenty told faults library bundle journal transcripts start last twenty twenty_then shelves shelves_then
  ten_is_second start over =
      let stays =
      second_stays forgets_first replies_first forgets_second replies_second start (events_of journal clock_party) end
      (shelved_ten in_turns (Forgets forgets_first forgets_second) (Replies replies_first replies_second) forgets_twenty replies_twenty told faults bundle journal transcripts (Second start) end twenty twenty_then shelves shelves_then library over) in (
        stays.0,
        stays.1,
        shelved_with_ten in_turns (Forgets forgets_first forgets_second) (Replies replies_first replies_second) forgets_second replies_second forgets_twenty replies_twenty told faults bundle journal transcripts (Second start) end start stays.0 twenty twenty_then
            shelves shelves_then library stays.2 over,
      )

-- ---- and behind 20

module _ (in_turns : Bool) {A B C K : Type 0} (ticks : C → Option Ticks) (clock_faults : C → ℕ) (forgets_first : A → ℕ → A → Type 0) (replies_first : A → ℕ → PlainArray → PlainArray → A → Type 0) (forgets_second : B → ℕ → B → Type 0)
    (replies_second : B → ℕ → PlainArray → PlainArray → B → Type 0) (told : K → Option (Told (ℕ × List ℕ))) (faults : K → ℕ)
    (relay named : Bool) (library : Option (List ℕ)) (bundle : PlainBundle) (journal : Entries) (transcripts : List PlainTranscript) (clock clock_then : C) (end : OneOf A B) (shelves shelves_then : List K) where
  abbrev RunOfTwenty : OneOf A B → Type 0
  RunOfTwenty start =
      TwentyRun in_turns ticks clock_faults (Forgets forgets_first forgets_second) (Replies replies_first replies_second) told faults relay named library bundle journal transcripts clock clock_then start end shelves shelves_then

  pub twenty_is_first : (start : A) → RunOfTwenty (First start)
      → (last : A) × (end ≡ First last) × TwentyRun in_turns ticks clock_faults forgets_first replies_first told faults relay named library bundle journal transcripts clock clock_then start last shelves shelves_then
  twenty_is_first start over =
      let stays =
      first_stays forgets_first replies_first forgets_second replies_second start (events_of journal text_party) end
      (twenty_answers in_turns ticks clock_faults (Forgets forgets_first forgets_second) (Replies replies_first replies_second) told faults library bundle journal transcripts clock clock_then (First start) end shelves shelves_then relay named over) in (
        stays.0,
        stays.1,
        with_twenty in_turns ticks clock_faults (Forgets forgets_first forgets_second) (Replies replies_first replies_second) forgets_first replies_first told faults library bundle journal transcripts clock clock_then (First start) end start stays.0
            shelves shelves_then relay named stays.2 over,
      )

  pub twenty_is_second : (start : B) → RunOfTwenty (Second start)
      → (last : B) × (end ≡ Second last) × TwentyRun in_turns ticks clock_faults forgets_second replies_second told faults relay named library bundle journal transcripts clock clock_then start last shelves shelves_then
  twenty_is_second start over =
      let stays =
      second_stays forgets_first replies_first forgets_second replies_second start (events_of journal text_party) end
      (twenty_answers in_turns ticks clock_faults (Forgets forgets_first forgets_second) (Replies replies_first replies_second) told faults library bundle journal transcripts clock clock_then (Second start) end shelves shelves_then relay named over) in (
        stays.0,
        stays.1,
        with_twenty in_turns ticks clock_faults (Forgets forgets_first forgets_second) (Replies replies_first replies_second) forgets_second replies_second told faults library bundle journal transcripts clock clock_then (Second start) end start stays.0
            shelves shelves_then relay named stays.2 over,
      )
