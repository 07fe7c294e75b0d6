-- Replays over devices that tell the same, and leave no entry untold, are one.
use Rattle.std.proofs.Common.{◌≡◌, ◌≢◌, ℕ, ◌≤◌, List, [], ◌∷◌, map, reverse, Option, Some, None, refl, sym, ap, ap₂, subst, ◌∙◌, arith}
use Rattle.std.specs.Prelude.{All, IsSome}
use Rattle.std.specs.List.{AllByRecursion}
use Rattle.std.proofs.lemmas.List.Elements.{All-head, All-tail}
use Rattle.apl_arrays.specs.Array.{PlainArray}
use Rattle.apl_arrays.specs.Ascending.{Ascend}
use Rattle.apl_arrays.specs.Name.{name_order}
use Rattle.aux_parties.specs.Auxiliaries.{clock_party, party_of, text_party}
use Rattle.apl_io.specs.Clock.{Ticks}
use Rattle.apl_io.specs.Content.{Told, entry_of}
use Rattle.auxiliaries.specs.Clock.{RepliesByReading}
use Rattle.auxiliaries.specs.Protocol.{idle}
use Rattle.auxiliaries.specs.Served.{Replies, forgotten}
use Rattle.bundle_text.specs.Bundle.{IsBundle, PlainBundle}
use Rattle.bundle_text.specs.Rules.{IsUser}
use Rattle.bundle_text.specs.User.{PlainUser}
use Rattle.sv_journal.specs.Output.{PlainTranscript, output_text}
use Rattle.sv_rules.specs.Entries.{Entries}
use Rattle.aux_parties.specs.declared.auxiliary.AuxiliaryKind.{AuxiliaryKind}
use Rattle.aux_parties.specs.declared.auxiliary.AuxiliaryKind.TheVariants.{Clock, TextFiles}
use Rattle.session_rules.specs.Run.{AreUserParts, Dealings, ServeUsers}
use Rattle.session_rules.specs.RunLaws.{PartsMakeOneTranscript}
use Rattle.replay_rules.specs.Turns.{newcomer, numbers_of, ordered, rounds}
use Rattle.aplsv_replay.specs.Replayed.{IsRunInTurns}
use Rattle.bundle_devices.specs.Telling.{AllTellThroughout}
use Rattle.aplsv_top.specs.OutputLaws.{OutputsAreDetermined, ReplaysAreDetermined}
use Rattle.bundle_devices.proofs.Clocks.{TickAlike, clocks_are_determined}
use Rattle.bundle_devices.proofs.Determined.{Answers, AnswersBehind, IsDetermined}
use Rattle.aplsv_top.proofs.Ended.{DealingsFit, fit_at_end, same_dealings, same_parts}
use Rattle.bundle_devices.proofs.Files.{BeginsWith, KnownReplies, OneText, ServeAlike, files_are_determined, holds_at_start, known_run}
use Rattle.aplsv_top.proofs.Heard.{AreApartFrom, AreHeard, AreUsersApart, ascending_apart}
use Rattle.aplsv_top.proofs.Level.{AreTame}
use Rattle.aplsv_top.proofs.OneRun.{IsRepliedJournal, before_turns, one_journal, tame, users_left}
use Rattle.bundle_devices.proofs.Shelves.{FitShelf, fit_earlier, fit_one}
use Rattle.bundle_devices.proofs.Told.{some_and}

some_of : {X : Type 0} (o : Option X) → IsSome o → (x : X) × (o ≡ Some x)
some_of None some = absurd cc
some_of (Some x) some = (x, refl)

-- ---- users

-- users' numbers are none of the auxiliaries'
no_auxiliary : (dealings : Dealings) (users : List PlainUser) (party : ℕ) → party ≤ 1000 → All IsUser users → AreApartFrom party (numbers_of (map (newcomer dealings) users))
no_auxiliary dealings [] party low each = tt
no_auxiliary dealings (user ∷ users) party low each =
    ((λ same. let least = (All-head IsUser user users each).number.0 in omega (arith, low, least, same)), no_auxiliary dealings users party low (All-tail IsUser user users each))

same_list : (dealings : Dealings) (users : List PlainUser) → map (λ (user : PlainUser). user.number) users ≡ numbers_of (map (newcomer dealings) users)
same_list dealings [] = refl
same_list dealings (user ∷ users) = ap (λ (numbers : List ℕ). user.number ∷ numbers) (same_list dealings users)

no_auxiliaries : (dealings : Dealings) (users : List PlainUser) → All IsUser users → (kind : AuxiliaryKind) → AreApartFrom (party_of kind) (numbers_of (map (newcomer dealings) users))
no_auxiliaries dealings users each Clock = no_auxiliary dealings users clock_party (omega arith) each
no_auxiliaries dealings users each TextFiles = no_auxiliary dealings users text_party (omega arith) each

users_apart : (dealings : Dealings) (bundle : PlainBundle) → IsBundle bundle → AreUsersApart (numbers_of (map (newcomer dealings) bundle.users))
users_apart dealings bundle rules = (
  no_auxiliaries dealings bundle.users rules.each,
  ascending_apart (numbers_of (map (newcomer dealings) bundle.users)) (subst Ascend (same_list dealings bundle.users) rules.ascending),
)

-- newcomers heard nothing
heard_nothing : (dealings : Dealings) (users : List PlainUser) → AreHeard [] (map (newcomer dealings) users)
heard_nothing dealings [] = tt
heard_nothing dealings (user ∷ users) = (record { refused = []; given = refl; at_limit = λ some. absurd (some refl); stays = tt }, heard_nothing dealings users)

module _ {K : Type 0} (told : K → Option (Told (ℕ × List ℕ))) (faults : K → ℕ) where
  -- the dealings of users with their shelves fit shelves that tell the same
  dealings_fit : (dealings : Dealings) (users : List PlainUser) (places shelves shelves_then : List K) (served : ServeUsers told faults dealings users shelves shelves_then) → AllTellThroughout told faults dealings users shelves shelves_then served
      → map told shelves ≡ map told places → DealingsFit (FitShelf told faults) (fit_earlier told faults) (fit_one told faults) dealings places users
  dealings_fit dealings [] places shelves shelves_then served all same = tt
  dealings_fit dealings (user ∷ users) places [] shelves_then served all same = absurd served
  dealings_fit dealings (user ∷ users) places (shelf ∷ shelves) [] served all same = absurd served
  dealings_fit dealings (user ∷ users) [] (shelf ∷ shelves) (shelf_then ∷ shelves_then) served all same = absurd cc
  dealings_fit dealings (user ∷ users) (place ∷ places) (shelf ∷ shelves) (shelf_then ∷ shelves_then) served all same = (
    record { start = shelf; end = shelf_then; same = cc; run = served.0; all = all.0 },
    dealings_fit dealings users places shelves shelves_then served.1 all.1 cc,
  )

-- ---- runs in turns

module _ {S U K : Type 0} (forgets_ten : S → ℕ → S → Type 0) (replies_ten : S → ℕ → PlainArray → PlainArray → S → Type 0) (BeginsTen : S → Type 0) (AlikeTen : S → S → Type 0) (one_ten : IsDetermined forgets_ten replies_ten BeginsTen AlikeTen)
    (forgets_twenty : U → ℕ → U → Type 0) (replies_twenty : U → ℕ → PlainArray → PlainArray → U → Type 0) (BeginsTwenty : U → Type 0) (AlikeTwenty : U → U → Type 0) (one_twenty : IsDetermined forgets_twenty replies_twenty BeginsTwenty AlikeTwenty)
    (told : K → Option (Told (ℕ × List ℕ))) (faults : K → ℕ) (bundle : PlainBundle) (rules : IsBundle bundle) where
  -- a journal that was replied to so
  abbrev Replied : List K → Dealings → Entries → Type 0
  Replied places dealings journal = IsRepliedJournal (FitShelf told faults) (fit_earlier told faults) (fit_one told faults)
      forgets_ten replies_ten BeginsTen AlikeTen one_ten forgets_twenty replies_twenty BeginsTwenty AlikeTwenty one_twenty places bundle dealings journal

  -- the order and so many rounds behind it
  turns_tame : (places : List K) (count : ℕ) → AreTame (FitShelf told faults) (fit_earlier told faults) (fit_one told faults)
      forgets_ten replies_ten BeginsTen AlikeTen one_ten forgets_twenty replies_twenty BeginsTwenty AlikeTwenty one_twenty places (λ a. rounds count (ordered bundle.order a))
  turns_tame places count = tame (FitShelf told faults) (fit_earlier told faults) (fit_one told faults)
      forgets_ten replies_ten BeginsTen AlikeTen one_ten forgets_twenty replies_twenty BeginsTwenty AlikeTwenty one_twenty places bundle count

  -- what answers behind 10 and 20 has runs over it that are determined
  abbrev pub AreAnswered : Entries → Type 0
  AreAnswered journal = Answers forgets_ten replies_ten BeginsTen clock_party journal × Answers forgets_twenty replies_twenty BeginsTwenty text_party journal

  -- each of them has
  each_answered : (journal : Entries) → AreAnswered journal → (kind : AuxiliaryKind) → AnswersBehind forgets_ten replies_ten BeginsTen forgets_twenty replies_twenty BeginsTwenty kind journal
  each_answered journal answered Clock = answered.0
  each_answered journal answered TextFiles = answered.1

  module _ {X Y : Type 0} (forgets_x : X → ℕ → X → Type 0) (replies_x : X → ℕ → PlainArray → PlainArray → X → Type 0) (forgets_y : Y → ℕ → Y → Type 0) (replies_y : Y → ℕ → PlainArray → PlainArray → Y → Type 0) where
    replied : (places : List K) (journal : Entries) (transcripts : List PlainTranscript) (ten ten_then : X) (twenty twenty_then : Y) (shelves shelves_then : List K)
        → (run : IsRunInTurns forgets_x replies_x forgets_y replies_y told faults bundle journal transcripts ten ten_then twenty twenty_then shelves shelves_then)
        → AreAnswered journal → AllTellThroughout told faults run.dealings bundle.users shelves shelves_then run.run.shelves_served → map told shelves ≡ map told places → Replied places run.dealings journal
    replied places journal transcripts ten ten_then twenty twenty_then shelves shelves_then run answered all same = record {
      turns = run.turns.turns;
      answers = each_answered journal answered;
      fits = fit_at_end (FitShelf told faults) (fit_earlier told faults) (fit_one told faults) run.dealings journal places bundle.users
          (users_left bundle run.dealings journal run.turns.turns) transcripts
          ((turns_tame places run.turns.turns.count).later (before_turns bundle run.dealings journal run.turns.turns))
          (subst (λ (j : Entries). AreHeard j (users_left bundle run.dealings journal run.turns.turns)) run.turns.turns.last
          ((turns_tame places run.turns.turns.count).heard (before_turns bundle run.dealings journal run.turns.turns) (users_apart run.dealings bundle rules) (heard_nothing run.dealings bundle.users)))
          run.run.users (dealings_fit told faults run.dealings bundle.users places shelves shelves_then run.run.shelves_served all same);
    }

    -- two runs of a bundle that are answered so, over shelves that tell the same and leave no entry untold, have one journal and the same transcripts
    pub one_run : PartsMakeOneTranscript → (journal other : Entries) (transcripts others : List PlainTranscript) (ten ten_then tenth tenth_then : X) (twenty twenty_then twentieth twentieth_then : Y) (shelves shelves_then racks racks_then : List K)
        → (run : IsRunInTurns forgets_x replies_x forgets_y replies_y told faults bundle journal transcripts ten ten_then twenty twenty_then shelves shelves_then)
        → (rerun : IsRunInTurns forgets_x replies_x forgets_y replies_y told faults bundle other others tenth tenth_then twentieth twentieth_then racks racks_then)
        → AreAnswered journal → AreAnswered other → AllTellThroughout told faults run.dealings bundle.users shelves shelves_then run.run.shelves_served
        → AllTellThroughout told faults rerun.dealings bundle.users racks racks_then rerun.run.shelves_served → map told shelves ≡ map told racks → (journal ≡ other) × (transcripts ≡ others)
    one_run one_transcript journal other transcripts others ten ten_then tenth tenth_then twenty twenty_then twentieth twentieth_then shelves shelves_then racks racks_then run rerun answered also all told_all same =
        let first = replied shelves journal transcripts ten ten_then twenty twenty_then shelves shelves_then run answered all refl in
        let second = replied shelves other others tenth tenth_then twentieth twentieth_then racks racks_then rerun also told_all (sym same) in
        let one : journal ≡ other = one_journal (FitShelf told faults) (fit_earlier told faults) (fit_one told faults)
        forgets_ten replies_ten BeginsTen AlikeTen one_ten forgets_twenty replies_twenty BeginsTwenty AlikeTwenty one_twenty shelves bundle run.dealings rerun.dealings journal other first second in
        let theirs : AreUserParts rerun.dealings journal bundle.users others = subst (λ (j : Entries). AreUserParts rerun.dealings j bundle.users others) (sym one) rerun.run.users in
        let dealings : AllByRecursion (λ (user : PlainUser). run.dealings user.number ≡ rerun.dealings user.number) bundle.users =
        same_dealings (FitShelf told faults) (fit_earlier told faults) (fit_one told faults) run.dealings rerun.dealings journal shelves bundle.users transcripts others run.run.users theirs
        (dealings_fit told faults run.dealings bundle.users shelves shelves shelves_then run.run.shelves_served all refl)
        (dealings_fit told faults rerun.dealings bundle.users shelves racks racks_then rerun.run.shelves_served told_all (sym same)) in
        (one, one_transcript bundle run.dealings journal transcripts others run.run.users (same_parts run.dealings rerun.dealings journal bundle.users others dealings theirs))

-- ---- replays

-- replays are determined
pub one_replay : OneText → PartsMakeOneTranscript → {C T K : Type 0} (ticks : C → Option Ticks) (clock_faults : C → ℕ) (text_told : T → Option (Told (List ℕ))) (text_faults : T → ℕ) (told : K → Option (Told (ℕ × List ℕ))) (faults : K → ℕ)
    → ReplaysAreDetermined ticks clock_faults text_told text_faults told faults
one_replay one_text one_transcript ticks clock_faults text_told text_faults told faults bundle journal other transcripts others clock clock_then another another_then text text_then files files_then shelves shelves_then racks racks_then rules run rerun none also ticking telling same =
    let readings = some_of (ticks clock) none.readings in
    let content = some_and (text_told text) (λ now. (key : List ℕ) → entry_of name_order now key ≢ Some None) (holds_at_start one_text text_told text_faults _ _ _ (run.run.run.parts TextFiles).answers none.files) in
    one_run (λ old party new. new ≡ old) (λ old party value answer new. RepliesByReading ticks clock_faults old value answer new) (λ c. ticks c ≡ Some readings.0) (TickAlike ticks clock_faults) (clocks_are_determined ticks clock_faults readings.0)
    (λ old party new. new ≡ forgotten old) (KnownReplies one_text text_told text_faults) (BeginsWith one_text text_told text_faults content.0) (ServeAlike one_text text_told text_faults) (files_are_determined one_text text_told text_faults content.0)
    told faults bundle rules
    (λ old party new. new ≡ old) (λ old party value answer new. RepliesByReading ticks clock_faults old value answer new) (λ old party new. new ≡ forgotten old) (λ old party value answer new. Replies text_told text_faults old value answer new)
    one_transcript journal other transcripts others clock clock_then another another_then
    (record { store = text; state = idle }) (record { store = text_then; state = run.state }) (record { store = files; state = idle }) (record { store = files_then; state = rerun.state }) shelves shelves_then racks racks_then run.run rerun.run (
      (clock, readings.1, (clock_then, (run.run.run.parts Clock).answers)),
      (record { store = text; state = idle }, record { tells = content.1; state = refl }, (record { store = text_then; state = run.state }, known_run one_text text_told text_faults _ _ _ (run.run.run.parts TextFiles).answers none.files)),
    ) (
      (another, sym ticking ∙ readings.1, (another_then, (rerun.run.run.parts Clock).answers)),
      (record { store = files; state = idle }, record { tells = sym telling ∙ content.1; state = refl }, (record { store = files_then; state = rerun.state }, known_run one_text text_told text_faults _ _ _ (rerun.run.run.parts TextFiles).answers also.files)),
    )
    none.saved also.saved same

-- and so is what is written of them
pub one_written : OneText → PartsMakeOneTranscript → {C T K : Type 0} (ticks : C → Option Ticks) (clock_faults : C → ℕ) (text_told : T → Option (Told (List ℕ))) (text_faults : T → ℕ) (told : K → Option (Told (ℕ × List ℕ))) (faults : K → ℕ)
    → OutputsAreDetermined ticks clock_faults text_told text_faults told faults
one_written one_text one_transcript ticks clock_faults text_told text_faults told faults bundle text other clock clock_then another another_then texts texts_then files files_then shelves shelves_then racks racks_then rules output again none also ticking telling same =
    let one = one_replay one_text one_transcript ticks clock_faults text_told text_faults told faults bundle output.journal again.journal output.transcripts again.transcripts clock clock_then another another_then texts texts_then files files_then
    shelves shelves_then racks racks_then rules output.run again.run none also ticking telling same in
    output.output ∙ (ap₂ (λ (t : List PlainTranscript) (j : Entries). output_text t (reverse j)) one.1 one.0 ∙ sym again.output)
