-- A replay from its beginning to its end.
use Rattle.std.proofs.Common.{◌≡◌, ℕ, ◌≤◌, Bool, true, false, List, [], ◌∷◌, ◌++◌, length, map, reverse, IsTrue, refl, sym, ap, ap₂, subst, subst₂, ◌∙◌}
use Rattle.std.specs.List.{All, AllByRecursion}
use Rattle.std.specs.Prelude.{IfSome, Option}
use Rattle.std.proofs.lemmas.List.{length-map}
use Rattle.std.proofs.lemmas.Simd.{map-map}
use Rattle.std.proofs.lemmas.List.Elements.{All-from_recursion, recursion_from_All}
use Rattle.apl_arrays.specs.Array.{PlainArray, chars}
use Rattle.apl_arrays.specs.Ascending.{AscendBy}
use Rattle.apl_arrays.specs.List.{Listed}
use Rattle.apl_io.specs.Content.{Told}
use Rattle.bundle_text.specs.Rules.{IsBundle, PlainBundle}
use Rattle.bundle_text.specs.User.{PlainUser}
use Rattle.sv_core.specs.Core.{ArePeople, PlainCore}
use Rattle.sv_events.specs.Entry.{PlainEntry}
use Rattle.sv_journal.specs.Output.{PlainTranscript}
use Rattle.aux_parties.specs.Auxiliaries.{party_of}
use Rattle.sv_rules.specs.Entries.{Entries, has_left}
use Rattle.sv_rules.specs.Legal.{IsLegal}
use Rattle.aux_parties.specs.declared.auxiliary.AuxiliaryKind.{AuxiliaryKind}
use Rattle.aux_parties.specs.declared.auxiliary.AuxiliaryKind.TheVariants.{Clock, TextFiles}
use Rattle.session_rules.specs.Auxiliaries.{IsAuxiliaryPart, events_of, some_stay}
use Rattle.session_rules.specs.Behind.{Behind, forgets_of, of_each, replies_of}
use Rattle.session_rules.specs.Run.{AreUserParts, Dealings, IsRun, ServeUsers, user_numbers}
use Rattle.apl_session.specs.Ended.{IfWhole}
use Rattle.apl_session.specs.declared.outcome.Ended.{Ended}
use Rattle.auxiliaries.specs.Run.{IsReplierRun}
use Rattle.aplsv_replay.specs.Endings.{ComesOf, RunIsWhole}
use Rattle.party_turns.specs.Participants.{users_of}
use Rattle.aplsv_replay.specs.Rounds.{IsReplay, most_rounds}
use Rattle.party_turns.specs.Seats.{HasPrinted, end_by, none_lost, transcript_of}
use Rattle.party_turns.specs.SoFar.{AreSeated, IsSeated, IsWholeUnlessLost, user_of}
use Rattle.party_turns.specs.Sittings.{Sitting, lent_to, seats_in}
use Rattle.aplsv_replay.specs.Together.{AreTogether, TakesRounds, TakesTurns, TookTurns, WorksAs, auxiliary_of, none_is_lost}
use Rattle.party_turns.specs.declared.auxiliary.Auxiliary.{Auxiliary}
use Rattle.aplsv_replay.specs.declared.parties.Parties.{Parties}
use Rattle.party_turns.specs.declared.seat.UserSeat.{UserSeat}
use Rattle.replay_rules.specs.Turns.{HasReplies, Participant, Replay, beginning, newcomer, ordered, rounds}
use Rattle.aplsv_replay.proofs.AllTogether.{seats_ascend}
use Rattle.aplsv_replay.proofs.Bound.{few_rounds}
use Rattle.party_turns.proofs.Parts.{all_left, all_printed, dealings_of, each_deals, each_ends, if_whole, parts_of, serve_users, users_are_people, whole_more}
use Rattle.aplsv_replay.proofs.KindLemmas.{memory_of, memory_of_users, repliers_are}
use Rattle.aplsv_replay.proofs.Taking.{takes_both}

-- ---- the beginning

module _ {K : Type 0} (told : K → Option (Told (ℕ × List ℕ))) (faults : K → ℕ) where
  -- nobody has left an empty journal
  none_has_left : (sittings : List (Sitting K)) → AllByRecursion (IsWholeUnlessLost told faults []) sittings
  none_has_left [] = tt
  none_has_left (sitting ∷ sittings) = ((λ here left. absurd (let no : false ≡ true = left in cc)), none_has_left sittings)

module _ {X Y K : Type 0} (forgets_ten : X → ℕ → X → Type 0) (replies_ten : X → ℕ → PlainArray → PlainArray → X → Type 0)
    (forgets_twenty : Y → ℕ → Y → Type 0) (replies_twenty : Y → ℕ → PlainArray → PlainArray → Y → Type 0)
    (told : K → Option (Told (ℕ × List ℕ))) (faults : K → ℕ) where
  -- the parties before the first turn
  pub begins_together : (bundle : PlainBundle) (ten : X) (twenty : Y) (p : Parties X Y K) → IsBundle bundle → p.core ≡ record { users = user_numbers bundle; journal = [] }
      → p.ten ≡ record { party = party_of Clock; replier = ten; is_lost = false } → p.twenty ≡ record { party = party_of TextFiles; replier = twenty; is_lost = false }
      → map (λ seat. user_of seat.session) p.seats.items ≡ bundle.users → (seated : AreSeated told faults [] p.seats.items)
      → AreTogether forgets_ten replies_ten forgets_twenty replies_twenty told faults bundle ten twenty (lent_to seated.sittings) p seated.sittings
  begins_together bundle ten twenty p is core at_ten at_twenty users seated = record {
    here = seated.here;
    people = subst (λ (c : PlainCore). ArePeople c.users) (sym core) (users_are_people bundle.users is.each);
    numbers = ap (λ (c : PlainCore). c.users) core;
    ascending = is.ascending;
    users = users;
    shelves = refl;
    seated = subst (λ (c : PlainCore). All (IsSeated told faults c.journal) seated.sittings) (sym core) seated.seated;
    whole = λ here. subst (λ (c : PlainCore). All (IsWholeUnlessLost told faults c.journal) seated.sittings) (sym core) (All-from_recursion _ seated.sittings (none_has_left told faults seated.sittings));
    at_work = λ kind. subst (λ (c : PlainCore). WorksAs forgets_ten replies_ten forgets_twenty replies_twenty bundle ten twenty kind c.journal (auxiliary_of p kind)) (sym core) (at_start kind);
  }
    where
      new : (kind : AuxiliaryKind) → auxiliary_of p kind ≡ (let a : Auxiliary (Behind X Y kind) = record { party = party_of kind; replier = of_each ten twenty kind; is_lost = false } in a)
      new Clock = at_ten
      new TextFiles = at_twenty

      at_start : (kind : AuxiliaryKind) → WorksAs forgets_ten replies_ten forgets_twenty replies_twenty bundle ten twenty kind [] (auxiliary_of p kind)
      at_start kind = record {
        number = ap (λ (a : Auxiliary (Behind X Y kind)). a.party) (new kind);
        answered = λ here. ap (λ (a : Auxiliary (Behind X Y kind)). a.replier) (new kind);
        among = refl;
      }

-- ---- the end

module _ {X Y K : Type 0} (forgets_ten : X → ℕ → X → Type 0) (replies_ten : X → ℕ → PlainArray → PlainArray → X → Type 0)
    (forgets_twenty : Y → ℕ → Y → Type 0) (replies_twenty : Y → ℕ → PlainArray → PlainArray → Y → Type 0) (told : K → Option (Told (ℕ × List ℕ))) (faults : K → ℕ)
    (bundle : PlainBundle) (ten : X) (twenty : Y) (shelves : List K) (p : Parties X Y K) (sittings : List (Sitting K)) (h : AreTogether forgets_ten replies_ten forgets_twenty replies_twenty told faults bundle ten twenty shelves p sittings)
    (transcripts : List PlainTranscript) (journal : Entries) (over : some_stay p.core.users p.core.journal ≡ false) (ended : RunIsWhole told faults p transcripts journal) where
  left : AllByRecursion (λ (user : PlainUser). IsTrue (has_left p.core.journal user.number)) bundle.users
  left = all_left bundle.users p.core.journal (ap (λ (users : List ℕ). some_stay users p.core.journal) (sym h.numbers) ∙ over)

  whole : AllByRecursion (IsWholeUnlessLost told faults p.core.journal) sittings
  whole = recursion_from_All _ sittings (h.whole (memory_of p ended.here))

  none_out : IsTrue (none_lost (seats_in sittings))
  none_out = ap (λ (seats : List (UserSeat K)). none_lost seats) h.here ∙ memory_of_users p ended.here

  users_there : map (λ (s : Sitting K). user_of s.seat.session) sittings ≡ bundle.users
  users_there = sym (map-map (λ (s : UserSeat K). user_of s.session) (λ (s : Sitting K). s.seat) sittings) ∙ ap (λ (seats : List (UserSeat K)). map (λ (s : UserSeat K). user_of s.session) seats) h.here ∙ h.users

  abbrev pub dealings : Dealings
  dealings = dealings_of sittings

  deals : AllByRecursion (λ (s : Sitting K). dealings s.seat.session.user ≡ s.exchanges) sittings
  deals = each_deals sittings
      (subst (λ (seats : List (UserSeat K)). AscendBy (λ s. s.session.user) seats) (sym h.here) (seats_ascend forgets_ten replies_ten forgets_twenty replies_twenty told faults bundle ten twenty shelves p sittings h))

  printed : transcripts ≡ map transcript_of sittings
  printed = ended.printed sittings h.here (All-from_recursion _ sittings (all_printed told faults dealings p.core.journal sittings bundle.users users_there none_out whole left))

  -- what answers behind an auxiliary came to where it is by its part
  part_of : (kind : AuxiliaryKind) →
      IsAuxiliaryPart (forgets_of forgets_ten forgets_twenty kind) (replies_of replies_ten replies_twenty kind) (user_numbers bundle) (party_of kind) p.core.journal (of_each ten twenty kind) (of_each p.ten.replier p.twenty.replier kind)
  part_of kind = record {
    answers = subst (λ (end : Behind X Y kind). IsReplierRun (forgets_of forgets_ten forgets_twenty kind) (replies_of replies_ten replies_twenty kind) (of_each ten twenty kind) (events_of p.core.journal (party_of kind)) end) (repliers_are p kind)
        (subst (λ (party : ℕ). IsReplierRun (forgets_of forgets_ten forgets_twenty kind) (replies_of replies_ten replies_twenty kind) (of_each ten twenty kind) (events_of p.core.journal party) (auxiliary_of p kind).replier) (h.at_work kind).number
        ((h.at_work kind).answered (memory_of p ended.here kind)));
    among = (h.at_work kind).among;
  }

  -- what came of the parties is a run
  pub is_run : (rest : List K)
      → IsRun forgets_ten replies_ten forgets_twenty replies_twenty told faults bundle dealings journal transcripts ten p.ten.replier twenty p.twenty.replier (shelves ++ rest) (map (λ seat. seat.session.shelf) p.seats.items ++ rest)
  is_run rest = record {
    legal = subst (λ (users : List ℕ). IsLegal users journal) h.numbers ended.legal;
    users = subst (λ (list : List PlainTranscript). AreUserParts dealings journal bundle.users list) (sym printed)
        (subst (λ (j : Entries). AreUserParts dealings j bundle.users (map transcript_of sittings)) (sym ended.same) (parts_of told faults dealings p.core.journal sittings bundle.users users_there none_out whole left deals));
    shelves_served = subst₂ (λ (lent : List K) (seats : List (UserSeat K)). ServeUsers told faults dealings bundle.users (lent ++ rest) (map (λ seat. seat.session.shelf) seats ++ rest)) h.shelves h.here
        (serve_users told faults dealings p.core.journal sittings bundle.users rest users_there none_out whole left deals);
    parts = λ kind.
        subst (λ (j : Entries).
        IsAuxiliaryPart (forgets_of forgets_ten forgets_twenty kind) (replies_of replies_ten replies_twenty kind) (user_numbers bundle) (party_of kind) j (of_each ten twenty kind) (of_each p.ten.replier p.twenty.replier kind)) (sym ended.same)
        (part_of kind);
  }

  -- some reply that nobody gave
  spare : PlainArray
  spare = record { shape = []; items = chars [] }

  -- and its journal is that of the turns, which led from where the users sat at the start
  module _ (start middle : Parties X Y K) (none : start.core.journal ≡ []) (users : users_of dealings start.seats.items ≡ map (newcomer dealings) bundle.users) (order : List ℕ) (same : order ≡ bundle.order) (count : ℕ)
      (all_turns : TookTurns (λ replay. rounds count (ordered order replay)) start p sittings) (few : count ≤ most_rounds bundle) where
    abbrev replies_given : ℕ → List PlainArray
    replies_given party = all_turns.given party ++ spare ∷ []

    came_to : rounds count (ordered bundle.order (beginning bundle dealings replies_given)) ≡ record { journal = p.core.journal; replies = λ party. spare ∷ []; users = users_of dealings p.seats.items }
    came_to =
        ap (λ (parties : List ℕ). rounds count (ordered parties (beginning bundle dealings replies_given))) (sym same)
        ∙ ap₂ (λ (j : Entries) (list : List Participant). rounds count (ordered order (record { journal = j; replies = replies_given; users = list }))) (sym none) (sym users)
        ∙ all_turns.same dealings (All-from_recursion _ sittings (each_ends dealings sittings deals)) (λ party. spare ∷ [])

    pub is_replay : IsReplay bundle dealings journal
    is_replay = record {
      turns = record {
        replies = replies_given;
        count = count;
        last = ap (λ (r : Replay). r.journal) came_to ∙ sym ended.same;
        enough = subst (λ (r : Replay). HasReplies r) (sym came_to) (λ kind e. cc);
        left = All-from_recursion _ bundle.users (subst (λ (j : Entries). AllByRecursion (λ (user : PlainUser). IsTrue (has_left j user.number)) bundle.users) (sym ended.same) left);
      };
      few = few;
    }

-- ---- the answer

module _ {X Y K : Type 0} (told : K → Option (Told (ℕ × List ℕ))) (faults : K → ℕ) (p : Parties X Y K) where
  -- what is known of the transcripts where there are some
  abbrev pub ArePrinted : List PlainTranscript → Type 0
  ArePrinted texts = (sittings : List (Sitting K)) → seats_in sittings ≡ p.seats.items → All (HasPrinted told faults) sittings → texts ≡ map transcript_of sittings

  -- the end of a run whose parties are these
  pub ends_as : (transcripts : Option (Listed PlainTranscript)) (journal : Listed PlainEntry) (is_whole : Bool) (result : Ended) → result ≡ end_by transcripts journal is_whole → is_whole ≡ none_is_lost p
      → IfSome transcripts (λ list. ArePrinted list.items) → reverse journal.items ≡ p.core.journal → IsLegal p.core.users p.core.journal
      → IfWhole result (λ texts entries. RunIsWhole told faults p texts entries)
  ends_as transcripts journal is_whole result is here printed same legal =
      subst (λ (e : Ended). IfWhole e (λ texts entries. RunIsWhole told faults p texts entries)) (sym is)
      (if_whole transcripts journal is_whole (λ texts entries. RunIsWhole told faults p texts entries)
      (λ list some true_now. record {
        here = sym here ∙ true_now;
        same = same;
        legal = subst (λ (j : Entries). IsLegal p.core.users j) (sym same) legal;
        printed = subst (λ (o : Option (Listed PlainTranscript)). IfSome o (λ texts. ArePrinted texts.items)) some printed;
      }))

module _ {X Y K : Type 0} (forgets_ten : X → ℕ → X → Type 0) (replies_ten : X → ℕ → PlainArray → PlainArray → X → Type 0)
    (forgets_twenty : Y → ℕ → Y → Type 0) (replies_twenty : Y → ℕ → PlainArray → PlainArray → Y → Type 0) (told : K → Option (Told (ℕ × List ℕ))) (faults : K → ℕ) where
  -- what came of parties and an order
  came_of : (order : List ℕ) (start middle p : Parties X Y K) (rest : List K) (texts : List PlainTranscript) (entries : Entries) → TakesTurns forgets_ten replies_ten forgets_twenty replies_twenty told faults (ordered order) start middle
      → TakesRounds forgets_ten replies_ten forgets_twenty replies_twenty told faults middle p → some_stay p.core.users p.core.journal ≡ false → RunIsWhole told faults p texts entries
      → ComesOf forgets_ten replies_ten forgets_twenty replies_twenty told faults order start rest texts entries p.ten.replier p.twenty.replier (map (λ seat. seat.session.shelf) p.seats.items ++ rest)
  came_of order start middle p rest texts entries first more over ended bundle ten twenty lent sittings h =
      let k = first bundle ten twenty lent sittings h in
      let l = takes_both forgets_ten replies_ten forgets_twenty replies_twenty told faults (ordered order) (rounds more.count) start middle p first more.turns bundle ten twenty lent sittings h in
      record {
        dealings = dealings forgets_ten replies_ten forgets_twenty replies_twenty told faults bundle ten twenty lent p l.nows l.together texts entries over ended;
        run = is_run forgets_ten replies_ten forgets_twenty replies_twenty told faults bundle ten twenty lent p l.nows l.together texts entries over ended rest;
        turns = λ none users same.
            is_replay forgets_ten replies_ten forgets_twenty replies_twenty told faults bundle ten twenty lent p l.nows l.together texts entries over ended start middle none
            (users (dealings forgets_ten replies_ten forgets_twenty replies_twenty told faults bundle ten twenty lent p l.nows l.together texts entries over ended)) order same more.count (l.took ended.here)
            (few_rounds forgets_ten replies_ten forgets_twenty replies_twenty told faults bundle middle p k.together.users more);
      }

  pub comes_of : (order : List ℕ) (start middle p : Parties X Y K) (rest shelves_then : List K) (result : Ended) (ten_then : X) (twenty_then : Y)
      → TakesTurns forgets_ten replies_ten forgets_twenty replies_twenty told faults (ordered order) start middle → TakesRounds forgets_ten replies_ten forgets_twenty replies_twenty told faults middle p → some_stay p.core.users p.core.journal ≡ false
      → IfWhole result (λ texts entries. RunIsWhole told faults p texts entries) → ten_then ≡ p.ten.replier → twenty_then ≡ p.twenty.replier → shelves_then ≡ map (λ seat. seat.session.shelf) p.seats.items ++ rest
      → IfWhole result (λ texts entries. ComesOf forgets_ten replies_ten forgets_twenty replies_twenty told faults order start rest texts entries ten_then twenty_then shelves_then)
  comes_of order start middle p rest shelves_then result ten_then twenty_then first more over whole ten_is twenty_is shelves_are =
      whole_more result (λ texts entries. RunIsWhole told faults p texts entries) (λ texts entries. ComesOf forgets_ten replies_ten forgets_twenty replies_twenty told faults order start rest texts entries ten_then twenty_then shelves_then)
      (λ texts entries ended.
      subst (λ (x : X). ComesOf forgets_ten replies_ten forgets_twenty replies_twenty told faults order start rest texts entries x twenty_then shelves_then) (sym ten_is)
      (subst₂ (λ (y : Y) (k : List K). ComesOf forgets_ten replies_ten forgets_twenty replies_twenty told faults order start rest texts entries p.ten.replier y k) (sym twenty_is) (sym shelves_are)
      (came_of order start middle p rest texts entries first more over ended))) whole

  -- as many seats as there were
  pub same_seats : (bundle : PlainBundle) (ten : X) (twenty : Y) (lent : List K) (p q : Parties X Y K) (sittings nows : List (Sitting K)) → AreTogether forgets_ten replies_ten forgets_twenty replies_twenty told faults bundle ten twenty lent p sittings
      → AreTogether forgets_ten replies_ten forgets_twenty replies_twenty told faults bundle ten twenty lent q nows → length q.seats.items ≡ length p.seats.items
  same_seats bundle ten twenty lent p q sittings nows h also =
      sym (length-map q.seats.items (λ seat. user_of seat.session)) ∙ ap (λ (list : List PlainUser). length list) (also.users ∙ sym h.users) ∙ length-map p.seats.items (λ seat. user_of seat.session)
