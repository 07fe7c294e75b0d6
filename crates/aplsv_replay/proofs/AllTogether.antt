-- Parties that stay those of a bundle while they take turns.
use Rattle.std.proofs.Common.{◌≡◌, ◌≢◌, ℕ, ◌||◌, Bool, true, false, not, eqb, List, [], ◌∷◌, map, Option, IsTrue, refl, sym, ap, ap₂, subst, ◌∙◌}
use Rattle.std.specs.List.{All, AllByRecursion}
use Rattle.std.specs.Prelude.{sum_by}
use Rattle.std.proofs.lemmas.Bool.{eq-eqb, or_from, or_left, or_right}
use Rattle.std.proofs.lemmas.Simd.{map-map}
use Rattle.std.proofs.lemmas.List.Elements.{All-from_recursion, recursion_from_All}
use Rattle.apl_arrays.specs.Array.{PlainArray}
use Rattle.apl_arrays.specs.Ascending.{Ascend, AscendBy}
use Rattle.apl_io.specs.Content.{Told}
use Rattle.auxiliaries.specs.Run.{Event, IsReplierRun}
use Rattle.bundle_text.specs.Rules.{PlainBundle}
use Rattle.bundle_text.specs.User.{PlainUser}
use Rattle.sv_core.proofs.People.{no_auxiliaries}
use Rattle.sv_core.specs.Core.{ArePeople, PlainCore}
use Rattle.aux_parties.specs.Auxiliaries.{is_auxiliary, party_of}
use Rattle.sv_rules.specs.Entries.{Entries}
use Rattle.sv_rules.specs.Legal.{is_user}
use Rattle.aux_parties.specs.declared.auxiliary.AuxiliaryKind.{AuxiliaryKind}
use Rattle.aux_parties.specs.declared.auxiliary.AuxiliaryKind.TheVariants.{Clock, TextFiles}
use Rattle.aux_parties.proofs.TableLemmas.{kinds_are_auxiliaries, kinds_differ}
use Rattle.session_rules.specs.Auxiliaries.{acts_among, events_of, some_stay}
use Rattle.session_rules.specs.Behind.{Behind, forgets_of, of_each, replies_of}
use Rattle.session_rules.specs.Run.{Dealings, user_numbers}
use Rattle.party_turns.specs.Participants.{users_of}
use Rattle.aplsv_replay.specs.SeatTurns.{AreSeatTurns}
use Rattle.party_turns.specs.Seats.{none_lost, seat_numbers}
use Rattle.party_turns.specs.Sittings.{Sitting, seats_in}
use Rattle.party_turns.specs.SoFar.{GrowsBy, HasAnswered, IsSeated, IsWholeUnlessLost, user_of, user_work}
use Rattle.aplsv_replay.specs.Together.{AreOfSomeBundle, AreTogether, StayTogether, TakesTurns, TookTurns, WorksAs, auxiliary_of, none_is_lost}
use Rattle.party_turns.specs.declared.auxiliary.Auxiliary.{Auxiliary}
use Rattle.aplsv_replay.specs.declared.parties.Parties.{Parties}
use Rattle.party_turns.specs.declared.seat.UserSeat.{UserSeat}
use Rattle.replay_rules.specs.Turns.{Replay, AfterTurns, numbers_of, turns_where, user_turns}
use Rattle.party_turns.proofs.Growth.{AreNone, AreOthers, among_are_others, among_grows, among_stays, events_stay, is_no_user, none_of_people, own_are_others, some_stay_same}
use Rattle.aplsv_replay.proofs.KindLemmas.{had_memory, memory_of, memory_of_all, memory_of_users, same_auxiliaries, with_auxiliary}
use Rattle.aplsv_replay.proofs.Taking.{numbers_by_participants, stays_at}
use Rattle.aplsv_replay.proofs.SeatTurns.{not_lost_before, seats_work_stays}
use Rattle.party_turns.proofs.Others.{all_grown_seated, all_grown_whole}

-- ---- the numbers of seats

numbers_by_users : {K : Type 0} (seats : List (UserSeat K)) → seat_numbers seats ≡ map (λ (user : PlainUser). user.number) (map (λ (seat : UserSeat K). user_of seat.session) seats)
numbers_by_users [] = refl
numbers_by_users (seat ∷ seats) = ap (λ (others : List ℕ). seat.session.user ∷ others) (numbers_by_users seats)

-- each is among them
widened : {K : Type 0} (number : ℕ) (numbers : List ℕ) (seats : List (UserSeat K)) → AllByRecursion (λ (seat : UserSeat K). IsTrue (is_user numbers seat.session.user)) seats → AllByRecursion (λ (seat : UserSeat K). IsTrue (is_user (number ∷ numbers) seat.session.user)) seats
widened number numbers [] h = tt
widened number numbers (seat ∷ seats) h = (or_right (eqb number seat.session.user) (is_user numbers seat.session.user) h.0, widened number numbers seats h.1)

own_users : {K : Type 0} (seats : List (UserSeat K)) → AllByRecursion (λ (seat : UserSeat K). IsTrue (is_user (seat_numbers seats) seat.session.user)) seats
own_users [] = tt
own_users (seat ∷ seats) =
    (or_left (eqb seat.session.user seat.session.user) (is_user (seat_numbers seats) seat.session.user) (eq-eqb seat.session.user seat.session.user refl), widened seat.session.user (seat_numbers seats) seats (own_users seats))

module _ {X Y K : Type 0} (forgets_ten : X → ℕ → X → Type 0) (replies_ten : X → ℕ → PlainArray → PlainArray → X → Type 0)
    (forgets_twenty : Y → ℕ → Y → Type 0) (replies_twenty : Y → ℕ → PlainArray → PlainArray → Y → Type 0) (bundle : PlainBundle) (ten : X) (twenty : Y) (p : Parties X Y K) (after : PlainCore) where
  -- where one auxiliary is another, each is at its work, if that one is and the others are
  each_at_work : (kind : AuxiliaryKind) (aux : Auxiliary (Behind X Y kind)) → WorksAs forgets_ten replies_ten forgets_twenty replies_twenty bundle ten twenty kind after.journal aux
      → ((other : AuxiliaryKind) → kind ≢ other → WorksAs forgets_ten replies_ten forgets_twenty replies_twenty bundle ten twenty other after.journal (auxiliary_of p other))
      → (which : AuxiliaryKind) → WorksAs forgets_ten replies_ten forgets_twenty replies_twenty bundle ten twenty which after.journal (auxiliary_of (with_auxiliary p after kind aux) which)
  each_at_work Clock aux own others Clock = own
  each_at_work Clock aux own others TextFiles = others TextFiles (λ same. cc)
  each_at_work TextFiles aux own others Clock = others Clock (λ same. cc)
  each_at_work TextFiles aux own others TextFiles = own

module _ {X Y K : Type 0} (forgets_ten : X → ℕ → X → Type 0) (replies_ten : X → ℕ → PlainArray → PlainArray → X → Type 0)
    (forgets_twenty : Y → ℕ → Y → Type 0) (replies_twenty : Y → ℕ → PlainArray → PlainArray → Y → Type 0)
    (told : K → Option (Told (ℕ × List ℕ))) (faults : K → ℕ) (bundle : PlainBundle) (ten : X) (twenty : Y) (shelves : List K) (p : Parties X Y K) (sittings : List (Sitting K)) (h : AreTogether forgets_ten replies_ten forgets_twenty replies_twenty told faults bundle ten twenty shelves p sittings) where
  -- the users of the processor are those of the seats
  pub seats_are_users : seat_numbers p.seats.items ≡ p.core.users
  seats_are_users = numbers_by_users p.seats.items ∙ ap (λ (users : List PlainUser). map (λ (user : PlainUser). user.number) users) h.users ∙ sym h.numbers

  pub participants_are_users : (final : Dealings) → numbers_of (users_of final p.seats.items) ≡ p.core.users
  participants_are_users final = numbers_by_participants final p.seats.items ∙ seats_are_users

  pub seats_ascend : AscendBy (λ seat. seat.session.user) p.seats.items
  seats_ascend = subst Ascend (sym (seats_are_users ∙ h.numbers)) h.ascending

  pub seats_are_of_users : All (λ seat. IsTrue (is_user p.core.users seat.session.user)) p.seats.items
  seats_are_of_users =
      subst (λ (users : List ℕ). All (λ seat. IsTrue (is_user users seat.session.user)) p.seats.items) seats_are_users (All-from_recursion _ p.seats.items (own_users p.seats.items))

  people : AllByRecursion (λ user. is_auxiliary user ≡ false) p.core.users
  people = recursion_from_All _ p.core.users (no_auxiliaries p.core.users h.people)

  -- what an auxiliary adds is no user's
  module _ (party : ℕ) (auxiliary : IsTrue (is_auxiliary party)) (after : PlainCore) (grows : GrowsBy party p.core after) where
    pub no_users : AreNone p.core.users grows.entries
    no_users = none_of_people p.core.users party grows.entries auxiliary people (recursion_from_All _ grows.entries grows.own)

    no_seats : AllByRecursion (λ (number : ℕ). AreOthers number grows.entries) (seat_numbers p.seats.items)
    no_seats = subst (λ (users : List ℕ). AreNone users grows.entries) (sym seats_are_users) no_users

    no_sittings : AllByRecursion (λ (number : ℕ). AreOthers number grows.entries) (seat_numbers (seats_in sittings))
    no_sittings = subst (λ (seats : List (UserSeat K)). AllByRecursion (λ (number : ℕ). AreOthers number grows.entries) (seat_numbers seats)) (sym h.here) no_seats

    pub still_seated : All (IsSeated told faults after.journal) sittings
    still_seated = All-from_recursion _ sittings (all_grown_seated told faults grows.entries p.core.journal after.journal sittings grows.journal no_sittings (recursion_from_All _ sittings h.seated))

    pub still_whole : All (IsWholeUnlessLost told faults p.core.journal) sittings → All (IsWholeUnlessLost told faults after.journal) sittings
    still_whole whole = All-from_recursion _ sittings (all_grown_whole told faults grows.entries p.core.journal after.journal sittings grows.journal no_sittings (recursion_from_All _ sittings whole))

    pub still_stay : IsTrue (some_stay p.core.users p.core.journal) → IsTrue (some_stay after.users after.journal)
    still_stay stay =
        ap₂ (λ (users : List ℕ) (journal : Entries). some_stay users journal) grows.users grows.journal
        ∙ some_stay_same p.core.users grows.entries p.core.journal no_users ∙ stay

    -- before each of its own entries some user had not left
    pub still_among : IsTrue (some_stay p.core.users p.core.journal) → IsTrue (acts_among (user_numbers bundle) party p.core.journal) → IsTrue (acts_among (user_numbers bundle) party after.journal)
    still_among stay among =
        let users : p.core.users ≡ user_numbers bundle = h.numbers in
        subst (λ (journal : Entries). IsTrue (acts_among (user_numbers bundle) party journal)) (sym grows.journal)
        (among_grows (user_numbers bundle) party grows.entries p.core.journal (subst (λ (list : List ℕ). AreNone list grows.entries) users no_users)
        (ap (λ (list : List ℕ). some_stay list p.core.journal) (sym users) ∙ stay) among)

    -- and nothing changes for the other auxiliary
    module _ (other : ℕ) (differ : party ≢ other) where
      others : AreOthers other grows.entries
      others = own_are_others party other grows.entries differ (recursion_from_All _ grows.entries grows.own)

      pub other_among : IsTrue (acts_among (user_numbers bundle) other p.core.journal) → IsTrue (acts_among (user_numbers bundle) other after.journal)
      other_among among = ap (λ (journal : Entries). acts_among (user_numbers bundle) other journal) grows.journal ∙ among_stays (user_numbers bundle) grows.entries p.core.journal other others ∙ among

      pub other_events : events_of p.core.journal other ≡ events_of after.journal other
      other_events = sym (ap (λ (journal : Entries). events_of journal other) grows.journal ∙ events_stay grows.entries p.core.journal other others)

    -- as much is left to do by users
    pub same_work : sum_by (λ (seat : UserSeat K). user_work after.journal seat.session) p.seats.items ≡ sum_by (λ (seat : UserSeat K). user_work p.core.journal seat.session) p.seats.items
    same_work = seats_work_stays grows.entries p.core.journal after.journal p.seats.items grows.journal no_seats

  -- each auxiliary is one
  pub is_auxiliary_of : (kind : AuxiliaryKind) → IsTrue (is_auxiliary (auxiliary_of p kind).party)
  is_auxiliary_of kind = ap (λ (number : ℕ). is_auxiliary number) (h.at_work kind).number ∙ kinds_are_auxiliaries kind

  -- ---- the turn of an auxiliary

  module _ (kind : AuxiliaryKind) (after : PlainCore) (aux : Auxiliary (Behind X Y kind)) (party : aux.party ≡ (auxiliary_of p kind).party) (grows : GrowsBy (auxiliary_of p kind).party p.core after)
      (answered : aux.is_lost ≡ false → (start : Behind X Y kind) → HasAnswered (forgets_of forgets_ten forgets_twenty kind) (replies_of replies_ten replies_twenty kind) start p.core.journal (auxiliary_of p kind)
      → HasAnswered (forgets_of forgets_ten forgets_twenty kind) (replies_of replies_ten replies_twenty kind) start after.journal aux)
      (lost : (auxiliary_of p kind).is_lost ≡ true → (aux ≡ auxiliary_of p kind) × (after ≡ p.core)) (stay : IsTrue (some_stay p.core.users p.core.journal)) where
    -- its entries come before the journal
    own_growth : GrowsBy (party_of kind) p.core after
    own_growth = subst (λ (number : ℕ). GrowsBy number p.core after) (h.at_work kind).number grows

    memory_before : aux.is_lost ≡ false → (auxiliary_of p kind).is_lost ≡ false
    memory_before here = not_lost_before (auxiliary_of p kind).is_lost aux.is_lost (λ was. ap (λ (a : Auxiliary (Behind X Y kind)). a.is_lost) (lost was).0 ∙ was) here

    -- so its own work goes on
    own_work : WorksAs forgets_ten replies_ten forgets_twenty replies_twenty bundle ten twenty kind after.journal aux
    own_work = record {
      number = party ∙ (h.at_work kind).number;
      answered = λ here. answered here (of_each ten twenty kind) ((h.at_work kind).answered (memory_before here));
      among = still_among (party_of kind) (kinds_are_auxiliaries kind) after own_growth stay (h.at_work kind).among;
    }

    -- and that of another stays what it is
    other_work : (other : AuxiliaryKind) → kind ≢ other → WorksAs forgets_ten replies_ten forgets_twenty replies_twenty bundle ten twenty other after.journal (auxiliary_of p other)
    other_work other differ =
        let apart : party_of kind ≢ party_of other = kinds_differ kind other differ in
        let same : events_of p.core.journal (auxiliary_of p other).party ≡ events_of after.journal (auxiliary_of p other).party =
        other_events (party_of kind) (kinds_are_auxiliaries kind) after own_growth (auxiliary_of p other).party (λ is. apart (is ∙ (h.at_work other).number)) in
        record {
          number = (h.at_work other).number;
          answered = λ here.
              subst (λ (events : List Event). IsReplierRun (forgets_of forgets_ten forgets_twenty other) (replies_of replies_ten replies_twenty other) (of_each ten twenty other) events (auxiliary_of p other).replier) same
              ((h.at_work other).answered here);
          among = other_among (party_of kind) (kinds_are_auxiliaries kind) after own_growth (party_of other) apart (h.at_work other).among;
        }

    pub auxiliary_keeps : AreTogether forgets_ten replies_ten forgets_twenty replies_twenty told faults bundle ten twenty shelves (with_auxiliary p after kind aux) sittings
    auxiliary_keeps = record {
      here = h.here;
      people = subst (λ (users : List ℕ). ArePeople users) (sym grows.users) h.people;
      numbers = grows.users ∙ h.numbers;
      ascending = h.ascending;
      users = h.users;
      shelves = h.shelves;
      seated = still_seated (party_of kind) (kinds_are_auxiliaries kind) after own_growth;
      whole = λ here. still_whole (party_of kind) (kinds_are_auxiliaries kind) after own_growth (h.whole (had_memory p after kind aux memory_before here));
      at_work = each_at_work forgets_ten replies_ten forgets_twenty replies_twenty bundle ten twenty p after kind aux own_work other_work;
    }

  -- ---- the turns of users

  module _ (due : ℕ → Bool) (q : Parties X Y K) (same_ten : q.ten ≡ p.ten) (same_twenty : q.twenty ≡ p.twenty)
      (turns : AreSeatTurns told faults due (p.ten.is_lost || p.twenty.is_lost) p.core sittings q.core q.seats.items) where
    -- what users add is no auxiliary's
    users_others : (party : ℕ) → IsTrue (is_auxiliary party) → AreOthers party turns.grows.entries
    users_others party auxiliary =
        among_are_others (seat_numbers (seats_in sittings)) party turns.grows.entries (ap (λ (list : List ℕ). is_user list party) (ap (λ (seats : List (UserSeat K)). seat_numbers seats) h.here ∙ seats_are_users) ∙ is_no_user p.core.users party auxiliary people)
        (recursion_from_All _ turns.grows.entries turns.grows.own)

    users_events : (party : ℕ) → IsTrue (is_auxiliary party) → events_of p.core.journal party ≡ events_of q.core.journal party
    users_events party auxiliary = sym (ap (λ (journal : Entries). events_of journal party) turns.grows.journal ∙ events_stay turns.grows.entries p.core.journal party (users_others party auxiliary))

    users_among : (party : ℕ) → IsTrue (is_auxiliary party) → IsTrue (acts_among (user_numbers bundle) party p.core.journal) → IsTrue (acts_among (user_numbers bundle) party q.core.journal)
    users_among party auxiliary among =
        ap (λ (journal : Entries). acts_among (user_numbers bundle) party journal) turns.grows.journal
        ∙ among_stays (user_numbers bundle) turns.grows.entries p.core.journal party (users_others party auxiliary) ∙ among

    same : (kind : AuxiliaryKind) → auxiliary_of q kind ≡ auxiliary_of p kind
    same kind = same_auxiliaries p q same_ten same_twenty kind

    memory_still : ((kind : AuxiliaryKind) → (auxiliary_of q kind).is_lost ≡ false) → (kind : AuxiliaryKind) → (auxiliary_of p kind).is_lost ≡ false
    memory_still here kind = ap (λ (a : Auxiliary (Behind X Y kind)). a.is_lost) (sym (same kind)) ∙ here kind

    unclosed : ((kind : AuxiliaryKind) → (auxiliary_of q kind).is_lost ≡ false) → (p.ten.is_lost || p.twenty.is_lost) ≡ false
    unclosed here = or_from p.ten.is_lost p.twenty.is_lost (memory_still here Clock) (memory_still here TextFiles)

    works_still : (kind : AuxiliaryKind) → WorksAs forgets_ten replies_ten forgets_twenty replies_twenty bundle ten twenty kind q.core.journal (auxiliary_of p kind)
    works_still kind = record {
      number = (h.at_work kind).number;
      answered = λ here.
          subst (λ (events : List Event). IsReplierRun (forgets_of forgets_ten forgets_twenty kind) (replies_of replies_ten replies_twenty kind) (of_each ten twenty kind) events (auxiliary_of p kind).replier)
          (users_events (auxiliary_of p kind).party (is_auxiliary_of kind)) ((h.at_work kind).answered here);
      among = users_among (party_of kind) (kinds_are_auxiliaries kind) (h.at_work kind).among;
    }

    pub users_keep : AreTogether forgets_ten replies_ten forgets_twenty replies_twenty told faults bundle ten twenty shelves q turns.nows
    users_keep = record {
      here = turns.here;
      people = subst (λ (users : List ℕ). ArePeople users) (sym turns.grows.users) h.people;
      numbers = turns.grows.users ∙ h.numbers;
      ascending = h.ascending;
      users = turns.users ∙ sym (map-map (λ (s : UserSeat K). user_of s.session) (λ (s : Sitting K). s.seat) sittings) ∙ ap (λ (seats : List (UserSeat K)). map (λ (s : UserSeat K). user_of s.session) seats) h.here ∙ h.users;
      shelves = turns.lent ∙ h.shelves;
      seated = turns.seated;
      whole = λ here. turns.whole (unclosed here) (h.whole (memory_still here));
      at_work = λ kind.
          subst (λ (a : Auxiliary (Behind X Y kind)). WorksAs forgets_ten replies_ten forgets_twenty replies_twenty bundle ten twenty kind q.core.journal a) (sym (same kind)) (works_still kind);
    }

    -- they are turns of a replay
    users_took : IsTrue (none_is_lost q) → TookTurns (user_turns (λ user. due user.number)) p q turns.nows
    users_took here =
        record {
          given = λ party. [];
          same = λ final ends more.
              let numbers : turns_where (λ user. due user.number) (numbers_of (users_of final p.seats.items)) p.core.journal (users_of final p.seats.items) ≡ turns_where (λ user. due user.number) p.core.users p.core.journal (users_of final (seats_in sittings)) =
              ap (λ (users : List ℕ). turns_where (λ user. due user.number) users p.core.journal (users_of final p.seats.items)) (participants_are_users final)
              ∙ ap (λ (seats : List (UserSeat K)). turns_where (λ user. due user.number) p.core.users p.core.journal (users_of final seats)) (sym h.here) in
              ap (λ (after : AfterTurns). record { journal = after.journal; replies = more; users = after.users }) (numbers ∙ turns.turns (unclosed (memory_of q here)) (memory_of_users q here) final ends);
        }

    pub users_take : StayTogether forgets_ten replies_ten forgets_twenty replies_twenty told faults (user_turns (λ user. due user.number)) bundle ten twenty shelves p sittings q
    users_take = record {
      nows = turns.nows;
      together = users_keep;
      began = turns.began;
      lost = λ here. memory_of_all p (memory_still (memory_of q here)) (ap (λ (seats : List (UserSeat K)). none_lost seats) (sym h.here) ∙ turns.lost (memory_of_users q here));
      took = users_took;
    }

-- ---- as callers have it

-- whether some user stays, by an answer whether all have left
stays_by : (result stay : Bool) → result ≡ not stay → result ≡ false → stay ≡ true
stays_by result true is here = refl
stays_by result false is here = absurd (let both : true ≡ false = sym is ∙ here in cc)

over_by : (result stay : Bool) → result ≡ not stay → result ≡ true → stay ≡ false
over_by result true is here = absurd (let both : false ≡ true = sym is ∙ here in cc)
over_by result false is here = refl

module _ {X Y K : Type 0} (forgets_ten : X → ℕ → X → Type 0) (replies_ten : X → ℕ → PlainArray → PlainArray → X → Type 0)
    (forgets_twenty : Y → ℕ → Y → Type 0) (replies_twenty : Y → ℕ → PlainArray → PlainArray → Y → Type 0)
    (told : K → Option (Told (ℕ × List ℕ))) (faults : K → ℕ) where
  -- parties that took turns are still of some bundle
  pub of_some_still : (turns : Replay → Replay) (p q : Parties X Y K) → AreOfSomeBundle forgets_ten replies_ten forgets_twenty replies_twenty told faults p → TakesTurns forgets_ten replies_ten forgets_twenty replies_twenty told faults turns p q
      → AreOfSomeBundle forgets_ten replies_ten forgets_twenty replies_twenty told faults q
  of_some_still turns p q h takes =
      let k = takes h.bundle h.ten h.twenty h.shelves h.sittings h.together in
      record { bundle = h.bundle; ten = h.ten; twenty = h.twenty; shelves = h.shelves; sittings = k.nows; together = k.together }

  pub stays_on : (p : Parties X Y K) (result : Bool) → result ≡ not (stays_at p) → result ≡ false → stays_at p ≡ true
  stays_on p result is here = stays_by result (stays_at p) is here

  pub all_gone : (p : Parties X Y K) (result : Bool) → result ≡ not (stays_at p) → result ≡ true → stays_at p ≡ false
  all_gone p result is here = over_by result (stays_at p) is here

  pub users_stay_on : (p : Parties X Y K) → AreOfSomeBundle forgets_ten replies_ten forgets_twenty replies_twenty told faults p → some_stay p.core.users p.core.journal ≡ stays_at p
  users_stay_on p h =
      ap (λ (users : List ℕ). some_stay users p.core.journal) (sym (seats_are_users forgets_ten replies_ten forgets_twenty replies_twenty told faults h.bundle h.ten h.twenty h.shelves p h.sittings h.together))
