-- The turn of a user before those of others.
use Rattle.std.proofs.Common.{◌≡◌, ℕ, ◌+◌, ◌-◌, ◌<◌, ◌⊎◌, Bool, false, not, List, ◌∷◌, ◌++◌, length, map, take, Option, inl, inr, IsTrue, sym, ap, ap₂, subst, ◌∙◌, append_assoc, arith}
use Rattle.std.specs.List.{All, AllByRecursion}
use Rattle.std.specs.Prelude.{sum_by}
use Rattle.std.proofs.lemmas.Bool.{and_from, and_parts, not-true, not_from_false}
use Rattle.std.proofs.Math.Seq.{take-append_seam}
use Rattle.std.proofs.lemmas.List.{length-map}
use Rattle.std.proofs.lemmas.Simd.{map-map}
use Rattle.std.proofs.lemmas.List.Elements.{All-append, All-cons, All-head, All-tail, All-from_recursion, recursion_from_All}
use Rattle.std.proofs.lemmas.List.Sums.{sum_by-cons}
use Rattle.apl_arrays.specs.Ascending.{AscendBy}
use Rattle.sv_rules.specs.Limits.{most_entries}
use Rattle.apl_io.specs.Content.{Told}
use Rattle.bundle_text.specs.User.{PlainUser}
use Rattle.sv_core.specs.Core.{PlainCore}
use Rattle.sv_events.specs.Entry.{PlainEntry}
use Rattle.sv_rules.specs.Entries.{Entries, counted_entries}
use Rattle.sv_rules.specs.Legal.{is_user}
use Rattle.session_rules.specs.Run.{Dealings}
use Rattle.session_rules.specs.Shelf.{Exchange}
use Rattle.apl_session.specs.PlainSession.{PlainSession}
use Rattle.replay_rules.specs.Turns.{Participant, AfterTurn, AfterTurns, turns_where}
use Rattle.party_turns.specs.Participants.{participant_of, users_of}
use Rattle.aplsv_replay.specs.SeatTurns.{AreSeatTurns, GrowsAmong, IsHeld, IsSeatTurn, work_left}
use Rattle.party_turns.specs.Seats.{none_lost, seat_numbers}
use Rattle.party_turns.specs.Sittings.{EndsIn, ExchangesFollow, Sitting, seats_in}
use Rattle.party_turns.specs.SoFar.{IsSameSitting, IsSeated, IsWholeUnlessLost, user_of, user_work}
use Rattle.party_turns.specs.declared.seat.UserSeat.{UserSeat}
use Rattle.party_turns.proofs.Growth.{AreOthers, among_are_others, below_is_none, first_below}
use Rattle.party_turns.proofs.Sits.{sum_of_seen}
use Rattle.aplsv_replay.proofs.SeatTurns.{behind_others, both_less, first_less, not_lost_before, others_less, others_weaker, own_weaker, seats_work_stays, work_stays}
use Rattle.party_turns.proofs.Others.{all_grown_seated, all_grown_whole, grown_seated, grown_whole}

-- exchanges that follow others that follow
follow_on : (one two three : List Exchange) → ExchangesFollow one two → ExchangesFollow two three → ExchangesFollow one three
follow_on one two three a b = record { more = b.more ++ a.more; is = b.is ∙ ap (λ (e : List Exchange). b.more ++ e) a.is ∙ sym (append_assoc b.more a.more one) }

-- in whatever dealings a user ends behind a turn it ends before it
pub ends_before : {K : Type 0} (final : Dealings) (before after : Sitting K) → IsSameSitting before after → EndsIn final after → EndsIn final before
ends_before {K = K} final before after same ends =
    let user : after.seat.session.user ≡ before.seat.session.user = ap (λ (s : PlainSession K). s.user) same.user in
    subst (λ (u : ℕ). ExchangesFollow before.exchanges (final u)) user (follow_on before.exchanges after.exchanges (final after.seat.session.user) same.follow ends)

module _ {K : Type 0} (told : K → Option (Told (ℕ × List ℕ))) (faults : K → ℕ) (due : ℕ → Bool) (closes : Bool) (before middle after : PlainCore) (sitting : Sitting K) (now : UserSeat K) (others : List (Sitting K)) (nows : List (UserSeat K))
    (ascend : AscendBy (λ s. s.session.user) (seats_in (sitting ∷ others))) (first : IsSeatTurn told faults (due sitting.seat.session.user) closes before sitting middle now) (rest : AreSeatTurns told faults due closes middle others after nows) where
  abbrev seat : UserSeat K
  seat = sitting.seat

  abbrev number : ℕ
  number = seat.session.user

  abbrev there : Sitting K
  there = first.now

  below : AllByRecursion (λ other. number < other) (seat_numbers (seats_in others))
  below = first_below number (seat_numbers (seats_in others)) ascend

  same_number : there.seat.session.user ≡ number
  same_number = ap (λ (s : PlainSession K). s.user) first.same.user

  -- the first user's entries are those of no other
  first_own : AllByRecursion (λ (other : ℕ). AreOthers other first.grows.entries) (seat_numbers (seats_in others))
  first_own = behind_others number (seat_numbers (seats_in others)) first.grows.entries below (recursion_from_All _ first.grows.entries first.grows.own)

  -- and those of the others are not its own
  others_own : AreOthers there.seat.session.user rest.grows.entries
  others_own =
      subst (λ (n : ℕ). AreOthers n rest.grows.entries) (sym same_number)
      (among_are_others (seat_numbers (seats_in others)) number rest.grows.entries (below_is_none number (seat_numbers (seats_in others)) below) (recursion_from_All _ rest.grows.entries rest.grows.own))

  grows_more : GrowsAmong (seat_numbers (seats_in (sitting ∷ others))) before after
  grows_more = record {
    users = rest.grows.users ∙ first.grows.users;
    entries = rest.grows.entries ++ first.grows.entries;
    own = All-append (λ (e : PlainEntry). IsTrue (is_user (seat_numbers (seats_in (sitting ∷ others))) e.party)) rest.grows.entries first.grows.entries
        (All-from_recursion _ rest.grows.entries (others_weaker number (seat_numbers (seats_in others)) rest.grows.entries (recursion_from_All _ rest.grows.entries rest.grows.own)))
        (All-from_recursion _ first.grows.entries (own_weaker number (seat_numbers (seats_in others)) first.grows.entries (recursion_from_All _ first.grows.entries first.grows.own)));
    journal = rest.grows.journal ∙ ap (λ (j : Entries). rest.grows.entries ++ j) first.grows.journal ∙ sym (append_assoc rest.grows.entries first.grows.entries before.journal);
  }

  lost_before : IsTrue (none_lost (now ∷ nows)) → IsTrue (none_lost (seats_in (sitting ∷ others)))
  lost_before here =
      let both = and_parts (not now.is_lost) (none_lost nows) here in
      and_from (not seat.is_lost) (none_lost (seats_in others)) (not_from_false seat.is_lost (not_lost_before seat.is_lost now.is_lost first.lost (not-true now.is_lost both.0))) (rest.lost both.1)

  whole_more : closes ≡ false → All (IsWholeUnlessLost told faults before.journal) (sitting ∷ others) → All (IsWholeUnlessLost told faults after.journal) (there ∷ rest.nows)
  whole_more unclosed h =
      let own : IsWholeUnlessLost told faults before.journal sitting = All-head (IsWholeUnlessLost told faults before.journal) sitting others h in
      let whole : IsWholeUnlessLost told faults after.journal there =
      λ here.
      let present : now.is_lost ≡ false = sym (ap (λ (s : UserSeat K). s.is_lost) first.here) ∙ here in
      grown_whole told faults rest.grows.entries middle.journal after.journal there rest.grows.journal others_own (first.whole unclosed present (own (not_lost_before seat.is_lost now.is_lost first.lost present))) in
      All-cons (IsWholeUnlessLost told faults after.journal) there rest.nows whole
      (rest.whole unclosed (All-from_recursion _ others (all_grown_whole told faults first.grows.entries before.journal middle.journal others first.grows.journal first_own (recursion_from_All _ others (All-tail (IsWholeUnlessLost told faults before.journal) sitting others h)))))

  turns_more : closes ≡ false → IsTrue (none_lost (now ∷ nows)) → (final : Dealings) → All (EndsIn final) (there ∷ rest.nows)
      → turns_where (λ user. due user.number) before.users before.journal (users_of final (seats_in (sitting ∷ others))) ≡ record { journal = after.journal; users = users_of final (now ∷ nows) }
  turns_more unclosed here final ends =
      let both = and_parts (not now.is_lost) (none_lost nows) here in
      let list : List Participant = users_of final (seats_in others) in
      let behind : AfterTurn → AfterTurns = λ (t : AfterTurn).
      let more = turns_where (λ user. due user.number) before.users t.journal list in
      record { journal = more.journal; users = t.user ∷ more.users } in
      let numbers : turns_where (λ user. due user.number) before.users middle.journal list ≡ turns_where (λ user. due user.number) middle.users middle.journal list =
      ap (λ (users : List ℕ). turns_where (λ user. due user.number) users middle.journal list) (sym first.grows.users) in
      ap behind (first.turn unclosed (not-true now.is_lost both.0) final (All-head (EndsIn final) there rest.nows ends))
      ∙ ap (λ (t : AfterTurns). record { journal = t.journal; users = participant_of final now.session ∷ t.users }) (numbers ∙ rest.turns unclosed both.1 final (All-tail (EndsIn final) there rest.nows ends))

  began_more : (final : Dealings) → All (EndsIn final) (there ∷ rest.nows) → All (EndsIn final) (sitting ∷ others)
  began_more final ends =
      All-cons (EndsIn final) sitting others (ends_before final sitting there first.same (All-head (EndsIn final) there rest.nows ends)) (rest.began final (All-tail (EndsIn final) there rest.nows ends))

  abbrev sum_in : Entries → List (UserSeat K) → ℕ
  sum_in journal seats = sum_by (λ (s : UserSeat K). user_work journal s.session) seats

  -- what is left to do by the first and by the others
  first_now : user_work after.journal now.session ≡ user_work middle.journal now.session
  first_now = work_stays rest.grows.entries middle.journal after.journal now.session rest.grows.journal (subst (λ (s : UserSeat K). AreOthers s.session.user rest.grows.entries) first.here others_own)

  others_then : sum_in middle.journal (seats_in others) ≡ sum_in before.journal (seats_in others)
  others_then = seats_work_stays first.grows.entries before.journal middle.journal (seats_in others) first.grows.journal first_own

  left_after : work_left after.journal (now ∷ nows) ≡ (most_entries - counted_entries after.journal) + (user_work middle.journal now.session + sum_in after.journal nows)
  left_after =
      ap (λ (n : ℕ). (most_entries - counted_entries after.journal) + n)
      (sum_by-cons (λ (s : UserSeat K). user_work after.journal s.session) now nows ∙ ap (λ (n : ℕ). n + sum_in after.journal nows) first_now)

  left_before : work_left before.journal (seats_in (sitting ∷ others)) ≡ (most_entries - counted_entries before.journal) + (user_work before.journal seat.session + sum_in middle.journal (seats_in others))
  left_before =
      ap (λ (n : ℕ). (most_entries - counted_entries before.journal) + n)
      (sum_by-cons (λ (s : UserSeat K). user_work before.journal s.session) seat (seats_in others) ∙ ap (λ (n : ℕ). user_work before.journal seat.session + n) (sym others_then))

  less_by : (a b c d : ℕ) → a ≡ b → d ≡ c → b < c → a < d
  less_by a b c d same also less = omega arith

  held_all : middle ≡ before → IsHeld (due seat.session.user) closes before seat → All (λ s. IsHeld (due s.seat.session.user) closes middle s.seat) others → All (λ s. IsHeld (due s.seat.session.user) closes before s.seat) (sitting ∷ others)
  held_all same held more =
      All-cons (λ s. IsHeld (due s.seat.session.user) closes before s.seat) sitting others held (subst (λ (core : PlainCore). All (λ s. IsHeld (due s.seat.session.user) closes core s.seat) others) same more)

  -- where nothing changed behind the first, or with it
  sums_as : (journal : Entries) (list other : List (UserSeat K)) → map (λ s. s.session) list ≡ map (λ s. s.session) other → sum_in journal list ≡ sum_in journal other
  sums_as journal list other same =
      sym (sum_of_seen (λ (s : PlainSession K). user_work journal s) (λ (s : UserSeat K). s.session) list) ∙ ap (λ (sessions : List (PlainSession K)). sum_by (user_work journal) sessions) same ∙ sum_of_seen (λ (s : PlainSession K). user_work journal s) (λ (s : UserSeat K). s.session) other

  sessions_in : map (λ (s : UserSeat K). s.session) (seats_in others) ≡ map (λ (s : Sitting K). s.seat.session) others
  sessions_in = (map-map (λ (s : UserSeat K). s.session) (λ (s : Sitting K). s.seat) others)

  rest_as : after ≡ middle → map (λ s. s.session) nows ≡ map (λ s. s.seat.session) others →
      (most_entries - counted_entries after.journal) + (user_work middle.journal now.session + sum_in after.journal nows)
      ≡ (most_entries - counted_entries middle.journal) + (user_work middle.journal now.session + sum_in middle.journal (seats_in others))
  rest_as same sessions =
      ap (λ (core : PlainCore). (most_entries - counted_entries core.journal) + (user_work middle.journal now.session + sum_in core.journal nows)) same
      ∙ ap (λ (n : ℕ). (most_entries - counted_entries middle.journal) + (user_work middle.journal now.session + n)) (sums_as middle.journal nows (seats_in others) (sessions ∙ sym sessions_in))

  first_as : middle ≡ before → now.session ≡ seat.session →
      (most_entries - counted_entries middle.journal) + (user_work middle.journal now.session + sum_in middle.journal (seats_in others))
      ≡ (most_entries - counted_entries before.journal) + (user_work before.journal seat.session + sum_in middle.journal (seats_in others))
  first_as same seats =
      ap₂ (λ (core : PlainCore) (s : PlainSession K). (most_entries - counted_entries core.journal) + (user_work core.journal s + sum_in middle.journal (seats_in others))) same seats

  abbrev a0 : ℕ
  a0 = most_entries - counted_entries before.journal

  abbrev a1 : ℕ
  a1 = most_entries - counted_entries middle.journal

  abbrev a2 : ℕ
  a2 = most_entries - counted_entries after.journal

  abbrev u0 : ℕ
  u0 = user_work before.journal seat.session

  abbrev u1 : ℕ
  u1 = user_work middle.journal now.session

  abbrev s1 : ℕ
  s1 = sum_in middle.journal (seats_in others)

  abbrev s2 : ℕ
  s2 = sum_in after.journal nows

  abbrev left_now : ℕ
  left_now = work_left after.journal (now ∷ nows)

  abbrev left_then : ℕ
  left_then = work_left before.journal (seats_in (sitting ∷ others))

  less_more : (left_now < left_then) ⊎ ((after ≡ before) × (map (λ s. s.session) (now ∷ nows) ≡ map (λ s. s.seat.session) (sitting ∷ others)) × All (λ s. IsHeld (due s.seat.session.user) closes before s.seat) (sitting ∷ others))
  less_more = elim first.less [
    | inl one ↦ elim rest.less [
      | inl two ↦ inl (less_by left_now (a2 + (u1 + s2)) (a0 + (u0 + s1)) left_then left_after left_before (both_less a0 a1 a2 u0 u1 s1 s2 one two))
      | inr still ↦ inl (less_by left_now (a1 + (u1 + s1)) (a0 + (u0 + s1)) left_then (left_after ∙ rest_as still.0 still.1) left_before (first_less a0 a1 u0 u1 s1 one))
    ]
    | inr same ↦ elim rest.less [
      | inl two ↦ inl (less_by left_now (a2 + (u1 + s2)) (a1 + (u1 + s1)) left_then left_after (left_before ∙ sym (first_as same.0 same.1)) (others_less a1 a2 u1 s1 s2 two))
      | inr still ↦ inr (
        still.0 ∙ same.0,
        ap₂ (λ (one : PlainSession K) (list : List (PlainSession K)). one ∷ list) same.1 still.1,
        held_all same.0 same.2 still.2,
      )
    ]
  ]

  -- the turns of the first and of the others are those of all
  pub first_and_others : AreSeatTurns told faults due closes before (sitting ∷ others) after (now ∷ nows)
  first_and_others = record {
    nows = there ∷ rest.nows;
    here = ap₂ (λ (one : UserSeat K) (list : List (UserSeat K)). one ∷ list) first.here rest.here;
    users = ap₂ (λ (one : PlainUser) (list : List PlainUser). one ∷ list) (ap (λ (s : UserSeat K). user_of s.session) (sym first.here) ∙ ap (λ (s : PlainSession K). user_of s) first.same.user) rest.users;
    lent = ap₂ (λ (one : K) (list : List K). one ∷ list) first.same.lent rest.lent;
    began = began_more;
    grows = grows_more;
    seated = All-cons (IsSeated told faults after.journal) there rest.nows (grown_seated told faults rest.grows.entries middle.journal after.journal there rest.grows.journal others_own first.seated) rest.seated;
    lost = lost_before;
    whole = whole_more;
    turns = turns_more;
    less = less_more;
  }

-- those behind the first are so far after its turn
pub others_seated : {K : Type 0} (told : K → Option (Told (ℕ × List ℕ))) (faults : K → ℕ) (due closes : Bool) (before middle : PlainCore) (sitting : Sitting K) (now : UserSeat K) (others : List (Sitting K)) → AscendBy (λ s. s.session.user) (seats_in (sitting ∷ others))
    → IsSeatTurn told faults due closes before sitting middle now → All (IsSeated told faults before.journal) (sitting ∷ others) → All (IsSeated told faults middle.journal) others
others_seated told faults due closes before middle sitting now others ascend first h =
    let number : ℕ = sitting.seat.session.user in
    let own = recursion_from_All (λ (e : PlainEntry). e.party ≡ number) first.grows.entries first.grows.own in
    let below = first_below number (seat_numbers (seats_in others)) ascend in
    All-from_recursion (IsSeated told faults middle.journal) others
    (all_grown_seated told faults first.grows.entries before.journal middle.journal others first.grows.journal (behind_others number (seat_numbers (seats_in others)) first.grows.entries below own)
    (recursion_from_All (IsSeated told faults before.journal) others (All-tail (IsSeated told faults before.journal) sitting others h)))

-- as many seats as before, which are put back where they were
pub all_put_back : {K : Type 0} (told : K → Option (Told (ℕ × List ℕ))) (faults : K → ℕ) (due : ℕ → Bool) (closes : Bool) (before after : PlainCore) (sittings : List (Sitting K)) (new others : List (UserSeat K)) (len : ℕ) → AreSeatTurns told faults due closes before sittings after new → length sittings ≡ len
    → take len (new ++ others) ≡ new
all_put_back told faults due closes before after sittings new others len turns many =
    let same : length new ≡ len = sym (length-map new (λ seat. user_of seat.session)) ∙ ap (λ (list : List PlainUser). length list) turns.users ∙ length-map sittings (λ sitting. user_of sitting.seat.session) ∙ many in
    subst (λ (n : ℕ). take n (new ++ others) ≡ new) same (take-append_seam new others)
