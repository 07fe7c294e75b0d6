-- Turns of users, one after another.
use Rattle.std.proofs.Common.{◌≡◌, ℕ, ◌+◌, ◌-◌, ◌<◌, ◌⊎◌, Bool, true, false, List, [], ◌∷◌, ◌++◌, length, Option, inl, inr, IsTrue, refl, sym, ap, ap₂, subst₂, ◌∙◌, arith}
use Rattle.std.specs.List.{AllByRecursion}
use Rattle.std.specs.Prelude.{◌==◌, count_by, sum_by, if◌then◌else◌}
use Rattle.std.proofs.lemmas.Bool.{both_ways, eq-eqb, or_left, or_right}
use Rattle.std.proofs.lemmas.List.Elements.{All-nil}
use Rattle.std.proofs.lemmas.List.Sums.{sum_by-cons}
use Rattle.apl_io.specs.Content.{Told}
use Rattle.sv_core.specs.Core.{PlainCore}
use Rattle.sv_rules.specs.Entries.{Entries, has_left}
use Rattle.sv_rules.specs.Legal.{is_still_held, is_user}
use Rattle.session_rules.specs.SessionLaws.{tells_full}
use Rattle.session_rules.specs.Shelf.{Exchange, shelf_replies_in}
use Rattle.apl_session.specs.PlainSession.{PlainSession}
use Rattle.replay_rules.specs.Turns.{AfterTurn, turn}
use Rattle.party_turns.specs.Participants.{participant_of}
use Rattle.aplsv_replay.specs.SeatTurns.{AreSeatTurns, IsHeld, IsSeatTurn}
use Rattle.party_turns.specs.Seats.{seat_numbers}
use Rattle.party_turns.specs.Sittings.{Sitting}
use Rattle.party_turns.specs.SoFar.{GoesOn, GrowsBy, HasTurned, IsSameUser, IsSeated, SittingIsWhole, TakesTurn, user_work, work_with}
use Rattle.party_turns.specs.declared.seat.UserSeat.{UserSeat}
use Rattle.party_turns.proofs.Growth.{AreOthers, has_left_stays, own_are_others}
use Rattle.party_turns.proofs.Leaving.{gone_turn, left_seated}

-- ---- one user

module _ {K : Type 0} (told : K → Option (Told (ℕ × List ℕ))) (faults : K → ℕ) where
  -- a turn that is not due
  pub not_due : (closes : Bool) (core : PlainCore) (sitting : Sitting K) → IsSeated told faults core.journal sitting → IsSeatTurn told faults false closes core sitting core sitting.seat
  not_due closes core sitting seated = record {
    now = sitting;
    here = refl;
    same = record { user = refl; lent = refl; follow = record { more = []; is = refl } };
    grows = record { users = refl; entries = []; own = All-nil _; journal = refl };
    seated = seated;
    lost = λ is. is;
    whole = λ unclosed here is. is;
    turn = λ unclosed here final ends. refl;
    less = inr (refl, refl, λ due. absurd (let no : false ≡ true = due in cc));
  }

-- a turn that is due leaves less to do, or the user is still held in a run that does not close
due_less : {K : Type 0} (left closes : Bool) (before after : PlainCore) (seat now : PlainSession K) → has_left before.journal seat.user ≡ left → GoesOn before seat after now
    → (has_left before.journal seat.user ≡ true → (after ≡ before) × (now ≡ seat)) → (closes ≡ true → has_left after.journal seat.user ≡ true)
    → (work_with after.journal now < work_with before.journal seat) ⊎ ((after ≡ before) × (now ≡ seat) × (true ≡ true → has_left before.journal seat.user ≡ false → (closes ≡ false) × IsTrue (is_still_held before.users before.journal seat.user)))
due_less true closes before after seat now left goes gone closed = inr ((gone left).0, (gone left).1, λ due stays. absurd (let no : true ≡ false = sym left ∙ stays in cc))
due_less false closes before after seat now stays goes gone closed = elim (goes stays) [
  | inl less ↦ inl less
  | inr held ↦ inr (held.1, held.2, λ due here. (by closes refl held.1, held.0))
]
  where
    by : (b : Bool) → closes ≡ b → after ≡ before → closes ≡ false
    by true is same = absurd (let no : true ≡ false = sym (closed is) ∙ ap (λ (core : PlainCore). has_left core.journal seat.user) same ∙ stays in cc)
    by false is same = is

module _ {K : Type 0} (told : K → Option (Told (ℕ × List ℕ))) (faults : K → ℕ) (closes : Bool) (before after : PlainCore) (seat now : UserSeat K) (lent : K) (exchanges : List Exchange)
    (same : IsSameUser seat.session now.session) (grows : GrowsBy seat.session.user before after) (goes : GoesOn before seat.session after now.session)
    (gone : has_left before.journal seat.session.user ≡ true → (after ≡ before) × (now ≡ seat)) (closed : closes ≡ true → has_left after.journal seat.session.user ≡ true) (lost : seat.is_lost ≡ true → now.is_lost ≡ true)
    (leaves : seat.is_lost ≡ false → now.is_lost ≡ true → has_left after.journal seat.session.user ≡ true) where
  -- where the user sat
  abbrev sat : Sitting K
  sat = record { seat = seat; lent = lent; exchanges = exchanges }

  -- and where it sits if its shelf was not called
  abbrev still : Sitting K
  still = record { seat = now; lent = lent; exchanges = exchanges }

  less : (work_with after.journal now.session < work_with before.journal seat.session) ⊎ ((after ≡ before) × (now.session ≡ seat.session) × IsHeld true closes before seat)
  less = due_less (has_left before.journal seat.session.user) closes before after seat.session now.session refl goes (λ left. ((gone left).0, ap (λ (s : UserSeat K). s.session) (gone left).1)) closed

  -- a user that had left
  of_left : has_left before.journal seat.session.user ≡ true → IsSeatTurn told faults true closes before sat after now
  of_left left =
      let core : after ≡ before = (gone left).0 in
      let seats : now ≡ seat = (gone left).1 in
      record {
        now = still;
        here = refl;
        same = record { user = same; lent = refl; follow = record { more = []; is = refl } };
        grows = grows;
        seated = left_seated told faults after.journal seat.session still same (ap (λ (c : PlainCore). has_left c.journal seat.session.user) core ∙ left);
        lost = lost;
        whole = λ unclosed here is. subst₂ (λ (c : PlainCore) (s : UserSeat K). SittingIsWhole told faults c.journal (record { seat = s; lent = lent; exchanges = exchanges })) (sym core) (sym seats) is;
        turn = λ unclosed here final ends.
            subst₂ (λ (c : PlainCore) (s : UserSeat K). turn before.users before.journal (participant_of final seat.session) ≡ (let t : AfterTurn = record { journal = c.journal; user = participant_of final s.session } in t)) (sym core) (sym seats)
            (gone_turn (shelf_replies_in (final seat.session.user)) before seat.session left);
        less = less;
      }

  -- one that leaves, since the run closes or memory ran out for it
  of_leaver : (closes ≡ true) ⊎ (now.is_lost ≡ true) → has_left after.journal seat.session.user ≡ true → IsSeatTurn told faults true closes before sat after now
  of_leaver why left = record {
    now = still;
    here = refl;
    same = record { user = same; lent = refl; follow = record { more = []; is = refl } };
    grows = grows;
    seated = left_seated told faults after.journal seat.session still same left;
    lost = lost;
    whole = λ unclosed here is. absurd (never unclosed here);
    turn = λ unclosed here final ends. absurd (never unclosed here);
    less = less;
  }
    where
      never : closes ≡ false → now.is_lost ≡ false → ⊥
      never unclosed here = elim why [
        | inl is ↦ both_ways closes unclosed is
        | inr is ↦ both_ways now.is_lost here is
      ]

  -- one that goes on, or leaves at the end of its lines
  of_goer : has_left before.journal seat.session.user ≡ false → (t : Sitting K) → t.seat ≡ now → HasTurned told faults before sat after t → IsSeatTurn told faults true closes before sat after now
  of_goer stays t is h = record {
    now = t;
    here = is;
    same = h.same;
    grows = grows;
    seated = h.seated;
    lost = lost;
    whole = λ unclosed here before_it. h.whole;
    turn = λ unclosed here final ends. h.turn final ends ∙ ap (λ (s : UserSeat K). let one : AfterTurn = record { journal = after.journal; user = participant_of final s.session } in one) is;
    less = less;
  }

  -- whichever it is
  pub due_turn : IsSeated told faults before.journal sat → (closes ≡ false → now.is_lost ≡ false → has_left before.journal seat.session.user ≡ false → TakesTurn told faults before seat after now) → IsSeatTurn told faults true closes before sat after now
  due_turn seated takes = by (has_left before.journal seat.session.user) closes now.is_lost seat.is_lost refl refl refl refl
    where
      by : (left shut out was : Bool) → has_left before.journal seat.session.user ≡ left → closes ≡ shut → now.is_lost ≡ out → seat.is_lost ≡ was → IsSeatTurn told faults true closes before sat after now
      by true shut out was left is lost_now before_it = of_left left
      by false true out was stays is lost_now before_it = of_leaver (inl is) (closed is)
      by false false true true stays is lost_now before_it = absurd (both_ways seat.is_lost (seated stays).here before_it)
      by false false true false stays is lost_now before_it = of_leaver (inr lost_now) (leaves before_it lost_now)
      by false false false was stays is lost_now before_it = let t = takes is lost_now stays sat refl (seated stays) in of_goer stays t.0 t.1 t.2

-- ---- one user before others

-- a user's entries are those of none that comes behind it
pub behind_others : (number : ℕ) (numbers : List ℕ) (entries : Entries) → AllByRecursion (λ other. number < other) numbers → AllByRecursion (λ e. e.party ≡ number) entries → AllByRecursion (λ (other : ℕ). AreOthers other entries) numbers
behind_others number [] entries below own = tt
behind_others number (next ∷ numbers) entries below own =
    let less : number < next = below.0 in
    (own_are_others number next entries (λ same. omega (arith, less, same)) own, behind_others number numbers entries below.1 own)

-- what is left to do by users stays where entries of others follow
pub work_stays : {K : Type 0} (entries journal after : Entries) (s : PlainSession K) → after ≡ entries ++ journal → AreOthers s.user entries → user_work after s ≡ user_work journal s
work_stays entries journal after s is others =
    ap (λ (left : Bool). if left then 0 else 1 + (length s.lines - count_by tells_full s.answers)) (ap (λ (j : Entries). has_left j s.user) is ∙ has_left_stays entries journal s.user others)

pub seats_work_stays : {K : Type 0} (entries journal after : Entries) (seats : List (UserSeat K)) → after ≡ entries ++ journal → AllByRecursion (λ (number : ℕ). AreOthers number entries) (seat_numbers seats)
    → sum_by (λ (seat : UserSeat K). user_work after seat.session) seats ≡ sum_by (λ (seat : UserSeat K). user_work journal seat.session) seats
seats_work_stays entries journal after [] is others = refl
seats_work_stays {K = K} entries journal after (seat ∷ seats) is others =
    sum_by-cons (λ (s : UserSeat K). user_work after s.session) seat seats
    ∙ ap₂ (λ (a b : ℕ). a + b) (work_stays entries journal after seat.session is others.0) (seats_work_stays entries journal after seats is others.1)
    ∙ sym (sum_by-cons (λ (s : UserSeat K). user_work journal s.session) seat seats)

-- no user
pub no_turns : {K : Type 0} (told : K → Option (Told (ℕ × List ℕ))) (faults : K → ℕ) (due : ℕ → Bool) (closes : Bool) (core : PlainCore) → AreSeatTurns told faults due closes core [] core []
no_turns told faults due closes core = record {
  nows = [];
  here = refl;
  users = refl;
  lent = refl;
  began = λ final h. h;
  grows = record { users = refl; entries = []; own = All-nil _; journal = refl };
  seated = All-nil _;
  lost = λ here. here;
  whole = λ unclosed h. h;
  turns = λ unclosed here final ends. refl;
  less = inr (refl, refl, All-nil _);
}

-- sums of what is left
pub both_less : (a0 a1 a2 u0 u1 s1 s2 : ℕ) → a1 + u1 < a0 + u0 → a2 + s2 < a1 + s1 → a2 + (u1 + s2) < a0 + (u0 + s1)
both_less a0 a1 a2 u0 u1 s1 s2 one two = omega arith

pub first_less : (a0 a1 u0 u1 s1 : ℕ) → a1 + u1 < a0 + u0 → a1 + (u1 + s1) < a0 + (u0 + s1)
first_less a0 a1 u0 u1 s1 one = omega arith

pub others_less : (a1 a2 u1 s1 s2 : ℕ) → a2 + s2 < a1 + s1 → a2 + (u1 + s2) < a1 + (u1 + s1)
others_less a1 a2 u1 s1 s2 two = omega arith

pub not_lost_before : (b now : Bool) → (b ≡ true → now ≡ true) → now ≡ false → b ≡ false
not_lost_before true now stays here = absurd (let no : true ≡ false = sym (stays refl) ∙ here in cc)
not_lost_before false now stays here = refl

pub own_weaker : (number : ℕ) (numbers : List ℕ) (entries : Entries) → AllByRecursion (λ e. e.party ≡ number) entries → AllByRecursion (λ e. IsTrue (is_user (number ∷ numbers) e.party)) entries
own_weaker number numbers [] own = tt
own_weaker number numbers (e ∷ entries) own = (or_left (number == e.party) (is_user numbers e.party) (eq-eqb number e.party (sym own.0)), own_weaker number numbers entries own.1)

pub others_weaker : (number : ℕ) (numbers : List ℕ) (entries : Entries) → AllByRecursion (λ e. IsTrue (is_user numbers e.party)) entries → AllByRecursion (λ e. IsTrue (is_user (number ∷ numbers) e.party)) entries
others_weaker number numbers [] own = tt
others_weaker number numbers (e ∷ entries) own = (or_right (number == e.party) (is_user numbers e.party) own.0, others_weaker number numbers entries own.1)

-- a list of no length
pub is_empty : {A : Type 0} (list : List A) → length list ≡ 0 → list ≡ []
is_empty [] none = refl
is_empty (x ∷ list) none = absurd (omega (arith, none))
