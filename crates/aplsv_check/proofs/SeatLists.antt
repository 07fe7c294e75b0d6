-- Users in their seats, of whom one had its turns.
use Rattle.std.proofs.Common.{◌≡◌, ◌≢◌, ℕ, suc, ◌<◌, Bool, true, false, List, [], ◌∷◌, length, map, Result, Ok, Err, refl, sym, ap, ap₂, ◌∙◌, subst, arith}
use Rattle.std.proofs.lemmas.List.Elements.{All-cons, All-nil, All-from_recursion}
use Rattle.std.specs.List.{AllByRecursion}
use Rattle.std.specs.Prelude.{IfOk}
use Rattle.apl_arrays.specs.Ascending.{AscendBy}
use Rattle.apl_io.specs.Kept.{Keeper}
use Rattle.bundle_devices.proofs.OwnDevices.{keeper_faults, told_by}
use Rattle.bundle_text.specs.User.{PlainUser}
use Rattle.party_turns.proofs.Growth.{AreOthers, first_below, others_ascend}
use Rattle.party_turns.proofs.Others.{grown_seated, grown_whole}
use Rattle.party_turns.specs.declared.seat.UserSeat.{UserSeat}
use Rattle.sv_core.specs.Core.{PlainCore}
use Rattle.sv_events.specs.Entry.{PlainEntry}
use Rattle.sv_rules.specs.Entries.{Entries, is_leave}
use Rattle.check_rules.specs.Fits.{IsNextOf}
use Rattle.aplsv_check.specs.Followed.{AreSeatsOf, EndedTurns, IsSeatOf, NoneIsNext, UsersTurned}

-- ---- an entry of another

seat_number : (journal : Entries) (user : PlainUser) (seat : UserSeat (Keeper (ℕ × List ℕ))) (h : IsSeatOf journal user seat) → h.sitting.seat.session.user ≡ user.number
seat_number journal user seat h = ap (λ (t : UserSeat (Keeper (ℕ × List ℕ))). t.session.user) h.here ∙ ap (λ (u : PlainUser). u.number) h.same

-- changes nothing of a user in its seat
pub seat_kept : (journal after : Entries) (e : PlainEntry) (user : PlainUser) (seat : UserSeat (Keeper (ℕ × List ℕ))) → after ≡ e ∷ journal → e.party ≢ user.number → IsSeatOf journal user seat → IsSeatOf after user seat
seat_kept journal after e user seat is other h =
    let others : AreOthers h.sitting.seat.session.user (e ∷ []) = ((λ same. other (same ∙ seat_number journal user seat h)), tt) in
    record {
      sitting = h.sitting;
      here = h.here;
      same = h.same;
      lent = h.lent;
      memory = h.memory;
      seated = grown_seated told_by keeper_faults (e ∷ []) journal after h.sitting is others h.seated;
      called = h.called;
      whole = grown_whole told_by keeper_faults (e ∷ []) journal after h.sitting is others h.whole;
    }

pub seats_kept : (journal after : Entries) (e : PlainEntry) (users : List PlainUser) (seats : List (UserSeat (Keeper (ℕ × List ℕ)))) → after ≡ e ∷ journal → AllByRecursion (λ (user : PlainUser). e.party ≢ user.number) users
    → AreSeatsOf journal users seats → AreSeatsOf after users seats
seats_kept journal after e [] [] is others h = tt
seats_kept journal after e [] (seat ∷ seats) is others h = absurd h
seats_kept journal after e (user ∷ users) [] is others h = absurd h
seats_kept journal after e (user ∷ users) (seat ∷ seats) is others h = (seat_kept journal after e user seat is others.0 h.0, seats_kept journal after e users seats is others.1 h.1)

-- ---- users

abbrev numbers : List PlainUser → List ℕ
numbers users = map (λ (user : PlainUser). user.number) users

-- the first has another number than those behind it
apart_from : (number : ℕ) (users : List PlainUser) → AllByRecursion (λ (other : ℕ). number < other) (numbers users) → AllByRecursion (λ (user : PlainUser). number ≢ user.number) users
apart_from number [] below = tt
apart_from number (user ∷ users) below = ((λ same. omega (arith, below.0, same)), apart_from number users below.1)

first_apart : (user : PlainUser) (users : List PlainUser) → AscendBy (λ user. user.number) (user ∷ users) → AllByRecursion (λ (other : PlainUser). user.number ≢ other.number) users
first_apart user users ascend = apart_from user.number users (first_below user.number (numbers users) ascend)

none_same : (A : PlainUser → Type 0) (party : ℕ) (users : List PlainUser) → AllByRecursion (λ (user : PlainUser). party ≢ user.number) users → AllByRecursion (λ (user : PlainUser). user.number ≡ party → A user) users
none_same A party [] others = tt
none_same A party (user ∷ users) others = ((λ same. absurd (others.0 (sym same))), none_same A party users others.1)

-- ---- turns

-- the first of the users is the party
pub first_turned : (party : ℕ) (user : PlainUser) (users : List PlainUser) (seats : List (UserSeat (Keeper (ℕ × List ℕ)))) (before after : PlainCore) (made : Bool) (now : UserSeat (Keeper (ℕ × List ℕ))) → user.number ≡ party
    → AscendBy (λ user. user.number) (user ∷ users) → AreSeatsOf before.journal users seats → EndedTurns user before made after now → UsersTurned party (user ∷ users) before made after (now ∷ seats)
first_turned party user users seats before after true now is ascend seated turned =
    let apart : AllByRecursion (λ (other : PlainUser). party ≢ other.number) users = subst (λ (number : ℕ). AllByRecursion (λ (other : PlainUser). number ≢ other.number) users) is (first_apart user users ascend) in
    let mine : turned.entry.party ≡ party = turned.own ∙ is in
    record {
      entry = turned.entry;
      own = mine;
      users_are = turned.users;
      journal = turned.journal;
      seated = (turned.seated, seats_kept before.journal after.journal turned.entry users seats turned.journal (subst (λ (number : ℕ). AllByRecursion (λ (other : PlainUser). number ≢ other.number) users) (sym mine) apart) seated);
      next = All-from_recursion (λ (one : PlainUser). one.number ≡ party → IsNextOf (is_leave turned.entry.act) before.journal one turned.entry.act) (user ∷ users) ((λ same. turned.next), none_same (λ (one : PlainUser). IsNextOf (is_leave turned.entry.act) before.journal one turned.entry.act) party users apart);
    }
first_turned party user users seats before after false now is ascend seated none =
    let apart : AllByRecursion (λ (other : PlainUser). party ≢ other.number) users = subst (λ (number : ℕ). AllByRecursion (λ (other : PlainUser). number ≢ other.number) users) is (first_apart user users ascend) in
    All-from_recursion (λ (one : PlainUser). one.number ≡ party → NoneIsNext one before) (user ∷ users) ((λ same. none), none_same (λ (one : PlainUser). NoneIsNext one before) party users apart)

-- one behind it is, or none
pub others_turned : (party : ℕ) (user : PlainUser) (users : List PlainUser) (seat : UserSeat (Keeper (ℕ × List ℕ))) (before after : PlainCore) (made : Bool) (nows : List (UserSeat (Keeper (ℕ × List ℕ)))) → user.number ≢ party
    → IsSeatOf before.journal user seat → UsersTurned party users before made after nows → UsersTurned party (user ∷ users) before made after (seat ∷ nows)
others_turned party user users seat before after true nows other seated turned = record {
  entry = turned.entry;
  own = turned.own;
  users_are = turned.users_are;
  journal = turned.journal;
  seated = (seat_kept before.journal after.journal turned.entry user seat turned.journal (λ same. other (sym same ∙ turned.own)) seated, turned.seated);
  next = All-cons (λ (one : PlainUser). one.number ≡ party → IsNextOf (is_leave turned.entry.act) before.journal one turned.entry.act) user users (λ same. absurd (other same)) turned.next;
}
others_turned party user users seat before after false nows other seated none = All-cons (λ (one : PlainUser). one.number ≡ party → NoneIsNext one before) user users (λ same. absurd (other same)) none

pub nobody_turned : (party : ℕ) (users : List PlainUser) (journal : Entries) (before after : PlainCore) → AreSeatsOf journal users [] → UsersTurned party users before false after []
nobody_turned party [] journal before after seats = All-nil (λ (one : PlainUser). one.number ≡ party → NoneIsNext one before)
nobody_turned party (user ∷ users) journal before after seats = absurd seats

-- ---- the first of users in their seats

pub first_seat : (journal : Entries) (users : List PlainUser) (seat : UserSeat (Keeper (ℕ × List ℕ))) (seats : List (UserSeat (Keeper (ℕ × List ℕ)))) → AreSeatsOf journal users (seat ∷ seats)
    → (user : PlainUser) × (others : List PlainUser) × (users ≡ user ∷ others) × IsSeatOf journal user seat × AreSeatsOf journal others seats
first_seat journal [] seat seats h = absurd h
first_seat journal (user ∷ users) seat seats h = (user, users, refl, h.0, h.1)

-- each is in its seat
pub seats_are_users : (journal : Entries) (users : List PlainUser) (seats : List (UserSeat (Keeper (ℕ × List ℕ)))) → AreSeatsOf journal users seats → map (λ (seat : UserSeat (Keeper (ℕ × List ℕ))). seat.session.user) seats ≡ numbers users
seats_are_users journal [] [] h = refl
seats_are_users journal [] (seat ∷ seats) h = absurd h
seats_are_users journal (user ∷ users) [] h = absurd h
seats_are_users journal (user ∷ users) (seat ∷ seats) h = ap₂ (λ (number : ℕ) (list : List ℕ). number ∷ list) (ap (λ (u : PlainUser). u.number) h.0.same) (seats_are_users journal users seats h.1)

-- as many as before
pub as_many : (journal : Entries) (users : List PlainUser) (seats : List (UserSeat (Keeper (ℕ × List ℕ)))) → AreSeatsOf journal users seats → length seats ≡ length users
as_many journal [] [] h = refl
as_many journal [] (seat ∷ seats) h = absurd h
as_many journal (user ∷ users) [] h = absurd h
as_many journal (user ∷ users) (seat ∷ seats) h = ap suc (as_many journal users seats h.1)

-- ---- what came of a call

pub ok_more : {A E : Type 0} (r : Result A E) (P Q : A → Type 0) → ((a : A) → P a → Q a) → IfOk r P → IfOk r Q
ok_more (Err why) P Q more is = tt
ok_more (Ok a) P Q more is = more a is

module _ {E : Type 0} (r : Result Bool E) (party : ℕ) (before after : PlainCore) (seat : UserSeat (Keeper (ℕ × List ℕ))) (seats list : List (UserSeat (Keeper (ℕ × List ℕ)))) (is : list ≡ seat ∷ seats) where
  split : (users : List PlainUser) → AreSeatsOf before.journal users list → AreSeatsOf before.journal users (seat ∷ seats)
  split users h = subst (λ (all : List (UserSeat (Keeper (ℕ × List ℕ)))). AreSeatsOf before.journal users all) is h

  -- the first took its turns
  pub first_takes : (now : UserSeat (Keeper (ℕ × List ℕ))) → seat.session.user ≡ party → IfOk r (λ made. (user : PlainUser) → IsSeatOf before.journal user seat → EndedTurns user before made after now)
      → IfOk r (λ made. (users : List PlainUser) → AscendBy (λ user. user.number) users → AreSeatsOf before.journal users list → UsersTurned party users before made after (now ∷ seats))
  first_takes now own turns =
      ok_more r (λ made. (user : PlainUser) → IsSeatOf before.journal user seat → EndedTurns user before made after now)
      (λ made. (users : List PlainUser) → AscendBy (λ user. user.number) users → AreSeatsOf before.journal users list → UsersTurned party users before made after (now ∷ seats)) (λ made turned users ascend h. by made turned users ascend (split users h)) turns
    where
      by : (made : Bool) → ((user : PlainUser) → IsSeatOf before.journal user seat → EndedTurns user before made after now) → (users : List PlainUser) → AscendBy (λ user. user.number) users → AreSeatsOf before.journal users (seat ∷ seats)
          → UsersTurned party users before made after (now ∷ seats)
      by made turned [] ascend h = absurd h
      by made turned (user ∷ users) ascend h = first_turned party user users seats before after made now (sym (ap (λ (u : PlainUser). u.number) h.0.same) ∙ own) ascend h.1 (turned user h.0)

  -- those behind it took theirs
  pub others_take : (nows : List (UserSeat (Keeper (ℕ × List ℕ)))) → seat.session.user ≢ party
      → IfOk r (λ made. (users : List PlainUser) → AscendBy (λ user. user.number) users → AreSeatsOf before.journal users seats → UsersTurned party users before made after nows)
      → IfOk r (λ made. (users : List PlainUser) → AscendBy (λ user. user.number) users → AreSeatsOf before.journal users list → UsersTurned party users before made after (seat ∷ nows))
  others_take nows other turns =
      ok_more r (λ made. (users : List PlainUser) → AscendBy (λ user. user.number) users → AreSeatsOf before.journal users seats → UsersTurned party users before made after nows)
      (λ made. (users : List PlainUser) → AscendBy (λ user. user.number) users → AreSeatsOf before.journal users list → UsersTurned party users before made after (seat ∷ nows)) (λ made turned users ascend h. by made turned users ascend (split users h)) turns
    where
      by : (made : Bool) → ((users : List PlainUser) → AscendBy (λ user. user.number) users → AreSeatsOf before.journal users seats → UsersTurned party users before made after nows) → (users : List PlainUser) → AscendBy (λ user. user.number) users
          → AreSeatsOf before.journal users (seat ∷ seats) → UsersTurned party users before made after (seat ∷ nows)
      by made turned [] ascend h = absurd h
      by made turned (user ∷ users) ascend h =
          others_turned party user users seat before after made nows (λ same. other (ap (λ (u : PlainUser). u.number) h.0.same ∙ same)) h.0 (turned users (others_ascend user.number (numbers users) ascend) h.1)

-- those behind the first are users in their seats
pub seats_behind : (journal : Entries) (users : List PlainUser) (seat : UserSeat (Keeper (ℕ × List ℕ))) (seats list : List (UserSeat (Keeper (ℕ × List ℕ)))) → list ≡ seat ∷ seats → AreSeatsOf journal users list → (others : List PlainUser) × AreSeatsOf journal others seats
seats_behind journal users seat seats list is h =
    let first = first_seat journal users seat seats (subst (λ (all : List (UserSeat (Keeper (ℕ × List ℕ)))). AreSeatsOf journal users all) is h) in
    (first.1, first.4)

pub seat_first : (journal : Entries) (users : List PlainUser) (seat : UserSeat (Keeper (ℕ × List ℕ))) (seats list : List (UserSeat (Keeper (ℕ × List ℕ)))) → list ≡ seat ∷ seats → AreSeatsOf journal users list → (user : PlainUser) × IsSeatOf journal user seat
seat_first journal users seat seats list is h =
    let first = first_seat journal users seat seats (subst (λ (all : List (UserSeat (Keeper (ℕ × List ℕ)))). AreSeatsOf journal users all) is h) in
    (first.0, first.3)
