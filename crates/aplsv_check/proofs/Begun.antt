-- A run that is followed from its beginning.
use Rattle.std.proofs.Common.{◌≡◌, ℕ, ◌||◌, eqb, Bool, true, false, List, [], ◌∷◌, ◌++◌, map, IsTrue, refl, sym, ap, ◌∙◌, subst}
use Rattle.std.proofs.lemmas.Bool.{eq-eqb, false≢true, or_right}
use Rattle.std.proofs.lemmas.List.Elements.{All-from_recursion, recursion_from_All}
use Rattle.std.specs.List.{All, AllByRecursion}
use Rattle.apl_io.specs.Kept.{Keeper}
use Rattle.apl_session.specs.declared.session.SessionStage.TheVariants as stage
use Rattle.aux_parties.specs.Auxiliaries.{party_of}
use Rattle.aux_parties.specs.declared.auxiliary.AuxiliaryKind.TheVariants.{Clock, TextFiles}
use Rattle.auxiliaries.specs.Protocol.{idle}
use Rattle.bundle_devices.proofs.OwnDevices.{keeper_faults, told_by}
use Rattle.bundle_devices.specs.Devices.{clock_of, empty_shelf, text_store_of}
use Rattle.bundle_text.specs.Rules.{IsBundle, PlainBundle}
use Rattle.bundle_text.specs.User.{PlainUser}
use Rattle.party_turns.proofs.Parts.{users_are_people}
use Rattle.party_turns.specs.Sittings.{newly}
use Rattle.party_turns.specs.SoFar.{IsSeated, is_waiting, user_of}
use Rattle.party_turns.specs.declared.seat.UserSeat.{UserSeat}
use Rattle.session_rules.specs.Run.{user_numbers}
use Rattle.sv_core.specs.Core.{ArePeople}
use Rattle.sv_rules.specs.Legal.{is_user}
use Rattle.aplsv_check.specs.Followed.{AreSeatsOf, IsFollowed, IsSeatOf}
use Rattle.aplsv_check.specs.declared.follower.Follower.{Follower}
use Rattle.aplsv_check.proofs.SeatLists.{seats_are_users}

-- ---- a user of whose lines none is done

-- a newcomer waits for nothing
not_waiting : (seat : UserSeat (Keeper (ℕ × List ℕ))) → IsSeated told_by keeper_faults [] (newly seat) → seat.session.stage ≡ stage.Waiting → ⊥
not_waiting seat seated at =
    let here = seated refl in
    let waits = ((here.so_far []).going (ap is_waiting at)).1 in false≢true waits

newcomer_seat : (user : PlainUser) (seat : UserSeat (Keeper (ℕ × List ℕ))) → user_of seat.session ≡ user → IsSeated told_by keeper_faults [] (newly seat) → seat.is_lost ≡ false → seat.session.shelf ≡ empty_shelf → IsSeatOf [] user seat
newcomer_seat user seat same seated memory shelf = record {
  sitting = newly seat;
  here = refl;
  same = same;
  lent = shelf;
  memory = memory;
  seated = seated;
  called = λ at. absurd (not_waiting seat seated at);
  whole = λ left. absurd (false≢true left);
}

newcomers : (users : List PlainUser) (seats : List (UserSeat (Keeper (ℕ × List ℕ)))) (left : List (Keeper (ℕ × List ℕ))) → map (λ (seat : UserSeat (Keeper (ℕ × List ℕ))). user_of seat.session) seats ≡ users
    → AllByRecursion (λ (seat : UserSeat (Keeper (ℕ × List ℕ))). IsSeated told_by keeper_faults [] (newly seat)) seats → AllByRecursion (λ (seat : UserSeat (Keeper (ℕ × List ℕ))). seat.is_lost ≡ false) seats
    → map (λ (seat : UserSeat (Keeper (ℕ × List ℕ))). seat.session.shelf) seats ++ left ≡ map (λ (user : PlainUser). empty_shelf) users → AreSeatsOf [] users seats
newcomers [] [] left same seated here shelves = tt
newcomers [] (seat ∷ seats) left same seated here shelves = absurd cc
newcomers (user ∷ users) [] left same seated here shelves = absurd cc
newcomers (user ∷ users) (seat ∷ seats) left same seated here shelves = (newcomer_seat user seat (cc) seated.0 here.0 (cc), newcomers users seats left (cc) seated.1 here.1 (cc))

-- ---- the whole run

pub begun : (bundle : PlainBundle) (run : Follower) (left : List (Keeper (ℕ × List ℕ))) → IsBundle bundle → run.core ≡ record { users = user_numbers bundle; journal = [] }
    → run.ten ≡ record { party = party_of Clock; replier = clock_of bundle; is_lost = false } → run.twenty ≡ record { party = party_of TextFiles; replier = record { store = text_store_of bundle; state = idle }; is_lost = false }
    → map (λ (seat : UserSeat (Keeper (ℕ × List ℕ))). user_of seat.session) run.seats.items ≡ bundle.users → All (λ (seat : UserSeat (Keeper (ℕ × List ℕ))). IsSeated told_by keeper_faults [] (newly seat)) run.seats.items
    → All (λ (seat : UserSeat (Keeper (ℕ × List ℕ))). seat.is_lost ≡ false) run.seats.items → map (λ (seat : UserSeat (Keeper (ℕ × List ℕ))). seat.session.shelf) run.seats.items ++ left ≡ map (λ (user : PlainUser). empty_shelf) bundle.users → IsFollowed bundle run
begun bundle run left rules core ten twenty same seated here shelves =
    let seats = newcomers bundle.users run.seats.items left same (recursion_from_All _ run.seats.items seated) (recursion_from_All _ run.seats.items here) shelves in
    rw (core, ten, twenty) (record {
      rules = rules;
      users = refl;
      seats = seats;
      ten = record { number = refl; memory = refl; answered = refl };
      twenty = record { number = refl; memory = refl; answered = refl };
      fit = tt;
    })

-- ---- its users

user_first : (number : ℕ) (numbers : List ℕ) → is_user (number ∷ numbers) number ≡ true
user_first number numbers = ap (λ (same : Bool). same || is_user numbers number) (eq-eqb number number refl)

among_more : (number : ℕ) (numbers rest : List ℕ) → AllByRecursion (λ (n : ℕ). is_user numbers n ≡ true) rest → AllByRecursion (λ (n : ℕ). is_user (number ∷ numbers) n ≡ true) rest
among_more number numbers [] all = tt
among_more number numbers (n ∷ rest) all = (or_right (eqb number n) (is_user numbers n) all.0, among_more number numbers rest all.1)

all_among : (numbers : List ℕ) → AllByRecursion (λ (n : ℕ). is_user numbers n ≡ true) numbers
all_among [] = tt
all_among (number ∷ numbers) = (user_first number numbers, among_more number numbers numbers (all_among numbers))

seats_among : (numbers : List ℕ) (seats : List (UserSeat (Keeper (ℕ × List ℕ)))) → AllByRecursion (λ (n : ℕ). is_user numbers n ≡ true) (map (λ (seat : UserSeat (Keeper (ℕ × List ℕ))). seat.session.user) seats)
    → AllByRecursion (λ (seat : UserSeat (Keeper (ℕ × List ℕ))). IsTrue (is_user numbers seat.session.user)) seats
seats_among numbers [] all = tt
seats_among numbers (seat ∷ seats) all = (all.0, seats_among numbers seats all.1)

-- the seats are users', and these are people
pub seats_of_users : (bundle : PlainBundle) (run : Follower) → IsFollowed bundle run → All (λ (seat : UserSeat (Keeper (ℕ × List ℕ))). IsTrue (is_user run.core.users seat.session.user)) run.seats.items
seats_of_users bundle run h =
    let numbers : map (λ (seat : UserSeat (Keeper (ℕ × List ℕ))). seat.session.user) run.seats.items ≡ run.core.users = seats_are_users run.core.journal bundle.users run.seats.items h.seats ∙ sym h.users in
    All-from_recursion (λ (seat : UserSeat (Keeper (ℕ × List ℕ))). IsTrue (is_user run.core.users seat.session.user)) run.seats.items
    (seats_among run.core.users run.seats.items (subst (λ (list : List ℕ). AllByRecursion (λ (n : ℕ). is_user run.core.users n ≡ true) list) (sym numbers) (all_among run.core.users)))

pub people_of : (bundle : PlainBundle) (run : Follower) → IsFollowed bundle run → ArePeople run.core.users
people_of bundle run h = subst ArePeople (sym h.users) (users_are_people bundle.users h.rules.each)
