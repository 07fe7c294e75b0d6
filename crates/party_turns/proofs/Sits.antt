-- Users that sit somewhere, one after another.
use Rattle.std.proofs.Common.{◌≡◌, ℕ, List, [], ◌∷◌, length, map, Option, refl, sym, ap, subst, ◌∙◌}
use Rattle.std.specs.List.{All}
use Rattle.std.specs.Prelude.{sum, sum_by}
use Rattle.std.proofs.lemmas.List.{length-map}
use Rattle.std.proofs.lemmas.List.Elements.{All-head, All-map}
use Rattle.std.proofs.lemmas.List.Sums.{sum-map}
use Rattle.std.proofs.lemmas.Simd.{map-map}
use Rattle.apl_io.specs.Content.{Told}
use Rattle.sv_rules.specs.Entries.{Entries}
use Rattle.party_turns.specs.SoFar.{AreSeated, IsOneSeated, IsSeated}
use Rattle.party_turns.specs.Sittings.{Sitting, lent_to, newly, seats_in}
use Rattle.party_turns.specs.declared.seat.UserSeat.{UserSeat}

-- a sum over things seen otherwise
pub sum_of_seen : {X Y : Type 0} (weight : Y → ℕ) (see : X → Y) (list : List X) → sum_by weight (map see list) ≡ sum_by (λ x. weight (see x)) list
sum_of_seen {X = X} weight see list = sym (sum-map weight (map see list)) ∙ ap sum (map-map weight see list) ∙ sum-map (λ (x : X). weight (see x)) list

-- a user sits where its seat is
pub sits_as : {K : Type 0} (sitting : Sitting K) (seat : UserSeat K) → sitting.seat ≡ seat → (let s : Sitting K = record { seat = seat; lent = sitting.lent; exchanges = sitting.exchanges } in s) ≡ sitting
sits_as {K = K} sitting seat here = ap (λ (one : UserSeat K). let s : Sitting K = record { seat = one; lent = sitting.lent; exchanges = sitting.exchanges } in s) (sym here)

-- as many users as seats
pub as_many : {K : Type 0} (sittings : List (Sitting K)) (seats : List (UserSeat K)) → seats_in sittings ≡ seats → length sittings ≡ length seats
as_many {K = K} sittings seats here = sym (length-map sittings (λ (s : Sitting K). s.seat)) ∙ ap (λ (list : List (UserSeat K)). length list) here

-- the first of some seats, and the others
pub record First {K : Type 0} (sittings : List (Sitting K)) (seat : UserSeat K) (others : List (UserSeat K)) : Type 0 where
  pub first : Sitting K
  pub rest : List (Sitting K)
  pub is : sittings ≡ first ∷ rest
  pub here : first.seat ≡ seat
  pub behind : seats_in rest ≡ others

pub first_sits : {K : Type 0} (sittings : List (Sitting K)) (seat : UserSeat K) (others : List (UserSeat K)) → seats_in sittings ≡ seat ∷ others → First sittings seat others
first_sits [] seat others is = absurd cc
first_sits (s ∷ rest) seat others is = record { first = s; rest = rest; is = refl; here = cc; behind = cc }

pub none_sits : {K : Type 0} (sittings : List (Sitting K)) → seats_in sittings ≡ [] → sittings ≡ []
none_sits [] is = refl
none_sits (s ∷ rest) is = absurd cc

module _ {K : Type 0} (told : K → Option (Told (ℕ × List ℕ))) (faults : K → ℕ) where
  pub first_seated : (journal : Entries) (seats others : List (UserSeat K)) (seat : UserSeat K) → seats ≡ seat ∷ others → AreSeated told faults journal seats → IsOneSeated told faults journal seat
  first_seated journal seats others seat is h =
      let f = first_sits h.sittings seat others (h.here ∙ is) in
      record { sitting = f.first; here = f.here; seated = All-head (IsSeated told faults journal) f.first f.rest (subst (λ (list : List (Sitting K)). All (IsSeated told faults journal) list) f.is h.seated) }

-- users whose shelves were not asked yet sit so
seats_of_newly : {K : Type 0} (seats : List (UserSeat K)) → seats_in (map newly seats) ≡ seats
seats_of_newly [] = refl
seats_of_newly (seat ∷ seats) = ap (λ (list : List (UserSeat _)). seat ∷ list) (seats_of_newly seats)

pub all_newly : {K : Type 0} (told : K → Option (Told (ℕ × List ℕ))) (faults : K → ℕ) (journal : Entries) (seats : List (UserSeat K)) → All (λ seat. IsSeated told faults journal (newly seat)) seats → AreSeated told faults journal seats
all_newly {K = K} told faults journal seats h = record { sittings = map newly seats; here = seats_of_newly seats; seated = All-map (IsSeated told faults journal) newly seats h }

pub newly_lent : {K : Type 0} (seats : List (UserSeat K)) → lent_to (map newly seats) ≡ map (λ (s : UserSeat K). s.session.shelf) seats
newly_lent [] = refl
newly_lent (seat ∷ seats) = ap (λ (list : List _). seat.session.shelf ∷ list) (newly_lent seats)

pub lent_newly : {K : Type 0} (told : K → Option (Told (ℕ × List ℕ))) (faults : K → ℕ) (journal : Entries) (seats : List (UserSeat K)) (h : All (λ seat. IsSeated told faults journal (newly seat)) seats) → lent_to (all_newly told faults journal seats h).sittings ≡ map (λ (s : UserSeat K). s.session.shelf) seats
unfolding all_newly
lent_newly told faults journal seats h = newly_lent seats
