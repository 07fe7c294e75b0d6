-- A search by halves among items with their places in order finds the first place of an item.
use Rattle.std.proofs.Common.{◌≡◌, ℕ, ◌<◌, ◌≤◌, Bool, true, false, List, length, get_or, refl, sym, ap, subst, ◌∙◌, arith}
use Rattle.std.specs.declared.cmp.Ordering.{Ordering}
use Rattle.std.specs.declared.cmp.Ordering.TheVariants.{Less, Equal, Greater}
use Rattle.std.specs.Cmp.{IsTotalOrder, Equal-is, tied_back}
use Rattle.std.specs.List.{All, position_or_len}
use Rattle.std.specs.List.Sorted.{IsPartitionedBy, IsPartitionPoint}
use Rattle.std.specs.Ordering.{is_lt, is_eq, nat_cmp, ordering_reverse, ordering_then}
use Rattle.std.proofs.lemmas.List.Sorted.{All-permutation, Contains-permutation, length_permutation, sorted_far}
use Rattle.std.proofs.lemmas.List.Sums.{position_or_len_is}
use Rattle.std.proofs.lemmas.List.{get_or_default}
use Rattle.std.proofs.lemmas.Bool.Decides.{nat_tests}
use Rattle.apl_search.specs.Grade.{by_item, with_places}
use Rattle.apl_search.specs.Lookup.{StandsInOrder}
use Rattle.apl_search.proofs.PlacedLemmas.{IsBeside, are_beside, by_item_total, is_weak, length-with_places, stands_beside}

-- ---- orders

first_decides : (r s : Ordering) → is_lt (ordering_then r s) ≡ false → is_lt r ≡ false
first_decides Less s e = absurd (cc)
first_decides Equal s e = refl
first_decides Greater s e = refl

less_is : (r : Ordering) → is_lt r ≡ true → r ≡ Less
less_is Less e = refl
less_is Equal e = absurd (cc)
less_is Greater e = absurd (cc)

-- what is not greater than something less is less too
less_before : {T : Type 0} (R : T → T → Ordering) → IsTotalOrder R → (x y z : T) → is_lt (R y x) ≡ false → R y z ≡ Less → R x z ≡ Less
less_before {T} R o x y z kept less = by_order (R y x) refl
  where
    by_order : (r : Ordering) → R y x ≡ r → R x z ≡ Less
    by_order Less e = absurd (let bad : true ≡ false = sym (ap is_lt e) ∙ kept in cc)
    by_order Equal e = sym (o.congr y x z e) ∙ less
    by_order Greater e = o.trans x y z (o.antisymm x y ∙ ap ordering_reverse e) less

-- neither of two is less than the other
tie_of : (r s : Ordering) → s ≡ ordering_reverse r → is_lt r ≡ false → is_lt s ≡ false → r ≡ Equal
tie_of Less s e p q = absurd (cc)
tie_of Equal s e p q = refl
tie_of Greater s e p q = absurd (let bad : is_lt s ≡ true = ap is_lt e in cc)

-- ---- pairs in order

pub far : {T : Type 0} (R : T → T → Ordering) → IsTotalOrder R → (list : List T) (pairs : List (T × ℕ)) → StandsInOrder R list pairs
    → (i j : ℕ) (d : T × ℕ) → i ≤ j → j < length pairs → is_lt (by_item R (get_or pairs j d) (get_or pairs i d)) ≡ false
far {T} R o list pairs stands i j d le below =
    sorted_far (λ x y. is_lt (by_item R x y)) (is_weak (by_item R) (by_item_total R o)) pairs stands.rises i j d le below

-- those that are less than an item stand before the others
pub partitioned : {T : Type 0} (R : T → T → Ordering) → IsTotalOrder R → (list : List T) (pairs : List (T × ℕ)) → StandsInOrder R list pairs
    → (item : T) → IsPartitionedBy (λ pair. is_lt (R pair.0 item)) pairs
partitioned R o list pairs stands item i j d le below passes =
    let kept = first_decides (R (get_or pairs j d).0 (get_or pairs i d).0) _ (far R o list pairs stands i j d le below) in
    ap is_lt (less_before R o (get_or pairs i d).0 (get_or pairs j d).0 item kept (less_is _ passes))

pub as_many : {T : Type 0} (R : T → T → Ordering) (list : List T) (pairs : List (T × ℕ)) → StandsInOrder R list pairs → length pairs ≡ length list
as_many R list pairs stands = length_permutation (with_places list) pairs stands.moved ∙ length-with_places list

beside : {T : Type 0} (R : T → T → Ordering) (list : List T) (pairs : List (T × ℕ)) → StandsInOrder R list pairs → All (IsBeside list) pairs
beside R list pairs stands = All-permutation (IsBeside list) (with_places list) pairs stands.moved (are_beside list)

pub stands_inside : {T : Type 0} (R : T → T → Ordering) (list : List T) (pairs : List (T × ℕ)) → StandsInOrder R list pairs
    → (at : ℕ) (d : T × ℕ) → at < length pairs → (get_or pairs at d).1 < length list
stands_inside R list pairs stands at d within = (beside R list pairs stands at d within).0

-- ---- the place of an item

abbrev pub Splits : {T : Type 0} → (T → T → Ordering) → T → List (T × ℕ) → ℕ → Type 0
Splits R item pairs at = IsPartitionPoint (λ pair. is_lt (R pair.0 item) ≡ true) (λ pair. is_lt (R pair.0 item) ≡ false) pairs at

-- a pair with the item does not stand before the point
stands_from : {T : Type 0} (R : T → T → Ordering) → IsTotalOrder R → (item : T) (pairs : List (T × ℕ)) (at : ℕ) → Splits R item pairs at
    → (j : ℕ) (pair : T × ℕ) → get_or pairs j pair ≡ pair → R item pair.0 ≡ Equal → at ≤ j
stands_from {T} R o item pairs at splits j pair is tie =
    let before : j < at → ⊥ = λ (below : j < at). clash (ap (λ (p : T × ℕ). is_lt (R p.0 item)) (sym is) ∙ splits.0 j pair (omega arith) below) in
    omega arith
  where
    clash : is_lt (R pair.0 item) ≡ true → ⊥
    clash e = let bad : true ≡ false = sym e ∙ ap is_lt (tied_back o item pair.0 tie) in absurd (cc)

-- a pair with the item stands at the point, where that place is not too high
pub at_point : {T : Type 0} (R : T → T → Ordering) → IsTotalOrder R → (list : List T) (pairs : List (T × ℕ)) (item : T) (at : ℕ) → StandsInOrder R list pairs
    → Splits R item pairs at → (j : ℕ) (pair : T × ℕ) → j < length pairs → get_or pairs j pair ≡ pair → R item pair.0 ≡ Equal → R item (get_or pairs at pair).0 ≡ Equal
at_point {T} R o list pairs item at stands splits j pair below is tie =
    let from = stands_from R o item pairs at splits j pair is tie in
    let kept : is_lt (R pair.0 (get_or pairs at pair).0) ≡ false = first_decides (R pair.0 (get_or pairs at pair).0) _ (subst (λ (p : T × ℕ). is_lt (by_item R p (get_or pairs at pair)) ≡ false) is (far R o list pairs stands at j pair from below)) in
    let here : is_lt (R (get_or pairs at pair).0 item) ≡ false = splits.1 at pair (omega arith) (omega arith) in
    let forth : is_lt (R item (get_or pairs at pair).0) ≡ false = ap is_lt (o.congr item pair.0 (get_or pairs at pair).0 tie) ∙ kept in
    tie_of (R item (get_or pairs at pair).0) (R (get_or pairs at pair).0 item) (o.antisymm (get_or pairs at pair).0 item) forth here

-- an item that is not at the point is nowhere
pub nowhere : {T : Type 0} (R : T → T → Ordering) (eq : T → T → Bool) → IsTotalOrder R → ((x y : T) → eq x y ≡ is_eq (R x y)) → (list : List T) (pairs : List (T × ℕ)) (item : T) (at : ℕ)
    → StandsInOrder R list pairs → Splits R item pairs at → (at < length pairs → (d : T × ℕ) → eq item (get_or pairs at d).0 ≡ false) → position_or_len (eq item) list ≡ length list
nowhere {T} R eq o ties list pairs item at stands splits fails =
    position_or_len_is (eq item) list (length list) item (omega arith) (λ k below. none k below (eq item (get_or list k item)) refl) (λ h. absurd (omega arith))
  where
    clash : (k : ℕ) → k < length list → R item (get_or list k item) ≡ Equal → ⊥
    clash k below tie =
        let found = Contains-permutation (with_places list) pairs (get_or list k item, k) stands.moved (stands_beside list k item below) in
        let from = stands_from R o item pairs at splits found.0 (get_or list k item, k) found.2 tie in
        let same = at_point R o list pairs item at stands splits found.0 (get_or list k item, k) found.1 found.2 tie in
        let within : at < length pairs = let inside = found.1 in omega arith in
        let bad : true ≡ false = sym (ties item (get_or pairs at (get_or list k item, k)).0 ∙ ap is_eq same) ∙ fails within (get_or list k item, k) in
        absurd (cc)

    none : (k : ℕ) → k < length list → (b : Bool) → eq item (get_or list k item) ≡ b → eq item (get_or list k item) ≡ false
    none k below true e = absurd (clash k below ((Equal-is (R item (get_or list k item))).0 (sym (ties item (get_or list k item)) ∙ e)))
    none k below false e = e

-- the pair at the point, where it has the item, has its first place
pub first_place : {T : Type 0} (R : T → T → Ordering) (eq : T → T → Bool) → IsTotalOrder R → ((x y : T) → eq x y ≡ is_eq (R x y)) → (list : List T) (pairs : List (T × ℕ)) (item : T) (at : ℕ)
    → StandsInOrder R list pairs → Splits R item pairs at → at < length pairs → (pair : T × ℕ) → pair ≡ get_or pairs at pair → eq item pair.0 ≡ true → position_or_len (eq item) list ≡ pair.1
first_place {T} R eq o ties list pairs item at stands splits within pair is same =
    let here : IsBeside list pair = subst (IsBeside list) (sym is) (beside R list pairs stands at pair within) in
    let inside = here.0 in
    position_or_len_is (eq item) list pair.1 item (omega arith) (λ k below. earlier k below (omega arith) (eq item (get_or list k item)) refl) (λ _. ap (eq item) (here.1 item) ∙ same)
  where
    lower : (k place : ℕ) → k < place → is_lt (nat_cmp k place) ≡ true
    lower k place below = grind (arith, nat_tests)

    clash : (k : ℕ) → k < pair.1 → k < length list → R item (get_or list k item) ≡ Equal → ⊥
    clash k below inside tie =
        let found = Contains-permutation (with_places list) pairs (get_or list k item, k) stands.moved (stands_beside list k item inside) in
        let from = stands_from R o item pairs at splits found.0 (get_or list k item, k) found.2 tie in
        let here : R item pair.0 ≡ Equal = (Equal-is (R item pair.0)).0 (sym (ties item pair.0) ∙ same) in
        let even : R (get_or list k item) pair.0 ≡ Equal = sym (o.congr item (get_or list k item) pair.0 tie) ∙ here in
        let kept : is_lt (by_item R (get_or list k item, k) pair) ≡ false =
        subst (λ (p : T × ℕ). is_lt (by_item R (get_or list k item, k) p) ≡ false) (sym is)
        (subst (λ (p : T × ℕ). is_lt (by_item R p (get_or pairs at pair)) ≡ false) (get_or_default pairs found.0 pair (get_or list k item, k) found.1 ∙ found.2) (far R o list pairs stands at found.0 pair from found.1)) in
        let bad : true ≡ false = sym (ap (λ (r : Ordering). is_lt (ordering_then r (nat_cmp k pair.1))) even ∙ lower k pair.1 below) ∙ kept in
        absurd (cc)

    earlier : (k : ℕ) → k < pair.1 → k < length list → (b : Bool) → eq item (get_or list k item) ≡ b → eq item (get_or list k item) ≡ false
    earlier k below inside true e = absurd (clash k below inside ((Equal-is (R item (get_or list k item))).0 (sym (ties item (get_or list k item)) ∙ e)))
    earlier k below inside false e = e
