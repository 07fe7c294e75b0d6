-- Keys of offers in their order: ranges of them.
use Rattle.std.proofs.Common.{◌≡◌, refl, sym, ap, ap₂, ◌∙◌, subst, ℕ, ◌<◌, ◌≤◌, ◌-◌, ◌^◌, Bool, true, false, not, ◌&&◌, cond, eqb, ltb, List, filter, Option, Some, None, arith}
use Rattle.std.specs.List.{list_any}
use Rattle.std.specs.Prelude.{Contains, IfSome}
use Rattle.std.specs.Option.{IsSomeAnd}
use Rattle.std.specs.BTreeMap.Range.{IsFromStart, range_contains}
use Rattle.std.specs.Ordering.{MatchOrdering, is_eq, is_gt, is_le, is_lt, nat_cmp, ordering_then}
use Rattle.std.specs.declared.cmp.Ordering.{Ordering}
use Rattle.std.specs.declared.cmp.Ordering.TheVariants.{Less, Equal, Greater}
use Rattle.std.specs.declared.ops.Bound.TheVariants.{Included}
use Rattle.std.proofs.lemmas.Bool.{and_from, and_parts, eq-eqb, eqb-true, lt-ltb, ltb-true, not-true}
use Rattle.std.specs.Cmp.{nat_cmp_is}
use Rattle.std.proofs.lemmas.Bool.Decides.{nat_tests}
use Rattle.std.proofs.lemmas.Cmp.{ranked}
use Rattle.std.proofs.lemmas.List.Elements.{All-contains, filter_passes}
use Rattle.std.proofs.lemmas.List.Folds.{Any-from_list_any}
use Rattle.sv_offer_laws.proofs.Members.{Contains-filter, Contains-from_filter, list_any_member}
use Rattle.sv_offers.specs.Senders.{is_party_above, key_order, start_after}
use Rattle.sv_rules.specs.Coupling.{is_coupled}
use Rattle.sv_rules.specs.declared.coupling.Made.{Made}

-- two numbers tie where they are the same, and two orders one after the other where both tie
numbers_tie : (one other : ℕ) → is_eq (nat_cmp one other) ≡ eqb one other
numbers_tie one other = grind (arith, nat_tests)

both_tie : (first second : Ordering) → is_eq (ordering_then first second) ≡ (is_eq first && is_eq second)
both_tie Less second = refl
both_tie Equal second = refl
both_tie Greater second = refl

-- two keys tie where all their numbers are the same
pub keys_tie : (one other : ℕ × ℕ × ℕ) → is_eq (key_order one other) ≡ ((eqb one.0 other.0 && eqb one.1 other.1) && eqb one.2 other.2)
keys_tie one other =
    both_tie (ordering_then (nat_cmp one.0 other.0) (nat_cmp one.1 other.1)) (nat_cmp one.2 other.2)
    ∙ ap₂ (λ (b c : Bool). b && c)
    (both_tie (nat_cmp one.0 other.0) (nat_cmp one.1 other.1) ∙ ap₂ (λ (b c : Bool). b && c) (numbers_tie one.0 other.0) (numbers_tie one.1 other.1))
    (numbers_tie one.2 other.2)

-- what an order says of two numbers
is_lower : (one other : ℕ) → nat_cmp one other ≡ Less → one < other
is_lower one other order = ranked one other Less (sym order)

is_same : (one other : ℕ) → nat_cmp one other ≡ Equal → one ≡ other
is_same one other order = ranked one other Equal (sym order)

ties_itself : (number : ℕ) → nat_cmp number number ≡ Equal
ties_itself number = sym (nat_cmp_is number number Equal refl)

comes_before : (one other : ℕ) → one < other → nat_cmp one other ≡ Less
comes_before one other lower = sym (nat_cmp_is one other Less lower)

not_behind : (one other : ℕ) → one ≤ other → is_gt (nat_cmp one other) ≡ false
not_behind one other upto = by (nat_cmp one other) (ranked one other (nat_cmp one other) refl)
  where
    by : (o : Ordering) → MatchOrdering o (one < other) (one ≡ other) (other < one) → is_gt o ≡ false
    by Less below = refl
    by Equal same = refl
    by Greater above = absurd (omega (arith, upto, above))

neither_behind : (first second : Ordering) → is_gt first ≡ false → is_gt second ≡ false → is_gt (ordering_then first second) ≡ false
neither_behind Less second one other = refl
neither_behind Equal second one other = other
neither_behind Greater second one other = cc

-- a key that is not behind another has no higher party, and of the same no higher one that made the offer
pub upto_key : (one other : ℕ × ℕ × ℕ) → is_gt (key_order one other) ≡ false → (one.0 ≤ other.0) × (one.0 ≡ other.0 → one.1 ≤ other.1)
upto_key one other upto = by (nat_cmp one.0 other.0) (nat_cmp one.1 other.1) refl refl (upto)
  where
    by : (x y : Ordering) → nat_cmp one.0 other.0 ≡ x → nat_cmp one.1 other.1 ≡ y → is_gt (ordering_then (ordering_then x y) (nat_cmp one.2 other.2)) ≡ false →
        (one.0 ≤ other.0) × (one.0 ≡ other.0 → one.1 ≤ other.1)
    by Less y first second upto =
        let lower = is_lower one.0 other.0 first in (omega (arith, lower), λ same. absurd (omega (arith, lower, same)))
    by Equal Less first second upto =
        let lower = is_lower one.1 other.1 second in (omega (arith, is_same one.0 other.0 first), λ same. omega (arith, lower))
    by Equal Equal first second upto = (omega (arith, is_same one.0 other.0 first), λ same. omega (arith, is_same one.1 other.1 second))
    by Equal Greater first second upto = cc
    by Greater y first second upto = cc

-- from the start on the offers are to the party or a higher one, and those to it by parties above the last
pub from_start : (to : ℕ) (last : Option ℕ) (key : ℕ × ℕ × ℕ) → IsFromStart key_order (start_after to last) key →
    (to ≤ key.0) × (to ≡ key.0 → key.2 < 2 ^ 64 → is_party_above last key.1 ≡ true)
from_start to None key inside = ((upto_key (to, 0, 0) key inside).0, λ same fits. refl)
from_start to (Some last) key inside = by (nat_cmp to key.0) (nat_cmp last key.1) refl refl inside
  where
    by : (x y : Ordering) → nat_cmp to key.0 ≡ x → nat_cmp last key.1 ≡ y → ordering_then (ordering_then x y) (nat_cmp (2 ^ 64 - 1) key.2) ≡ Less →
        (to ≤ key.0) × (to ≡ key.0 → key.2 < 2 ^ 64 → ltb last key.1 ≡ true)
    by Less y first second behind =
        let lower = is_lower to key.0 first in (omega (arith, lower), λ same fits. absurd (omega (arith, lower, same)))
    by Equal Less first second behind = (omega (arith, is_same to key.0 first), λ same fits. lt-ltb last key.1 (is_lower last key.1 second))
    by Equal Equal first second behind = (omega (arith, is_same to key.0 first), λ same fits. absurd (omega (arith, fits, is_lower (2 ^ 64 - 1) key.2 behind)))
    by Equal Greater first second behind = cc
    by Greater y first second behind = cc

-- so a party that is found there is above the last, has a key there, and no offer's at a later key is lower
pub found_above : (to : ℕ) (last : Option ℕ) (key : ℕ × ℕ × ℕ) (found : Option ℕ) → IsFromStart key_order (start_after to last) key → key.2 < 2 ^ 64 →
    found ≡ cond (eqb key.0 to) (Some key.1) None → IfSome found (λ from. is_party_above last from ≡ true)
found_above to last key found inside fits is = subst (λ o. IfSome o (λ from. is_party_above last from ≡ true)) (sym is) (by (eqb key.0 to) refl)
  where
    by : (b : Bool) → eqb key.0 to ≡ b → IfSome (cond b (Some key.1) None) (λ from. is_party_above last from ≡ true)
    by true here = (from_start to last key inside).1 (sym (eqb-true key.0 to here)) fits
    by false other = tt

pub found_there : (P : (ℕ × ℕ × ℕ) → Type 0) (to : ℕ) (key : ℕ × ℕ × ℕ) (found : Option ℕ) → P key → found ≡ cond (eqb key.0 to) (Some key.1) None →
    IfSome found (λ from. (place : ℕ) × P (to, from, place))
found_there P to key found there is = subst (λ o. IfSome o (λ from. (place : ℕ) × P (to, from, place))) (sym is) (by (eqb key.0 to) refl)
  where
    by : (b : Bool) → eqb key.0 to ≡ b → IfSome (cond b (Some key.1) None) (λ from. (place : ℕ) × P (to, from, place))
    by true here = (key.2, subst (λ (t : ℕ). P (t, key.1, key.2)) (eqb-true key.0 to here) there)
    by false other = tt

pub found_lowest : (to : ℕ) (last : Option ℕ) (key : ℕ × ℕ × ℕ) (found : Option ℕ) (from place : ℕ) → IsFromStart key_order (start_after to last) key →
    is_gt (key_order key (to, from, place)) ≡ false → found ≡ cond (eqb key.0 to) (Some key.1) None → IsSomeAnd found (λ next. next ≤ from)
found_lowest to last key found from place inside upto is =
    let first = upto_key key (to, from, place) upto in
    let here : key.0 ≡ to = omega (arith, first.0, (from_start to last key inside).0) in
    subst (λ o. IsSomeAnd o (λ next. next ≤ from)) (sym (is ∙ ap (λ b. cond b (Some key.1) None) (eq-eqb key.0 to here))) (first.1 here)

-- an offer to the party by one above the last is behind the start
pub behind_start : (to : ℕ) (last : Option ℕ) (from place : ℕ) → is_party_above last from ≡ true → IsFromStart key_order (start_after to last) (to, from, place)
behind_start to None from place above =
    rw (ties_itself to) (neither_behind (nat_cmp 0 from) (nat_cmp 0 place) (not_behind 0 from (omega arith)) (not_behind 0 place (omega arith)))
behind_start to (Some last) from place above = rw (ties_itself to, comes_before last from (ltb-true last from above)) refl

-- the range of the offers to a party from another has these alone, and all at places in 64 bits
abbrev pub is_between : ℕ → ℕ → (ℕ × ℕ × ℕ) → Bool
is_between to from key = range_contains key_order (Included (to, from, 0)) (Included (to, from, 2 ^ 64 - 1)) key

pub between_is : (to from : ℕ) (key : ℕ × ℕ × ℕ) → is_between to from key ≡ true → (to ≡ key.0) × (from ≡ key.1)
between_is to from key inside = by (nat_cmp to key.0) (nat_cmp from key.1) refl refl inside
  where
    by : (x y : Ordering) → nat_cmp to key.0 ≡ x → nat_cmp from key.1 ≡ y →
        (is_le (ordering_then (ordering_then x y) (nat_cmp 0 key.2)) && not (is_lt (ordering_then (ordering_then x y) (nat_cmp (2 ^ 64 - 1) key.2)))) ≡ true → (to ≡ key.0) × (from ≡ key.1)
    by Less y first second inside = cc
    by Equal Less first second inside = cc
    by Equal Equal first second inside = (is_same to key.0 first, is_same from key.1 second)
    by Equal Greater first second inside = cc
    by Greater y first second inside = cc

pub is_between_both : (to from place : ℕ) → place < 2 ^ 64 → is_between to from (to, from, place) ≡ true
is_between_both to from place fits =
    rw (ties_itself to, ties_itself from) (and_from (is_le (nat_cmp 0 place)) (not (is_lt (nat_cmp (2 ^ 64 - 1) place)))
    (low (nat_cmp 0 place) (ranked 0 place (nat_cmp 0 place) refl))
    (high (nat_cmp (2 ^ 64 - 1) place) (ranked (2 ^ 64 - 1) place (nat_cmp (2 ^ 64 - 1) place) refl)))
  where
    low : (o : Ordering) → MatchOrdering o (0 < place) (0 ≡ place) (place < 0) → is_le o ≡ true
    low Less below = refl
    low Equal same = refl
    low Greater above = absurd (omega (arith, above))

    high : (o : Ordering) → MatchOrdering o (2 ^ 64 - 1 < place) (2 ^ 64 - 1 ≡ place) (place < 2 ^ 64 - 1) → not (is_lt o) ≡ true
    high Less below = absurd (omega (arith, below, fits))
    high Equal same = refl
    high Greater above = refl

-- the keys have an offer to a party from another, at a place
abbrev has_key : List (ℕ × ℕ × ℕ) → ℕ → ℕ → ℕ → Bool
has_key keys to from place = list_any (λ (key : ℕ × ℕ × ℕ). is_eq (key_order (to, from, place) key)) keys

-- a key's offer is in none of these couplings
abbrev pub is_open_key : List Made → (ℕ × ℕ × ℕ) → Bool
is_open_key coupled key = not (is_coupled coupled key.2)

key_is : (to from place : ℕ) (key : ℕ × ℕ × ℕ) → to ≡ key.0 → from ≡ key.1 → place ≡ key.2 → ◌≡◌ {A = ℕ × ℕ × ℕ} (to, from, place) key
key_is to from place key one other at =
    ap (λ (t : ℕ). (t, from, place)) one ∙ ap (λ (f : ℕ). (key.0, f, place)) other ∙ ap (λ (p : ℕ). (key.0, key.1, p)) at

-- where some key of the range is open there is a place of an open offer
pub some_open_key : (keys : List (ℕ × ℕ × ℕ)) (to from : ℕ) (coupled : List Made) → list_any (is_open_key coupled) (filter (is_between to from) keys) ≡ true →
    (place : ℕ) × (has_key keys to from place ≡ true) × (is_coupled coupled place ≡ false)
some_open_key keys to from coupled some =
    let found = Any-from_list_any (is_open_key coupled) (filter (is_between to from) keys) some in
    let key : ℕ × ℕ × ℕ = found.1 in
    let there : Contains (filter (is_between to from) keys) key = (found.0, found.2, found.3) in
    let ends = between_is to from key (All-contains (λ k. is_between to from k ≡ true) (filter (is_between to from) keys) key (filter_passes (is_between to from) keys) there) in
    let ties : is_eq (key_order (to, from, key.2) key) ≡ true =
    keys_tie (to, from, key.2) key
    ∙ and_from (eqb to key.0 && eqb from key.1) (eqb key.2 key.2) (and_from (eqb to key.0) (eqb from key.1) (eq-eqb to key.0 ends.0) (eq-eqb from key.1 ends.1)) (eq-eqb key.2 key.2 refl) in
    (key.2, list_any_member (λ (k : ℕ × ℕ × ℕ). is_eq (key_order (to, from, key.2) k)) keys key ties (Contains-from_filter (is_between to from) keys key there), not-true (is_coupled coupled key.2) found.4)

-- where none is open each offer, at a place in 64 bits, is coupled
pub no_open_key : (keys : List (ℕ × ℕ × ℕ)) (to from : ℕ) (coupled : List Made) → list_any (is_open_key coupled) (filter (is_between to from) keys) ≡ false →
    (place : ℕ) → place < 2 ^ 64 → has_key keys to from place ≡ true → is_coupled coupled place ≡ true
no_open_key keys to from coupled none place fits has =
    let found = Any-from_list_any (λ (k : ℕ × ℕ × ℕ). is_eq (key_order (to, from, place) k)) keys has in
    let key : ℕ × ℕ × ℕ = found.1 in
    let same = and_parts (eqb to key.0 && eqb from key.1) (eqb place key.2) (sym (keys_tie (to, from, place) key) ∙ found.4) in
    let ends = and_parts (eqb to key.0) (eqb from key.1) same.0 in
    let is = key_is to from place key (eqb-true to key.0 ends.0) (eqb-true from key.1 ends.1) (eqb-true place key.2 same.1) in
    let within : is_between to from key ≡ true = subst (λ (k : ℕ × ℕ × ℕ). is_between to from k ≡ true) is (is_between_both to from place fits) in
    by (is_coupled coupled place) refl key (eqb-true place key.2 same.1) (Contains-filter (is_between to from) keys key within (found.0, found.2, found.3))
  where
    by : (b : Bool) → is_coupled coupled place ≡ b → (key : ℕ × ℕ × ℕ) → place ≡ key.2 → Contains (filter (is_between to from) keys) key → b ≡ true
    by true coupled' key at there = refl
    by false open' key at there =
        let some = list_any_member (is_open_key coupled) (filter (is_between to from) keys) key (ap not (ap (is_coupled coupled) (sym at) ∙ open')) there in
        cc
