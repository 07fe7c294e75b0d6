-- How many offers a leave or a retraction reopens.
use Rattle.std.proofs.Common.{◌≡◌, refl, sym, ap, ◌∙◌, subst, ℕ, suc, ◌+◌, ◌<◌, ◌≤◌, Bool, true, false, ◌&&◌, ◌||◌, not, cond, eqb, List, [], ◌∷◌, length, get_or, inl, inr, arith}
use Rattle.std.specs.Prelude.{Contains, All, AllPairs, filter, count_by}
use Rattle.std.specs.List.{list_any}
use Rattle.std.proofs.lemmas.Bool.{cases_Bool, and_parts, and_cases, not-true, not_from_false, both_ways, or_cases, or_left, or_right, eq-eqb, eqb-true, ne_eqb}
use Rattle.std.proofs.lemmas.Cmp.{nat_eq_equiv}
use Rattle.std.proofs.lemmas.List.Filters.{length-filter_both}
use Rattle.std.proofs.lemmas.List.Folds.{list_any_none, Any-from_list_any}
use Rattle.std.proofs.lemmas.List.Sums.{length-filter, sum_by-cons}
use Rattle.std.proofs.lemmas.List.Elements.{All-head, All-tail, All-weaker, All-filter, Contains-get_or, filter_passes}
use Rattle.sv_events.specs.declared.row.Ending.{Ending}
use Rattle.sv_rules.specs.declared.standing.Standing.{Standing}
use Rattle.sv_rules.specs.declared.coupling.Made.{Made}
use Rattle.sv_rules.specs.Standing.{is_ended, without_ended}
use Rattle.sv_rules.specs.Coupling.{stands_at, both_stand, couplings_among, has_place, is_coupled, kept_by_ending, reopened_by_ending}
use Rattle.sv_offer_laws.proofs.Members.{Contains-head, Contains-behind, Contains-filter, count_by-filter, count_by-none, list_any_member, All-both}
use Rattle.sv_offer_laws.proofs.PlaceLemmas.{ComesBefore}
use Rattle.sv_offer_laws.proofs.RecoupledLemmas.{uses_of}

-- how many pass either test is at most how many pass the one and how many the other
either_count : (a b : Bool) → cond (a || b) 1 0 ≤ cond a 1 0 + cond b 1 0
either_count true b = omega arith
either_count false b = omega arith

count_by-or : {X : Type 0} (p q : X → Bool) (xs : List X) → count_by (λ x. p x || q x) xs ≤ count_by p xs + count_by q xs
count_by-or p q [] = omega arith
count_by-or p q (x ∷ xs) =
    omega (arith, sum_by-cons (λ y. cond (p y || q y) 1 0) x xs, sum_by-cons (λ y. cond (p y) 1 0) x xs, sum_by-cons (λ y. cond (q y) 1 0) x xs, either_count (p x) (q x), count_by-or p q xs)

-- a test that implies another passes no more
implied_count : (a b : Bool) → (a ≡ true → b ≡ true) → cond a 1 0 ≤ cond b 1 0
implied_count true b h = rw (h refl) (omega arith)
implied_count false b h = omega arith

count_by-implied : {X : Type 0} (p q : X → Bool) → ((x : X) → p x ≡ true → q x ≡ true) → (xs : List X) → count_by p xs ≤ count_by q xs
count_by-implied p q implies [] = omega arith
count_by-implied p q implies (x ∷ xs) =
    omega (arith, sum_by-cons (λ y. cond (p y) 1 0) x xs, sum_by-cons (λ y. cond (q y) 1 0) x xs, implied_count (p x) (q x) (implies x), count_by-implied p q implies xs)

-- no offer behind a place has it
none_behind : (place : ℕ) (offers : List Standing) → All (λ o. place < o.place) offers → count_by (λ o. eqb place o.place) offers ≡ 0
none_behind place [] h = refl
none_behind place (o ∷ offers) h =
    let P : Standing → Type 0 = λ (x : Standing). place < x.place in
    let here : eqb place o.place ≡ false = ne_eqb place o.place (λ same. omega (arith, All-head P o offers h, same)) in
    let first : cond {A = ℕ} (eqb place o.place) 1 0 ≡ 0 = ap (λ b. cond {A = ℕ} b 1 0) here in
    omega (arith, sum_by-cons (λ x. cond (eqb place x.place) 1 0) o offers, first, none_behind place offers (All-tail P o offers h))

tail_ascends : (o : Standing) (offers : List Standing) → AllPairs ComesBefore (o ∷ offers) → AllPairs ComesBefore offers
tail_ascends o offers ascend = λ i j d before within. ascend (suc i) (suc j) d (omega arith) (omega arith)

all_behind : (o : Standing) (offers : List Standing) → AllPairs ComesBefore (o ∷ offers) → All (λ x. o.place < x.place) offers
all_behind o offers ascend = λ k d within. ascend 0 (suc k) d (omega arith) (omega arith)

-- of offers that come by place one has the place where some has, and else none
place_once : (place : ℕ) (offers : List Standing) → AllPairs ComesBefore offers → count_by (λ o. eqb place o.place) offers ≤ cond (stands_at offers place) 1 0
place_once place [] ascend = omega arith
place_once place (o ∷ offers) ascend =
    let count = sum_by-cons (λ x. cond (eqb place x.place) 1 0) o offers in
    let turned : eqb place o.place ≡ eqb o.place place = nat_eq_equiv.symm place o.place in
    elim (cases_Bool (eqb o.place place)) [
      | inl here ↦
          let same : o.place ≡ place = eqb-true o.place place here in
          let rest = none_behind place offers (subst (λ n. All (λ (x : Standing). n < x.place) offers) same (all_behind o offers ascend)) in
          let first : cond {A = ℕ} (eqb place o.place) 1 0 ≡ 1 = ap (λ b. cond {A = ℕ} b 1 0) (turned ∙ here) in
          rw here (omega (arith, count, rest, first))
      | inr other ↦
          let first : cond {A = ℕ} (eqb place o.place) 1 0 ≡ 0 = ap (λ b. cond {A = ℕ} b 1 0) (turned ∙ other) in
          rw other (omega (arith, count, first, place_once place offers (tail_ascends o offers ascend)))
    ]

-- of a pair whose two offers don't both stand at most one does
at_most_one : (a b : Bool) → (a && b) ≡ false → cond a 1 0 + cond b 1 0 ≤ 1
at_most_one true true h = cc
at_most_one true false h = omega arith
at_most_one false true h = omega arith
at_most_one false false h = omega arith

one_of_a_pair : (offers : List Standing) (made : Made) → AllPairs ComesBefore offers → both_stand offers made.pair ≡ false → count_by (λ o. has_place o.place made) offers ≤ 1
one_of_a_pair offers made ascend ceased =
    omega (
      arith,
      count_by-or (λ o. eqb made.pair.a o.place) (λ o. eqb made.pair.b o.place) offers,
      place_once made.pair.a offers ascend,
      place_once made.pair.b offers ascend,
      at_most_one (stands_at offers made.pair.a) (stands_at offers made.pair.b) ceased,
    )

-- couplings that have ended had one offer each among those that are left
ended_offers : (offers : List Standing) (ended : List Made) → AllPairs ComesBefore offers → All (λ m. both_stand offers m.pair ≡ false) ended → count_by (λ o. is_coupled ended o.place) offers ≤ length ended
ended_offers offers [] ascend all = omega (arith, none offers)
  where
    none : (os : List Standing) → count_by (λ o. is_coupled [] o.place) os ≡ 0
    none [] = refl
    none (o ∷ os) = omega (arith, sum_by-cons (λ x. cond (is_coupled [] x.place) 1 0) o os, none os)
ended_offers offers (m ∷ ended) ascend all =
    let P : Made → Type 0 = λ (x : Made). both_stand offers x.pair ≡ false in
    omega (arith, count_by-or (λ o. has_place o.place m) (λ o. is_coupled ended o.place) offers, one_of_a_pair offers m ascend (All-head P m ended all), ended_offers offers ended ascend (All-tail P m ended all))

-- a coupled offer whose coupling is not kept was in one that ended
ended_or_kept : (offers : List Standing) (coupled : List Made) (place : ℕ) → (is_coupled coupled place && not (is_coupled (couplings_among offers coupled) place)) ≡ true →
    is_coupled (filter (λ m. not (both_stand offers m.pair)) coupled) place ≡ true
ended_or_kept offers coupled place h =
    let parts = and_parts (is_coupled coupled place) (not (is_coupled (couplings_among offers coupled) place)) h in
    let found = Any-from_list_any (has_place place) coupled parts.0 in
    let has : Contains coupled found.1 = (found.0, found.2, found.3) in
    elim (cases_Bool (both_stand offers found.1.pair)) [
      | inl stands ↦
          absurd (both_ways (is_coupled (couplings_among offers coupled) place) (not-true _ parts.1)
          (list_any_member (has_place place) (couplings_among offers coupled) found.1 found.4 (Contains-filter (λ m. both_stand offers m.pair) coupled found.1 stands has)))
      | inr ceased ↦
          list_any_member (has_place place) (filter (λ m. not (both_stand offers m.pair)) coupled) found.1 found.4
          (Contains-filter (λ m. not (both_stand offers m.pair)) coupled found.1 (not_from_false _ ceased) has)
    ]

-- kept and ended couplings are all, and no more offers are reopened than couplings end
pub reopened_no_more : (offers : List Standing) (coupled : List Made) (party : ℕ) (ending : Ending) → AllPairs ComesBefore (without_ended offers party ending) →
    length (kept_by_ending offers coupled party ending) + length (reopened_by_ending offers coupled party ending) ≤ length coupled
reopened_no_more offers coupled party ending ascend =
    let left = without_ended offers party ending in
    let ended = filter (λ (m : Made). not (both_stand left m.pair)) coupled in
    let both = length-filter_both (λ (m : Made). both_stand left m.pair) (λ (m : Made). not (both_stand left m.pair)) (λ m. refl) coupled in
    let reopens : Standing → Bool = λ (o : Standing). is_coupled coupled o.place && not (is_coupled (couplings_among left coupled) o.place) in
    let reopened = length-filter reopens left in
    let implied = count_by-implied reopens (λ o. is_coupled ended o.place) (λ o h. ended_or_kept left coupled o.place h) left in
    let few = ended_offers left ended ascend
    (All-weaker (λ m. not (both_stand left m.pair) ≡ true) (λ m. both_stand left m.pair ≡ false) (λ m h. not-true _ h) ended (filter_passes (λ m. not (both_stand left m.pair)) coupled)) in
    omega (arith, both, reopened, implied, few)

-- the pair has one of the offers
abbrev has_one_of : List Standing → Made → Bool
has_one_of offers made = list_any (λ o. has_place o.place made) offers

no_pairs : (pairs : List Made) → All (λ m. has_one_of [] m ≡ true) pairs → length pairs ≡ 0
no_pairs [] all = refl
no_pairs (m ∷ pairs) all = absurd (both_ways false refl (All-head (λ x. has_one_of [] x ≡ true) m pairs all))

-- pairs that each have one of some offers, none in two pairs, are no more than the offers
no_more_pairs : (offers : List Standing) (pairs : List Made) → ((place : ℕ) → uses_of place pairs ≤ 1) → All (λ m. has_one_of offers m ≡ true) pairs → length pairs ≤ length offers
no_more_pairs [] pairs once all = omega (arith, no_pairs pairs all)
no_more_pairs (o ∷ offers) pairs once all =
    let others = filter (λ (m : Made). not (has_place o.place m)) pairs in
    let both = length-filter_both (has_place o.place) (λ (m : Made). not (has_place o.place m)) (λ m. refl) pairs in
    let here = length-filter (has_place o.place) pairs in
    let later : All (λ m. has_one_of offers m ≡ true) others =
    All-weaker (λ m. (not (has_place o.place m) ≡ true) × (has_one_of (o ∷ offers) m ≡ true)) (λ m. has_one_of offers m ≡ true)
    (λ m h. elim (or_cases (has_place o.place m) (has_one_of offers m) h.1) [
      | inl first ↦ absurd (both_ways (has_place o.place m) (not-true _ h.0) first)
      | inr behind ↦ behind
    ]) others
    (All-both (λ m. not (has_place o.place m) ≡ true) (λ m. has_one_of (o ∷ offers) m ≡ true) others
    (filter_passes (λ m. not (has_place o.place m)) pairs) (All-filter (λ m. not (has_place o.place m)) (λ m. has_one_of (o ∷ offers) m ≡ true) pairs all)) in
    let rest = no_more_pairs offers others (λ place. omega (arith, count_by-filter (has_place place) (λ (m : Made). not (has_place o.place m)) pairs, once place)) later in
    omega (arith, both, here, once o.place, rest)

-- where an offer ceases by an ending, this ended it
stands_ended : (offers : List Standing) (party : ℕ) (ending : Ending) (place : ℕ) (made : Made) → stands_at offers place ≡ true → stands_at (without_ended offers party ending) place ≡ false →
    ((o : Standing) → o.place ≡ place → has_place o.place made ≡ true) → has_one_of (filter (is_ended party ending) offers) made ≡ true
stands_ended offers party ending place made stood ceased has =
    let at : Standing → Bool = λ (o : Standing). eqb o.place place in
    let found = Any-from_list_any at offers stood in
    let member : Contains offers found.1 = (found.0, found.2, found.3) in
    let here : found.1.place ≡ place = eqb-true found.1.place place found.4 in
    elim (cases_Bool (is_ended party ending found.1)) [
      | inl own ↦
          list_any_member (λ o. has_place o.place made) (filter (is_ended party ending) offers) found.1 (has found.1 here)
          (Contains-filter (is_ended party ending) offers found.1 own member)
      | inr other ↦
          absurd (both_ways (stands_at (without_ended offers party ending) place) ceased
          (list_any_member at (without_ended offers party ending) found.1 found.4
          (Contains-filter (λ (o : Standing). not (is_ended party ending o)) offers found.1 (not_from_false _ other) member)))
    ]

-- a coupling that ends so had one of the offers that end
ended_has_one : (offers : List Standing) (party : ℕ) (ending : Ending) (made : Made) → both_stand offers made.pair ≡ true → both_stand (without_ended offers party ending) made.pair ≡ false →
    has_one_of (filter (is_ended party ending) offers) made ≡ true
ended_has_one offers party ending made stood ceased =
    let parts = and_parts (stands_at offers made.pair.a) (stands_at offers made.pair.b) stood in
    elim (and_cases (stands_at (without_ended offers party ending) made.pair.a) (stands_at (without_ended offers party ending) made.pair.b) ceased) [
      | inl a ↦ stands_ended offers party ending made.pair.a made parts.0 a (λ o same. or_left (eqb made.pair.a o.place) (eqb made.pair.b o.place) (eq-eqb _ _ (sym same)))
      | inr b ↦ stands_ended offers party ending made.pair.b made parts.1 b (λ o same. or_right (eqb made.pair.a o.place) (eqb made.pair.b o.place) (eq-eqb _ _ (sym same)))
    ]

-- no more offers are reopened than end
pub reopened_few : (offers : List Standing) (coupled : List Made) (party : ℕ) (ending : Ending) → AllPairs ComesBefore (without_ended offers party ending) →
    All (λ m. both_stand offers m.pair ≡ true) coupled → ((place : ℕ) → uses_of place coupled ≤ 1) →
    length (reopened_by_ending offers coupled party ending) ≤ count_by (is_ended party ending) offers
reopened_few offers coupled party ending ascend stand once =
    let left = without_ended offers party ending in
    let own = filter (is_ended party ending) offers in
    let ended = filter (λ (m : Made). not (both_stand left m.pair)) coupled in
    let both = length-filter_both (λ (m : Made). both_stand left m.pair) (λ (m : Made). not (both_stand left m.pair)) (λ m. refl) coupled in
    let ends : All (λ m. has_one_of own m ≡ true) ended =
    All-weaker (λ m. (not (both_stand left m.pair) ≡ true) × (both_stand offers m.pair ≡ true)) (λ m. has_one_of own m ≡ true)
    (λ m h. ended_has_one offers party ending m h.1 (not-true _ h.0)) ended
    (All-both (λ m. not (both_stand left m.pair) ≡ true) (λ m. both_stand offers m.pair ≡ true) ended
    (filter_passes (λ m. not (both_stand left m.pair)) coupled) (All-filter (λ m. not (both_stand left m.pair)) (λ m. both_stand offers m.pair ≡ true) coupled stand)) in
    let few = no_more_pairs own ended (λ place. omega (arith, count_by-filter (has_place place) (λ (m : Made). not (both_stand left m.pair)) coupled, once place)) ends in
    omega (arith, reopened_no_more offers coupled party ending ascend, both, few, length-filter (is_ended party ending) offers)

-- of offers that come by place one passes where all that pass are one
pub one_passes : (p : Standing → Bool) (offers : List Standing) → AllPairs ComesBefore offers →
    ((one other : Standing) → Contains offers one → p one ≡ true → Contains offers other → p other ≡ true → one ≡ other) → count_by p offers ≤ 1
one_passes p [] ascend same = omega arith
one_passes p (o ∷ offers) ascend same =
    let count = sum_by-cons (λ x. cond {A = ℕ} (p x) 1 0) o offers in
    elim (cases_Bool (p o)) [
      | inl here ↦
          let counted : cond {A = ℕ} (p o) 1 0 ≡ 1 = ap (λ b. cond {A = ℕ} b 1 0) here in
          let rest : list_any p offers ≡ false = list_any_none p offers (λ k d within. elim (cases_Bool (p (get_or offers k d))) [
            | inl passes ↦
                let also = same o (get_or offers k d) (Contains-head o offers) here (Contains-behind o offers (get_or offers k d) (Contains-get_or offers k d within)) passes in
                let below = all_behind o offers ascend k d within in
                let place = ap (λ (x : Standing). x.place) also in absurd (omega arith)
            | inr fails ↦ fails
          ]) in
          omega (arith, count, counted, count_by-none p offers rest)
      | inr other ↦
          let counted : cond {A = ℕ} (p o) 1 0 ≡ 0 = ap (λ b. cond {A = ℕ} b 1 0) other in
          omega (arith, count, counted, one_passes p offers (tail_ascends o offers ascend) (λ one two has_one passes has_two also. same one two (Contains-behind o offers one has_one) passes (Contains-behind o offers two has_two) also))
    ]
