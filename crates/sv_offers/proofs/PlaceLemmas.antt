-- Offers by place, with one more and with one fewer.
use Rattle.std.proofs.Common.{◌≡◌, refl, sym, ap, ◌∙◌, ℕ, zero, suc, ◌+◌, ◌<◌, ◌≤◌, Bool, true, false, not, ◌&&◌, ◌||◌, cond, eqb, ltb, List, [], ◌∷◌, ◌++◌, length, get_or, drop, filter, find, Option, Some, None, ◌⊎◌, inl, inr, arith, length-append}
use Rattle.std.specs.Prelude.{All, Contains, count_by, is_some}
use Rattle.std.proofs.lemmas.Bool.{cases_Bool, cases_order, eqb-true, eq-eqb, ne_eqb, le-ltb, lt-ltb}
use Rattle.std.proofs.lemmas.Cmp.{nat_eq_equiv}
use Rattle.std.proofs.Math.Bool.{and-false}
use Rattle.std.proofs.lemmas.List.Elements.{All-contains, All-contains_itself, All-filter, All-weaker}
use Rattle.std.proofs.lemmas.List.Filters.{length-filter_both}
use Rattle.std.proofs.lemmas.List.Folds.{list_any_none}
use Rattle.std.proofs.lemmas.List.Sums.{get_or-le-sum_by, length-filter, sum_by-cons}
use Rattle.std.specs.List.{AllWithin, insert}
use Rattle.std.specs.List.Sorted.{IsNonDecreasingBy}
use Rattle.sv_offer_laws.proofs.LookupLemmas.{find_is}
use Rattle.sv_offer_laws.proofs.Members.{Contains-behind, Contains-cons_cases, Contains-head, count_by-none, filter-filter, filter_same, filter_whole}
use Rattle.sv_offer_laws.proofs.PlaceLemmas.{same_by_place}
use Rattle.sv_offers.proofs.FilterLemmas.{filter_alike, found_among, none_kept, split_front}
use Rattle.sv_offers.specs.Places.{ByPlace, with_free, with_place, without_coupling, without_place}
use Rattle.sv_rules.specs.Coupling.{both_stand, couplings_among, has_place, offer_at, stands_at}
use Rattle.sv_rules.specs.declared.coupling.Made.{Made}
use Rattle.sv_rules.specs.declared.standing.Standing.{Standing}

-- the offers behind one are at higher places, and come by place
pub behind_are_above : (offer : Standing) (offers : List Standing) → ByPlace (offer ∷ offers) → All (λ other. offer.place < other.place) offers
behind_are_above offer offers by_place = λ k d within. by_place zero (suc k) d (omega arith) (omega (arith, within))

pub behind_by_place : (offer : Standing) (offers : List Standing) → ByPlace (offer ∷ offers) → ByPlace offers
behind_by_place offer offers by_place = λ i j d before within. by_place (suc i) (suc j) d (omega (arith, before)) (omega (arith, within))

-- places do not fall
pub places_rise : (offers : List Standing) → ByPlace offers → IsNonDecreasingBy (λ offer. offer.place) offers
places_rise offers by_place = λ i j d upto within. elim (cases_order i j) [
  | inl same ↦ let is = ap (λ (k : ℕ). (get_or offers k d).place) same in omega (arith, is)
  | inr apart ↦ elim apart [
    | inl before ↦ omega (arith, by_place i j d before within)
    | inr after ↦ absurd (omega arith)
  ]
]

-- one offer at the most is at a place
pub one_at_place : (offers : List Standing) (place : ℕ) → ByPlace offers → count_by (λ (offer : Standing). eqb offer.place place) offers ≤ 1
one_at_place [] place by_place = omega arith
one_at_place (offer ∷ offers) place by_place =
    let at : Standing → Bool = λ (o : Standing). eqb o.place place in
    let count = sum_by-cons (λ (o : Standing). cond {A = ℕ} (at o) 1 0) offer offers in
    elim (cases_Bool (at offer)) [
      | inl here ↦
          let is : offer.place ≡ place = eqb-true offer.place place here in
          let one : cond {A = ℕ} (at offer) 1 0 ≡ 1 = ap (λ b. cond {A = ℕ} b 1 0) here in
          let none = count_by-none at offers (list_any_none at offers (All-weaker (λ o. offer.place < o.place) (λ o. at o ≡ false) (λ o above. ne_eqb o.place place (λ same. omega arith)) offers (behind_are_above offer offers by_place))) in
          omega (arith, count, one, none)
      | inr elsewhere ↦
          let nothing : cond {A = ℕ} (at offer) 1 0 ≡ 0 = ap (λ b. cond {A = ℕ} b 1 0) elsewhere in
          omega (arith, count, nothing, one_at_place offers place (behind_by_place offer offers by_place))
    ]

-- without an offer there is one fewer
pub one_fewer : (offers : List Standing) (offer : Standing) → ByPlace offers → Contains offers offer → length (without_place offers offer.place) + 1 ≡ length offers
one_fewer offers offer by_place there =
    let at : Standing → Bool = λ (o : Standing). eqb o.place offer.place in
    let both = length-filter_both at (λ o. not (at o)) (λ o. refl) offers in
    let some = get_or-le-sum_by (λ (o : Standing). cond {A = ℕ} (at o) 1 0) offers there.0 offer there.1 in
    let here : cond {A = ℕ} (at (get_or offers there.0 offer)) 1 0 ≡ 1 = ap (λ b. cond {A = ℕ} b 1 0) (ap at there.2 ∙ eq-eqb offer.place offer.place refl) in
    omega (arith, both, length-filter at offers, some, here, one_at_place offers offer.place by_place)

-- and of what the offer does not pass the same is left
pub kept_elsewhere : (p : Standing → Bool) (offers : List Standing) (offer : Standing) → ByPlace offers → Contains offers offer → p offer ≡ false →
    filter p (without_place offers offer.place) ≡ filter p offers
kept_elsewhere p offers offer by_place there fails =
    filter-filter p (λ o. not (eqb o.place offer.place)) offers
    ∙ filter_same (λ o. not (eqb o.place offer.place) && p o) p offers
    (All-weaker (Contains offers) (λ o. (not (eqb o.place offer.place) && p o) ≡ p o) (λ o has. by o has (cases_Bool (eqb o.place offer.place))) offers (All-contains_itself offers))
  where
    by : (o : Standing) → Contains offers o → ((eqb o.place offer.place ≡ true) ⊎ (eqb o.place offer.place ≡ false)) → (not (eqb o.place offer.place) && p o) ≡ p o
    by o has (inl here) =
        let is : o ≡ offer = same_by_place offers o offer by_place has there (eqb-true o.place offer.place here) in
        ap (λ b. not b && p o) here ∙ sym (ap p is ∙ fails)
    by o has (inr elsewhere) = ap (λ b. not b && p o) elsewhere

-- and what it does not pass is found as before
pub found_elsewhere : (p : Standing → Bool) (offers : List Standing) (offer : Standing) → ByPlace offers → Contains offers offer → p offer ≡ false →
    find p (without_place offers offer.place) ≡ find p offers
found_elsewhere p offers offer by_place there fails =
    sym (found_among p p (λ o h. h) (without_place offers offer.place)) ∙ ap (find p) (kept_elsewhere p offers offer by_place there fails) ∙ found_among p p (λ o h. h) offers

none_either : (b : Bool) → ◌≡◌ {A = Option Standing} None (cond b None None)
none_either true = refl
none_either false = refl

-- no offer is found at the place of one that went, and the others are found as before
pub at_without : (offers : List Standing) (place at : ℕ) → offer_at (without_place offers place) at ≡ cond (eqb place at) None (offer_at offers at)
at_without [] place at = none_either (eqb place at)
at_without (offer ∷ offers) place at = elim (cases_Bool (eqb offer.place place)) [
  | inl here ↦
      let is : offer.place ≡ place = eqb-true offer.place place here in
      rw here (at_without offers place at ∙ gone (eqb place at) (eqb offer.place at) (ap (λ n. eqb n at) is))
  | inr elsewhere ↦ rw elsewhere (elim (cases_Bool (eqb offer.place at)) [
    | inl here ↦
        let apart : eqb place at ≡ false = ne_eqb place at (λ same. let no : eqb offer.place place ≡ true = eq-eqb offer.place place (eqb-true offer.place at here ∙ sym same) in cc) in
        rw (here, apart) refl
    | inr further ↦ rw further (at_without offers place at)
  ])
]
  where
    gone : (b c : Bool) → c ≡ b → cond b None (offer_at offers at) ≡ cond b None (cond c (Some offer) (offer_at offers at))
    gone true c same = refl
    gone false c same = rw same refl

stands_without : (offers : List Standing) (place at : ℕ) → stands_at (without_place offers place) at ≡ (stands_at offers at && not (eqb at place))
stands_without offers place at =
    sym (find_is (λ (o : Standing). eqb o.place at) (without_place offers place)) ∙ ap is_some (at_without offers place at)
    ∙ by (eqb place at) (offer_at offers at) ∙ ap (λ b. b && not (eqb place at)) (find_is (λ (o : Standing). eqb o.place at) offers)
    ∙ ap (λ b. stands_at offers at && not b) (nat_eq_equiv.symm place at)
  where
    by : (b : Bool) (found : Option Standing) → is_some (cond b None found) ≡ (is_some found && not b)
    by true found = sym (and-false (is_some found))
    by false None = refl
    by false (Some offer) = refl

-- of the couplings whose offers stand those go that had the offer
tests_apart : (a b here there : Bool) → ((a && not here) && (b && not there)) ≡ ((a && b) && not (here || there))
tests_apart false b here there = refl
tests_apart true b true there = sym (and-false b)
tests_apart true b false there = refl

pub couplings_without : (offers : List Standing) (coupled : List Made) (place : ℕ) → without_coupling (couplings_among offers coupled) place ≡ couplings_among (without_place offers place) coupled
couplings_without offers coupled place =
    filter-filter (λ made. not (has_place place made)) (λ made. both_stand offers made.pair) coupled ∙ filter_alike _ _ (λ made. sym (both made)) coupled
  where
    both : (made : Made) → both_stand (without_place offers place) made.pair ≡ (both_stand offers made.pair && not (has_place place made))
    both made =
        ap (λ b. b && stands_at (without_place offers place) made.pair.b) (stands_without offers place made.pair.a)
        ∙ ap (λ b. (stands_at offers made.pair.a && not (eqb made.pair.a place)) && b) (stands_without offers place made.pair.b)
        ∙ tests_apart (stands_at offers made.pair.a) (stands_at offers made.pair.b) (eqb made.pair.a place) (eqb made.pair.b place)

-- one more by place is one more
pub one_more : (offers : List Standing) (new : Standing) → length (with_place offers new) ≡ length offers + 1
one_more offers new =
    let lower : Standing → Bool = λ (o : Standing). ltb o.place new.place in
    omega (arith, length-append (filter lower offers) (new ∷ filter (λ o. not (lower o)) offers), length-filter_both lower (λ o. not (lower o)) (λ o. refl) offers)

pub one_more_at_most : (offers : List Standing) (free : Option Standing) → length (with_free offers free) ≤ length offers + 1
one_more_at_most offers None = omega arith
one_more_at_most offers (Some free) = omega (arith, one_more offers free)

-- an offer below all others goes first
goes_first : (offers : List Standing) (new : Standing) → All (λ other. new.place < other.place) offers → with_place offers new ≡ new ∷ offers
goes_first offers new above =
    let lower : Standing → Bool = λ (o : Standing). ltb o.place new.place in
    let fails : All (λ o. lower o ≡ false) offers = All-weaker (λ other. new.place < other.place) (λ o. lower o ≡ false) (λ o h. le-ltb o.place new.place (omega arith)) offers above in
    ap (λ os. os ++ new ∷ filter (λ o. not (lower o)) offers) (none_kept lower offers fails)
    ∙ ap (λ os. new ∷ os) (filter_whole (λ o. not (lower o)) offers (All-weaker (λ o. lower o ≡ false) (λ o. not (lower o) ≡ true) (λ o f. ap not f) offers fails))

-- where one more passes a test, what passes has one more by place
pub passes_more : (p q : Standing → Bool) (offers : List Standing) (new : Standing) → ByPlace offers → Contains offers new → p new ≡ false → q new ≡ true →
    ((other : Standing) → Contains offers other → (other.place ≡ new.place → ⊥) → q other ≡ p other) → filter q offers ≡ with_place (filter p offers) new
passes_more p q [] new by_place there fails passes others = absurd (omega (arith, there.1))
passes_more p q (offer ∷ offers) new by_place there fails passes others =
    let above = behind_are_above offer offers by_place in
    let still : (other : Standing) → Contains offers other → (other.place ≡ new.place → ⊥) → q other ≡ p other = λ other has. others other (Contains-behind offer offers other has) in
    elim (Contains-cons_cases offer offers new there) [
      | inl here ↦
          let here_fails : p offer ≡ false = ap p here ∙ fails in
          let here_passes : q offer ≡ true = ap q here ∙ passes in
          let same : filter q offers ≡ filter p offers = filter_same q p offers (All-weaker (λ o. Contains offers o × (offer.place < o.place)) (λ o. q o ≡ p o) (λ o h. still o h.0 (λ same. let is = ap (λ (s : Standing). s.place) here in omega (arith, h.1, same, is))) offers (λ k d within. (All-contains_itself offers k d within, above k d within))) in
          rw (here_fails, here_passes) (ap (λ os. offer ∷ os) same ∙ sym (goes_first (filter p offers) offer (All-filter p (λ o. offer.place < o.place) offers above)) ∙ ap (with_place (filter p offers)) here)
      | inr behind ↦
          let lower : offer.place < new.place = All-contains (λ o. offer.place < o.place) offers new above behind in
          let rest = passes_more p q offers new (behind_by_place offer offers by_place) behind fails passes still in
          let same : q offer ≡ p offer = others offer (Contains-head offer offers) (λ at. omega (arith, lower, at)) in
          elim (cases_Bool (p offer)) [
            | inl in' ↦ rw (same, in', lt-ltb offer.place new.place lower) (ap (λ os. offer ∷ os) rest)
            | inr out ↦ rw (same, out) rest
          ]
    ]

-- by halves: what stands in front of a place, what is at it, and that none is
pub put_between : (offers : List Standing) (new : Standing) (i : ℕ) → i ≤ length offers → AllWithin (λ offer. offer.place < new.place) offers 0 i →
    AllWithin (λ offer. new.place ≤ offer.place) offers i (length offers) → insert offers i new ≡ with_place offers new
put_between offers new i within front rest =
    let halves =
    split_front (λ (o : Standing). ltb o.place new.place) offers i within (λ k d before. lt-ltb _ _ (front k d (omega arith) before)) (λ k d from inside. le-ltb _ _ (rest k d from inside)) in
    ap (λ os. os ++ new ∷ drop i offers) halves.0 ∙ ap (λ os. filter (λ (o : Standing). ltb o.place new.place) offers ++ new ∷ os) halves.1

pub none_there : (offers : List Standing) (place i : ℕ) → ByPlace offers → AllWithin (λ offer. offer.place < place) offers 0 i →
    AllWithin (λ offer. place ≤ offer.place) offers i (length offers) → ((d : Standing) → i < length offers → (get_or offers i d).place ≡ place → ⊥) → offers ≡ without_place offers place
none_there offers place i by_place front rest apart =
    sym (filter_whole (λ (o : Standing). not (eqb o.place place)) offers (λ k d within. ap not (ne_eqb (get_or offers k d).place place (λ here. elim (cases_order k i) [
      | inl at ↦
          let is = ap (λ (n : ℕ). (get_or offers n d).place) at in
          apart d (omega arith) (sym is ∙ here)
      | inr other ↦ elim other [
        | inl before ↦ let low = front k d (omega arith) before in omega arith
        | inr after ↦
            let above = by_place i k d after within in
            let from = rest i d (omega arith) (omega arith) in
            omega arith
      ]
    ]))))
