-- Offers in the order of their places, each kept under its own.
use Rattle.std.proofs.Common.{◌≡◌, refl, sym, ap, ap₂, ◌∙◌, ℕ, ◌<◌, Bool, true, false, not, cond, eqb, List, [], ◌∷◌, ◌++◌, filter, Some, inl, inr, arith}
use Rattle.std.specs.Prelude.{All}
use Rattle.std.specs.BTreeMap.{insert_entry, is_at}
use Rattle.std.specs.Map.{lookup, remove_entry, values_of}
use Rattle.std.specs.Ordering.{is_eq, match_ordering, nat_cmp}
use Rattle.std.specs.declared.cmp.Ordering.TheVariants.{Less, Equal, Greater}
use Rattle.std.proofs.lemmas.Bool.Decides.{nat_tests}
use Rattle.std.proofs.lemmas.Bool.{cases_Bool, eqb-true, eq-eqb, ne_eqb, le-ltb}
use Rattle.std.proofs.lemmas.List.{append-nil}
use Rattle.std.proofs.lemmas.List.Elements.{All-cons, All-head, All-tail, All-weaker, filter-append}
use Rattle.sv_offer_laws.proofs.Members.{filter_whole}
use Rattle.sv_offers.proofs.PlaceLemmas.{behind_are_above, behind_by_place}
use Rattle.sv_offers.specs.Places.{ByPlace, without_place}
use Rattle.sv_rules.specs.Coupling.{offer_at}
use Rattle.sv_rules.specs.declared.standing.Standing.{Standing}

-- an offer under its place
abbrev pub Under : (ℕ × Standing) → Type 0
Under entry = entry.0 ≡ entry.1.place

-- whether two numbers are in one place
pub same_test : (a b : ℕ) → is_eq (nat_cmp a b) ≡ eqb b a
same_test a b = grind (arith, nat_tests)

at_entry : (place : ℕ) (entry : ℕ × Standing) → Under entry → is_at (nat_cmp place) entry.0 ≡ eqb entry.1.place place
at_entry place entry under = same_test place entry.0 ∙ ap (λ n. eqb n place) under

-- what is found under a place is the offer there
pub found_under : (entries : List (ℕ × Standing)) (place : ℕ) → All Under entries → lookup (is_at (nat_cmp place)) entries ≡ offer_at (values_of entries) place
found_under [] place under = refl
found_under (e ∷ es) place under =
    ap (λ rest. cond (is_at (nat_cmp place) e.0) (Some e.1) rest) (found_under es place (All-tail Under e es under))
    ∙ ap (λ b. cond b (Some e.1) (offer_at (values_of es) place)) (at_entry place e (All-head Under e es under))

-- an offer above all goes last
pub goes_last : (entries : List (ℕ × Standing)) (new : Standing) → All Under entries → All (λ (o : Standing). o.place < new.place) (values_of entries) →
    insert_entry nat_cmp entries new.place new ≡ entries ++ (new.place, new) ∷ []
goes_last [] new under above = refl
goes_last (e ∷ es) new under above =
    let here : e.0 ≡ e.1.place = All-head Under e es under in
    let low : e.1.place < new.place = All-head (λ (o : Standing). o.place < new.place) e.1 (values_of es) above in
    let later : nat_cmp new.place e.0 ≡ Greater =
    ap₂ (λ l s. cond l Less (cond s Equal Greater)) (le-ltb new.place e.0 (omega arith)) (ne_eqb new.place e.0 (λ same. omega arith)) in
    ap (λ o. match_ordering o ((new.place, new) ∷ e ∷ es) ((e.0, new) ∷ es) (e ∷ insert_entry nat_cmp es new.place new)) later
    ∙ ap (λ rest. e ∷ rest) (goes_last es new (All-tail Under e es under) (All-tail (λ (o : Standing). o.place < new.place) e.1 (values_of es) above))

pub last_value : (entries : List (ℕ × Standing)) (new : Standing) → values_of (entries ++ (new.place, new) ∷ []) ≡ values_of entries ++ new ∷ []
last_value [] new = refl
last_value (e ∷ es) new = ap (λ rest. e.1 ∷ rest) (last_value es new)

-- without the entry under a place the offer there is gone
pub goes_from : (entries : List (ℕ × Standing)) (place : ℕ) → All Under entries → ByPlace (values_of entries) →
    values_of (remove_entry (is_at (nat_cmp place)) entries) ≡ without_place (values_of entries) place
goes_from [] place under by_place = refl
goes_from (e ∷ es) place under by_place =
    let others = values_of es in
    let elsewhere_than : Standing → Bool = λ (o : Standing). not (eqb o.place place) in
    let test = at_entry place e (All-head Under e es under) in
    let rest = remove_entry (is_at (nat_cmp place)) es in
    elim (cases_Bool (eqb e.1.place place)) [
      | inl here ↦
          let is : e.1.place ≡ place = eqb-true e.1.place place here in
          let all = filter_whole elsewhere_than others
          (All-weaker (λ (o : Standing). e.1.place < o.place) (λ o. elsewhere_than o ≡ true) (λ o above. ap not (ne_eqb o.place place (λ same. omega arith))) others
          (behind_are_above e.1 others by_place)) in
          ap (λ b. values_of (cond b es (e ∷ rest))) (test ∙ here) ∙ sym all ∙ sym (ap (λ b. cond (not b) (e.1 ∷ filter elsewhere_than others) (filter elsewhere_than others)) here)
      | inr elsewhere ↦
          ap (λ b. values_of (cond b es (e ∷ rest))) (test ∙ elsewhere)
          ∙ ap (λ os. e.1 ∷ os) (goes_from es place (All-tail Under e es under) (behind_by_place e.1 others by_place))
          ∙ sym (ap (λ b. cond (not b) (e.1 ∷ filter elsewhere_than others) (filter elsewhere_than others)) elsewhere)
    ]

pub still_under : (test : ℕ → Bool) (entries : List (ℕ × Standing)) → All Under entries → All Under (remove_entry test entries)
still_under test [] under = under
still_under test (e ∷ es) under = by (test e.0) (still_under test es (All-tail Under e es under))
  where
    by : (b : Bool) → All Under (remove_entry test es) → All Under (cond b es (e ∷ remove_entry test es))
    by true rest = All-tail Under e es under
    by false rest = All-cons Under e (remove_entry test es) (All-head Under e es under) rest

-- an offer that went last and goes again leaves those that were
pub last_gone : (offers : List Standing) (new : Standing) → All (λ (o : Standing). o.place < new.place) offers → without_place (offers ++ new ∷ []) new.place ≡ offers
last_gone offers new above =
    let others : Standing → Bool = λ (o : Standing). not (eqb o.place new.place) in
    filter-append others offers (new ∷ [])
    ∙ ap₂ (λ (xs ys : List Standing). xs ++ ys)
    (filter_whole others offers (All-weaker (λ (o : Standing). o.place < new.place) (λ o. others o ≡ true) (λ o low. ap not (ne_eqb o.place new.place (λ same. omega arith))) offers above))
    (ap (λ b. cond (not b) (new ∷ []) []) (eq-eqb new.place new.place refl))
    ∙ append-nil offers
