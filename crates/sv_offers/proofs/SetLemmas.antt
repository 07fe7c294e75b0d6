-- Places that ascend, with one more above all and with one fewer.
use Rattle.std.proofs.Common.{◌≡◌, refl, sym, ap, ap₂, ◌∙◌, ℕ, zero, suc, ◌<◌, Bool, true, not, cond, eqb, List, [], ◌∷◌, ◌++◌, inl, inr, arith}
use Rattle.std.specs.Prelude.{All, AllPairs}
use Rattle.std.specs.BTreeMap.{is_at}
use Rattle.std.specs.BTreeSet.{insert_key}
use Rattle.std.specs.Set.{remove_key}
use Rattle.std.specs.Ordering.{match_ordering, nat_cmp}
use Rattle.std.specs.declared.cmp.Ordering.TheVariants.{Less, Equal, Greater}
use Rattle.std.proofs.lemmas.Bool.{cases_Bool, eqb-true, eq-eqb, ne_eqb, le-ltb}
use Rattle.std.proofs.lemmas.List.{append-nil}
use Rattle.std.proofs.lemmas.List.Elements.{All-head, All-tail, All-weaker, filter-append}
use Rattle.sv_offer_laws.proofs.Members.{filter_whole}
use Rattle.sv_offers.proofs.OrderLemmas.{same_test}
use Rattle.sv_offers.specs.Addressed.{other_places}

-- places behind one are above it, and ascend
behind_above : (place : ℕ) (places : List ℕ) → AllPairs (λ one other. one < other) (place ∷ places) → All (λ other. place < other) places
behind_above place places ascend = λ k d within. ascend zero (suc k) d (omega arith) (omega (arith, within))

behind_ascend : (place : ℕ) (places : List ℕ) → AllPairs (λ one other. one < other) (place ∷ places) → AllPairs (λ one other. one < other) places
behind_ascend place places ascend = λ i j d before within. ascend (suc i) (suc j) d (omega (arith, before)) (omega (arith, within))

-- a place above all goes last
pub place_goes_last : (places : List ℕ) (place : ℕ) → All (λ other. other < place) places → insert_key nat_cmp places place ≡ places ++ place ∷ []
place_goes_last [] place above = refl
place_goes_last (other ∷ places) place above =
    let low : other < place = All-head (λ (p : ℕ). p < place) other places above in
    let later : nat_cmp place other ≡ Greater =
    ap₂ (λ l s. cond l Less (cond s Equal Greater)) (le-ltb place other (omega arith)) (ne_eqb place other (λ same. omega arith)) in
    ap (λ o. match_ordering o (place ∷ other ∷ places) (other ∷ places) (other ∷ insert_key nat_cmp places place)) later
    ∙ ap (λ rest. other ∷ rest) (place_goes_last places place (All-tail (λ (p : ℕ). p < place) other places above))

-- a place that is taken out is in none that are left
pub place_goes : (places : List ℕ) (place : ℕ) → AllPairs (λ one other. one < other) places → remove_key (is_at (nat_cmp place)) places ≡ other_places places place
place_goes [] place ascend = refl
place_goes (other ∷ places) place ascend =
    let test = same_test place other in
    let rest = remove_key (is_at (nat_cmp place)) places in
    elim (cases_Bool (eqb other place)) [
      | inl here ↦
          let is : other ≡ place = eqb-true other place here in
          let all = filter_whole (λ (p : ℕ). not (eqb p place)) places
          (All-weaker (λ (p : ℕ). other < p) (λ p. not (eqb p place) ≡ true) (λ p above. ap not (ne_eqb p place (λ same. omega arith))) places (behind_above other places ascend)) in
          ap (λ b. cond b places (other ∷ rest)) (test ∙ here) ∙ sym all ∙ sym (ap (λ b. cond (not b) (other ∷ other_places places place) (other_places places place)) here)
      | inr elsewhere ↦
          ap (λ b. cond b places (other ∷ rest)) (test ∙ elsewhere)
          ∙ ap (λ ps. other ∷ ps) (place_goes places place (behind_ascend other places ascend))
          ∙ sym (ap (λ b. cond (not b) (other ∷ other_places places place) (other_places places place)) elsewhere)
    ]

-- a place that went last and goes again leaves those that were
pub last_place_gone : (places : List ℕ) (place : ℕ) → All (λ other. other < place) places → other_places (places ++ place ∷ []) place ≡ places
last_place_gone places place above =
    let others : ℕ → Bool = λ (p : ℕ). not (eqb p place) in
    filter-append others places (place ∷ [])
    ∙ ap₂ (λ (xs ys : List ℕ). xs ++ ys)
    (filter_whole others places (All-weaker (λ (p : ℕ). p < place) (λ p. others p ≡ true) (λ p low. ap not (ne_eqb p place (λ same. omega arith))) places above))
    (ap (λ b. cond (not b) (place ∷ []) []) (eq-eqb place place refl))
    ∙ append-nil places
