-- The offers and the couplings of a table fit together after each change.
use Rattle.std.proofs.Common.{◌≡◌, refl, ap, ◌∙◌, ℕ, ◌<◌, Bool, true, false, not, eqb, List, [], ◌∷◌, ◌++◌, Option, Some, None, inl, inr, arith}
use Rattle.std.specs.Prelude.{All, Contains, option_map, option_to_list}
use Rattle.std.proofs.lemmas.Bool.{and_from, and_parts, eqb-true, eq-eqb, ne_eqb, or_from, or_left}
use Rattle.std.proofs.lemmas.List.{append-nil}
use Rattle.std.proofs.lemmas.List.Elements.{All-append, All-contains, All-push, All-weaker, Contains-append_left, Contains-push, filter_passes}
use Rattle.std.proofs.lemmas.List.Folds.{Any-from_list_any, list_any-append, list_any_none}
use Rattle.std.proofs.lemmas.List.Kept.{AllPairs-filter}
use Rattle.std.proofs.lemmas.List.Quantifiers.{all_pairs_push}
use Rattle.sv_events.specs.declared.row.Ending.{Ending}
use Rattle.sv_offer_laws.proofs.MatchLemmas.{open_match_is, pair_of_cases}
use Rattle.sv_offer_laws.proofs.Members.{Contains-from_filter, count_by-filter, list_any_member}
use Rattle.sv_offer_laws.proofs.RecoupledLemmas.{IsMadeOf, recoupled_made, recoupled_once, uses_of-push}
use Rattle.sv_offers.specs.Places.{AreOnce, FitTogether, IsNext}
use Rattle.sv_offers.specs.Table.{PlainOffers, after_ending, after_offer}
use Rattle.sv_rules.specs.Coupling.{both_stand, has_place, is_coupled, kept_by_ending, made_by_ending, open_match, pair_of, reopened_by_ending, stands_at}
use Rattle.sv_rules.specs.Standing.{is_ended, without_ended}
use Rattle.sv_rules.specs.declared.coupling.Made.{Made}
use Rattle.sv_rules.specs.declared.standing.Standing.{Standing}

-- both offers of the pair stand
abbrev pub Stands : List Standing → Made → Type 0
Stands offers made = both_stand offers made.pair ≡ true

-- the pair of two offers that stand
pair_stands : (offers : List Standing) (one other : Standing) → Contains offers one → Contains offers other → both_stand offers (pair_of one other) ≡ true
pair_stands offers one other has_one has_other = elim (pair_of_cases one other) [
  | inl c ↦ rw (c.1, c.2) (and_from _ _ (at one has_one) (at other has_other))
  | inr c ↦ rw (c.1, c.2) (and_from _ _ (at other has_other) (at one has_one))
]
  where
    at : (offer : Standing) → Contains offers offer → stands_at offers offer.place ≡ true
    at offer has = list_any_member (λ o. eqb o.place offer.place) offers offer (eq-eqb offer.place offer.place refl) has

-- after an ending
pub fit_after_ending : (at : ℕ) (table : PlainOffers) (party : ℕ) (ending : Ending) → FitTogether table → FitTogether (after_ending at table party ending)
fit_after_ending at table party ending fit =
    let left = without_ended table.offers party ending in
    let stand : Made → Bool = λ (m : Made). both_stand left m.pair in
    let kept = kept_by_ending table.offers table.coupled party ending in
    let reopened = reopened_by_ending table.offers table.coupled party ending in
    let made = made_by_ending at table.offers table.coupled party ending in
    let of_two = recoupled_made left kept at reopened (λ o has. Contains-from_filter _ left o has) in
    record {
      by_place = AllPairs-filter (λ (one other : Standing). one.place < other.place) (λ o. not (is_ended party ending o)) table.offers fit.by_place;
      stand = All-append (Stands left) kept made (filter_passes stand table.coupled)
          (All-weaker (IsMadeOf left at) (Stands left) (λ m h. ap (both_stand left) h.same_pair ∙ pair_stands left h.one h.other h.has_one h.has_other) made of_two);
      once = recoupled_once left kept at reopened (λ place. omega (arith, count_by-filter (has_place place) stand table.coupled, fit.once place));
    }

-- a place above all is in no coupling
above_is_open : (table : PlainOffers) (place : ℕ) → FitTogether table → IsNext table place → is_coupled table.coupled place ≡ false
above_is_open table place fit next =
    list_any_none (has_place place) table.coupled
    (All-weaker (Stands table.offers) (λ m. has_place place m ≡ false)
    (λ m h. let parts = and_parts (stands_at table.offers m.pair.a) (stands_at table.offers m.pair.b) h in or_from _ _ (apart m.pair.a parts.0) (apart m.pair.b parts.1))
    table.coupled fit.stand)
  where
    apart : (at : ℕ) → stands_at table.offers at ≡ true → eqb at place ≡ false
    apart at stands =
        let found = Any-from_list_any (λ (o : Standing). eqb o.place at) table.offers stands in
        let here : found.1.place ≡ at = eqb-true found.1.place at found.4 in
        let below = All-contains (λ (o : Standing). o.place < place) table.offers found.1 next.above (found.0, found.2, found.3) in
        ne_eqb at place (λ same. omega arith)

-- after an offer
stands_more : (offers : List Standing) (new : Standing) (made : Made) → Stands offers made → Stands (offers ++ new ∷ []) made
stands_more offers new made stands =
    let parts = and_parts (stands_at offers made.pair.a) (stands_at offers made.pair.b) stands in
    and_from _ _ (still made.pair.a parts.0) (still made.pair.b parts.1)
  where
    still : (at : ℕ) → stands_at offers at ≡ true → stands_at (offers ++ new ∷ []) at ≡ true
    still at stands = list_any-append (λ (o : Standing). eqb o.place at) offers (new ∷ []) ∙ or_left _ _ stands

pub fit_after_offer : (table : PlainOffers) (new : Standing) → FitTogether table → IsNext table new.place → FitTogether (after_offer table new)
fit_after_offer table new fit next = by (open_match table.offers table.coupled new) refl
  where
    offers_more : (coupled : List Made) → All (Stands (table.offers ++ new ∷ [])) coupled → AreOnce coupled → FitTogether (record { offers = table.offers ++ new ∷ []; coupled = coupled })
    offers_more coupled stand once = record {
      by_place = all_pairs_push (λ (one other : Standing). one.place < other.place) table.offers new fit.by_place (λ k d within. next.above k d within);
      stand = stand;
      once = once;
    }

    old : All (Stands (table.offers ++ new ∷ [])) table.coupled
    old = All-weaker (Stands table.offers) (Stands (table.offers ++ new ∷ [])) (λ m h. stands_more table.offers new m h) table.coupled fit.stand

    by : (match : Option Standing) → open_match table.offers table.coupled new ≡ match →
        FitTogether (record { offers = table.offers ++ new ∷ []; coupled = table.coupled ++ option_to_list (option_map (λ match. let m : Made = record { pair = pair_of match new; at = new.place } in m) match) })
    by None none = offers_more (table.coupled ++ []) (rw (append-nil table.coupled) old) (rw (append-nil table.coupled) fit.once)
    by (Some match) found =
        let m : Made = record { pair = pair_of match new; at = new.place } in
        let is = open_match_is table.offers table.coupled new match found in
        offers_more (table.coupled ++ m ∷ [])
        (All-push (Stands (table.offers ++ new ∷ [])) table.coupled m old
        (pair_stands (table.offers ++ new ∷ []) match new (Contains-append_left table.offers (new ∷ []) match is.2) (Contains-push table.offers new)))
        (uses_of-push table.coupled new.place match new is.0 (above_is_open table new.place fit next) fit.once)
