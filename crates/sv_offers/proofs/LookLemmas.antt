-- Offers that are looked up by their places.
use Rattle.std.proofs.Common.{◌≡◌, refl, ap, ◌∙◌, ℕ, ◌<◌, Bool, true, false, cond, List, [], ◌∷◌, map, filter, find, Option, Some, None, inl, inr, arith}
use Rattle.std.specs.Prelude.{All, Contains}
use Rattle.std.specs.Option.{option_or}
use Rattle.std.proofs.lemmas.Bool.{eq-eqb, ne_eqb}
use Rattle.std.proofs.lemmas.List.Elements.{All-contains, All-contains_itself, All-filter, All-head, All-tail, All-weaker}
use Rattle.sv_offer_laws.proofs.Members.{Contains-cons_cases}
use Rattle.sv_offers.proofs.FilterLemmas.{found_among}
use Rattle.sv_offers.proofs.PlaceLemmas.{behind_are_above, behind_by_place}
use Rattle.sv_offers.specs.Addressed.{is_made_to, places_to}
use Rattle.sv_offers.specs.Places.{ByPlace}
use Rattle.sv_offers.specs.Table.{passing}
use Rattle.sv_rules.specs.Coupling.{offer_at}
use Rattle.sv_rules.specs.declared.standing.Standing.{Standing}

-- an offer is found at its place
at_own : (offers : List Standing) (offer : Standing) → ByPlace offers → Contains offers offer → offer_at offers offer.place ≡ Some offer
at_own [] offer by_place there = absurd (omega (arith, there.1))
at_own (other ∷ offers) offer by_place there = elim (Contains-cons_cases other offers offer there) [
  | inl here ↦ ap (λ b. cond b (Some other) (offer_at offers offer.place)) (eq-eqb other.place offer.place (ap (λ (o : Standing). o.place) here)) ∙ ap Some here
  | inr behind ↦
      let lower : other.place < offer.place = All-contains (λ o. other.place < o.place) offers offer (behind_are_above other offers by_place) behind in
      ap (λ b. cond b (Some other) (offer_at offers offer.place)) (ne_eqb other.place offer.place (λ same. omega arith))
      ∙ at_own offers offer (behind_by_place other offers by_place) behind
]

-- the first of places that gives an offer
abbrev pub first_at : (ℕ → Option Standing) → List ℕ → Option Standing
first_at look [] = None
first_at look (place ∷ places) = option_or (look place) (first_at look places)

-- looked up one after another, the first offer that passes is found
abbrev Looks : (ℕ → Option Standing) → (Standing → Bool) → Standing → Type 0
Looks look test offer = look offer.place ≡ cond (test offer) (Some offer) None

first_passes : (offers : List Standing) (look : ℕ → Option Standing) (test : Standing → Bool) → All (Looks look test) offers → first_at look (map (λ o. o.place) offers) ≡ find test offers
first_passes [] look test looks = refl
first_passes (offer ∷ offers) look test looks =
    ap (λ o. option_or o (first_at look (map (λ o. o.place) offers))) (All-head (Looks look test) offer offers looks)
    ∙ by (test offer) (first_passes offers look test (All-tail (Looks look test) offer offers looks))
  where
    by : (b : Bool) → first_at look (map (λ o. o.place) offers) ≡ find test offers →
        option_or (cond b (Some offer) None) (first_at look (map (λ o. o.place) offers)) ≡ cond b (Some offer) (find test offers)
    by true rest = refl
    by false rest = rest

-- each offer that is made to a party is found at its place
all_look : (offers : List Standing) (party : ℕ) (surrogate : Option (List ℕ)) (test : Standing → Bool) → ByPlace offers →
    All (Looks (λ place. passing test (offer_at offers place)) test) (filter (is_made_to party surrogate) offers)
all_look offers party surrogate test by_place =
    let look : ℕ → Option Standing = λ place. passing test (offer_at offers place) in
    All-filter (is_made_to party surrogate) (Looks look test) offers
    (All-weaker (Contains offers) (Looks look test) (λ offer there. ap (passing test) (at_own offers offer by_place there)) offers (All-contains_itself offers))

pub first_made : (offers : List Standing) (party : ℕ) (surrogate : Option (List ℕ)) (test : Standing → Bool) → ByPlace offers →
    ((offer : Standing) → test offer ≡ true → is_made_to party surrogate offer ≡ true) →
    first_at (λ place. passing test (offer_at offers place)) (places_to offers party surrogate) ≡ find test offers
first_made offers party surrogate test by_place implies =
    first_passes (filter (is_made_to party surrogate) offers) (λ place. passing test (offer_at offers place)) test (all_look offers party surrogate test by_place)
    ∙ found_among test (is_made_to party surrogate) implies offers
