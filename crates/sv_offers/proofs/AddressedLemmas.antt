-- Lists of places by the party that offers are made to, with a list more and with a list fewer.
use Rattle.std.proofs.Common.{◌≡◌, refl, ap, ap₂, sym, ◌∙◌, ◌<◌, ℕ, Bool, true, false, not, cond, eqb, List, [], ◌∷◌, ◌++◌, map, length, Option, Some, None, arith}
use Rattle.std.specs.List.{filter}
use Rattle.std.specs.Prelude.{All, Contains, option_map}
use Rattle.std.specs.Option.{option_eq, unwrap_or}
use Rattle.std.proofs.lemmas.Bool.{and_parts, eqb-true}
use Rattle.std.proofs.lemmas.List.{map_push}
use Rattle.apl_arrays.specs.Name.{same_name}
use Rattle.sv_offer_laws.proofs.OwnLemmas.{same_name-is}
use Rattle.sv_offers.proofs.SetLemmas.{last_place_gone}
use Rattle.sv_offers.proofs.PartyListLemmas.{pushed, taken}
use Rattle.sv_offers.specs.Addressed.{is_made_to, places_to, same_list, other_places}
use Rattle.sv_offers.specs.Places.{ByPlace, without_place}
use Rattle.sv_offers.specs.declared.place_set.PlaceSet.{PlaceSet}
use Rattle.sv_rules.specs.declared.standing.Standing.{Standing}

same_option : (one other : Option (List ℕ)) → option_eq same_name one other ≡ true → one ≡ other
same_option None None same = refl
same_option None (Some y) same = cc
same_option (Some x) None same = cc
same_option (Some x) (Some y) same = ap Some (same_name-is x y same)

-- two keys that are told to be the same are
pub list_is : (one other : ℕ × Option (List ℕ)) → same_list one other ≡ true → one ≡ other
list_is one other same =
    let parts = and_parts (eqb one.0 other.0) (option_eq same_name one.1 other.1) same in
    ap₂ (λ (party : ℕ) (name : Option (List ℕ)). (party, name)) (eqb-true one.0 other.0 parts.0) (same_option one.1 other.1 parts.1)

-- a new list without an offer adds none
pub none_added : (here : Bool) (new : PlaceSet) (old : Option PlaceSet) → new ≡ [] → (here ≡ true → old ≡ None) → unwrap_or (cond here (Some new) old) [] ≡ unwrap_or old []
none_added true new old empty none = empty ∙ sym (ap (λ list. unwrap_or list []) (none refl))
none_added false new old empty none = refl

-- a list without an offer takes none along
pub none_taken : (here : Bool) (old : Option PlaceSet) → (here ≡ true → unwrap_or old [] ≡ []) → unwrap_or (cond here None old) [] ≡ unwrap_or old []
none_taken true old none = sym (none refl)
none_taken false old none = refl

-- what a change of a list that makes nothing of no offers makes of its own
pub changed_or_none : (here : Bool) (change : PlaceSet → PlaceSet) (old : Option PlaceSet) → change [] ≡ [] →
    unwrap_or (cond here (option_map change old) old) [] ≡ cond here (change (unwrap_or old [])) (unwrap_or old [])
changed_or_none true change None nothing = sym nothing
changed_or_none true change (Some list) nothing = refl
changed_or_none false change old nothing = refl

-- a list that stays in its place is as before
pub kept_there : (here : Bool) (new : PlaceSet) (old : Option PlaceSet) → (here ≡ true → old ≡ Some new) → cond here (Some new) old ≡ old
kept_there true new old same = sym (same refl)
kept_there false new old same = refl

-- a place that went last in a list and goes again leaves those that were
pub added_and_gone : (here : Bool) (places : List ℕ) (place : ℕ) → (here ≡ true → All (λ other. other < place) places) →
    (let added : List ℕ = cond here (places ++ place ∷ []) places in cond here (other_places added place) added) ≡ places
added_and_gone true places place above = last_place_gone places place (above refl)
added_and_gone false places place above = refl

-- no length is no place
pub no_places : (places : List ℕ) → length places ≡ 0 → places ≡ []
no_places [] none = refl
no_places (place ∷ places) none = absurd (omega (arith, none))

-- the places of offers, with one more and with one fewer
places_with : (b : Bool) (offers : List Standing) (new : Standing) →
    cond b (map (λ o. o.place) offers ++ new.place ∷ []) (map (λ o. o.place) offers) ≡ map (λ o. o.place) (cond b (offers ++ new ∷ []) offers)
places_with true offers new = sym (map_push (λ (o : Standing). o.place) offers new)
places_with false offers new = refl

places_without : (offers : List Standing) (place : ℕ) → other_places (map (λ o. o.place) offers) place ≡ map (λ o. o.place) (without_place offers place)
places_without [] place = refl
places_without (offer ∷ offers) place = by (not (eqb offer.place place)) (places_without offers place)
  where
    by : (b : Bool) → other_places (map (λ o. o.place) offers) place ≡ map (λ o. o.place) (without_place offers place) →
        cond b (offer.place ∷ other_places (map (λ o. o.place) offers) place) (other_places (map (λ o. o.place) offers) place)
        ≡ map (λ o. o.place) (cond b (offer ∷ without_place offers place) (without_place offers place))
    by true rest = ap (λ ps. offer.place ∷ ps) rest
    by false rest = rest

places_but : (b : Bool) (offers : List Standing) (place : ℕ) →
    cond b (other_places (map (λ o. o.place) offers) place) (map (λ o. o.place) offers) ≡ map (λ o. o.place) (cond b (without_place offers place) offers)
places_but true offers place = places_without offers place
places_but false offers place = refl

-- one offer more, and one fewer, in its lists and in no other
pub pushed_place : (party : ℕ) (surrogate : Option (List ℕ)) (offers : List Standing) (new : Standing) →
    cond (is_made_to party surrogate new) (places_to offers party surrogate ++ new.place ∷ []) (places_to offers party surrogate) ≡ places_to (offers ++ new ∷ []) party surrogate
pushed_place party surrogate offers new =
    let p : Standing → Bool = is_made_to party surrogate in
    places_with (p new) (filter p offers) new ∙ ap (map (λ o. o.place)) (pushed p offers new)

pub taken_place : (party : ℕ) (surrogate : Option (List ℕ)) (offers : List Standing) (offer : Standing) → ByPlace offers → Contains offers offer →
    cond (is_made_to party surrogate offer) (other_places (places_to offers party surrogate) offer.place) (places_to offers party surrogate) ≡ places_to (without_place offers offer.place) party surrogate
taken_place party surrogate offers offer by_place there =
    let p : Standing → Bool = is_made_to party surrogate in
    places_but (p offer) (filter p offers) offer.place ∙ ap (map (λ o. o.place)) (taken p offers offer by_place there)
