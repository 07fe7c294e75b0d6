-- The first of each key.
use Rattle.std.proofs.Common.{◌≡◌, refl, sym, ap, ap₂, ◌∙◌, ℕ, ◌<◌, ◌^◌, Bool, true, false, ◌||◌, cond, eqb, List, [], ◌∷◌, Option, Some, None, filter, find, inl, inr, subst}
use Rattle.std.specs.Prelude.{All, Contains, is_some}
use Rattle.std.specs.HashMap.{get}
use Rattle.std.specs.List.{list_any}
use Rattle.std.specs.Option.{option_or}
use Rattle.std.proofs.lemmas.Bool.{and_parts, cases_Bool, eqb-true}
use Rattle.apl_arrays.specs.Name.{same_name}
use Rattle.sv_offer_laws.proofs.LookupLemmas.{find_is}
use Rattle.sv_offer_laws.proofs.Members.{list_any_member}
use Rattle.sv_offer_laws.proofs.OwnLemmas.{own-itself, same_name-is}
use Rattle.sv_offers.proofs.FilterLemmas.{found_among}
use Rattle.sv_offers.proofs.PlaceLemmas.{found_elsewhere}
use Rattle.sv_offers.proofs.PartyListLemmas.{of_party}
use Rattle.sv_offers.specs.Addressed.{listed_at, places_to}
use Rattle.sv_offers.specs.Finding.{same_key}
use Rattle.sv_offers.specs.Inside.{AreFound}
use Rattle.sv_offers.specs.Places.{ByPlace, without_place}
use Rattle.sv_offers.specs.Senders.{has_sent, is_sent}
use Rattle.sv_offers.specs.PartyList.{list_at}
use Rattle.sv_offers.specs.declared.standings.Standings.TheInside.{Inside}
use Rattle.sv_rules.specs.Standing.{is_own, own_offer}
use Rattle.sv_rules.specs.declared.standing.Standing.{Standing}

-- what is found is there
pub found_any : {X : Type 0} (p : X → Bool) (xs : List X) → is_some (find p xs) ≡ list_any p xs
found_any p [] = refl
found_any {X} p (x ∷ xs) = by (p x) (found_any p xs)
  where
    by : (b : Bool) → is_some (find p xs) ≡ list_any p xs → is_some (cond b (Some x) (find p xs)) ≡ (b || list_any p xs)
    by true rest = refl
    by false rest = rest

-- nothing is what is not there
pub none_from_test : {X : Type 0} (found : Option X) → is_some found ≡ false → found ≡ None
none_from_test None none = refl
none_from_test (Some x) none = cc

-- what is found by the party and the local name of an offer is found by all that these are
by_own : {X : Type 0} (found : ℕ → List ℕ → X) (offer : Standing) (party : ℕ) (local : List ℕ) → is_own party local offer ≡ true →
    found offer.party offer.local ≡ found party local
by_own found offer party local own =
    let parts = and_parts (eqb offer.party party) (same_name offer.local local) own in
    ap₂ found (eqb-true offer.party party parts.0) (same_name-is offer.local local parts.1)

-- by those of an offer that stands one is found
pub one_by_name : (offers : List Standing) (offer : Standing) → Contains offers offer → is_some (own_offer offers offer.party offer.local) ≡ true
one_by_name offers offer there =
    find_is (is_own offer.party offer.local) offers ∙ list_any_member (is_own offer.party offer.local) offers offer (own-itself offer) there

-- and it is found among the party's own
pub own_among : (offers : List Standing) (party : ℕ) (local : List ℕ) → own_offer (filter (of_party party) offers) party local ≡ own_offer offers party local
own_among offers party local =
    found_among (is_own party local) (of_party party) (λ offer own. (and_parts (eqb offer.party party) (same_name offer.local local) own).0) offers

-- an offer that comes where nothing was found is found behind what was
pub name_noted : (found : ℕ → List ℕ → Option Standing) (offer : Standing) → is_some (found offer.party offer.local) ≡ false → (party : ℕ) (local : List ℕ) →
    cond (is_own party local offer) (Some offer) (found party local) ≡ option_or (found party local) (cond (is_own party local offer) (Some offer) None)
name_noted found offer none party local =
    by (is_own party local offer) (found party local) (λ own. sym (by_own found offer party local own) ∙ none_from_test (found offer.party offer.local) none)
  where
    by : (b : Bool) (old : Option Standing) → (b ≡ true → old ≡ None) → cond b (Some offer) old ≡ option_or old (cond b (Some offer) None)
    by true old none = rw (none refl) refl
    by false None none = refl
    by false (Some other) none = refl

-- by the party and the local name of an offer that went the next is found, and by others what was
pub name_replaced : (offers : List Standing) (gone : Standing) (next : Option Standing) → ByPlace offers → Contains offers gone →
    next ≡ own_offer (without_place offers gone.place) gone.party gone.local → (party : ℕ) (local : List ℕ) →
    cond (is_own party local gone) next (own_offer offers party local) ≡ own_offer (without_place offers gone.place) party local
name_replaced offers gone next by_place there is party local =
    let own : Standing → Bool = is_own party local in
    let left = without_place offers gone.place in
    elim (cases_Bool (own gone)) [
      | inl here ↦ rw here (is ∙ by_own (own_offer left) gone party local here)
      | inr elsewhere ↦ rw elsewhere
          (sym (found_elsewhere own offers gone by_place there elsewhere))
    ]

-- where the lists and the map answer as before, the offers are found as before
pub found_as_before : (old new : Inside) → AreFound old → new.placed ≡ old.placed → ((party : ℕ) → list_at new.own party ≡ list_at old.own party) →
    ((party : ℕ) (surrogate : Option (List ℕ)) → listed_at new.made_to party surrogate ≡ listed_at old.made_to party surrogate) →
    ((to from place : ℕ) → has_sent new.senders to from place ≡ has_sent old.senders to from place) →
    ((key : ℕ × List ℕ) → get same_key new.named key ≡ get same_key old.named key) → AreFound new
found_as_before old new found offers own made_to sent named = record {
  by_place = subst ByPlace (sym offers) found.by_place;
  fits = subst (All (λ offer. offer.place < 2 ^ 64)) (sym offers) found.fits;
  own = λ party. own party ∙ found.own party ∙ ap (filter (of_party party)) (sym offers);
  made_to = λ party surrogate. made_to party surrogate ∙ found.made_to party surrogate ∙ ap (λ (os : List Standing). places_to os party surrogate) (sym offers);
  sent = λ to from place. sent to from place ∙ found.sent to from place ∙ ap (list_any (is_sent to from place)) (sym offers);
  named = λ party local. named (party, local) ∙ found.named party local ∙ ap (λ (os : List Standing). own_offer os party local) (sym offers);
}
