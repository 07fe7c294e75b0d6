-- Lists of offers by a party, with one offer more, and with one fewer.
use Rattle.std.proofs.Common.{◌≡◌, refl, sym, ap, ◌∙◌, ℕ, Bool, true, false, not, ◌&&◌, cond, eqb, List, [], ◌∷◌, ◌++◌, inl, inr}
use Rattle.std.proofs.lemmas.List.{append-nil}
use Rattle.std.proofs.lemmas.List.Elements.{filter-append}
use Rattle.std.proofs.lemmas.Bool.{both_ways, cases_Bool, true_from_ne_false}
use Rattle.std.specs.List.{filter}
use Rattle.std.specs.Prelude.{Contains}
use Rattle.apl_arrays.specs.Name.{same_name}
use Rattle.sv_events.specs.declared.row.Ending.{Ending}
use Rattle.sv_events.specs.declared.row.Ending.TheVariants.{One, All}
use Rattle.sv_offers.proofs.FilterLemmas.{commute}
use Rattle.sv_offers.proofs.PlaceLemmas.{kept_elsewhere}
use Rattle.sv_offers.specs.Places.{ByPlace, without_place}
use Rattle.sv_rules.specs.Standing.{is_ended}
use Rattle.sv_rules.specs.declared.standing.Standing.{Standing}

-- a party's offers
abbrev pub of_party : ℕ → Standing → Bool
of_party party offer = eqb offer.party party

abbrev pub to_party : ℕ → Standing → Bool
to_party party offer = eqb offer.to party

grown : {X : Type 0} (b : Bool) (xs : List X) (x : X) → cond b (xs ++ x ∷ []) xs ≡ xs ++ cond b (x ∷ []) []
grown true xs x = refl
grown false xs x = sym (append-nil xs)

-- one offer more, in its list and in no other
pub pushed : (p : Standing → Bool) (offers : List Standing) (new : Standing) →
    cond (p new) (filter p offers ++ new ∷ []) (filter p offers) ≡ filter p (offers ++ new ∷ [])
pushed p offers new = grown (p new) (filter p offers) new ∙ sym (filter-append p offers (new ∷ []))

-- only a party's own offers end by its act
pub ended_is_own : (party : ℕ) (ending : Ending) (offer : Standing) → of_party party offer ≡ false → is_ended party ending offer ≡ false
ended_is_own party (One local) offer other = ap (λ b. b && same_name offer.local local) other
ended_is_own party All offer other = other

pub ended_by_own : (party : ℕ) (ending : Ending) (offer : Standing) → is_ended party ending offer ≡ true → of_party party offer ≡ true
ended_by_own party ending offer ends =
    true_from_ne_false (of_party party offer) (λ other. both_ways (is_ended party ending offer) (ended_is_own party ending offer other) ends)

-- one offer fewer, in its list and in no other
pub taken : (p : Standing → Bool) (offers : List Standing) (offer : Standing) → ByPlace offers → Contains offers offer →
    cond (p offer) (without_place (filter p offers) offer.place) (filter p offers) ≡ filter p (without_place offers offer.place)
taken p offers offer by_place there = elim (cases_Bool (p offer)) [
  | inl own ↦ rw own (commute (λ o. not (eqb o.place offer.place)) p offers)
  | inr others ↦ rw others (sym (kept_elsewhere p offers offer by_place there others))
]
