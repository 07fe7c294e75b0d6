-- A party has one standing offer of a local name.
use Rattle.std.proofs.Common.{◌≡◌, refl, sym, ap, ap₂, ◌∙◌, ℕ, Bool, true, not, eqb, List, [], ◌∷◌, ◌++◌, Option, Some, None, inl, inr}
use Rattle.std.specs.Prelude.{Contains, All, filter, find, is_none}
use Rattle.std.proofs.lemmas.Bool.{cases_Bool, cond_both, and_parts, and_from, eq-eqb, eqb-true}
use Rattle.std.proofs.lemmas.Cmp.{nat_list_eq_equiv}
use Rattle.std.proofs.lemmas.Option.{same_Some}
use Rattle.std.proofs.lemmas.List.Elements.{All-nil, All-push, All-filter, All-weaker, All-contains, filter_passes}
use Rattle.std.proofs.lemmas.Slice.Eq.{bytes_eq-Decides}
use Rattle.sv_events.specs.Row.{act_row}
use Rattle.sv_events.specs.declared.row.AnswerKind.{AnswerKind}
use Rattle.sv_events.specs.declared.row.Ending.{Ending}
use Rattle.sv_events.specs.declared.row.Opening.{Opening}
use Rattle.sv_rules.specs.declared.standing.Standing.{Standing}
use Rattle.apl_arrays.specs.Name.{same_name}
use Rattle.sv_events.specs.Fits.{is_degree}
use Rattle.sv_rules.specs.Entries.{Entries, next_place, kind_of}
use Rattle.sv_rules.specs.Standing.{standing, own_offer, with_offer, with_opened, with_ended, without_ended, is_ended, is_own, offer_made}
use Rattle.sv_offer_laws.proofs.Members.{find_passed, All-both}

-- what is found is found in what a filter leaves, where it passes that
pub find-filter : {X : Type 0} (p q : X → Bool) (xs : List X) (x : X) → find p xs ≡ Some x → q x ≡ true → find p (filter q xs) ≡ Some x
find-filter p q [] x h passes = cc
find-filter p q (y ∷ xs) x h passes = elim (cases_Bool (p y)) [
  | inl here ↦
      let same : y ≡ x = same_Some y x (rw here at h) in
      let kept : q y ≡ true = ap q same ∙ passes in rw kept (rw here (ap Some same))
  | inr fails ↦
      let behind = find-filter p q xs x (rw fails at h) passes in
      cond_both (q y) (y ∷ filter q xs) (filter q xs) (λ zs. find p zs ≡ Some x) (λ _. rw fails behind) (λ _. behind)
]

-- and in a longer list
pub find-append : {X : Type 0} (p : X → Bool) (xs ys : List X) (x : X) → find p xs ≡ Some x → find p (xs ++ ys) ≡ Some x
find-append p [] ys x h = cc
find-append p (y ∷ xs) ys x h = elim (cases_Bool (p y)) [
  | inl here ↦ rw here (rw here at h)
  | inr fails ↦ rw fails (find-append p xs ys x (rw fails at h))
]

-- what is pushed is found where nothing was
pub find-push : {X : Type 0} (p : X → Bool) (xs : List X) (x : X) → is_none (find p xs) ≡ true → p x ≡ true → find p (xs ++ x ∷ []) ≡ Some x
find-push p [] x none passes = rw passes refl
find-push p (y ∷ xs) x none passes = elim (cases_Bool (p y)) [
  | inl here ↦ let no : is_none (Some y) ≡ true = rw here at none in cc
  | inr fails ↦ rw fails (find-push p xs x (rw fails at none) passes)
]

-- names with the same glyphs are one
pub same_name-is : (one other : List ℕ) → same_name one other ≡ true → one ≡ other
same_name-is one other h = (bytes_eq-Decides one other).0 h

-- an offer is its party's, of its local name
pub own-itself : (offer : Standing) → is_own offer.party offer.local offer ≡ true
own-itself offer = and_from (eqb offer.party offer.party) (same_name offer.local offer.local) (eq-eqb _ _ refl) (nat_list_eq_equiv.refl offer.local)

-- the offer is found by its party and its local name
abbrev pub IsFound : List Standing → Standing → Type 0
IsFound offers offer = own_offer offers offer.party offer.local ≡ Some offer

All-found-opened : (offers : List Standing) (place party : ℕ) (given : AnswerKind) (opens : Option Opening) → All (IsFound offers) offers →
    All (IsFound (with_opened offers place party given opens)) (with_opened offers place party given opens)
All-found-opened offers place party given None old = old
All-found-opened offers place party given (Some opening) old =
    let new : Standing = offer_made place party opening in
    let more = offers ++ new ∷ [] in
    cond_both (is_degree given) (with_offer offers new) offers (λ os. All (IsFound os) os)
    (λ _. cond_both (is_none (own_offer offers new.party new.local)) more offers (λ os. All (IsFound os) os)
    (λ none. All-push (IsFound more) offers new
    (All-weaker (IsFound offers) (IsFound more) (λ o h. find-append (is_own o.party o.local) offers (new ∷ []) o h) offers old)
    (find-push (is_own new.party new.local) offers new none (own-itself new)))
    (λ _. old))
    (λ _. old)

All-found-ended : (offers : List Standing) (party : ℕ) (ends : Option Ending) → All (IsFound offers) offers → All (IsFound (with_ended offers party ends)) (with_ended offers party ends)
All-found-ended offers party None old = old
All-found-ended offers party (Some ending) old =
    let stays : Standing → Bool = λ (o : Standing). not (is_ended party ending o) in
    let left = without_ended offers party ending in
    All-weaker (λ o. (stays o ≡ true) × IsFound offers o) (IsFound left) (λ o h. find-filter (is_own o.party o.local) stays offers o h.1 h.0) left
    (All-both (λ o. stays o ≡ true) (IsFound offers) left (filter_passes stays offers) (All-filter stays (IsFound offers) offers old))

found_by_name : (journal : Entries) → All (IsFound (standing journal)) (standing journal)
found_by_name [] = All-nil (IsFound [])
found_by_name (e ∷ journal) =
    All-found-ended (with_opened (standing journal) (next_place journal) e.party (kind_of e.answer) (act_row e.act).row.opens) e.party (act_row e.act).row.ends
    (All-found-opened (standing journal) (next_place journal) e.party (kind_of e.answer) (act_row e.act).row.opens (found_by_name journal))

-- a standing offer is the one that its party has of its local name
pub own_offer-is : (journal : Entries) (offer : Standing) → Contains (standing journal) offer → own_offer (standing journal) offer.party offer.local ≡ Some offer
own_offer-is journal offer h = All-contains (IsFound (standing journal)) (standing journal) offer (found_by_name journal) h

-- the offer that a party has of a local name is its own, of this name, and stands
pub own_offer-parts : (offers : List Standing) (party : ℕ) (local : List ℕ) (offer : Standing) → own_offer offers party local ≡ Some offer →
    (offer.party ≡ party) × (offer.local ≡ local) × Contains offers offer
own_offer-parts offers party local offer h =
    let found = find_passed (is_own party local) offers offer h in
    let parts = and_parts (eqb offer.party party) (same_name offer.local local) found.0 in
    (eqb-true offer.party party parts.0, same_name-is offer.local local parts.1, found.1)

-- two that are the party's, of one local name, are one
pub own_is_one : (journal : Entries) (party : ℕ) (local : List ℕ) (one other : Standing) → Contains (standing journal) one → is_own party local one ≡ true →
    Contains (standing journal) other → is_own party local other ≡ true → one ≡ other
own_is_one journal party local one other has_one own_one has_other own_other =
    same_Some one other (sym (found one has_one own_one) ∙ found other has_other own_other)
  where
    found : (offer : Standing) → Contains (standing journal) offer → is_own party local offer ≡ true → own_offer (standing journal) party local ≡ Some offer
    found offer has own =
        let parts = and_parts (eqb offer.party party) (same_name offer.local local) own in
        ap₂ (own_offer (standing journal)) (sym (eqb-true offer.party party parts.0)) (sym (same_name-is offer.local local parts.1)) ∙ own_offer-is journal offer has
