-- Acts of names without an offer, offers past the limit, and uses of what is not there.
use Rattle.std.proofs.Common.{◌≡◌, refl, sym, ap, ◌∙◌, subst, ℕ, ◌≤◌, Bool, true, false, leb, List, ◌∷◌, Option, Some, None, inl, inr, arith}
use Rattle.std.specs.Prelude.{◌↔◌}
use Rattle.std.proofs.lemmas.Bool.{both_ways, cases_Bool, leb-true, le-leb}
use Rattle.std.proofs.lemmas.Option.{none-some, same_Some}
use Rattle.apl_arrays.specs.Array.{PlainArray}
use Rattle.sv_access.specs.declared.access.Kind.TheVariants as kind
use Rattle.sv_access.specs.declared.verdict.Verdict.TheVariants.{Granted}
use Rattle.sv_events.specs.Answer.{PlainAnswer, no_value, not_shared, offer_limit}
use Rattle.sv_events.specs.Entry.{PlainEntry}
use Rattle.sv_events.specs.declared.event.Act.{Act}
use Rattle.sv_events.specs.declared.event.Act.TheVariants.{Offer, Retract, SetControl, Set, Use}
use Rattle.sv_events.specs.declared.event.Hold.{Hold}
use Rattle.sv_events.specs.declared.row.Opening.{Opening}
use Rattle.sv_rules.specs.declared.standing.Standing.{Standing}
use Rattle.sv_rules.specs.Coupling.{couplings, coupling_now, open_match}
use Rattle.sv_rules.specs.Entries.{Entries, next_place}
use Rattle.sv_rules.specs.Legal.{IsLegal}
use Rattle.sv_rules.specs.Outcome.{outcome, access_answer, control_answer, joined_to, offer_outcome, refusal_answer, retraction_outcome, unless_refused, value_answer, value_for}
use Rattle.sv_rules.specs.Refused.{hold_on, waits}
use Rattle.sv_rules.specs.Standing.{standing, own_offer, offer_count, offer_made, is_own}
use Rattle.sv_offer_laws.proofs.CouplingLemmas.{none_is_taken_of_none}
use Rattle.sv_offer_laws.proofs.LegalLemmas.{IsSound-from_legal}
use Rattle.sv_offer_laws.proofs.OwnLemmas.{own_offer-parts}
use Rattle.sv_story_laws.specs.AnswerLaws.{HasNoOffer, IsAccessOf, IsPastTheLimit, IsThere, needed_name, table_on}
use Rattle.sv_story_laws.proofs.AuxiliaryLemmas.{own-from}
use Rattle.sv_story_laws.proofs.ControlLemmas.{holds_are_those_of_the_table}
use Rattle.sv_story_laws.proofs.GrantLemmas.{access_is_answered, there_is}

-- a party has no offer of a name exactly where none is found
pub none_found : (journal : Entries) (party : ℕ) (local : List ℕ) → (own_offer (standing journal) party local ≡ None) ↔ HasNoOffer journal party local
none_found journal party local = (
  (λ none offer has own named. none_is_taken_of_none (is_own party local) (standing journal) offer none has (own-from party local offer own named)),
  (λ h. back h (own_offer (standing journal) party local) refl),
)
  where
    back : HasNoOffer journal party local → (own : Option Standing) → own_offer (standing journal) party local ≡ own → own ≡ None
    back h None is = refl
    back h (Some offer) is = let parts = own_offer-parts (standing journal) party local offer is in absurd (h offer parts.2 parts.0 parts.1)

-- an answer other than NotShared, OfferLimit and NoValue
abbrev is_other : PlainAnswer → Bool
is_other not_shared = false
is_other offer_limit = false
is_other no_value = false
is_other _ = true

-- an act of a party by its answer: NotShared, OfferLimit, NoValue, or another
data Replied (journal : Entries) (party : ℕ) (act : Act) (given : PlainAnswer) : Type 0 where
  unshared : (local : List ℕ) → needed_name act ≡ Some local → own_offer (standing journal) party local ≡ None → given ≡ not_shared → Replied journal party act given
  past_limit : (to : ℕ) (local surrogate : List ℕ) (handed : Option PlainArray) → act ≡ Offer to local surrogate handed → own_offer (standing journal) party local ≡ None →
      64 ≤ offer_count (standing journal) party → given ≡ offer_limit → Replied journal party act given
  nothing : (local : List ℕ) (offer : Standing) → act ≡ Use local → own_offer (standing journal) party local ≡ Some offer → hold_on journal kind.Use (Some offer) ≡ None →
      value_for journal offer (coupling_now journal offer.place) ≡ None → given ≡ no_value → Replied journal party act given
  otherwise : is_other given ≡ true → Replied journal party act given

replied_to_offer : (journal : Entries) (party to : ℕ) (local surrogate : List ℕ) (handed : Option PlainArray) (new : Standing) → new.party ≡ party →
    (own : Option Standing) → own_offer (standing journal) party local ≡ own →
    Replied journal party (Offer to local surrogate handed) (offer_outcome (standing journal) (couplings journal) new own).answer
replied_to_offer journal party to local surrogate handed new of_party (Some old) is = otherwise refl
replied_to_offer journal party to local surrogate handed new of_party None is = elim (cases_Bool (leb 64 (offer_count (standing journal) new.party))) [
  | inl over ↦
      let many : 64 ≤ offer_count (standing journal) party = subst (λ (p : ℕ). 64 ≤ offer_count (standing journal) p) of_party (leb-true 64 (offer_count (standing journal) new.party) over) in
      past_limit to local surrogate handed refl is many (rw over refl)
  | inr under ↦ otherwise (rw under (joined (open_match (standing journal) (couplings journal) new)))
]
  where
    joined : (match : Option Standing) → is_other (joined_to new match).answer ≡ true
    joined None = refl
    joined (Some match) = refl

refusal_is_other : (waiting : Bool) (hold : Hold) → is_other (refusal_answer waiting hold) ≡ true
refusal_is_other true hold = refl
refusal_is_other false hold = refl

replied_to_use : (journal : Entries) (party : ℕ) (local : List ℕ) (own : Option Standing) → own_offer (standing journal) party local ≡ own →
    Replied journal party (Use local) (access_answer journal party kind.Use own)
replied_to_use journal party local None is = unshared local refl is refl
replied_to_use journal party local (Some offer) is = by (hold_on journal kind.Use (Some offer)) refl
  where
    found : (got : Option PlainArray) → hold_on journal kind.Use (Some offer) ≡ None → value_for journal offer (coupling_now journal offer.place) ≡ got → Replied journal party (Use local) (value_answer got)
    found None free none = nothing local offer refl is free none refl
    found (Some got) free some = otherwise refl

    by : (refusing : Option Hold) → hold_on journal kind.Use (Some offer) ≡ refusing → Replied journal party (Use local) (unless_refused journal party offer kind.Use refusing)
    by None free = found (value_for journal offer (coupling_now journal offer.place)) free refl
    by (Some hold) held_by = otherwise (refusal_is_other (waits journal party) hold)

replied_to_set : (journal : Entries) (party : ℕ) (local : List ℕ) (new : PlainArray) (own : Option Standing) → own_offer (standing journal) party local ≡ own →
    Replied journal party (Set local new) (access_answer journal party kind.Set own)
replied_to_set journal party local new None is = unshared local refl is refl
replied_to_set journal party local new (Some offer) is = otherwise (by (hold_on journal kind.Set (Some offer)))
  where
    by : (refusing : Option Hold) → is_other (unless_refused journal party offer kind.Set refusing) ≡ true
    by None = refl
    by (Some hold) = refusal_is_other (waits journal party) hold

-- each act is answered so
replied : (journal : Entries) (party : ℕ) (act : Act) → Replied journal party act (outcome journal party act).answer
replied journal party (Offer to local surrogate handed) =
    let opening : Opening = record { to = to; local = local; surrogate = surrogate } in
    replied_to_offer journal party to local surrogate handed (offer_made (next_place journal) party opening) refl (own_offer (standing journal) party local) refl
replied journal party (Retract local) = by (own_offer (standing journal) party local) refl
  where
    by : (own : Option Standing) → own_offer (standing journal) party local ≡ own → Replied journal party (Retract local) (retraction_outcome journal party local own).answer
    by None is = unshared local refl is refl
    by (Some offer) is = otherwise refl
replied journal party (SetControl local control) = by (own_offer (standing journal) party local) refl
  where
    by : (own : Option Standing) → own_offer (standing journal) party local ≡ own → Replied journal party (SetControl local control) (control_answer journal control own)
    by None is = unshared local refl is refl
    by (Some offer) is = otherwise refl
replied journal party (Set local new) = replied_to_set journal party local new (own_offer (standing journal) party local) refl
replied journal party (Use local) = replied_to_use journal party local (own_offer (standing journal) party local) refl
replied journal party _ = otherwise refl

-- as in a legal journal
replied_in : (users : List ℕ) (journal : Entries) (e : PlainEntry) → IsLegal users (e ∷ journal) → Replied journal e.party e.act e.answer
replied_in users journal e legal = subst (Replied journal e.party e.act) (sym legal.0.answer) (replied journal e.party e.act)

-- an act that needs a name is answered NotShared where its party has no offer of it
abbrev NeedsAnOffer : Entries → ℕ → Act → Type 0
NeedsAnOffer journal party act = (local : List ℕ) × (needed_name act ≡ Some local) × (own_offer (standing journal) party local ≡ None)

not_shared-from : (journal : Entries) (party : ℕ) (act : Act) → NeedsAnOffer journal party act → (outcome journal party act).answer ≡ not_shared
not_shared-from journal party (Retract local) w =
    ap (λ (own : Option Standing). (retraction_outcome journal party local own).answer) (ap (own_offer (standing journal) party) (same_Some local w.0 w.1) ∙ w.2)
not_shared-from journal party (SetControl local control) w = ap (control_answer journal control) (ap (own_offer (standing journal) party) (same_Some local w.0 w.1) ∙ w.2)
not_shared-from journal party (Set local new) w = ap (access_answer journal party kind.Set) (ap (own_offer (standing journal) party) (same_Some local w.0 w.1) ∙ w.2)
not_shared-from journal party (Use local) w = ap (access_answer journal party kind.Use) (ap (own_offer (standing journal) party) (same_Some local w.0 w.1) ∙ w.2)
not_shared-from journal party _ w = absurd (none-some w.0 w.1)

pub not_shared_without_an_offer : (users : List ℕ) (journal : Entries) (e : PlainEntry) → IsLegal users (e ∷ journal) →
    (e.answer ≡ not_shared) ↔ ((local : List ℕ) × (needed_name e.act ≡ Some local) × HasNoOffer journal e.party local)
not_shared_without_an_offer users journal e legal = (there, back)
  where
    there : e.answer ≡ not_shared → (local : List ℕ) × (needed_name e.act ≡ Some local) × HasNoOffer journal e.party local
    there h = elim (replied_in users journal e legal) [
      | unshared local needs none is ↦ (local, needs, (none_found journal e.party local).0 none)
      | past_limit to local surrogate handed offers none many is ↦ absurd (let no : offer_limit ≡ not_shared = sym is ∙ h in cc)
      | nothing local offer uses own free none is ↦ absurd (let no : no_value ≡ not_shared = sym is ∙ h in cc)
      | otherwise other ↦ absurd (both_ways (is_other e.answer) (ap is_other h) other)
    ]

    back : (local : List ℕ) × (needed_name e.act ≡ Some local) × HasNoOffer journal e.party local → e.answer ≡ not_shared
    back w = legal.0.answer ∙ not_shared-from journal e.party e.act (w.0, w.1, (none_found journal e.party w.0).1 w.2)

limit_is_answered : (journal : Entries) (party : ℕ) (act : Act) → IsPastTheLimit journal party act → (outcome journal party act).answer ≡ offer_limit
limit_is_answered journal party act past =
    let opening : Opening = record { to = past.to; local = past.local; surrogate = past.surrogate } in
    let new = offer_made (next_place journal) party opening in
    let none = (none_found journal party past.local).1 past.unshared in
    let over : leb 64 (offer_count (standing journal) party) ≡ true = le-leb 64 (offer_count (standing journal) party) (omega (arith, past.many)) in
    ap (λ (a : Act). (outcome journal party a).answer) past.offers
    ∙ ap (λ (own : Option Standing). (offer_outcome (standing journal) (couplings journal) new own).answer) none
    ∙ rw over refl

pub offer_limit_past_the_limit : (users : List ℕ) (journal : Entries) (e : PlainEntry) → IsLegal users (e ∷ journal) → (e.answer ≡ offer_limit) ↔ IsPastTheLimit journal e.party e.act
offer_limit_past_the_limit users journal e legal = (there, λ past. legal.0.answer ∙ limit_is_answered journal e.party e.act past)
  where
    there : e.answer ≡ offer_limit → IsPastTheLimit journal e.party e.act
    there h = elim (replied_in users journal e legal) [
      | unshared local needs none is ↦ absurd (let no : not_shared ≡ offer_limit = sym is ∙ h in cc)
      | past_limit to local surrogate handed offers none many is ↦
          let few = (IsSound-from_legal users journal legal.1).few e.party in
          record {
            to = to;
            local = local;
            surrogate = surrogate;
            handed = handed;
            offers = offers;
            unshared = (none_found journal e.party local).0 none;
            many = omega (arith, many, few);
          }
      | nothing local offer uses own free none is ↦ absurd (let no : no_value ≡ offer_limit = sym is ∙ h in cc)
      | otherwise other ↦ absurd (both_ways (is_other e.answer) (ap is_other h) other)
    ]

pub no_value_where_none_is_there : (users : List ℕ) (journal : Entries) (e : PlainEntry) → IsLegal users (e ∷ journal) →
    (e.answer ≡ no_value) ↔
    ((offer : Standing) × IsAccessOf journal e kind.Use offer × (table_on journal kind.Use offer ≡ Granted) × IsThere journal offer None)
no_value_where_none_is_there users journal e legal = (there, back)
  where
    there : e.answer ≡ no_value → (offer : Standing) × IsAccessOf journal e kind.Use offer × (table_on journal kind.Use offer ≡ Granted) × IsThere journal offer None
    there h = elim (replied_in users journal e legal) [
      | unshared local needs none is ↦ absurd (let no : not_shared ≡ no_value = sym is ∙ h in cc)
      | past_limit to local surrogate handed offers none many is ↦ absurd (let no : offer_limit ≡ no_value = sym is ∙ h in cc)
      | nothing local offer uses own free none is ↦
          let parts = own_offer-parts (standing journal) e.party local offer own in (
            offer,
            record { stands = parts.2; own = sym parts.0; act = uses ∙ ap Use (sym parts.1) },
            (holds_are_those_of_the_table journal kind.Use offer).0.0 free,
            (there_is journal offer None).0 none,
          )
      | otherwise other ↦ absurd (both_ways (is_other e.answer) (ap is_other h) other)
    ]

    back : (offer : Standing) × IsAccessOf journal e kind.Use offer × (table_on journal kind.Use offer ≡ Granted) × IsThere journal offer None → e.answer ≡ no_value
    back w =
        access_is_answered users journal e legal kind.Use w.0 w.1
        ∙ ap (unless_refused journal e.party w.0 kind.Use) ((holds_are_those_of_the_table journal kind.Use w.0).0.1 w.2)
        ∙ ap value_answer ((there_is journal w.0 None).1 w.3)
