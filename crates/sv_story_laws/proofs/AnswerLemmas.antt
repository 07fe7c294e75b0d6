-- What an access is answered, and what nothing else is.
use Rattle.std.proofs.Common.{◌≡◌, refl, sym, ap, ◌∙◌, subst, ℕ, Bool, true, false, leb, List, ◌∷◌, Option, Some, None}
use Rattle.std.specs.Prelude.{◌↔◌, Contains, IsTrue}
use Rattle.std.proofs.lemmas.Bool.{cond_both, both_ways}
use Rattle.std.proofs.lemmas.Option.{none-some, same_Some}
use Rattle.apl_arrays.specs.Array.{PlainArray}
use Rattle.sv_access.specs.declared.access.Kind.{Kind}
use Rattle.sv_access.specs.declared.access.Kind.TheVariants as kind
use Rattle.sv_events.specs.Answer.{PlainAnswer, offer_limit, value, held, abandoned}
use Rattle.sv_events.specs.Entry.{PlainEntry}
use Rattle.sv_events.specs.declared.event.Act.{Act}
use Rattle.sv_events.specs.declared.event.Act.TheVariants.{Offer, Retract, SetControl, AskControl, AskState, AskDegree, AskParties, AskNames, Set, Use, Leave}
use Rattle.sv_events.specs.declared.event.Hold.{Hold}
use Rattle.sv_events.specs.declared.row.Opening.{Opening}
use Rattle.sv_rules.specs.declared.standing.Standing.{Standing}
use Rattle.sv_rules.specs.declared.coupling.Made.{Made}
use Rattle.sv_rules.specs.Coupling.{couplings, coupling_now, open_match}
use Rattle.sv_rules.specs.Entries.{Entries, next_place, kind_of, is_held, is_abandoned}
use Rattle.sv_rules.specs.Legal.{IsLegal, IsStuckIf}
use Rattle.sv_rules.specs.Outcome.{ActOutcome, outcome, answer_only, joined_to, offer_outcome, retraction_outcome, control_answer, value_answer, value_for, granted_answer, refusal_answer, unless_refused, access_answer}
use Rattle.sv_rules.specs.Refused.{hold_on, refused, waits}
use Rattle.sv_rules.specs.Standing.{standing, own_offer, offer_count, offer_made}
use Rattle.sv_rules.specs.Story.{access_on}
use Rattle.sv_offer_laws.proofs.OwnLemmas.{own_offer-is}
use Rattle.sv_story_laws.specs.WaitLaws.{IsHeldOrGivenUp}
use Rattle.sv_story_laws.proofs.AccessLemmas.{IsAccessOn-from_access}

-- an answer that neither holds nor gives up
abbrev IsPlain : PlainAnswer → Type 0
IsPlain given = (is_held (kind_of given) ≡ false) × (is_abandoned (kind_of given) ≡ false)

-- an answer by what refuses the act, and by whether its party waits
pub data Answered (refusing : Option Hold) (waiting : Bool) (given : PlainAnswer) : Type 0 where
  unrefused : refusing ≡ None → IsPlain given → Answered refusing waiting given
  held_first : (hold : Hold) → refusing ≡ Some hold → waiting ≡ false → given ≡ held hold → Answered refusing waiting given
  given_up : (hold : Hold) → refusing ≡ Some hold → waiting ≡ true → given ≡ abandoned hold → Answered refusing waiting given

plain_offer : (offers : List Standing) (coupled : List Made) (new : Standing) (own : Option Standing) → IsPlain (offer_outcome offers coupled new own).answer
plain_offer offers coupled new (Some old) = (refl, refl)
plain_offer offers coupled new None =
    cond_both (leb 64 (offer_count offers new.party)) (answer_only offer_limit) (joined_to new (open_match offers coupled new)) (λ (o : ActOutcome). IsPlain o.answer)
    (λ _. (refl, refl)) (λ _. joined (open_match offers coupled new))
  where
    joined : (match : Option Standing) → IsPlain (joined_to new match).answer
    joined None = (refl, refl)
    joined (Some match) = (refl, refl)

plain_retraction : (journal : Entries) (party : ℕ) (local : List ℕ) (own : Option Standing) → IsPlain (retraction_outcome journal party local own).answer
plain_retraction journal party local None = (refl, refl)
plain_retraction journal party local (Some offer) = (refl, refl)

plain_value : (got : Option PlainArray) → IsPlain (value_answer got)
plain_value None = (refl, refl)
plain_value (Some v) = (refl, refl)

plain_grant : (journal : Entries) (offer : Standing) (kind : Kind) → IsPlain (granted_answer journal offer kind)
plain_grant journal offer kind.Set = (refl, refl)
plain_grant journal offer kind.Use = plain_value (value_for journal offer (coupling_now journal offer.place))

-- the answer to an access of a party, by the offer that it has of the name
answered_access : (journal : Entries) (party : ℕ) (kind : Kind) (own : Option Standing) → Answered (hold_on journal kind own) (waits journal party) (access_answer journal party kind own)
answered_access journal party kind None = unrefused refl (refl, refl)
answered_access journal party kind (Some offer) = by_hold (hold_on journal kind (Some offer))
  where
    by_wait : (hold : Hold) (waiting : Bool) → Answered (Some hold) waiting (refusal_answer waiting hold)
    by_wait hold true = given_up hold refl refl refl
    by_wait hold false = held_first hold refl refl refl

    by_hold : (refusing : Option Hold) → Answered refusing (waits journal party) (unless_refused journal party offer kind refusing)
    by_hold None = unrefused refl (plain_grant journal offer kind)
    by_hold (Some hold) = by_wait hold (waits journal party)

-- each act is answered so
pub answered : (journal : Entries) (party : ℕ) (act : Act) → Answered (refused journal party act) (waits journal party) (outcome journal party act).answer
answered journal party (Offer to local surrogate handed) =
    let opening : Opening = record { to = to; local = local; surrogate = surrogate } in
    unrefused refl (plain_offer (standing journal) (couplings journal) (offer_made (next_place journal) party opening) (own_offer (standing journal) party local))
answered journal party (Retract local) = unrefused refl (plain_retraction journal party local (own_offer (standing journal) party local))
answered journal party (SetControl local control) = unrefused refl (by (own_offer (standing journal) party local))
  where
    by : (own : Option Standing) → IsPlain (control_answer journal control own)
    by None = (refl, refl)
    by (Some offer) = (refl, refl)
answered journal party (AskControl local) = unrefused refl (refl, refl)
answered journal party (AskState local) = unrefused refl (refl, refl)
answered journal party (AskDegree local) = unrefused refl (refl, refl)
answered journal party AskParties = unrefused refl (refl, refl)
answered journal party (AskNames from) = unrefused refl (refl, refl)
answered journal party (Set local new) = answered_access journal party kind.Set (own_offer (standing journal) party local)
answered journal party (Use local) = answered_access journal party kind.Use (own_offer (standing journal) party local)
answered journal party Leave = unrefused refl (refl, refl)

-- what is held now
held_where : (refusing : Option Hold) (waiting : Bool) (given : PlainAnswer) → Answered refusing waiting given →
    (hold : Hold) → (given ≡ held hold) ↔ ((refusing ≡ Some hold) × ¬ IsTrue waiting)
held_where refusing waiting given (unrefused none plain) hold =
    ((λ h. absurd (both_ways (is_held (kind_of given)) plain.0 (ap (λ g. is_held (kind_of g)) h))), (λ k. absurd (none-some hold (sym none ∙ k.0))))
held_where refusing waiting given (held_first first r w g) hold = (
  (λ h. let same : held first ≡ held hold = sym g ∙ h in let one : first ≡ hold = cc in (r ∙ ap Some one, λ t. both_ways waiting w t)),
  (λ k. g ∙ ap held (same_Some first hold (sym r ∙ k.0))),
)
held_where refusing waiting given (given_up first r w g) hold =
    ((λ h. absurd (let no : abandoned first ≡ held hold = sym g ∙ h in cc)), (λ k. absurd (k.1 w)))

-- and what is given up
given_up_where : (refusing : Option Hold) (waiting : Bool) (given : PlainAnswer) → Answered refusing waiting given →
    (hold : Hold) → (given ≡ abandoned hold) ↔ ((refusing ≡ Some hold) × IsTrue waiting)
given_up_where refusing waiting given (unrefused none plain) hold =
    ((λ h. absurd (both_ways (is_abandoned (kind_of given)) plain.1 (ap (λ g. is_abandoned (kind_of g)) h))), (λ k. absurd (none-some hold (sym none ∙ k.0))))
given_up_where refusing waiting given (held_first first r w g) hold =
    ((λ h. absurd (let no : held first ≡ abandoned hold = sym g ∙ h in cc)), (λ k. absurd (both_ways waiting w k.1)))
given_up_where refusing waiting given (given_up first r w g) hold = (
  (λ h. let same : abandoned first ≡ abandoned hold = sym g ∙ h in let one : first ≡ hold = cc in (r ∙ ap Some one, w)),
  (λ k. g ∙ ap abandoned (same_Some first hold (sym r ∙ k.0))),
)

-- holds are given to those that do not wait, and waits given up by those that do, where nobody can go on
pub holds_are_given_or_given_up : (users : List ℕ) (journal : Entries) (e : PlainEntry) → IsLegal users (e ∷ journal) → IsHeldOrGivenUp users journal e
holds_are_given_or_given_up users journal e legal =
    let as_answered = subst (Answered (refused journal e.party e.act) (waits journal e.party)) (sym legal.0.answer) (answered journal e.party e.act) in
    record {
      held_now = held_where (refused journal e.party e.act) (waits journal e.party) e.answer as_answered;
      given_up = given_up_where (refused journal e.party e.act) (waits journal e.party) e.answer as_answered;
      stuck = λ hold h. subst (λ (given : PlainAnswer). IsStuckIf (is_abandoned (kind_of given)) users journal) h legal.0.given_up;
    }

-- a value that a use got is what it found
value_found : (journal : Entries) (party : ℕ) (offer : Standing) (refusing : Option Hold) (v : PlainArray) →
    value v ≡ unless_refused journal party offer kind.Use refusing → value_for journal offer (coupling_now journal offer.place) ≡ Some v
value_found journal party offer (Some hold) v h = absurd (refused_instead (waits journal party) h)
  where
    refused_instead : (waiting : Bool) → value v ≡ refusal_answer waiting hold → ⊥
    refused_instead true k = cc
    refused_instead false k = cc
value_found journal party offer None v h = given (value_for journal offer (coupling_now journal offer.place)) h
  where
    given : (got : Option PlainArray) → value v ≡ value_answer got → got ≡ Some v
    given None k = cc
    given (Some got) k = cc

pub uses_get_what_they_find : (users : List ℕ) (journal : Entries) (e : PlainEntry) (offer : Standing) (v : PlainArray) → IsLegal users (e ∷ journal) → Contains (standing journal) offer →
    access_on offer e ≡ Some (record { kind = kind.Use; value = v }) → value_for journal offer (coupling_now journal offer.place) ≡ Some v
uses_get_what_they_find users journal e offer v legal has h =
    let on = IsAccessOn-from_access offer e (record { kind = kind.Use; value = v }) h in
    let answers : value v ≡ (outcome journal e.party e.act).answer = sym on.1.1 ∙ legal.0.answer in
    let by_act : value v ≡ access_answer journal e.party kind.Use (own_offer (standing journal) e.party offer.local) = answers ∙ ap (λ (act : Act). (outcome journal e.party act).answer) on.1.0 in
    let own : own_offer (standing journal) e.party offer.local ≡ Some offer = ap (λ (p : ℕ). own_offer (standing journal) p offer.local) on.0 ∙ own_offer-is journal offer has in
    value_found journal e.party offer (hold_on journal kind.Use (Some offer)) v (by_act ∙ ap (access_answer journal e.party kind.Use) own)
