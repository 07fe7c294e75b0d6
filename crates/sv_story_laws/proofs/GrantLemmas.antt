-- What an access is answered, what an act of a name without an offer is, and one past the limit.
use Rattle.std.proofs.Common.{◌≡◌, refl, sym, ap, ◌∙◌, subst, ℕ, Bool, true, false, List, ◌∷◌, Option, Some, None, ◌⊎◌, inl, inr}
use Rattle.std.specs.Prelude.{◌↔◌}
use Rattle.std.proofs.lemmas.Option.{none-some, same_Some}
use Rattle.apl_arrays.specs.Array.{PlainArray}
use Rattle.sv_access.specs.declared.access.Kind.{Kind}
use Rattle.sv_access.specs.declared.access.Kind.TheVariants as kind
use Rattle.sv_access.specs.declared.verdict.Verdict.TheVariants.{Granted, Held}
use Rattle.sv_events.specs.Answer.{PlainAnswer, granted, value, no_value, held, abandoned}
use Rattle.sv_events.specs.Entry.{PlainEntry}
use Rattle.sv_events.specs.declared.event.Act.{Act}
use Rattle.sv_events.specs.declared.event.Act.TheVariants.{Set, Use}
use Rattle.sv_events.specs.declared.event.Hold.{Hold}
use Rattle.sv_rules.specs.Coupling.{coupling_now}
use Rattle.sv_rules.specs.Entries.{Entries}
use Rattle.sv_rules.specs.Legal.{IsLegal}
use Rattle.sv_rules.specs.Outcome.{outcome, access_answer, granted_answer, refusal_answer, unless_refused, value_answer, value_for}
use Rattle.sv_rules.specs.Refused.{hold_on, waits}
use Rattle.sv_rules.specs.Standing.{standing, own_offer}
use Rattle.sv_rules.specs.declared.coupling.Coupling.{Coupling}
use Rattle.sv_rules.specs.declared.standing.Standing.{Standing}
use Rattle.sv_offer_laws.proofs.OwnLemmas.{own_offer-is}
use Rattle.sv_story_laws.specs.AnswerLaws.{Accesses, IsAccessOf, Grants, IsThere, table_on, owners_on}
use Rattle.sv_story_laws.proofs.ControlLemmas.{holds_are_those_of_the_table}

-- an access of a name that stands is answered by what refuses it
pub access_is_answered : (users : List ℕ) (journal : Entries) (e : PlainEntry) → IsLegal users (e ∷ journal) → (k : Kind) (offer : Standing) → IsAccessOf journal e k offer →
    e.answer ≡ unless_refused journal e.party offer k (hold_on journal k (Some offer))
access_is_answered users journal e legal k offer access =
    legal.0.answer
    ∙ by k access.act
    ∙ ap (λ (p : ℕ). access_answer journal e.party k (own_offer (standing journal) p offer.local)) access.own
    ∙ ap (access_answer journal e.party k) (own_offer-is journal offer access.stands)
  where
    by : (k : Kind) → Accesses k offer.local e.act → (outcome journal e.party e.act).answer ≡ access_answer journal e.party k (own_offer (standing journal) e.party offer.local)
    by kind.Set h = ap (λ (act : Act). (outcome journal e.party act).answer) h.1
    by kind.Use h = ap (λ (act : Act). (outcome journal e.party act).answer) h

-- it is granted where nothing does
grants_unless_refused : (journal : Entries) (party : ℕ) (offer : Standing) (k : Kind) (refusing : Option Hold) →
    Grants k (unless_refused journal party offer k refusing) ↔ (refusing ≡ None)
grants_unless_refused journal party offer k None = ((λ h. refl), (λ h. by k))
  where
    found : (got : Option PlainArray) → Grants kind.Use (value_answer got)
    found None = inr refl
    found (Some got) = inl (got, refl)

    by : (k : Kind) → Grants k (granted_answer journal offer k)
    by kind.Set = refl
    by kind.Use = found (value_for journal offer (coupling_now journal offer.place))
grants_unless_refused journal party offer k (Some hold) = ((λ h. absurd (by k (waits journal party) h)), (λ h. absurd (none-some hold (sym h))))
  where
    by : (k : Kind) (waiting : Bool) → Grants k (refusal_answer waiting hold) → ⊥
    by kind.Set true h = let no : abandoned hold ≡ granted = h in cc
    by kind.Set false h = let no : held hold ≡ granted = h in cc
    by kind.Use true (inl h) = let no : abandoned hold ≡ value h.0 = h.1 in cc
    by kind.Use true (inr h) = let no : abandoned hold ≡ no_value = h in cc
    by kind.Use false (inl h) = let no : held hold ≡ value h.0 = h.1 in cc
    by kind.Use false (inr h) = let no : held hold ≡ no_value = h in cc

pub granted_where_the_table_allows : (users : List ℕ) (journal : Entries) (e : PlainEntry) → IsLegal users (e ∷ journal) → (k : Kind) (offer : Standing) → IsAccessOf journal e k offer →
    Grants k e.answer ↔ (table_on journal k offer ≡ Granted)
granted_where_the_table_allows users journal e legal k offer access =
    let given = access_is_answered users journal e legal k offer access in
    let by_hold = grants_unless_refused journal e.party offer k (hold_on journal k (Some offer)) in
    let by_table = (holds_are_those_of_the_table journal k offer).0 in
    ((λ h. by_table.0 (by_hold.0 (subst (Grants k) given h))), (λ h. subst (Grants k) (sym given) (by_hold.1 (by_table.1 h))))

-- and refused by what does
refusal_by : (journal : Entries) (party : ℕ) (offer : Standing) (k : Kind) (refusing : Option Hold) (hold : Hold) →
    ((unless_refused journal party offer k refusing ≡ held hold) ⊎ (unless_refused journal party offer k refusing ≡ abandoned hold)) ↔ (refusing ≡ Some hold)
refusal_by journal party offer k None hold = ((λ h. absurd (by k h)), (λ h. absurd (none-some hold h)))
  where
    found : (got : Option PlainArray) → (value_answer got ≡ held hold) ⊎ (value_answer got ≡ abandoned hold) → ⊥
    found None (inl h) = let no : no_value ≡ held hold = h in cc
    found None (inr h) = let no : no_value ≡ abandoned hold = h in cc
    found (Some got) (inl h) = let no : value got ≡ held hold = h in cc
    found (Some got) (inr h) = let no : value got ≡ abandoned hold = h in cc

    by : (k : Kind) → (granted_answer journal offer k ≡ held hold) ⊎ (granted_answer journal offer k ≡ abandoned hold) → ⊥
    by kind.Set (inl h) = let no : granted ≡ held hold = h in cc
    by kind.Set (inr h) = let no : granted ≡ abandoned hold = h in cc
    by kind.Use h = found (value_for journal offer (coupling_now journal offer.place)) h
refusal_by journal party offer k (Some other) hold = (there (waits journal party), (λ h. back (waits journal party) (same_Some other hold h)))
  where
    there : (waiting : Bool) → (refusal_answer waiting other ≡ held hold) ⊎ (refusal_answer waiting other ≡ abandoned hold) → Some other ≡ Some hold
    there true (inl h) = absurd (let no : abandoned other ≡ held hold = h in cc)
    there true (inr h) = let same : abandoned other ≡ abandoned hold = h in let one : other ≡ hold = cc in ap Some one
    there false (inl h) = let same : held other ≡ held hold = h in let one : other ≡ hold = cc in ap Some one
    there false (inr h) = absurd (let no : held other ≡ abandoned hold = h in cc)

    back : (waiting : Bool) → other ≡ hold → (refusal_answer waiting other ≡ held hold) ⊎ (refusal_answer waiting other ≡ abandoned hold)
    back true same = inr (ap abandoned same)
    back false same = inl (ap held same)

pub refused_by_the_element_named : (users : List ℕ) (journal : Entries) (e : PlainEntry) → IsLegal users (e ∷ journal) → (k : Kind) (offer : Standing) → IsAccessOf journal e k offer →
    (hold : Hold) → ((e.answer ≡ held hold) ⊎ (e.answer ≡ abandoned hold)) ↔ ((table_on journal k offer ≡ Held hold.element) × (hold.owners ≡ owners_on journal k offer))
refused_by_the_element_named users journal e legal k offer access hold =
    let given = access_is_answered users journal e legal k offer access in
    let by_hold = refusal_by journal e.party offer k (hold_on journal k (Some offer)) hold in
    let by_table = (holds_are_those_of_the_table journal k offer).1 hold in
    let Refuses : PlainAnswer → Type 0 = λ (g : PlainAnswer). (g ≡ held hold) ⊎ (g ≡ abandoned hold) in
    ((λ h. by_table.0 (by_hold.0 (subst Refuses given h))), (λ h. subst Refuses (sym given) (by_hold.1 (by_table.1 h))))

-- what is there for a use is what the rules take
pub there_is : (journal : Entries) (offer : Standing) (found : Option PlainArray) → (value_for journal offer (coupling_now journal offer.place) ≡ found) ↔ IsThere journal offer found
there_is journal offer found = (there, λ h. back h (coupling_now journal offer.place) refl)
  where
    there : value_for journal offer (coupling_now journal offer.place) ≡ found → IsThere journal offer found
    there h = record {
      coupled = λ coupling is. ap (value_for journal offer) (sym is) ∙ h;
      alone = λ is. ap (value_for journal offer) (sym is) ∙ h;
    }

    back : IsThere journal offer found → (c : Option Coupling) → coupling_now journal offer.place ≡ c → value_for journal offer c ≡ found
    back h None is = h.alone is
    back h (Some coupling) is = h.coupled coupling is

-- a use is answered with a value where nothing refuses it and the value is found, and with none where none is
gets_by : (journal : Entries) (party : ℕ) (offer : Standing) (refusing : Option Hold) (got : PlainArray) →
    (unless_refused journal party offer kind.Use refusing ≡ value got) ↔ ((refusing ≡ None) × (value_for journal offer (coupling_now journal offer.place) ≡ Some got))
gets_by journal party offer None got = ((λ h. (refl, there (value_for journal offer (coupling_now journal offer.place)) h)), (λ h. ap value_answer h.1))
  where
    there : (found : Option PlainArray) → value_answer found ≡ value got → found ≡ Some got
    there None h = cc
    there (Some other) h = cc
gets_by journal party offer (Some hold) got = ((λ h. absurd (no (waits journal party) h)), (λ h. absurd (none-some hold (sym h.0))))
  where
    no : (waiting : Bool) → refusal_answer waiting hold ≡ value got → ⊥
    no true h = cc
    no false h = cc

pub uses_get_what_is_there : (users : List ℕ) (journal : Entries) (e : PlainEntry) → IsLegal users (e ∷ journal) → (offer : Standing) → IsAccessOf journal e kind.Use offer →
    (got : PlainArray) → (e.answer ≡ value got) ↔ ((table_on journal kind.Use offer ≡ Granted) × IsThere journal offer (Some got))
uses_get_what_is_there users journal e legal offer access got =
    let given = access_is_answered users journal e legal kind.Use offer access in
    let by_hold = gets_by journal e.party offer (hold_on journal kind.Use (Some offer)) got in
    let by_table = (holds_are_those_of_the_table journal kind.Use offer).0 in
    let found = there_is journal offer (Some got) in (
      (λ h. let parts = by_hold.0 (sym given ∙ h) in (by_table.0 parts.0, found.0 parts.1)),
      (λ h. given ∙ by_hold.1 (by_table.1 h.0, found.1 h.1)),
    )
