-- The standing offers, entry by entry.
use Rattle.std.proofs.Common.{◌≡◌, refl, sym, ap, ◌∙◌, subst, ℕ, Bool, true, false, ◌&&◌, not, eqb, List, [], ◌∷◌, ◌++◌, Option, Some, None, ◌⊎◌, inl, inr, arith}
use Rattle.std.specs.Prelude.{Contains, is_none, option_map}
use Rattle.std.specs.List.{list_any}
use Rattle.std.proofs.lemmas.Bool.{cases_Bool, not-true, eqb-false, ne_eqb, and_left, and_right, or_parts, or_from, and_cases, both_ways, not_from_false, cond_both}
use Rattle.std.proofs.lemmas.Option.{same_Some}
use Rattle.std.proofs.lemmas.List.Elements.{Contains-push, Contains-push_cases, Contains-append_left}
use Rattle.sv_events.specs.Entry.{PlainEntry}
use Rattle.sv_events.specs.Row.{act_row}
use Rattle.sv_events.specs.declared.row.AnswerKind.{AnswerKind}
use Rattle.sv_events.specs.declared.row.Ending.{Ending}
use Rattle.sv_events.specs.declared.row.Ending.TheVariants.{One, All}
use Rattle.sv_events.specs.declared.row.Opening.{Opening}
use Rattle.sv_rules.specs.declared.standing.Standing.{Standing}
use Rattle.apl_arrays.specs.Name.{same_name}
use Rattle.sv_events.specs.Fits.{is_degree}
use Rattle.sv_rules.specs.Entries.{Entries, next_place, kind_of}
use Rattle.sv_rules.specs.Standing.{standing, own_offer, with_offer, with_opened, with_ended, without_ended, is_ended, is_own, offer_made}
use Rattle.sv_offer_laws.specs.StandingLaws.{offer_of, ends_name, ends_offer, StandsSince, Stands}
use Rattle.sv_offer_laws.proofs.Members.{Contains-filter, Contains-from_filter, filter_passed}
use Rattle.sv_offer_laws.proofs.RowLemmas.{opens_alone}

-- an offer that stands still does after an entry that does not end it
Stands-after : (e : PlainEntry) (journal : Entries) (offer : Standing) → ends_offer offer e ≡ false → Stands journal offer → Stands (e ∷ journal) offer
Stands-after e journal offer stays h =
    let since = h.4 in (
      h.0,
      h.1,
      e ∷ h.2,
      ap (λ rest. e ∷ rest) h.3,
      record {
        offered = since.offered;
        answered = since.answered;
        first = since.first;
        kept = not_from_false _ (or_from _ _ stays (not-true _ since.kept));
      },
    )

-- an entry that ends nothing does not end it
ends_none : (e : PlainEntry) (offer : Standing) → (act_row e.act).row.ends ≡ None → ends_offer offer e ≡ false
ends_none e offer none = ap (λ (ends : Option Ending). eqb e.party offer.party && ends_name offer.local ends) none ∙ and_right _ false refl

-- what an ending leaves is not ended by it
left_is_not_ended : (offers : List Standing) (party : ℕ) (ending : Ending) (offer : Standing) → Contains (without_ended offers party ending) offer →
    (eqb party offer.party && ends_name offer.local (Some ending)) ≡ false
left_is_not_ended offers party (One local) offer h =
    let others : (o : Standing) → Bool = λ (o : Standing). not (is_own party local o) in
    elim (and_cases (eqb offer.party party) (same_name offer.local local) (not-true _ (filter_passed others offers offer h))) [
      | inl other ↦ and_left _ _ (ne_eqb party offer.party (λ same. eqb-false _ _ other (sym same)))
      | inr unlike ↦ and_right _ _ unlike
    ]
left_is_not_ended offers party All offer h =
    let others : (o : Standing) → Bool = λ (o : Standing). not (eqb o.party party) in
    let other : eqb offer.party party ≡ false = not-true _ (filter_passed others offers offer h) in
    and_left _ true (ne_eqb party offer.party (λ same. eqb-false _ _ other (sym same)))

-- and was there
left_was_there : (offers : List Standing) (party : ℕ) (ending : Ending) (offer : Standing) → Contains (without_ended offers party ending) offer → Contains offers offer
left_was_there offers party ending offer h = Contains-from_filter (λ (o : Standing). not (is_ended party ending o)) offers offer h

-- and what is not ended is left
left-from_not_ended : (offers : List Standing) (party : ℕ) (ending : Ending) (offer : Standing) →
    (eqb party offer.party && ends_name offer.local (Some ending)) ≡ false → Contains offers offer → Contains (without_ended offers party ending) offer
left-from_not_ended offers party (One local) offer stays h =
    Contains-filter (λ (o : Standing). not (is_own party local o)) offers offer
    (not_from_false (is_own party local offer) (elim (and_cases (eqb party offer.party) (same_name offer.local local) stays) [
      | inl other ↦ and_left (eqb offer.party party) (same_name offer.local local) (ne_eqb offer.party party (λ same. eqb-false party offer.party other (sym same)))
      | inr unlike ↦ and_right (eqb offer.party party) (same_name offer.local local) unlike
    ])) h
left-from_not_ended offers party All offer stays h =
    let other : eqb party offer.party ≡ false = elim (and_cases (eqb party offer.party) true stays) [ inl e ↦ e | inr e ↦ absurd (both_ways true e refl) ] in
    Contains-filter (λ (o : Standing). not (eqb o.party party)) offers offer (not_from_false (eqb offer.party party) (ne_eqb offer.party party (λ same. eqb-false party offer.party other (sym same)))) h

is_none-None : {X : Type 0} (o : Option X) → is_none o ≡ true → o ≡ None
is_none-None None h = refl
is_none-None (Some x) h = cc

-- a new offer stands
Stands-new : (e : PlainEntry) (journal : Entries) (offer : Standing) → offer_of (next_place journal) e.party e.act ≡ Some offer → is_degree (kind_of e.answer) ≡ true → is_none (own_offer (standing journal) offer.party offer.local) ≡ true → Stands (e ∷ journal) offer
Stands-new e journal offer offered answered first =
    (journal, e, [], refl, record { offered = offered; answered = answered; first = is_none-None (own_offer (standing journal) offer.party offer.local) first; kept = refl })

-- what a new offer adds to those that stand
with_offer-cases : (offers : List Standing) (new offer : Standing) → Contains (with_offer offers new) offer →
    Contains offers offer ⊎ ((is_none (own_offer offers new.party new.local) ≡ true) × (new ≡ offer))
with_offer-cases offers new offer h = elim (cases_Bool (is_none (own_offer offers new.party new.local))) [
  | inl none ↦ let g : Contains (offers ++ new ∷ []) offer = rw none at h in
      elim (Contains-push_cases offers new offer g) [ inl old ↦ inl old | inr here ↦ inr (none, here) ]
  | inr some ↦ inl (rw some at h)
]

-- an offer that stands after an entry stands, by what the entry opens and ends
Stands-from_after : (journal : Entries) (e : PlainEntry) (opens : Option Opening) (ends : Option Ending) (offer : Standing) →
    (act_row e.act).row.opens ≡ opens → (act_row e.act).row.ends ≡ ends →
    ((offer : Standing) → Contains (standing journal) offer → Stands journal offer) →
    Contains (with_ended (with_opened (standing journal) (next_place journal) e.party (kind_of e.answer) opens) e.party ends) offer →
    Stands (e ∷ journal) offer
Stands-from_after journal e None None offer opened ended before h = Stands-after e journal offer (ends_none e offer ended) (before offer h)
Stands-from_after journal e None (Some ending) offer opened ended before h =
    Stands-after e journal offer
    (ap (λ (ends : Option Ending). eqb e.party offer.party && ends_name offer.local ends) ended ∙ left_is_not_ended (standing journal) e.party ending offer h)
    (before offer (left_was_there (standing journal) e.party ending offer h))
Stands-from_after journal e (Some opening) None offer opened ended before h =
    let new : Standing = offer_made (next_place journal) e.party opening in
    let old : Contains (standing journal) offer → Stands (e ∷ journal) offer = λ there. Stands-after e journal offer (ends_none e offer ended) (before offer there) in
    elim (cases_Bool (is_degree (kind_of e.answer))) [
      | inl with_degree ↦ elim (with_offer-cases (standing journal) new offer (rw with_degree at h)) [
        | inl there ↦ old there
        | inr added ↦ Stands-new e journal offer (ap (λ (o : Option Opening). option_map (offer_made (next_place journal) e.party) o) opened ∙ ap Some added.1) with_degree
            (subst (λ (o : Standing). is_none (own_offer (standing journal) o.party o.local) ≡ true) added.1 added.0)
      ]
      | inr without ↦ old (rw without at h)
    ]
Stands-from_after journal e (Some opening) (Some ending) offer opened ended before h =
    let alone = opens_alone e.act opening opened in absurd (let no : None ≡ Some ending = sym alone ∙ ended in cc)

pub Stands-from_standing : (journal : Entries) (offer : Standing) → Contains (standing journal) offer → Stands journal offer
Stands-from_standing [] offer h = absurd (omega (arith, h.1))
Stands-from_standing (e ∷ journal) offer h =
    Stands-from_after journal e (act_row e.act).row.opens (act_row e.act).row.ends offer refl refl (Stands-from_standing journal) h

-- the offer of an entry that stands after it
standing-from_new : (offers : List Standing) (place party : ℕ) (given : AnswerKind) (opens : Option Opening) (offer : Standing) →
    option_map (offer_made place party) opens ≡ Some offer → is_degree given ≡ true → own_offer offers offer.party offer.local ≡ None →
    Contains (with_opened offers place party given opens) offer
standing-from_new offers place party given None offer offered answered first = cc
standing-from_new offers place party given (Some opening) offer offered answered first =
    let new : Standing = offer_made place party opening in
    let same : new ≡ offer = same_Some _ _ offered in
    let none : is_none (own_offer offers new.party new.local) ≡ true =
    subst (λ (o : Standing). is_none (own_offer offers o.party o.local) ≡ true) (sym same) (ap is_none first) in
    rw (answered, none) (subst (λ (o : Standing). Contains (offers ++ new ∷ []) o) same (Contains-push offers new))

-- an offer that stood does after an opening
opened_keeps : (offers : List Standing) (place party : ℕ) (given : AnswerKind) (opens : Option Opening) (offer : Standing) → Contains offers offer →
    Contains (with_opened offers place party given opens) offer
opened_keeps offers place party given None offer h = h
opened_keeps offers place party given (Some opening) offer h =
    let new : Standing = offer_made place party opening in
    cond_both (is_degree given) (with_offer offers new) offers (λ os. Contains os offer)
    (λ _. cond_both (is_none (own_offer offers new.party new.local)) (offers ++ new ∷ []) offers (λ os. Contains os offer) (λ _. Contains-append_left offers (new ∷ []) offer h) (λ _. h))
    (λ _. h)

-- and after an ending that is none of it
ended_keeps : (offers : List Standing) (party : ℕ) (ends : Option Ending) (offer : Standing) →
    (eqb party offer.party && ends_name offer.local ends) ≡ false → Contains offers offer → Contains (with_ended offers party ends) offer
ended_keeps offers party None offer stays h = h
ended_keeps offers party (Some ending) offer stays h = left-from_not_ended offers party ending offer stays h

-- the act that opens an offer ends none
ends_not_its_own : (e : PlainEntry) (place : ℕ) (offer : Standing) → offer_of place e.party e.act ≡ Some offer → (act_row e.act).row.ends ≡ None
ends_not_its_own e place offer offered = by_opens (act_row e.act).row.opens refl offered
  where
    by_opens : (opens : Option Opening) → (act_row e.act).row.opens ≡ opens → option_map (offer_made place e.party) opens ≡ Some offer → (act_row e.act).row.ends ≡ None
    by_opens None same h = cc
    by_opens (Some opening) same h = opens_alone e.act opening same

standing-from_since : (later : Entries) (e : PlainEntry) (before : Entries) (offer : Standing) → StandsSince before e later offer → Contains (standing (later ++ e ∷ before)) offer
standing-from_since [] e before offer since =
    ended_keeps (with_opened (standing before) (next_place before) e.party (kind_of e.answer) (act_row e.act).row.opens) e.party (act_row e.act).row.ends offer
    (ends_none e offer (ends_not_its_own e (next_place before) offer since.offered))
    (standing-from_new (standing before) (next_place before) e.party (kind_of e.answer) (act_row e.act).row.opens offer since.offered since.answered since.first)
standing-from_since (l ∷ later) e before offer since =
    let parts = or_parts (ends_offer offer l) (list_any (ends_offer offer) later) (not-true _ since.kept) in
    let journal = later ++ e ∷ before in
    ended_keeps (with_opened (standing journal) (next_place journal) l.party (kind_of l.answer) (act_row l.act).row.opens) l.party (act_row l.act).row.ends offer parts.0
    (opened_keeps (standing journal) (next_place journal) l.party (kind_of l.answer) (act_row l.act).row.opens offer
    (standing-from_since later e before offer (record {
      offered = since.offered;
      answered = since.answered;
      first = since.first;
      kept = not_from_false _ parts.1;
    })))

pub standing-from_Stands : (journal : Entries) (offer : Standing) → Stands journal offer → Contains (standing journal) offer
standing-from_Stands journal offer h = subst (λ j. Contains (standing j) offer) (sym h.3) (standing-from_since h.2 h.1 h.0 offer h.4)
