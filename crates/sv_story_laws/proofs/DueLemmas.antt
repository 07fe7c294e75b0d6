-- Which work is due to an auxiliary first, and which offer it counters.
use Rattle.std.proofs.Common.{◌≡◌, refl, sym, ap, ◌∙◌, subst, ℕ, Bool, true, false, ◌&&◌, not, eqb, ltb, List, ◌∷◌, Option, Some, None, inl, inr}
use Rattle.std.specs.Prelude.{◌↔◌, IsTrue, filter, find, option_map, unwrap_or}
use Rattle.std.specs.Option.{option_or}
use Rattle.std.proofs.lemmas.Bool.{cases_Bool, and_parts, and_from, not-true, eqb-true, eq-eqb, lt-ltb, ltb-true}
use Rattle.std.proofs.lemmas.Option.{none-some, same_Some}
use Rattle.apl_arrays.specs.Array.{PlainArray}
use Rattle.sv_events.specs.Entry.{PlainEntry}
use Rattle.sv_events.specs.Row.{act_row}
use Rattle.sv_events.specs.Work.{all_controlled, counter_name}
use Rattle.sv_events.specs.declared.event.Act.{Act}
use Rattle.sv_events.specs.declared.event.Act.TheVariants.{Offer, Retract, SetControl, Set, Use}
use Rattle.sv_events.specs.declared.work.Work.{Work}
use Rattle.sv_events.specs.declared.work.Work.TheVariants as work
use Rattle.aux_parties.specs.Auxiliaries.{is_auxiliary, most_counters, party_of, auxiliary_row}
use Rattle.sv_rules.specs.Coupling.{couplings, is_coupled}
use Rattle.sv_rules.specs.Entries.{Entries, next_place, is_full}
use Rattle.sv_rules.specs.Legal.{IsLegal, act_due, act_for}
use Rattle.sv_rules.specs.Standing.{standing, offer_count}
use Rattle.sv_rules.specs.Work.{first_open, first_coupled, lacks_control, owes_reply, has_unseen, to_counter, work_due, work_of}
use Rattle.aux_parties.specs.declared.auxiliary.AuxiliaryKind.{AuxiliaryKind}
use Rattle.sv_rules.specs.declared.standing.Standing.{Standing}
use Rattle.aux_parties.proofs.TableLemmas.{kind_of_party, rows_allow}
use Rattle.sv_story_laws.specs.WorkLaws.{HoldsOfNone, IsFirstThatApplies, IsLowest, IsOwnOpen, IsToCounter, MayCounter, LacksControl, OwesReply, HasUnseen}
use Rattle.sv_story_laws.proofs.WorkLemmas.{find-of_filter, first_is_lowest, lowest_by, first_open_is_lowest, first_coupled_is_lowest}

-- an auxiliary may have one offer more
may_counter : (journal : Entries) (party : ℕ) → is_auxiliary party ≡ true → (ltb (offer_count (standing journal) party) (most_counters party) ≡ true) ↔ MayCounter journal party
may_counter journal party aux = (
  (λ few kind is. ltb-true count (auxiliary_row kind).counters (ap (ltb count) (sym (allowed kind is)) ∙ few)),
  (λ may. let own = kind_of_party party aux in ap (ltb count) (allowed own.0 (sym own.1)) ∙ lt-ltb count (auxiliary_row own.0).counters (may own.0 (sym own.1))),
)
  where
    count : ℕ
    count = offer_count (standing journal) party

    allowed : (kind : AuxiliaryKind) → party ≡ party_of kind → most_counters party ≡ (auxiliary_row kind).counters
    allowed kind is = ap most_counters is ∙ rows_allow kind

-- the offer that is to be countered is the one of the lowest place
pub first_to_counter_is_lowest : (journal : Entries) (party : ℕ) (offer : Standing) → IsTrue (is_auxiliary party) →
    (to_counter journal party ≡ Some offer) ↔ IsLowest (standing journal) (IsToCounter journal party) offer
first_to_counter_is_lowest journal party offer aux = (
  (λ h. lowest_by (standing journal) (λ o. passes o ≡ true) (IsToCounter journal party) offer to from ((first_is_lowest passes journal offer).0 (sym found ∙ h))),
  (λ lowest. found ∙ (first_is_lowest passes journal offer).1 (lowest_by (standing journal) (IsToCounter journal party) (λ o. passes o ≡ true) offer from to lowest)),
)
  where
    more : Bool
    more = ltb (offer_count (standing journal) party) (most_counters party)

    free : Standing → Bool
    free o = not (is_coupled (couplings journal) o.place)

    made : Standing → Bool
    made o = eqb o.to party

    passes : Standing → Bool
    passes o = free o && (made o && more)

    found : to_counter journal party ≡ find passes (standing journal)
    found = find-of_filter (λ (o : Standing). more) made (filter free (standing journal)) ∙ find-of_filter (λ (o : Standing). made o && more) free (standing journal)

    to : (o : Standing) → passes o ≡ true → IsToCounter journal party o
    to o h =
        let outer = and_parts (free o) (made o && more) h in
        let inner = and_parts (made o) more outer.1 in
        record { open_still = outer.0; made_to = eqb-true o.to party inner.0; room = (may_counter journal party aux).0 inner.1 }

    from : (o : Standing) → IsToCounter journal party o → passes o ≡ true
    from o is =
        and_from (free o) (made o && more) is.open_still
        (and_from (made o) more (eq-eqb o.to party is.made_to) ((may_counter journal party aux).1 is.room))

-- what is found first is nothing where nothing is such
none_is_first : (journal : Entries) (holds : Standing → Type 0) (first : Option Standing) →
    ((offer : Standing) → first ≡ Some offer → IsLowest (standing journal) holds offer) → HoldsOfNone journal holds → first ≡ None
none_is_first journal holds None lowest none = refl
none_is_first journal holds (Some offer) lowest none = let is = lowest offer refl in absurd (none offer is.among is.here)

-- the work that is due by what was found for each kind
abbrev due_among : Option Standing → Option Standing → Option Standing → Option Standing → Option Standing → Option Work
due_among open' lacking owing waiting unseen =
    option_or (option_map (λ offer. work.Retract offer.local) open')
    (option_or (option_map (λ offer. work.Control offer.local) lacking)
    (option_or (option_map (λ offer. work.Reply offer.local) owing)
    (option_or (option_map (λ offer. work.Counter offer.party offer.surrogate) waiting)
    (option_map (λ offer. work.Use offer.local) unseen))))

pub work_is_the_first_that_applies : (journal : Entries) (party : ℕ) → IsTrue (is_auxiliary party) → IsFirstThatApplies journal party (work_due journal party)
work_is_the_first_that_applies journal party aux = record {
  retract = λ offer is. ap (λ (o : Option Standing). due_among o lacking owing waiting unseen) ((first_open_is_lowest journal party offer).1 is);
  control = λ no_open offer is. ap (λ (o : Option Standing). due_among o lacking owing waiting unseen) (none_open no_open)
      ∙ ap (λ (o : Option Standing). due_among None o owing waiting unseen) ((first_coupled_is_lowest journal (lacks_control journal) party offer).1 is);
  reply = λ no_open no_lacking offer is. passed_two no_open no_lacking
      ∙ ap (λ (o : Option Standing). due_among None None o waiting unseen) ((first_coupled_is_lowest journal (owes_reply journal) party offer).1 is);
  counter = λ no_open no_lacking no_owing offer is. passed_three no_open no_lacking no_owing
      ∙ ap (λ (o : Option Standing). due_among None None None o unseen) ((first_to_counter_is_lowest journal party offer aux).1 is);
  use_set = λ no_open no_lacking no_owing no_waiting offer is. passed_four no_open no_lacking no_owing no_waiting
      ∙ ap (λ (o : Option Standing). due_among None None None None o) ((first_coupled_is_lowest journal (has_unseen journal) party offer).1 is);
  none = λ no_open no_lacking no_owing no_waiting no_unseen. passed_four no_open no_lacking no_owing no_waiting
      ∙ ap (λ (o : Option Standing). due_among None None None None o) (none_is_first journal (HasUnseen journal party) unseen (λ o is. (first_coupled_is_lowest journal (has_unseen journal) party o).0 is) no_unseen);
}
  where
    opened : Option Standing
    opened = first_open journal party

    lacking : Option Standing
    lacking = first_coupled journal (lacks_control journal) party

    owing : Option Standing
    owing = first_coupled journal (owes_reply journal) party

    waiting : Option Standing
    waiting = to_counter journal party

    unseen : Option Standing
    unseen = first_coupled journal (has_unseen journal) party

    none_open : HoldsOfNone journal (IsOwnOpen journal party) → opened ≡ None
    none_open none = none_is_first journal (IsOwnOpen journal party) opened (λ o is. (first_open_is_lowest journal party o).0 is) none

    passed_two : HoldsOfNone journal (IsOwnOpen journal party) → HoldsOfNone journal (LacksControl journal party) → due_among opened lacking owing waiting unseen ≡ due_among None None owing waiting unseen
    passed_two no_open no_lacking =
        ap (λ (o : Option Standing). due_among o lacking owing waiting unseen) (none_open no_open)
        ∙ ap (λ (o : Option Standing). due_among None o owing waiting unseen)
        (none_is_first journal (LacksControl journal party) lacking (λ o is. (first_coupled_is_lowest journal (lacks_control journal) party o).0 is) no_lacking)

    passed_three : HoldsOfNone journal (IsOwnOpen journal party) → HoldsOfNone journal (LacksControl journal party) → HoldsOfNone journal (OwesReply journal party) →
        due_among opened lacking owing waiting unseen ≡ due_among None None None waiting unseen
    passed_three no_open no_lacking no_owing =
        passed_two no_open no_lacking
        ∙ ap (λ (o : Option Standing). due_among None None o waiting unseen)
        (none_is_first journal (OwesReply journal party) owing (λ o is. (first_coupled_is_lowest journal (owes_reply journal) party o).0 is) no_owing)

    passed_four : HoldsOfNone journal (IsOwnOpen journal party) → HoldsOfNone journal (LacksControl journal party) → HoldsOfNone journal (OwesReply journal party) →
        HoldsOfNone journal (IsToCounter journal party) → due_among opened lacking owing waiting unseen ≡ due_among None None None None unseen
    passed_four no_open no_lacking no_owing no_waiting =
        passed_three no_open no_lacking no_owing
        ∙ ap (λ (o : Option Standing). due_among None None None o unseen)
        (none_is_first journal (IsToCounter journal party) waiting (λ o is. (first_to_counter_is_lowest journal party o aux).0 is) no_waiting)

pub work_is_what_is_due : (journal : Entries) (party : ℕ) → IsTrue (not (is_full journal)) → work_of journal party ≡ unwrap_or (work_due journal party) work.Idle
work_is_what_is_due journal party room = let free : is_full journal ≡ false = not-true (is_full journal) room in rw free refl

-- work that is a counter-offer, by what was found for each kind
counter_is_of : (opened lacking owing waiting unseen : Option Standing) (to : ℕ) (surrogate : List ℕ) →
    unwrap_or (due_among opened lacking owing waiting unseen) work.Idle ≡ work.Counter to surrogate →
    (offer : Standing) × (waiting ≡ Some offer) × (to ≡ offer.party) × (surrogate ≡ offer.surrogate)
counter_is_of (Some o) lacking owing waiting unseen to surrogate h = absurd (let no : work.Retract o.local ≡ work.Counter to surrogate = h in cc)
counter_is_of None (Some o) owing waiting unseen to surrogate h = absurd (let no : work.Control o.local ≡ work.Counter to surrogate = h in cc)
counter_is_of None None (Some o) waiting unseen to surrogate h = absurd (let no : work.Reply o.local ≡ work.Counter to surrogate = h in cc)
counter_is_of None None None (Some o) unseen to surrogate h = let same : work.Counter o.party o.surrogate ≡ work.Counter to surrogate = h in (o, refl, cc, cc)
counter_is_of None None None None (Some o) to surrogate h = absurd (let no : work.Use o.local ≡ work.Counter to surrogate = h in cc)
counter_is_of None None None None None to surrogate h = absurd (let no : work.Idle ≡ work.Counter to surrogate = h in cc)

-- an auxiliary's offer is a counter-offer
offer_due : (due : Work) (place to : ℕ) (local surrogate : List ℕ) (handed : Option PlainArray) → act_for due place handed ≡ Some (Offer to local surrogate handed) →
    (due ≡ work.Counter to surrogate) × (local ≡ counter_name place) × (handed ≡ None)
offer_due work.Idle place to local surrogate handed h = absurd (none-some _ h)
offer_due (work.Retract name) place to local surrogate handed h = absurd (let no : Retract name ≡ Offer to local surrogate handed = same_Some _ _ h in cc)
offer_due (work.Control name) place to local surrogate handed h = absurd (let no : SetControl name all_controlled ≡ Offer to local surrogate handed = same_Some _ _ h in cc)
offer_due (work.Reply name) place to local surrogate None h = absurd (none-some _ h)
offer_due (work.Reply name) place to local surrogate (Some reply) h = absurd (let no : Set name reply ≡ Offer to local surrogate (Some reply) = same_Some _ _ h in cc)
offer_due (work.Counter party name) place to local surrogate handed h =
    let same : Offer party (counter_name place) name None ≡ Offer to local surrogate handed = same_Some _ _ h in
    let to_is : party ≡ to = cc in
    let name_is : name ≡ surrogate = cc in
    let due_is : work.Counter party name ≡ work.Counter to surrogate = cc in
    let local_is : local ≡ counter_name place = cc in
    let none_is : handed ≡ None = cc in
    (due_is, local_is, none_is)
offer_due (work.Use name) place to local surrogate handed h = absurd (let no : Use name ≡ Offer to local surrogate handed = same_Some _ _ h in cc)

pub counters_are_made_to_the_lowest : (users : List ℕ) (journal : Entries) (e : PlainEntry) → IsLegal users (e ∷ journal) → IsTrue (is_auxiliary e.party) →
    (to : ℕ) (local surrogate : List ℕ) (handed : Option PlainArray) → e.act ≡ Offer to local surrogate handed →
    (countered : Standing) × IsLowest (standing journal) (IsToCounter journal e.party) countered × (to ≡ countered.party)
    × (surrogate ≡ countered.surrogate) × (local ≡ counter_name (next_place journal)) × (handed ≡ None)
counters_are_made_to_the_lowest users journal e legal aux to local surrogate handed offers =
    let due : act_due true journal e.party e.act ≡ Some e.act = subst (λ (b : Bool). act_due b journal e.party e.act ≡ Some e.act) aux legal.0.due in
    let at : act_for (work_of journal e.party) (next_place journal) handed ≡ Some (Offer to local surrogate handed) =
    subst (λ (a : Act). act_for (work_of journal e.party) (next_place journal) (act_row a).hands_in ≡ Some a) offers due in
    let parts = offer_due (work_of journal e.party) (next_place journal) to local surrogate handed at in
    let found = counter_found parts.0 in
    (found.0, (first_to_counter_is_lowest journal e.party found.0 aux).0 found.1, found.2, found.3, parts.1, parts.2)
  where
    counter_found : work_of journal e.party ≡ work.Counter to surrogate → (offer : Standing) × (to_counter journal e.party ≡ Some offer) × (to ≡ offer.party) × (surrogate ≡ offer.surrogate)
    counter_found is = elim (cases_Bool (is_full journal)) [
      | inl full ↦ absurd (let no : work.Idle ≡ work.Counter to surrogate = rw full at is in cc)
      | inr room ↦
          counter_is_of (first_open journal e.party) (first_coupled journal (lacks_control journal) e.party) (first_coupled journal (owes_reply journal) e.party) (to_counter journal e.party)
          (first_coupled journal (has_unseen journal) e.party) to surrogate (rw room at is)
    ]
