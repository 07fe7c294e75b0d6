-- Which entries touch nothing, set a control, or make an access.
use Rattle.std.proofs.Common.{◌≡◌, refl, sym, ap, ◌∙◌, ℕ, Bool, true, false, ◌&&◌, eqb, leb, List, [], ◌∷◌, ◌++◌, cond, Option, Some, None, is_none}
use Rattle.std.specs.Prelude.{Contains, IsTrue}
use Rattle.std.specs.Option.{option_map_or}
use Rattle.std.proofs.lemmas.Bool.{eq-eqb, eqb-true, and_parts, and_from}
use Rattle.std.proofs.lemmas.Cmp.{nat_list_eq_equiv}
use Rattle.std.proofs.lemmas.Option.{none-some, same_Some}
use Rattle.apl_arrays.specs.Array.{PlainArray}
use Rattle.sv_access.specs.declared.access.Kind.{Kind}
use Rattle.sv_access.specs.declared.access.Kind.TheVariants as kind
use Rattle.sv_access.specs.declared.control.Control.{Control}
use Rattle.sv_events.specs.Answer.{degree, granted, no_value, not_shared, offer_limit, value}
use Rattle.sv_events.specs.Entry.{PlainEntry}
use Rattle.sv_events.specs.Row.{act_row}
use Rattle.sv_events.specs.declared.event.Act.{Act}
use Rattle.sv_events.specs.declared.event.Act.TheVariants.{Offer, Retract, SetControl, AskControl, AskState, AskDegree, AskParties, AskNames, Set, Use, Leave}
use Rattle.sv_events.specs.declared.event.Hold.{Hold}
use Rattle.sv_events.specs.declared.row.Accessing.{Accessing}
use Rattle.sv_events.specs.declared.row.Controlling.{Controlling}
use Rattle.sv_events.specs.declared.row.Ending.TheVariants.{One, All}
use Rattle.sv_events.specs.declared.row.Opening.{Opening}
use Rattle.sv_events.specs.declared.row.Question.{Question}
use Rattle.sv_rules.specs.Control.{control_on, control_to}
use Rattle.sv_rules.specs.Coupling.{coupling_now, couplings, degree_at, open_match}
use Rattle.apl_arrays.specs.Name.{same_name}
use Rattle.sv_events.specs.Fits.{is_degree}
use Rattle.sv_rules.specs.Entries.{Entries, next_place, kind_of}
use Rattle.sv_rules.specs.Legal.{IsLegal, MayFollow, entry_for}
use Rattle.sv_rules.specs.Outcome.{ActOutcome, outcome, answer_only, joined_to, offer_outcome, retraction_outcome, access_answer, unless_refused, refusal_answer, granted_answer, value_answer, value_for}
use Rattle.sv_rules.specs.Refused.{hold_of, hold_on, waits}
use Rattle.sv_rules.specs.Standing.{standing, own_offer, offer_count, with_offer}
use Rattle.sv_rules.specs.Story.{GrantedAccess, access_on, granted_on}
use Rattle.aux_parties.specs.Auxiliaries.{is_auxiliary}
use Rattle.sv_rules.specs.Work.{tries}
use Rattle.sv_rules.specs.declared.standing.Standing.{Standing}
use Rattle.sv_offer_laws.proofs.ChangeLemmas.{none_ends}
use Rattle.sv_offer_laws.proofs.OfferLemmas.{couplings_stay}
use Rattle.sv_offer_laws.proofs.OwnLemmas.{same_name-is, own_offer-is, own_offer-parts}
use Rattle.sv_story_laws.specs.StoryLaws.{IsAccessOn}
use Rattle.sv_story_laws.proofs.AccessLemmas.{IsAccessOn-from_access, access_on-from_IsAccessOn}
use Rattle.sv_story_laws.proofs.AuxiliaryLemmas.{auxiliaries_are_never_refused}
use Rattle.sv_cell_laws.specs.Steps.{Stays, TouchesNothing, SetsControl, MakesAccess, set_access, use_access}

-- what can be nothing is none
none_if : {X : Type 0} (o : Option X) → ((x : X) → o ≡ Some x → ⊥) → o ≡ None
none_if None never = refl
none_if (Some x) never = absurd (never x refl)

false_if : (b : Bool) → (b ≡ true → ⊥) → b ≡ false
false_if false never = refl
false_if true never = absurd (never refl)

same_both : {X : Type 0} (b : Bool) (x : X) → cond b x x ≡ x
same_both true x = refl
same_both false x = refl

-- an act that makes no access
pub no_access_by_row : (e : PlainEntry) (offer : Standing) → (act_row e.act).row.accesses ≡ None → access_on offer e ≡ None
no_access_by_row e offer none =
    ap (λ (a : Option Accessing). cond (eqb e.party offer.party) (granted_on offer.local (act_row e.act).hands_in e.answer a) None) none ∙ same_both (eqb e.party offer.party) None

pub no_tries_by_row : (e : PlainEntry) (offer : Standing) → (act_row e.act).row.accesses ≡ None → tries offer e ≡ false
no_tries_by_row e offer none =
    ap (λ (a : Option Accessing). eqb e.party offer.party && option_map_or (λ (access : Accessing). same_name access.local offer.local) a false) none ∙ and_false (eqb e.party offer.party)
  where
    and_false : (b : Bool) → (b && false) ≡ false
    and_false true = refl
    and_false false = refl

-- and one that sets no control
pub no_control_by_row : (e : PlainEntry) (offer : Standing) → (act_row e.act).row.controls ≡ None → control_on offer e ≡ None
no_control_by_row e offer none =
    ap (λ (s : Option Controlling). cond (eqb e.party offer.party) (control_to offer.local s) None) none ∙ same_both (eqb e.party offer.party) None

-- an entry that makes no pairs, after which the same offers stand, leaves the couplings
pub stays_of : (journal : Entries) (e : PlainEntry) → standing (e ∷ journal) ≡ standing journal → e.made ≡ [] → Stays journal e
stays_of journal e same none = record { offers = same; coupled = couplings_stay journal e same none }

-- an entry of an act that makes no access and sets no control touches nothing, where it stays so
untouching : (journal : Entries) (e : PlainEntry) → standing (e ∷ journal) ≡ standing journal → e.made ≡ [] → (act_row e.act).row.accesses ≡ None → (act_row e.act).row.controls ≡ None →
    TouchesNothing journal e
untouching journal e same none accesses controls = record {
  stays = stays_of journal e same none;
  none = λ offer has. record {
    access = no_access_by_row e offer accesses;
    control = no_control_by_row e offer controls;
    tries = λ auxiliary. no_tries_by_row e offer accesses;
  };
}

-- a question
pub asking_touches_nothing : (journal : Entries) (party : ℕ) (act : Act) (asked : Question) → (act_row act).row.asks ≡ Some asked → TouchesNothing journal (entry_for journal party act)
asking_touches_nothing journal party (AskControl local) asked h = untouching journal (entry_for journal party (AskControl local)) refl refl refl refl
asking_touches_nothing journal party (AskState local) asked h = untouching journal (entry_for journal party (AskState local)) refl refl refl refl
asking_touches_nothing journal party (AskDegree local) asked h = untouching journal (entry_for journal party (AskDegree local)) refl refl refl refl
asking_touches_nothing journal party AskParties asked h = untouching journal (entry_for journal party AskParties) refl refl refl refl
asking_touches_nothing journal party (AskNames from) asked h = untouching journal (entry_for journal party (AskNames from)) refl refl refl refl
asking_touches_nothing journal party _ asked h = absurd (none-some asked h)

-- a name that is taken back where none stands
pub retraction_of_none : (journal : Entries) (party : ℕ) (act : Act) (local : List ℕ) → (act_row act).row.ends ≡ Some (One local) → own_offer (standing journal) party local ≡ None →
    TouchesNothing journal (entry_for journal party act)
retraction_of_none journal party (Retract name) local h none =
    let same : name ≡ local = let k : One name ≡ One local = same_Some _ _ h in cc in
    let own : own_offer (standing journal) party name ≡ None = ap (own_offer (standing journal) party) same ∙ none in
    untouching journal (entry_for journal party (Retract name)) (none_ends (standing journal) party name own)
    (ap (λ (o : Option Standing). (retraction_outcome journal party name o).made) own) refl refl
retraction_of_none journal party Leave local h none = absurd (let k : All ≡ One local = same_Some _ _ h in cc)
retraction_of_none journal party _ local h none = absurd (none-some _ h)

-- an offer of a name that stands
pub offer_again : (journal : Entries) (party : ℕ) (act : Act) (opening : Opening) (old : Standing) → (act_row act).row.opens ≡ Some opening →
    own_offer (standing journal) party opening.local ≡ Some old → TouchesNothing journal (entry_for journal party act)
offer_again journal party (Offer to local surrogate handed) opening old h own =
    let same : local ≡ opening.local = ap (λ (o : Opening). o.local) (same_Some _ opening h) in
    let stands : own_offer (standing journal) party local ≡ Some old = ap (own_offer (standing journal) party) same ∙ own in
    let new : Standing = record { place = next_place journal; party = party; to = to; local = local; surrogate = surrogate } in
    let out : outcome journal party (Offer to local surrogate handed) ≡ answer_only (degree (degree_at (couplings journal) old.place)) = ap (offer_outcome (standing journal) (couplings journal) new) stands in
    untouching journal (entry_for journal party (Offer to local surrogate handed))
    (ap (λ (o : ActOutcome). cond (is_degree (kind_of o.answer)) (with_offer (standing journal) new) (standing journal)) out
    ∙ ap (λ (o : Option Standing). cond (is_none o) (standing journal ++ new ∷ []) (standing journal)) stands)
    (ap (λ (o : ActOutcome). o.made) out) refl refl
offer_again journal party _ opening old h own = absurd (none-some opening h)

-- one more offer than a party may have
pub offer_past_limit : (journal : Entries) (party : ℕ) (act : Act) (opening : Opening) → (act_row act).row.opens ≡ Some opening → own_offer (standing journal) party opening.local ≡ None →
    leb 64 (offer_count (standing journal) party) ≡ true → TouchesNothing journal (entry_for journal party act)
offer_past_limit journal party (Offer to local surrogate handed) opening h own many =
    let same : local ≡ opening.local = ap (λ (o : Opening). o.local) (same_Some _ opening h) in
    let fresh : own_offer (standing journal) party local ≡ None = ap (own_offer (standing journal) party) same ∙ own in
    let new : Standing = record { place = next_place journal; party = party; to = to; local = local; surrogate = surrogate } in
    let out : outcome journal party (Offer to local surrogate handed) ≡ answer_only offer_limit =
    ap (offer_outcome (standing journal) (couplings journal) new) fresh ∙ ap (λ (b : Bool). cond b (answer_only offer_limit) (joined_to new (open_match (standing journal) (couplings journal) new))) many in
    untouching journal (entry_for journal party (Offer to local surrogate handed))
    (ap (λ (o : ActOutcome). cond (is_degree (kind_of o.answer)) (with_offer (standing journal) new) (standing journal)) out)
    (ap (λ (o : ActOutcome). o.made) out) refl refl
offer_past_limit journal party _ opening h own many = absurd (none-some opening h)

-- what a party tries is its own offer of the name
tried_is_own : (journal : Entries) (e : PlainEntry) (access : Accessing) (offer : Standing) → (act_row e.act).row.accesses ≡ Some access → Contains (standing journal) offer → tries offer e ≡ true →
    own_offer (standing journal) e.party access.local ≡ Some offer
tried_is_own journal e access offer row has h =
    let k : (eqb e.party offer.party && same_name access.local offer.local) ≡ true =
    ap (λ (a : Option Accessing). eqb e.party offer.party && option_map_or (λ (x : Accessing). same_name x.local offer.local) a false) (sym row) ∙ h in
    let parts = and_parts (eqb e.party offer.party) (same_name access.local offer.local) k in
    ap (λ p. own_offer (standing journal) p access.local) (eqb-true e.party offer.party parts.0)
    ∙ ap (own_offer (standing journal) offer.party) (same_name-is access.local offer.local parts.1) ∙ own_offer-is journal offer has

-- what a party controls is its own offer of the name
controlled_is_own : (journal : Entries) (e : PlainEntry) (set : Controlling) (offer : Standing) (control : Control) → (act_row e.act).row.controls ≡ Some set → Contains (standing journal) offer →
    control_on offer e ≡ Some control → own_offer (standing journal) e.party set.local ≡ Some offer
controlled_is_own journal e set offer control row has h = by (eqb e.party offer.party) refl (same_name set.local offer.local) refl
    (ap (λ (s : Option Controlling). cond (eqb e.party offer.party) (control_to offer.local s) None) (sym row) ∙ h)
  where
    by : (b : Bool) → eqb e.party offer.party ≡ b → (n : Bool) → same_name set.local offer.local ≡ n →
        cond (eqb e.party offer.party) (cond (same_name set.local offer.local) (Some set.control) None) None ≡ Some control → own_offer (standing journal) e.party set.local ≡ Some offer
    by true p true n k =
        ap (λ x. own_offer (standing journal) x set.local) (eqb-true e.party offer.party p) ∙ ap (own_offer (standing journal) offer.party) (same_name-is set.local offer.local n) ∙ own_offer-is journal offer has
    by true p false n k = absurd (none-some control (rw (p, n) at k))
    by false p n q k = absurd (none-some control (rw p at k))

-- a control of a name that does not stand
pub control_of_none : (journal : Entries) (party : ℕ) (act : Act) (set : Controlling) → (act_row act).row.controls ≡ Some set → own_offer (standing journal) party set.local ≡ None →
    TouchesNothing journal (entry_for journal party act)
control_of_none journal party (SetControl local control) set h none = record {
  stays = stays_of journal e refl refl;
  none = λ offer has. record {
    access = no_access_by_row e offer refl;
    control = none_if (control_on offer e) (λ c k. none-some offer (sym none ∙ controlled_is_own journal e set offer c h has k));
    tries = λ auxiliary. no_tries_by_row e offer refl;
  };
}
  where
    e : PlainEntry
    e = entry_for journal party (SetControl local control)
control_of_none journal party _ set h none = absurd (none-some set h)

-- a control of an offer that stands
pub control_of_own : (journal : Entries) (party : ℕ) (act : Act) (set : Controlling) (own : Standing) → (act_row act).row.controls ≡ Some set → own_offer (standing journal) party set.local ≡ Some own →
    SetsControl journal (entry_for journal party act) own set.control
control_of_own journal party (SetControl local control) set own h stands = record {
  stays = stays_of journal e refl refl;
  no_access = λ offer has. no_access_by_row e offer refl;
  no_tries = λ offer has. no_tries_by_row e offer refl;
  sets =
      let parts = own_offer-parts (standing journal) party set.local own stands in
      ap (λ b. cond b (control_to own.local (Some is)) None) (eq-eqb party own.party (sym parts.0))
      ∙ ap (λ n. cond (same_name n own.local) (Some control) None) (ap (λ (s : Controlling). s.local) same ∙ sym parts.1)
      ∙ ap (λ b. cond b (Some control) None) (nat_list_eq_equiv.refl own.local)
      ∙ ap (λ (s : Controlling). Some s.control) same;
  others = λ offer has other. none_if (control_on offer e)
      (λ c k. other (ap (λ (o : Standing). o.place) (same_Some offer own (sym (controlled_is_own journal e set offer c h has k) ∙ stands))));
}
  where
    e : PlainEntry
    e = entry_for journal party (SetControl local control)

    is : Controlling
    is = record { local = local; control = control }

    same : is ≡ set
    same = same_Some is set h
control_of_own journal party _ set own h stands = absurd (none-some set h)

-- the answer to an access
answer_of_access : (journal : Entries) (party : ℕ) (act : Act) (access : Accessing) → (act_row act).row.accesses ≡ Some access →
    (outcome journal party act ≡ answer_only (access_answer journal party access.kind (own_offer (standing journal) party access.local)))
    × (standing (entry_for journal party act ∷ journal) ≡ standing journal) × ((act_row act).row.controls ≡ None)
answer_of_access journal party (Set local v) access h =
    (ap (λ (a : Accessing). answer_only (access_answer journal party a.kind (own_offer (standing journal) party a.local))) (same_Some _ access h), refl, refl)
answer_of_access journal party (Use local) access h =
    (ap (λ (a : Accessing). answer_only (access_answer journal party a.kind (own_offer (standing journal) party a.local))) (same_Some _ access h), refl, refl)
answer_of_access journal party _ access h = absurd (none-some access h)

-- an answer that grants nothing makes no access
ungranted : (e : PlainEntry) (offer : Standing) → (e.answer ≡ granted → ⊥) → ((v : PlainArray) → e.answer ≡ value v → ⊥) → access_on offer e ≡ None
ungranted e offer no_grant no_v = none_if (access_on offer e) (λ access h. by access.kind access.value (IsAccessOn-from_access offer e access h))
  where
    by : (k : Kind) (v : PlainArray) → IsAccessOn offer e (record { kind = k; value = v }) → ⊥
    by kind.Set v is = no_grant is.1.1
    by kind.Use v is = no_v v is.1.1

-- an access that grants nothing on no offer of an auxiliary touches nothing
ungranted_touches_nothing : (journal : Entries) (party : ℕ) (act : Act) (access : Accessing) → (act_row act).row.accesses ≡ Some access →
    ((outcome journal party act).answer ≡ granted → ⊥) → ((v : PlainArray) → (outcome journal party act).answer ≡ value v → ⊥) →
    ((offer : Standing) → IsTrue (is_auxiliary offer.party) → Contains (standing journal) offer → own_offer (standing journal) party access.local ≡ Some offer → ⊥) →
    TouchesNothing journal (entry_for journal party act)
ungranted_touches_nothing journal party act access h no_grant no_v not_own =
    let parts = answer_of_access journal party act access h in
    let e : PlainEntry = entry_for journal party act in
    record {
      stays = stays_of journal e parts.1 (ap (λ (o : ActOutcome). o.made) parts.0);
      none = λ offer has. record {
        access = ungranted e offer no_grant no_v;
        control = no_control_by_row e offer parts.2;
        tries = λ auxiliary. false_if (tries offer e) (λ t. not_own offer auxiliary has (tried_is_own journal e access offer h has t));
      };
    }

-- an access of a name that does not stand
pub access_of_none : (journal : Entries) (party : ℕ) (act : Act) (access : Accessing) → (act_row act).row.accesses ≡ Some access → own_offer (standing journal) party access.local ≡ None →
    TouchesNothing journal (entry_for journal party act)
access_of_none journal party act access h none =
    ungranted_touches_nothing journal party act access h (λ k. let other : not_shared ≡ granted = sym is ∙ k in cc) (λ v k. let other : not_shared ≡ value v = sym is ∙ k in cc)
    (λ offer auxiliary has own. none-some offer (sym none ∙ own))
  where
    is : (outcome journal party act).answer ≡ not_shared
    is = ap (λ (o : ActOutcome). o.answer) (answer_of_access journal party act access h).0 ∙ ap (access_answer journal party access.kind) none

-- a refused access
pub refused_touches_nothing : (users : List ℕ) (journal : Entries) (party : ℕ) (act : Act) (access : Accessing) (own : Standing) (hold : Hold) → IsLegal users journal →
    MayFollow users journal (entry_for journal party act) → (act_row act).row.accesses ≡ Some access → own_offer (standing journal) party access.local ≡ Some own →
    hold_on journal access.kind (Some own) ≡ Some hold → TouchesNothing journal (entry_for journal party act)
refused_touches_nothing users journal party act access own hold legal may h stands refuses =
    ungranted_touches_nothing journal party act access h (λ k. no_grant (waits journal party) (sym is ∙ k)) (λ v k. no_v (waits journal party) v (sym is ∙ k)) not_own
  where
    is : (outcome journal party act).answer ≡ refusal_answer (waits journal party) hold
    is = ap (λ (o : ActOutcome). o.answer) (answer_of_access journal party act access h).0 ∙ ap (access_answer journal party access.kind) stands ∙ ap (unless_refused journal party own access.kind) refuses

    no_grant : (b : Bool) → refusal_answer b hold ≡ granted → ⊥
    no_grant true k = cc
    no_grant false k = cc

    no_v : (b : Bool) (v : PlainArray) → refusal_answer b hold ≡ value v → ⊥
    no_v true v k = cc
    no_v false v k = cc

    refusing : (a : Accessing) → (act_row act).row.accesses ≡ Some a → a ≡ access
    refusing a k = same_Some a access (sym k ∙ h)

    not_own : (offer : Standing) → IsTrue (is_auxiliary offer.party) → Contains (standing journal) offer → own_offer (standing journal) party access.local ≡ Some offer → ⊥
    not_own offer auxiliary has found =
        let same : party ≡ offer.party = sym (own_offer-parts (standing journal) party access.local offer found).0 in
        let never = auxiliaries_are_never_refused users journal (entry_for journal party act) (may, legal) (ap is_auxiliary same ∙ auxiliary) in
        none-some hold (sym never ∙ ap (λ (a : Option Accessing). hold_of journal party a) h ∙ ap (hold_on journal access.kind) stands ∙ refuses)

-- an offer that is not tried is not accessed
untried : (e : PlainEntry) (access : Accessing) (offer : Standing) → (act_row e.act).row.accesses ≡ Some access → tries offer e ≡ false → access_on offer e ≡ None
untried e access offer row h =
    ap (λ (a : Option Accessing). cond (eqb e.party offer.party) (granted_on offer.local (act_row e.act).hands_in e.answer a) None) row
    ∙ by (eqb e.party offer.party) (same_name access.local offer.local) _
    (ap (λ (a : Option Accessing). eqb e.party offer.party && option_map_or (λ (x : Accessing). same_name x.local offer.local) a false) (sym row) ∙ h)
  where
    by : (b n : Bool) (got : Option GrantedAccess) → (b && n) ≡ false → cond b (cond n got None) None ≡ None
    by true true got k = cc
    by true false got k = refl
    by false n got k = refl

-- an access of a party's own offer that stands
access_of_own : (journal : Entries) (party : ℕ) (act : Act) (access : Accessing) (own : Standing) (made : Option GrantedAccess) → (act_row act).row.accesses ≡ Some access →
    own_offer (standing journal) party access.local ≡ Some own → access_on own (entry_for journal party act) ≡ made → MakesAccess journal (entry_for journal party act) own made
access_of_own journal party act access own made row stands is = record {
  stays = stays_of journal e parts.1 (ap (λ (o : ActOutcome). o.made) parts.0);
  makes = is;
  tried = tried_own;
  no_control = λ offer has. no_control_by_row e offer parts.2;
  no_other = λ offer has other. untried e access offer row (others offer has other);
  no_tries = others;
}
  where
    e : PlainEntry
    e = entry_for journal party act

    parts : (outcome journal party act ≡ answer_only (access_answer journal party access.kind (own_offer (standing journal) party access.local)))
        × (standing (e ∷ journal) ≡ standing journal) × ((act_row act).row.controls ≡ None)
    parts = answer_of_access journal party act access row

    tried_own : tries own e ≡ true
    tried_own =
        let of = own_offer-parts (standing journal) party access.local own stands in
        ap (λ (a : Option Accessing). eqb party own.party && option_map_or (λ (x : Accessing). same_name x.local own.local) a false) row
        ∙ and_from (eqb party own.party) (same_name access.local own.local) (eq-eqb party own.party (sym of.0)) (ap (λ n. same_name n own.local) (sym of.1) ∙ nat_list_eq_equiv.refl own.local)

    others : (offer : Standing) → Contains (standing journal) offer → (offer.place ≡ own.place → ⊥) → tries offer e ≡ false
    others offer has other =
        false_if (tries offer e) (λ t. other (ap (λ (o : Standing). o.place) (same_Some offer own (sym (tried_is_own journal e access offer row has t) ∙ stands))))

-- the answer to an access that is not refused
granted_is : (journal : Entries) (party : ℕ) (act : Act) (access : Accessing) (own : Standing) → (act_row act).row.accesses ≡ Some access → own_offer (standing journal) party access.local ≡ Some own →
    hold_on journal access.kind (Some own) ≡ None → (outcome journal party act).answer ≡ granted_answer journal own access.kind
granted_is journal party act access own row stands free =
    ap (λ (o : ActOutcome). o.answer) (answer_of_access journal party act access row).0 ∙ ap (access_answer journal party access.kind) stands ∙ ap (unless_refused journal party own access.kind) free

-- a set that is not refused
pub set_makes_access : (journal : Entries) (party : ℕ) (act : Act) (access : Accessing) (own : Standing) (v : PlainArray) → (act_row act).row.accesses ≡ Some access → access.kind ≡ kind.Set →
    own_offer (standing journal) party access.local ≡ Some own → hold_on journal access.kind (Some own) ≡ None → (act_row act).hands_in ≡ Some v →
    MakesAccess journal (entry_for journal party act) own (set_access v)
set_makes_access journal party act access own v row set stands free handed =
    access_of_own journal party act access own (set_access v) row stands
    (access_on-from_IsAccessOn own (entry_for journal party act) (record { kind = kind.Set; value = v })
    (sym of.0, (act_is act row handed, granted_is journal party act access own row stands free ∙ ap (granted_answer journal own) set)))
  where
    of : (own.party ≡ party) × (own.local ≡ access.local) × Contains (standing journal) own
    of = own_offer-parts (standing journal) party access.local own stands

    act_is : (a : Act) → (act_row a).row.accesses ≡ Some access → (act_row a).hands_in ≡ Some v → a ≡ Set own.local v
    act_is (Set local w) r h = ap (λ n. Set n w) (ap (λ (x : Accessing). x.local) (same_Some _ access r) ∙ sym of.1) ∙ ap (Set own.local) (same_Some w v h)
    act_is (Use local) r h = absurd (none-some v h)
    act_is _ r h = absurd (none-some access r)

-- a use that is not refused
pub use_makes_access : (journal : Entries) (party : ℕ) (act : Act) (access : Accessing) (own : Standing) → (act_row act).row.accesses ≡ Some access → access.kind ≡ kind.Use →
    own_offer (standing journal) party access.local ≡ Some own → hold_on journal access.kind (Some own) ≡ None →
    MakesAccess journal (entry_for journal party act) own (use_access (value_for journal own (coupling_now journal own.place)))
use_makes_access journal party act access own row used stands free =
    access_of_own journal party act access own (use_access found) row stands (by found refl)
  where
    found : Option PlainArray
    found = value_for journal own (coupling_now journal own.place)

    of : (own.party ≡ party) × (own.local ≡ access.local) × Contains (standing journal) own
    of = own_offer-parts (standing journal) party access.local own stands

    is : (outcome journal party act).answer ≡ value_answer found
    is = granted_is journal party act access own row stands free ∙ ap (granted_answer journal own) used

    act_is : (a : Act) → (act_row a).row.accesses ≡ Some access → a ≡ Use own.local
    act_is (Set local w) r = absurd (let k : kind.Set ≡ kind.Use = ap (λ (x : Accessing). x.kind) (same_Some _ access r) ∙ used in cc)
    act_is (Use local) r = ap Use (ap (λ (x : Accessing). x.local) (same_Some _ access r) ∙ sym of.1)
    act_is _ r = absurd (none-some access r)

    by : (got : Option PlainArray) → found ≡ got → access_on own (entry_for journal party act) ≡ use_access found
    by None h =
        ungranted (entry_for journal party act) own (λ k. let other : no_value ≡ granted = sym (is ∙ ap value_answer h) ∙ k in cc) (λ v k. let other : no_value ≡ value v = sym (is ∙ ap value_answer h) ∙ k in cc)
        ∙ ap use_access (sym h)
    by (Some v) h =
        access_on-from_IsAccessOn own (entry_for journal party act) (record { kind = kind.Use; value = v }) (sym of.0, (act_is act row, is ∙ ap value_answer h)) ∙ ap use_access (sym h)
