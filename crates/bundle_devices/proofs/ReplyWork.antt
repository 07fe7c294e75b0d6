-- Where the work of an auxiliary is a reply, its partner is there, and the value to reply to.
use Rattle.std.proofs.Common.{◌≡◌, ℕ, ◌&&◌, Bool, true, false, not, cond, find, List, [], ◌∷◌, Option, Some, None, refl, sym, ap, ap₂, ◌∙◌}
use Rattle.std.specs.Prelude.{◌==◌, Contains, nat_lt, option_and_then, option_map, unwrap_or, if◌then◌else◌}
use Rattle.std.specs.Option.{option_map_or}
use Rattle.std.proofs.lemmas.Bool.{eqb-true}
use Rattle.apl_arrays.specs.Array.{PlainArray}
use Rattle.apl_arrays.specs.Name.{same_name}
use Rattle.sv_access.specs.Access.{is_set}
use Rattle.sv_access.specs.declared.access.Kind.{Kind}
use Rattle.sv_access.specs.declared.access.Kind.TheVariants as kind
use Rattle.sv_events.specs.Answer.{PlainAnswer}
use Rattle.sv_events.specs.Entry.{PlainEntry}
use Rattle.sv_events.specs.Row.{act_row}
use Rattle.sv_events.specs.declared.row.Accessing.{Accessing}
use Rattle.sv_events.specs.declared.work.Work.TheVariants as work
use Rattle.sv_offer_laws.proofs.Members.{Contains-from_filter, filter_passed, find_passed}
use Rattle.sv_offer_laws.proofs.OwnLemmas.{own_offer-is}
use Rattle.sv_rules.specs.Coupling.{coupling_now, partner_in}
use Rattle.sv_rules.specs.Entries.{Entries, is_full, is_granted, kind_of, next_place, since, value_got}
use Rattle.sv_rules.specs.Standing.{own_offer, standing}
use Rattle.sv_rules.specs.Story.{GrantedAccess, granted_as, granted_on}
use Rattle.sv_rules.specs.Work.{first_coupled, first_open, first_work, gets_value, has_unseen, lacks_control, own_offers, owes_reply, to_counter, tries, work_of}
use Rattle.sv_rules.specs.declared.coupling.Coupling.{Coupling}
use Rattle.sv_rules.specs.declared.standing.Standing.{Standing}
use Rattle.session_rules.specs.Auxiliaries.{is_use_on, partner_of, partner_on, is_use_of, value_used}

-- ---- the offer

same_local : (one other : List ℕ) → work.Reply one ≡ work.Reply other → one ≡ other
same_local one other e = cc

-- a reply is on the first offer that owes one
owing : (full : Bool) (opened lacks owes to unseen : Option Standing) (local : List ℕ) → (if full then work.Idle else unwrap_or (first_work opened lacks owes to unseen) work.Idle) ≡ work.Reply local
    → (offer : Standing) × (owes ≡ Some offer) × (offer.local ≡ local)
owing true opened lacks owes to unseen local h = absurd (let no : work.Idle ≡ work.Reply local = h in cc)
owing false (Some offer) lacks owes to unseen local h = absurd (let no : work.Retract offer.local ≡ work.Reply local = h in cc)
owing false None (Some offer) owes to unseen local h = absurd (let no : work.Control offer.local ≡ work.Reply local = h in cc)
owing false None None (Some offer) to unseen local h = (offer, refl, same_local offer.local local h)
owing false None None None (Some offer) unseen local h = absurd (let no : work.Counter offer.party offer.surrogate ≡ work.Reply local = h in cc)
owing false None None None None (Some offer) local h = absurd (let no : work.Use offer.local ≡ work.Reply local = h in cc)
owing false None None None None None local h = absurd (let no : work.Idle ≡ work.Reply local = h in cc)

-- an offer that owes a reply is the party's, the one of its local name, and coupled
record Owes (journal : Entries) (party : ℕ) (offer : Standing) : Type 0 where
  own : offer.party ≡ party
  found : own_offer (standing journal) offer.party offer.local ≡ Some offer
  coupling : Coupling
  coupled : coupling_now journal offer.place ≡ Some coupling
  owes : owes_reply journal offer coupling ≡ true

owing_parts : (journal : Entries) (party : ℕ) (offer : Standing) → first_coupled journal (owes_reply journal) party ≡ Some offer → Owes journal party offer
owing_parts journal party offer h = by (coupling_now journal offer.place) refl where
  passed : (option_map_or (owes_reply journal offer) (coupling_now journal offer.place) false ≡ true) × Contains (own_offers journal party) offer
  passed = find_passed (λ (o : Standing). option_map_or (owes_reply journal o) (coupling_now journal o.place) false) (own_offers journal party) offer h

  by : (got : Option Coupling) → coupling_now journal offer.place ≡ got → Owes journal party offer
  by None is = absurd (let no : false ≡ true = sym (ap (λ (c : Option Coupling). option_map_or (owes_reply journal offer) c false) is) ∙ passed.0 in cc)
  by (Some coupling) is = record {
    own = eqb-true offer.party party (filter_passed (λ (o : Standing). o.party == party) (standing journal) offer passed.1);
    found = own_offer-is journal offer (Contains-from_filter (λ (o : Standing). o.party == party) (standing journal) offer passed.1);
    coupling = coupling;
    coupled = is;
    owes = sym (ap (λ (c : Option Coupling). option_map_or (owes_reply journal offer) c false) is) ∙ passed.0;
  }

-- ---- the value

-- an access is a use
abbrev is_use : GrantedAccess → Bool
is_use access = not (is_set access.kind)

no_use_by_set : (granted : Bool) (handed : Option PlainArray) → option_map_or is_use (if granted then option_map (λ (new : PlainArray). record { kind = kind.Set; value = new }) handed else None) false ≡ true → ⊥
no_use_by_set false handed h = let no : false ≡ true = h in cc
no_use_by_set true None h = let no : false ≡ true = h in cc
no_use_by_set true (Some new) h = let no : false ≡ true = h in cc

got_by_use : (given : PlainAnswer) (got : Option PlainArray) → value_got given ≡ got → option_map_or is_use (option_map (λ (value : PlainArray). record { kind = kind.Use; value = value }) got) false ≡ true
    → (command : PlainArray) × (value_got given ≡ Some command)
got_by_use given None is h = absurd (let no : false ≡ true = h in cc)
got_by_use given (Some value) is h = (value, is)

used_as : (named : Bool) (of : Kind) (handed : Option PlainArray) (given : PlainAnswer) → option_map_or is_use (if named then granted_as of handed given else None) false ≡ true
    → ((not (is_set of) && named) ≡ true) × ((command : PlainArray) × (value_got given ≡ Some command))
used_as false of handed given h = absurd (let no : false ≡ true = h in cc)
used_as true kind.Set handed given h = absurd (no_use_by_set (is_granted (kind_of given)) handed h)
used_as true kind.Use handed given h = (refl, got_by_use given (value_got given) refl h)

-- a use that got a value
used_here : (same : Bool) (accesses : Option Accessing) (local : List ℕ) (handed : Option PlainArray) (given : PlainAnswer)
    → option_map_or is_use (if same then granted_on local handed given accesses else None) false ≡ true
    → ((same && option_map_or (is_use_on local) accesses false) ≡ true) × ((command : PlainArray) × (value_got given ≡ Some command))
used_here false accesses local handed given h = absurd (let no : false ≡ true = h in cc)
used_here true None local handed given h = absurd (let no : false ≡ true = h in cc)
used_here true (Some access) local handed given h = used_as (same_name access.local local) access.kind handed given h

never : (b : Bool) → (b && false) ≡ false
never true = refl
never false = refl

-- what is no access to a name is no use of it
not_used : (same : Bool) (accesses : Option Accessing) (local : List ℕ) → (same && option_map_or (λ (access : Accessing). same_name access.local local) accesses false) ≡ false
    → (same && option_map_or (is_use_on local) accesses false) ≡ false
not_used false accesses local h = refl
not_used true None local h = refl
not_used true (Some access) local h = ap (λ (named : Bool). not (is_set access.kind) && named) h ∙ never (not (is_set access.kind))

-- where the last access since a place is a use that got a value, it is the party's last use of the name
used_last : (journal : Entries) (place : ℕ) (offer : Standing) → option_map_or (gets_value offer) (find (tries offer) (since place journal)) false ≡ true
    → (command : PlainArray) × (value_used journal offer.party offer.local ≡ Some command)
used_last [] place offer h = absurd (let no : false ≡ true = h in cc)
used_last (e ∷ journal) place offer h = after (used_last journal place offer) (nat_lt place (next_place journal)) refl where
  value_by : Bool → Option PlainArray
  value_by used = option_and_then (λ (f : PlainEntry). value_got f.answer) (cond used (Some e) (find (is_use_of offer.party offer.local) journal))

  last : (option_map_or (gets_value offer) (find (tries offer) (since place journal)) false ≡ true → (command : PlainArray) × (value_used journal offer.party offer.local ≡ Some command))
      → (tried : Bool) → tries offer e ≡ tried → option_map_or (gets_value offer) (cond tried (Some e) (find (tries offer) (since place journal))) false ≡ true
      → (command : PlainArray) × (value_used (e ∷ journal) offer.party offer.local ≡ Some command)
  last rest true is owes =
      let used = used_here (e.party == offer.party) (act_row e.act).row.accesses offer.local (act_row e.act).hands_in e.answer owes in
      (used.1.0, ap value_by used.0 ∙ used.1.1)
  last rest false is owes =
      let none = not_used (e.party == offer.party) (act_row e.act).row.accesses offer.local is in
      let earlier = rest owes in
      (earlier.0, ap value_by none ∙ earlier.1)

  after : (option_map_or (gets_value offer) (find (tries offer) (since place journal)) false ≡ true → (command : PlainArray) × (value_used journal offer.party offer.local ≡ Some command))
      → (later : Bool) → nat_lt place (next_place journal) ≡ later → (command : PlainArray) × (value_used (e ∷ journal) offer.party offer.local ≡ Some command)
  after rest false is = absurd (let no : false ≡ true = sym (ap (λ (later : Bool). option_map_or (gets_value offer) (find (tries offer) (if later then e ∷ since place journal else [])) false) is) ∙ h in cc)
  after rest true is =
      let owes = sym (ap (λ (later : Bool). option_map_or (gets_value offer) (find (tries offer) (if later then e ∷ since place journal else [])) false) is) ∙ h in
      last rest (tries offer e) refl owes

-- ---- both

pub record IsAsked (journal : Entries) (party : ℕ) (local : List ℕ) : Type 0 where
  pub customer : ℕ
  pub command : PlainArray
  pub partner : partner_on journal party local ≡ Some customer
  pub value : value_used journal party local ≡ Some command

pub replies_are_asked : (journal : Entries) (party : ℕ) (local : List ℕ) → work_of journal party ≡ work.Reply local → IsAsked journal party local
replies_are_asked journal party local h =
    let on = owing (is_full journal) (first_open journal party) (first_coupled journal (lacks_control journal) party) (first_coupled journal (owes_reply journal) party)
    (to_counter journal party) (first_coupled journal (has_unseen journal) party) local h in
    let offer : Standing = on.0 in
    let parts : Owes journal party offer = owing_parts journal party offer on.1 in
    let used = used_last journal parts.coupling.at offer parts.owes in
    let name : offer.local ≡ local = on.2 in
    record {
      customer = partner_in offer.place parts.coupling;
      command = used.0;
      partner = ap₂ (partner_on journal) (sym parts.own) (sym name)
          ∙ (ap (λ (o : Option Standing). option_and_then (partner_of journal) o) parts.found ∙ ap (λ (c : Option Coupling). option_map (partner_in offer.place) c) parts.coupled);
      value = ap₂ (value_used journal) (sym parts.own) (sym name) ∙ used.1;
    }
