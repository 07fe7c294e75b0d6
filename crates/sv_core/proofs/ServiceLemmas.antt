-- Where an auxiliary's work is for a partner, the value and the partner are there.
use Rattle.std.proofs.Common.{◌≡◌, refl, sym, ap, ◌∙◌, ℕ, ◌≤◌, Bool, true, false, not, cond, find, List, [], ◌∷◌, Option, Some, None, ◌⊎◌, inl, inr, arith}
use Rattle.std.specs.Prelude.{nat_lt, option_and_then, option_map, unwrap_or, if◌then◌else◌}
use Rattle.std.specs.Option.{option_map_or, option_or}
use Rattle.std.proofs.lemmas.Bool.{cases_lt, lt-ltb, le-ltb}
use Rattle.std.proofs.lemmas.Option.{none-some}
use Rattle.sv_access.specs.Access.{is_set}
use Rattle.sv_events.specs.declared.work.Work.{Work}
use Rattle.sv_events.specs.declared.work.Work.TheVariants as work
use Rattle.sv_offer_laws.proofs.LookupLemmas.{found_as_made}
use Rattle.sv_offer_laws.proofs.Members.{find_passed}
use Rattle.sv_offer_laws.proofs.NowLemmas.{coupling_places}
use Rattle.sv_rules.specs.Coupling.{coupling_now, partner_at, partner_in}
use Rattle.sv_rules.specs.Entries.{Entries, is_full, next_place, since}
use Rattle.sv_rules.specs.Legal.{IsLegal}
use Rattle.sv_rules.specs.Story.{GrantedAccess, access_on, handed_in, known, known_after}
use Rattle.sv_rules.specs.Work.{first_coupled, first_open, gets_value, has_unseen, lacks_control, own_offers, owes_reply, to_counter, tries, work_of}
use Rattle.sv_rules.specs.declared.coupling.Coupling.{Coupling}
use Rattle.sv_rules.specs.declared.standing.Standing.{Standing}
use Rattle.sv_core.specs.Due.{request_due, customer_of, is_reply, is_service}

-- the work by what is found: an open offer, offers that lack a control and owe a reply, one to counter, and one to use
abbrev work_by : Bool → Option Standing → Option Standing → Option Standing → Option Standing → Option Standing → Work
work_by full opened lacks owes to uses =
    if full then work.Idle
    else unwrap_or
    (option_or (option_map (λ (offer : Standing). work.Retract offer.local) opened)
    (option_or (option_map (λ (offer : Standing). work.Control offer.local) lacks)
    (option_or (option_map (λ (offer : Standing). work.Reply offer.local) owes)
    (option_or (option_map (λ (offer : Standing). work.Counter offer.party offer.surrogate) to)
    (option_map (λ (offer : Standing). work.Use offer.local) uses)))))
    work.Idle

-- a reply is on an offer that owes one
reply_on : (full : Bool) (opened lacks owes to uses : Option Standing) → is_reply (work_by full opened lacks owes to uses) ≡ true → (offer : Standing) × (owes ≡ Some offer)
reply_on true opened lacks owes to uses h = absurd (let no : false ≡ true = h in cc)
reply_on false (Some offer) lacks owes to uses h = absurd (let no : false ≡ true = h in cc)
reply_on false None (Some offer) owes to uses h = absurd (let no : false ≡ true = h in cc)
reply_on false None None (Some offer) to uses h = (offer, refl)
reply_on false None None None (Some offer) uses h = absurd (let no : false ≡ true = h in cc)
reply_on false None None None None (Some offer) h = absurd (let no : false ≡ true = h in cc)
reply_on false None None None None None h = absurd (let no : false ≡ true = h in cc)

-- a control or a reply is on the first offer that lacks a control, else on that which owes a reply
service_on : (full : Bool) (opened lacks owes to uses : Option Standing) → is_service (work_by full opened lacks owes to uses) ≡ true →
    (offer : Standing) × (option_or lacks owes ≡ Some offer) × ((lacks ≡ Some offer) ⊎ (owes ≡ Some offer))
service_on true opened lacks owes to uses h = absurd (let no : false ≡ true = h in cc)
service_on false (Some offer) lacks owes to uses h = absurd (let no : false ≡ true = h in cc)
service_on false None (Some offer) owes to uses h = (offer, refl, inl refl)
service_on false None None (Some offer) to uses h = (offer, refl, inr refl)
service_on false None None None (Some offer) uses h = absurd (let no : false ≡ true = h in cc)
service_on false None None None None (Some offer) h = absurd (let no : false ≡ true = h in cc)
service_on false None None None None None h = absurd (let no : false ≡ true = h in cc)

-- of a first coupled offer there is a coupling, of which it holds
coupled_first : (journal : Entries) (holds : Standing → Coupling → Bool) (party : ℕ) (offer : Standing) → first_coupled journal holds party ≡ Some offer →
    (coupling : Coupling) × (coupling_now journal offer.place ≡ Some coupling) × (holds offer coupling ≡ true)
coupled_first journal holds party offer h = by (coupling_now journal offer.place) refl
  where
    passes : option_map_or (holds offer) (coupling_now journal offer.place) false ≡ true
    passes = (find_passed (λ (o : Standing). option_map_or (holds o) (coupling_now journal o.place) false) (own_offers journal party) offer h).0

    by : (got : Option Coupling) → coupling_now journal offer.place ≡ got → (coupling : Coupling) × (coupling_now journal offer.place ≡ Some coupling) × (holds offer coupling ≡ true)
    by None is = absurd (let no : false ≡ true = sym (ap (λ (o : Option Coupling). option_map_or (holds offer) o false) is) ∙ passes in cc)
    by (Some coupling) is = (coupling, is, sym (ap (λ (o : Option Coupling). option_map_or (holds offer) o false) is) ∙ passes)

-- whoever got a value by its last access since a place, and has the offer since then, knows one
owed_is_known : (journal : Entries) (offer : Standing) (place : ℕ) → offer.place ≤ place →
    option_map_or (gets_value offer) (find (tries offer) (since place journal)) false ≡ true → known journal offer ≡ None → ⊥
owed_is_known [] offer place early owes none = let no : false ≡ true = owes in cc
owed_is_known (e ∷ journal) offer place early owes none = elim (cases_lt place (next_place journal)) [
  | inr over ↦
      let not_since : nat_lt place (next_place journal) ≡ false = le-ltb _ _ over in
      let no : false ≡ true =
      sym (ap (λ (b : Bool). option_map_or (gets_value offer) (find (tries offer) (if b then e ∷ since place journal else [])) false) not_since) ∙ owes in cc
  | inl later ↦
      let is_since : nat_lt place (next_place journal) ≡ true = lt-ltb _ _ later in
      let is_after : nat_lt offer.place (next_place journal) ≡ true = lt-ltb _ _ (omega arith) in
      by (owed_is_known journal offer place early)
      (sym (ap (λ (b : Bool). option_map_or (gets_value offer) (find (tries offer) (if b then e ∷ since place journal else [])) false) is_since) ∙ owes)
      (sym (ap (λ (b : Bool). if b then known_after (access_on offer e) (known journal offer) else handed_in e.act) is_after) ∙ none)
      (tries offer e) refl (access_on offer e) refl
]
  where
    by : (option_map_or (gets_value offer) (find (tries offer) (since place journal)) false ≡ true → known journal offer ≡ None → ⊥) →
        option_map_or (gets_value offer) (find (tries offer) (e ∷ since place journal)) false ≡ true → known_after (access_on offer e) (known journal offer) ≡ None →
        (t : Bool) → tries offer e ≡ t → (got : Option GrantedAccess) → access_on offer e ≡ got → ⊥
    by before owed unknown t tried (Some access) is =
        none-some access.value (sym unknown ∙ ap (λ (g : Option GrantedAccess). known_after g (known journal offer)) is)
    by before owed unknown true tried None is =
        let no : false ≡ true =
        sym (ap (λ (g : Option GrantedAccess). option_map_or (λ (access : GrantedAccess). not (is_set access.kind)) g false) is)
        ∙ sym (ap (λ (b : Bool). option_map_or (gets_value offer) (cond b (Some e) (find (tries offer) (since place journal))) false) tried) ∙ owed in cc
    by before owed unknown false tried None is =
        before (sym (ap (λ (b : Bool). option_map_or (gets_value offer) (cond b (Some e) (find (tries offer) (since place journal))) false) tried) ∙ owed)
        (sym (ap (λ (g : Option GrantedAccess). known_after g (known journal offer)) is) ∙ unknown)

-- an offer is not after its coupling
not_after : (users : List ℕ) (journal : Entries) → IsLegal users journal → (place : ℕ) (coupling : Coupling) → coupling_now journal place ≡ Some coupling → place ≤ coupling.at
not_after users journal legal place coupling now =
    let is = found_as_made users journal legal place coupling now in
    let made = (coupling_places users journal legal place coupling is).0 in
    let lower = is.lower_first in
    elim is.here [
      | inl low ↦ omega (arith, low, made, lower)
      | inr high ↦ omega (arith, high, made)
    ]

-- where the work is a reply, there is a value to reply to
pub commands_are_there : (users : List ℕ) (journal : Entries) → IsLegal users journal → (party : ℕ) → is_reply (work_of journal party) ≡ true → request_due journal party ≡ None → ⊥
commands_are_there users journal legal party reply none =
    let on = reply_on (is_full journal) (first_open journal party) (first_coupled journal (lacks_control journal) party) (first_coupled journal (owes_reply journal) party)
    (to_counter journal party) (first_coupled journal (has_unseen journal) party) reply in
    let offer = on.0 in
    let found = coupled_first journal (owes_reply journal) party offer on.1 in
    owed_is_known journal offer found.0.at (not_after users journal legal offer.place found.0 found.1) found.2
    (sym (ap (λ (o : Option Standing). option_and_then (known journal) o) on.1) ∙ none)

-- where the work is a control or a reply, there is a partner
pub customers_are_there : (journal : Entries) (party : ℕ) → is_service (work_of journal party) ≡ true → customer_of journal party ≡ None → ⊥
customers_are_there journal party serves none =
    let on = service_on (is_full journal) (first_open journal party) (first_coupled journal (lacks_control journal) party) (first_coupled journal (owes_reply journal) party)
    (to_counter journal party) (first_coupled journal (has_unseen journal) party) serves in
    let offer = on.0 in
    let missing : partner_at journal offer.place ≡ None =
    sym (ap (λ (o : Option Standing). option_and_then (λ (x : Standing). partner_at journal x.place) o) on.1) ∙ none in
    elim on.2 [
      | inl lacks ↦ unpaired offer (coupled_first journal (lacks_control journal) party offer lacks) missing
      | inr owes ↦ unpaired offer (coupled_first journal (owes_reply journal) party offer owes) missing
    ]
  where
    unpaired : {P : Coupling → Type 0} (offer : Standing) → ((coupling : Coupling) × (coupling_now journal offer.place ≡ Some coupling) × P coupling) → partner_at journal offer.place ≡ None → ⊥
    unpaired offer found missing =
        none-some (partner_in offer.place found.0) (sym missing ∙ ap (λ (c : Option Coupling). option_map (partner_in offer.place) c) found.1)
