-- The turn of an auxiliary: what its entry is to what answers behind it, and that the turn is that of a replay.
use Rattle.std.proofs.Common.{◌≡◌, ℕ, ◌≤◌, ◌++◌, Bool, true, false, not, cond, eqb, find, List, [], ◌∷◌, inl, inr, refl, sym, ap, ap₂, subst, ◌∙◌, option_and_then, option_map, option_to_list, arith}
use Rattle.std.proofs.lemmas.Bool.{and_from, and_right, cases_lt, eq-eqb, le-ltb, lt-ltb}
use Rattle.std.proofs.lemmas.Cmp.{nat_list_eq_equiv}
use Rattle.std.proofs.lemmas.Option.{none-some, same_Some}
use Rattle.std.specs.Option.{option_map_or, option_or}
use Rattle.std.specs.Prelude.{Contains, Option, Some, None, nat_lt, unwrap_or, if◌then◌else◌}
use Rattle.apl_arrays.specs.Array.{PlainArray}
use Rattle.apl_arrays.specs.Name.{same_name}
use Rattle.auxiliaries.specs.Run.{Event, began, answered}
use Rattle.sv_access.specs.Access.{is_set}
use Rattle.sv_access.specs.declared.access.Kind.{Kind}
use Rattle.sv_access.specs.declared.access.Kind.TheVariants as kind
use Rattle.sv_core.specs.Due.{request_due, customer_of, is_reply, is_service}
use Rattle.sv_events.specs.Entry.{PlainEntry}
use Rattle.sv_events.specs.Row.{act_row}
use Rattle.sv_events.specs.Work.{act_of, all_controlled}
use Rattle.sv_events.specs.declared.event.Act.{Act}
use Rattle.sv_events.specs.declared.event.Act.TheVariants as act
use Rattle.sv_events.specs.declared.row.Accessing.{Accessing}
use Rattle.sv_events.specs.declared.work.Work.{Work}
use Rattle.sv_events.specs.declared.work.Work.TheVariants as work
use Rattle.sv_offer_laws.proofs.LookupLemmas.{found_as_made}
use Rattle.sv_offer_laws.proofs.NowLemmas.{coupling_places}
use Rattle.sv_offer_laws.proofs.OwnLemmas.{own_offer-is}
use Rattle.sv_rules.specs.Coupling.{coupling_now, partner_at}
use Rattle.sv_rules.specs.Entries.{Entries, is_full, next_place, since, value_got}
use Rattle.sv_rules.specs.Legal.{IsLegal, entry_for, journal_after}
use Rattle.sv_rules.specs.Standing.{own_offer, standing}
use Rattle.sv_rules.specs.Story.{GrantedAccess, access_on, handed_in, known, known_after}
use Rattle.sv_rules.specs.Work.{first_coupled, first_open, first_work, gets_value, has_unseen, lacks_control, owes_reply, to_counter, tries, work_of}
use Rattle.sv_rules.specs.declared.coupling.Coupling.{Coupling}
use Rattle.sv_rules.specs.declared.standing.Standing.{Standing}
use Rattle.sv_story_laws.specs.StoryLaws.{IsAccessTo}
use Rattle.sv_story_laws.proofs.AccessLemmas.{IsAccessOn-from_access}
use Rattle.sv_story_laws.proofs.AuxiliaryLemmas.{untried}
use Rattle.sv_story_laws.proofs.ReplyLemmas.{replies_are_to_what_the_last_use_got}
use Rattle.sv_story_laws.proofs.WorkLemmas.{first_coupled_is_lowest}
use Rattle.session_rules.specs.Auxiliaries.{event_of, events_of, is_use_on, partner_of, partner_on, reply_to, is_use_of, value_used}
use Rattle.replay_rules.specs.ServingLaws.{AuxiliariesServeTheirWork, ControlsBegin, OtherWorkTellsNothing, RepliesAnswer, RequestsAreWhatTheLastUseGot}
use Rattle.replay_rules.specs.Turns.{served, served_by, serving}

-- ---- the offer of a control and of a reply

-- the work by what is found for each kind
abbrev work_by : Bool → Option Standing → Option Standing → Option Standing → Option Standing → Option Standing → Work
work_by full opened lacks owes waiting unseen = if full then work.Idle else unwrap_or (first_work opened lacks owes waiting unseen) work.Idle

control_is_on : (full : Bool) (opened lacks owes waiting unseen : Option Standing) (local : List ℕ) → work_by full opened lacks owes waiting unseen ≡ work.Control local → (offer : Standing) × (lacks ≡ Some offer) × (offer.local ≡ local)
control_is_on true opened lacks owes waiting unseen local h = absurd (let no : work.Idle ≡ work.Control local = h in cc)
control_is_on false (Some o) lacks owes waiting unseen local h = absurd (let no : work.Retract o.local ≡ work.Control local = h in cc)
control_is_on false None (Some o) owes waiting unseen local h = let same : work.Control o.local ≡ work.Control local = h in (o, refl, cc)
control_is_on false None None (Some o) waiting unseen local h = absurd (let no : work.Reply o.local ≡ work.Control local = h in cc)
control_is_on false None None None (Some o) unseen local h = absurd (let no : work.Counter o.party o.surrogate ≡ work.Control local = h in cc)
control_is_on false None None None None (Some o) local h = absurd (let no : work.Use o.local ≡ work.Control local = h in cc)
control_is_on false None None None None None local h = absurd (let no : work.Idle ≡ work.Control local = h in cc)

reply_is_on : (full : Bool) (opened lacks owes waiting unseen : Option Standing) (local : List ℕ) → work_by full opened lacks owes waiting unseen ≡ work.Reply local →
    (offer : Standing) × (lacks ≡ None) × (owes ≡ Some offer) × (offer.local ≡ local)
reply_is_on true opened lacks owes waiting unseen local h = absurd (let no : work.Idle ≡ work.Reply local = h in cc)
reply_is_on false (Some o) lacks owes waiting unseen local h = absurd (let no : work.Retract o.local ≡ work.Reply local = h in cc)
reply_is_on false None (Some o) owes waiting unseen local h = absurd (let no : work.Control o.local ≡ work.Reply local = h in cc)
reply_is_on false None None (Some o) waiting unseen local h = let same : work.Reply o.local ≡ work.Reply local = h in (o, refl, refl, cc)
reply_is_on false None None None (Some o) unseen local h = absurd (let no : work.Counter o.party o.surrogate ≡ work.Reply local = h in cc)
reply_is_on false None None None None (Some o) local h = absurd (let no : work.Use o.local ≡ work.Reply local = h in cc)
reply_is_on false None None None None None local h = absurd (let no : work.Idle ≡ work.Reply local = h in cc)

-- a standing offer of a party is the one of its local name, so the partner on the name is the partner at its place
partner_there : (journal : Entries) (party : ℕ) (local : List ℕ) (offer : Standing) → Contains (standing journal) offer → offer.party ≡ party → offer.local ≡ local → partner_on journal party local ≡ partner_at journal offer.place
partner_there journal party local offer stands own named =
    ap (option_and_then (partner_of journal)) (ap₂ (own_offer (standing journal)) (sym own) (sym named) ∙ own_offer-is journal offer stands)

-- an auxiliary sets a control for its partner on the name
pub partner_of_control : (journal : Entries) (party : ℕ) (local : List ℕ) (customer : ℕ) → work_of journal party ≡ work.Control local → customer_of journal party ≡ Some customer → partner_on journal party local ≡ Some customer
partner_of_control journal party local customer due serves =
    let owes = first_coupled journal (owes_reply journal) party in
    let on = control_is_on (is_full journal) (first_open journal party) (first_coupled journal (lacks_control journal) party) owes (to_counter journal party) (first_coupled journal (has_unseen journal) party) local due in
    let is = (first_coupled_is_lowest journal (lacks_control journal) party on.0).0 on.1 in
    partner_there journal party local on.0 is.among is.here.own on.2
    ∙ sym (ap (λ (o : Option Standing). option_and_then (λ (x : Standing). partner_at journal x.place) (option_or o owes)) on.1) ∙ serves

-- ---- the value that is replied to

-- an offer is not after its coupling
not_after : (users : List ℕ) (journal : Entries) → IsLegal users journal → (place : ℕ) (coupling : Coupling) → coupling_now journal place ≡ Some coupling → place ≤ coupling.at
not_after users journal legal place coupling now =
    let is = found_as_made users journal legal place coupling now in
    let made = (coupling_places users journal legal place coupling is).0 in
    let lower = is.lower_first in
    elim is.here [ inl low ↦ omega (arith, low, made, lower) | inr high ↦ omega (arith, high, made) ]

-- an entry that does not try to access the offer is no use of its name
unused : (offer : Standing) (e : PlainEntry) → tries offer e ≡ false → is_use_of offer.party offer.local e ≡ false
unused offer e h = by (eqb e.party offer.party) refl
  where
    none : (access : Option Accessing) → option_map_or (λ a. same_name a.local offer.local) access false ≡ false → option_map_or (is_use_on offer.local) access false ≡ false
    none None k = refl
    none (Some a) k = and_right (not (is_set a.kind)) (same_name a.local offer.local) k

    by : (b : Bool) → eqb e.party offer.party ≡ b → is_use_of offer.party offer.local e ≡ false
    by true own = rw own (none (act_row e.act).row.accesses (rw own at h))
    by false others = rw others refl

-- an entry that got a value is the last use of the name, and tells what is known
used_now : (journal : Entries) (offer : Standing) (e : PlainEntry) → gets_value offer e ≡ true → value_used (e ∷ journal) offer.party offer.local ≡ known_after (access_on offer e) (known journal offer)
used_now journal offer e gets = by (access_on offer e) refl gets
  where
    as_use : (k : Kind) (v : PlainArray) → not (is_set k) ≡ true → e.party ≡ offer.party → IsAccessTo offer.local k v e.act e.answer → value_used (e ∷ journal) offer.party offer.local ≡ Some v
    as_use kind.Set v is own on = absurd (let no : false ≡ true = is in cc)
    as_use kind.Use v is own on =
        let named : option_map_or (is_use_on offer.local) (act_row e.act).row.accesses false ≡ true =
        ap (λ (a : Act). option_map_or (is_use_on offer.local) (act_row a).row.accesses false) on.0 ∙ nat_list_eq_equiv.refl offer.local in
        ap (λ (b : Bool). option_and_then (λ (f : PlainEntry). value_got f.answer) (cond b (Some e) (find (is_use_of offer.party offer.local) journal)))
        (and_from (eqb e.party offer.party) (option_map_or (is_use_on offer.local) (act_row e.act).row.accesses false) (eq-eqb e.party offer.party own) named)
        ∙ ap value_got on.1

    by : (got : Option GrantedAccess) → access_on offer e ≡ got → option_map_or (λ access. not (is_set access.kind)) got false ≡ true →
        value_used (e ∷ journal) offer.party offer.local ≡ known_after (access_on offer e) (known journal offer)
    by None is k = absurd (let no : false ≡ true = k in cc)
    by (Some access) is k =
        let on = IsAccessOn-from_access offer e access is in
        as_use access.kind access.value k on.0 on.1 ∙ sym (ap (λ (g : Option GrantedAccess). known_after g (known journal offer)) is)

-- where the last try since a place got a value, and the offer is not after the place, the last use of the name tells what is known
used_is_known : (journal : Entries) (offer : Standing) (place : ℕ) → offer.place ≤ place → option_map_or (gets_value offer) (find (tries offer) (since place journal)) false ≡ true →
    value_used journal offer.party offer.local ≡ known journal offer
used_is_known [] offer place early owes = absurd (let no : false ≡ true = owes in cc)
used_is_known (e ∷ journal) offer place early owes = elim (cases_lt place (next_place journal)) [
  | inr over ↦
      let not_since : nat_lt place (next_place journal) ≡ false = le-ltb _ _ over in
      absurd (let no : false ≡ true =
      sym (ap (λ (b : Bool). option_map_or (gets_value offer) (find (tries offer) (if b then e ∷ since place journal else [])) false) not_since) ∙ owes in cc)
  | inl later ↦
      let is_since : nat_lt place (next_place journal) ≡ true = lt-ltb _ _ later in
      let is_after : nat_lt offer.place (next_place journal) ≡ true = lt-ltb _ _ (omega arith) in
      by (used_is_known journal offer place early)
      (sym (ap (λ (b : Bool). option_map_or (gets_value offer) (find (tries offer) (if b then e ∷ since place journal else [])) false) is_since) ∙ owes)
      (tries offer e) refl
      ∙ sym (ap (λ (b : Bool). if b then known_after (access_on offer e) (known journal offer) else handed_in e.act) is_after)
]
  where
    by : (option_map_or (gets_value offer) (find (tries offer) (since place journal)) false ≡ true → value_used journal offer.party offer.local ≡ known journal offer) →
        option_map_or (gets_value offer) (find (tries offer) (e ∷ since place journal)) false ≡ true → (t : Bool) → tries offer e ≡ t →
        value_used (e ∷ journal) offer.party offer.local ≡ known_after (access_on offer e) (known journal offer)
    by before owed true tried =
        used_now journal offer e (sym (ap (λ (b : Bool). option_map_or (gets_value offer) (cond b (Some e) (find (tries offer) (since place journal))) false) tried) ∙ owed)
    by before owed false tried =
        ap (λ (b : Bool). option_and_then (λ (f : PlainEntry). value_got f.answer) (cond b (Some e) (find (is_use_of offer.party offer.local) journal))) (unused offer e tried)
        ∙ before (sym (ap (λ (b : Bool). option_map_or (gets_value offer) (cond b (Some e) (find (tries offer) (since place journal))) false) tried) ∙ owed)
        ∙ sym (ap (λ (g : Option GrantedAccess). known_after g (known journal offer)) (untried offer e tried))

-- an auxiliary replies to its partner on the name, and to the value that it used last there
pub record RepliesTo (journal : Entries) (party : ℕ) (local : List ℕ) (customer : ℕ) (value : PlainArray) : Type 0 where
  pub partner : partner_on journal party local ≡ Some customer
  pub used : value_used journal party local ≡ Some value

pub replied_to : (users : List ℕ) (journal : Entries) → IsLegal users journal → (party : ℕ) (local : List ℕ) (customer : ℕ) (value : PlainArray) → work_of journal party ≡ work.Reply local →
    customer_of journal party ≡ Some customer → request_due journal party ≡ Some value → RepliesTo journal party local customer value
replied_to users journal legal party local customer value due serves commands =
    let on = reply_is_on (is_full journal) (first_open journal party) (first_coupled journal (lacks_control journal) party) (first_coupled journal (owes_reply journal) party)
    (to_counter journal party) (first_coupled journal (has_unseen journal) party) local due in
    let offer = on.0 in
    let is = (first_coupled_is_lowest journal (owes_reply journal) party offer).0 on.2 in
    let is_served : customer_of journal party ≡ partner_at journal offer.place =
    ap₂ (λ (lacks owes : Option Standing). option_and_then (λ (x : Standing). partner_at journal x.place) (option_or lacks owes)) on.1 on.2 in
    let is_known : request_due journal party ≡ known journal offer = ap (option_and_then (known journal)) on.2 in
    record {
      partner = partner_there journal party local offer is.among is.here.own on.3 ∙ sym is_served ∙ serves;
      used = ap₂ (value_used journal) (sym is.here.own) (sym on.3)
          ∙ used_is_known journal offer is.here.coupling.at (not_after users journal legal offer.place is.here.coupling is.here.found) is.here.here ∙ sym is_known ∙ commands;
    }

-- ---- what its entry is to what answers behind it

no_reply : (command : Option PlainArray) (customer : Option ℕ) → reply_to command customer None ≡ None
no_reply None customer = refl
no_reply (Some command) None = refl
no_reply (Some command) (Some customer) = refl

-- work that is for no partner tells nothing
pub told_nothing : (journal : Entries) (party place : ℕ) (due : Work) (made : Act) → is_service due ≡ false → act_of due place None ≡ Some made → event_of journal (entry_for journal party made) ≡ None
told_nothing journal party place work.Idle made none h = absurd (none-some made h)
told_nothing journal party place (work.Retract local) made none h = ap (λ (a : Act). event_of journal (entry_for journal party a)) (sym (same_Some _ made h))
told_nothing journal party place (work.Control local) made none h = absurd (let no : true ≡ false = none in cc)
told_nothing journal party place (work.Reply local) made none h = absurd (let no : true ≡ false = none in cc)
told_nothing journal party place (work.Counter to surrogate) made none h = ap (λ (a : Act). event_of journal (entry_for journal party a)) (sym (same_Some _ made h))
told_nothing journal party place (work.Use local) made none h =
    ap (λ (a : Act). event_of journal (entry_for journal party a)) (sym (same_Some _ made h)) ∙ no_reply (value_used journal party local) (partner_on journal party local)

-- a control begins with the partner
pub told_control : (journal : Entries) (party : ℕ) (local : List ℕ) (customer : ℕ) → partner_on journal party local ≡ Some customer →
    event_of journal (entry_for journal party (act.SetControl local all_controlled)) ≡ Some (began customer)
told_control journal party local customer partner = ap (option_map (λ (c : ℕ). began c)) partner

-- a reply answers the value
pub told_reply : (journal : Entries) (party : ℕ) (local : List ℕ) (customer : ℕ) (value reply : PlainArray) → RepliesTo journal party local customer value →
    event_of journal (entry_for journal party (act.Set local reply)) ≡ Some (answered customer value reply)
told_reply journal party local customer value reply to = ap₂ (λ (v : Option PlainArray) (c : Option ℕ). reply_to v c (Some reply)) to.used to.partner

-- there is room for the act of any work
pub room_for_work : (journal : Entries) (party place : ℕ) (reply : Option PlainArray) (made : Act) → act_of (work_of journal party) place reply ≡ Some made → is_full journal ≡ false
room_for_work journal party place reply made h = by (is_full journal) refl
  where
    no_act : (r : Option PlainArray) → act_of work.Idle place r ≡ Some made → ⊥
    no_act None k = none-some made k
    no_act (Some v) k = none-some made k

    by : (b : Bool) → is_full journal ≡ b → is_full journal ≡ false
    by false is = is
    by true is =
        let idle : work_of journal party ≡ work.Idle = rw is refl in
        absurd (no_act reply (subst (λ (w : Work). act_of w place reply ≡ Some made) idle h))

-- the journal with it
pub entered : (journal : Entries) (party : ℕ) (made : Act) → is_full journal ≡ false → journal_after journal party made ≡ entry_for journal party made ∷ journal
entered journal party made room = ap (λ (b : Bool). if b then journal else entry_for journal party made ∷ journal) room

-- what is told with its entry
pub told_with : (journal : Entries) (party : ℕ) (made : Act) (told : Option Event) → is_full journal ≡ false → event_of journal (entry_for journal party made) ≡ told →
    events_of (journal_after journal party made) party ≡ option_to_list told ++ events_of journal party
told_with journal party made told room is =
    ap (λ (j : Entries). events_of j party) (entered journal party made room)
    ∙ ap (λ (b : Bool). (if b then option_to_list (event_of journal (entry_for journal party made)) else []) ++ events_of journal party) (eq-eqb party party refl)
    ∙ ap (λ (t : Option Event). option_to_list t ++ events_of journal party) is

-- ---- the turn

-- without work nothing is done
pub served_idle : (journal : Entries) (party : ℕ) (replies : List PlainArray) → work_of journal party ≡ work.Idle → served journal party replies ≡ record { journal = journal; replies = replies }
served_idle journal party replies idle = ap (served_by journal party replies) idle ∙ by replies
  where
    by : (left : List PlainArray) → served_by journal party left work.Idle ≡ record { journal = journal; replies = left }
    by [] = refl
    by (reply ∷ left) = refl

-- work that is no reply leaves the replies
by_work : (journal : Entries) (party : ℕ) (replies : List PlainArray) (due : Work) → is_reply due ≡ false → served_by journal party replies due ≡ serving journal party replies (act_of due (next_place journal) None)
by_work journal party replies (work.Reply local) none = absurd (let no : true ≡ false = none in cc)
by_work journal party [] work.Idle none = refl
by_work journal party [] (work.Retract local) none = refl
by_work journal party [] (work.Control local) none = refl
by_work journal party [] (work.Counter to surrogate) none = refl
by_work journal party [] (work.Use local) none = refl
by_work journal party (reply ∷ replies) work.Idle none = refl
by_work journal party (reply ∷ replies) (work.Retract local) none = refl
by_work journal party (reply ∷ replies) (work.Control local) none = refl
by_work journal party (reply ∷ replies) (work.Counter to surrogate) none = refl
by_work journal party (reply ∷ replies) (work.Use local) none = refl

pub served_work : (journal : Entries) (party : ℕ) (replies : List PlainArray) (made : Act) → is_reply (work_of journal party) ≡ false → act_of (work_of journal party) (next_place journal) None ≡ Some made →
    served journal party replies ≡ record { journal = journal_after journal party made; replies = replies }
served_work journal party replies made none is = by_work journal party replies (work_of journal party) none ∙ ap (serving journal party replies) is

-- a reply is the next one
pub served_reply : (journal : Entries) (party : ℕ) (local : List ℕ) (reply : PlainArray) (replies : List PlainArray) → work_of journal party ≡ work.Reply local →
    served journal party (reply ∷ replies) ≡ record { journal = journal_after journal party (act.Set local reply); replies = replies }
served_reply journal party local reply replies due = ap (served_by journal party (reply ∷ replies)) due

-- ---- as laws

pub controls_begin : ControlsBegin
controls_begin journal party local customer due serves =
    let made : act_of (work_of journal party) (next_place journal) None ≡ Some (act.SetControl local all_controlled) = ap (λ (w : Work). act_of w (next_place journal) None) due in
    told_with journal party (act.SetControl local all_controlled) (Some (began customer)) (room_for_work journal party (next_place journal) None (act.SetControl local all_controlled) made)
    (told_control journal party local customer (partner_of_control journal party local customer due serves))

pub replies_answer : RepliesAnswer
replies_answer users journal legal party local customer value reply due serves commands =
    let made : act_of (work_of journal party) (next_place journal) (Some reply) ≡ Some (act.Set local reply) = ap (λ (w : Work). act_of w (next_place journal) (Some reply)) due in
    told_with journal party (act.Set local reply) (Some (answered customer value reply)) (room_for_work journal party (next_place journal) (Some reply) (act.Set local reply) made)
    (told_reply journal party local customer value reply (replied_to users journal legal party local customer value due serves commands))

pub requests_are_what_the_last_use_got : RequestsAreWhatTheLastUseGot
requests_are_what_the_last_use_got users journal legal party local due =
    let on = reply_is_on (is_full journal) (first_open journal party) (first_coupled journal (lacks_control journal) party) (first_coupled journal (owes_reply journal) party)
    (to_counter journal party) (first_coupled journal (has_unseen journal) party) local due in
    let offer = on.0 in
    let is = (first_coupled_is_lowest journal (owes_reply journal) party offer).0 on.2 in
    let got = replies_are_to_what_the_last_use_got users journal legal offer is.here.coupling is.here.found is.here.here in (
      got.0,
      ap (option_and_then (known journal)) on.2 ∙ got.1,
      record { offer = offer; lowest = is; named = on.3; coupling = is.here.coupling; coupled = is.here.found; got = got.2 },
    )

pub others_tell_nothing : OtherWorkTellsNothing
others_tell_nothing journal party made none is =
    told_with journal party made None (room_for_work journal party (next_place journal) None made is) (told_nothing journal party (next_place journal) (work_of journal party) made none is)

pub serves_its_work : AuxiliariesServeTheirWork
serves_its_work journal party = record {
  idle = served_idle journal party;
  made = served_work journal party;
  replied = served_reply journal party;
}
