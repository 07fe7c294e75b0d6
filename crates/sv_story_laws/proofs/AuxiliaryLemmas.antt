-- An auxiliary's accesses come in time, so that none is refused.
use Rattle.std.proofs.Common.{◌≡◌, refl, sym, ap, ◌∙◌, subst, ℕ, ◌+◌, ◌≤◌, Bool, true, false, ◌&&◌, not, eqb, ltb, List, [], ◌∷◌, ◌++◌, length, Option, Some, None, inl, inr, arith}
use Rattle.std.specs.Prelude.{Contains, IsTrue, unwrap_or, if◌then◌else◌}
use Rattle.std.specs.Option.{option_map_or}
use Rattle.std.proofs.lemmas.Bool.{cases_Bool, and_parts, and_left, and_right, eqb-true, eqb-false, lt-ltb, ltb-true}
use Rattle.std.proofs.lemmas.List.{append_assoc}
use Rattle.std.proofs.lemmas.Option.{none-some, same_Some}
use Rattle.apl_arrays.specs.Array.{PlainArray}
use Rattle.sv_access.specs.Access.{Access, is_set, other_side, same_side}
use Rattle.sv_access.specs.Control.{combined, has_element}
use Rattle.sv_access.specs.Story.{Story, last_set, is_last_setter, has_used_since, is_early}
use Rattle.sv_access.specs.Table.{element_of}
use Rattle.sv_access.specs.declared.access.Side.{Side}
use Rattle.sv_access.specs.declared.access.Side.TheVariants.{A, B}
use Rattle.sv_access.specs.declared.access.Kind.{Kind}
use Rattle.sv_access.specs.declared.access.Kind.TheVariants as kind
use Rattle.sv_events.specs.Entry.{PlainEntry}
use Rattle.sv_events.specs.Row.{act_row}
use Rattle.sv_events.specs.declared.event.Act.{Act}
use Rattle.sv_events.specs.declared.event.Act.TheVariants.{Set, Use}
use Rattle.sv_events.specs.declared.row.Accessing.{Accessing}
use Rattle.sv_events.specs.declared.work.Work.{Work}
use Rattle.sv_events.specs.declared.work.Work.TheVariants as work
use Rattle.sv_rules.specs.declared.standing.Standing.{Standing}
use Rattle.sv_rules.specs.declared.coupling.Coupling.{Coupling}
use Rattle.sv_rules.specs.Control.{Sharing, sharing_of, side_at}
use Rattle.sv_rules.specs.Coupling.{coupling_now}
use Rattle.apl_arrays.specs.Name.{same_name}
use Rattle.sv_rules.specs.Entries.{Entries, next_place, is_full}
use Rattle.sv_rules.specs.Legal.{IsLegal, act_due, act_for}
use Rattle.sv_rules.specs.Refused.{hold_under, hold_on, hold_of, refused}
use Rattle.sv_rules.specs.Standing.{standing, own_offer, is_own}
use Rattle.sv_rules.specs.Story.{GrantedAccess, access_on, granted_on, handed_in, story_part, story}
use Rattle.aux_parties.specs.Auxiliaries.{is_auxiliary}
use Rattle.sv_rules.specs.Work.{own_offers, first_open, first_coupled, first_work, lacks_control, owes_reply, has_unseen, to_counter, tries, gets_value, work_of}
use Rattle.sv_offer_laws.specs.CouplingLaws.{IsCouplingOf}
use Rattle.sv_offer_laws.proofs.Members.{Contains-from_filter, filter_passed, find_passed}
use Rattle.sv_offer_laws.proofs.LegalLemmas.{stood_before}
use Rattle.sv_offer_laws.proofs.LookupLemmas.{found_as_made}
use Rattle.sv_offer_laws.proofs.NowLemmas.{coupling_places, coupling_was}
use Rattle.sv_offer_laws.proofs.OwnLemmas.{own_offer-is, own_is_one, own-itself}
use Rattle.sv_offer_laws.proofs.PlaceLemmas.{places_ascend, same_by_place}
use Rattle.sv_story_laws.specs.StoryLaws.{IsAccessTo}
use Rattle.sv_story_laws.proofs.AccessLemmas.{IsAccessOn-from_access}

-- the access in the act of some work: none, a set in reply, or a use
data DueAccess (due : Work) (act : Act) : Type 0 where
  no_access : (act_row act).row.accesses ≡ None → DueAccess due act
  replies : (local : List ℕ) (reply : PlainArray) → due ≡ work.Reply local → act ≡ Set local reply → DueAccess due act
  uses : (local : List ℕ) → due ≡ work.Use local → act ≡ Use local → DueAccess due act

due_access : (due : Work) (place : ℕ) (handed : Option PlainArray) (act : Act) → act_for due place handed ≡ Some act → DueAccess due act
due_access work.Idle place handed act h = absurd (none-some act h)
due_access (work.Retract local) place handed act h = no_access (ap (λ (a : Act). (act_row a).row.accesses) (sym (same_Some _ act h)))
due_access (work.Control local) place handed act h = no_access (ap (λ (a : Act). (act_row a).row.accesses) (sym (same_Some _ act h)))
due_access (work.Reply local) place None act h = absurd (none-some act h)
due_access (work.Reply local) place (Some reply) act h = replies local reply refl (sym (same_Some _ act h))
due_access (work.Counter to surrogate) place handed act h = no_access (ap (λ (a : Act). (act_row a).row.accesses) (sym (same_Some _ act h)))
due_access (work.Use local) place handed act h = uses local refl (sym (same_Some _ act h))

-- the work by what was found for each kind
abbrev first_of_five : Option Standing → Option Standing → Option Standing → Option Standing → Option Standing → Work
first_of_five open' lacking owing waiting unseen = unwrap_or (first_work open' lacking owing waiting unseen) work.Idle

use_is_of : (open' lacking owing waiting unseen : Option Standing) (local : List ℕ) → first_of_five open' lacking owing waiting unseen ≡ work.Use local →
    (offer : Standing) × (unseen ≡ Some offer) × (offer.local ≡ local)
use_is_of (Some o) lacking owing waiting unseen local h = absurd (let no : work.Retract o.local ≡ work.Use local = h in cc)
use_is_of None (Some o) owing waiting unseen local h = absurd (let no : work.Control o.local ≡ work.Use local = h in cc)
use_is_of None None (Some o) waiting unseen local h = absurd (let no : work.Reply o.local ≡ work.Use local = h in cc)
use_is_of None None None (Some o) unseen local h = absurd (let no : work.Counter o.party o.surrogate ≡ work.Use local = h in cc)
use_is_of None None None None (Some o) local h = let same : work.Use o.local ≡ work.Use local = h in (o, refl, cc)
use_is_of None None None None None local h = absurd (let no : work.Idle ≡ work.Use local = h in cc)

reply_is_of : (open' lacking owing waiting unseen : Option Standing) (local : List ℕ) → first_of_five open' lacking owing waiting unseen ≡ work.Reply local →
    (offer : Standing) × (owing ≡ Some offer) × (offer.local ≡ local)
reply_is_of (Some o) lacking owing waiting unseen local h = absurd (let no : work.Retract o.local ≡ work.Reply local = h in cc)
reply_is_of None (Some o) owing waiting unseen local h = absurd (let no : work.Control o.local ≡ work.Reply local = h in cc)
reply_is_of None None (Some o) waiting unseen local h = let same : work.Reply o.local ≡ work.Reply local = h in (o, refl, cc)
reply_is_of None None None (Some o) unseen local h = absurd (let no : work.Counter o.party o.surrogate ≡ work.Reply local = h in cc)
reply_is_of None None None None (Some o) local h = absurd (let no : work.Use o.local ≡ work.Reply local = h in cc)
reply_is_of None None None None None local h = absurd (let no : work.Idle ≡ work.Reply local = h in cc)

-- an offer of a party that is coupled, of which this holds
pub record IsCoupledSo (journal : Entries) (holds : Standing → Coupling → Bool) (party : ℕ) (local : List ℕ) (offer : Standing) : Type 0 where
  pub stands : Contains (standing journal) offer
  pub own : offer.party ≡ party
  pub named : offer.local ≡ local
  pub coupling : Coupling
  pub now : coupling_now journal offer.place ≡ Some coupling
  pub here : holds offer coupling ≡ true

coupled_so : (journal : Entries) (holds : Standing → Coupling → Bool) (party : ℕ) (local : List ℕ) (offer : Standing) → first_coupled journal holds party ≡ Some offer → offer.local ≡ local →
    IsCoupledSo journal holds party local offer
coupled_so journal holds party local offer h named =
    let found = find_passed (λ (o : Standing). option_map_or (holds o) (coupling_now journal o.place) false) (own_offers journal party) offer h in
    let mine : Standing → Bool = λ (o : Standing). eqb o.party party in
    let stands = Contains-from_filter mine (standing journal) offer found.1 in
    let own = eqb-true offer.party party (filter_passed mine (standing journal) offer found.1) in
    by stands own (coupling_now journal offer.place) refl found.0
  where
    by : Contains (standing journal) offer → offer.party ≡ party → (c : Option Coupling) → coupling_now journal offer.place ≡ c → option_map_or (holds offer) c false ≡ true → IsCoupledSo journal holds party local offer
    by stands own None is k = absurd (let no : false ≡ true = k in cc)
    by stands own (Some c) is k = record { stands = stands; own = own; named = named; coupling = c; now = is; here = k }

-- the offer that is to be used, and the one that is to be replied on
use_due : (journal : Entries) (party : ℕ) (local : List ℕ) → work_of journal party ≡ work.Use local → (offer : Standing) × IsCoupledSo journal (has_unseen journal) party local offer
use_due journal party local h = elim (cases_Bool (is_full journal)) [
  | inl full ↦ absurd (let no : work.Idle ≡ work.Use local = rw full at h in cc)
  | inr room ↦
      let due : first_of_five (first_open journal party) (first_coupled journal (lacks_control journal) party) (first_coupled journal (owes_reply journal) party) (to_counter journal party) (first_coupled journal (has_unseen journal) party) ≡ work.Use local = rw room at h in
      let w = use_is_of (first_open journal party) (first_coupled journal (lacks_control journal) party) (first_coupled journal (owes_reply journal) party) (to_counter journal party) (first_coupled journal (has_unseen journal) party) local due in
      (w.0, coupled_so journal (has_unseen journal) party local w.0 w.1 w.2)
]

reply_due : (journal : Entries) (party : ℕ) (local : List ℕ) → work_of journal party ≡ work.Reply local → (offer : Standing) × IsCoupledSo journal (owes_reply journal) party local offer
reply_due journal party local h = elim (cases_Bool (is_full journal)) [
  | inl full ↦ absurd (let no : work.Idle ≡ work.Reply local = rw full at h in cc)
  | inr room ↦
      let due : first_of_five (first_open journal party) (first_coupled journal (lacks_control journal) party) (first_coupled journal (owes_reply journal) party) (to_counter journal party) (first_coupled journal (has_unseen journal) party) ≡ work.Reply local = rw room at h in
      let w = reply_is_of (first_open journal party) (first_coupled journal (lacks_control journal) party) (first_coupled journal (owes_reply journal) party) (to_counter journal party) (first_coupled journal (has_unseen journal) party) local due in
      (w.0, coupled_so journal (owes_reply journal) party local w.0 w.1 w.2)
]

-- an access that comes in time is not refused, whatever the control
in_time : (shared : Sharing) (k : Kind) → is_early shared.story shared.side k ≡ false → hold_under shared k ≡ None
in_time shared k early =
    let not_both : (has_element (combined shared.a shared.b) (element_of shared.side k) && is_early shared.story shared.side k) ≡ false =
    and_right (has_element (combined shared.a shared.b) (element_of shared.side k)) (is_early shared.story shared.side k) early in rw not_both refl

-- nor is that of a party on its offer, where the coupling is known
not_refused : (journal : Entries) (holds : Standing → Coupling → Bool) (party : ℕ) (local : List ℕ) (offer : Standing) (k : Kind) (so : IsCoupledSo journal holds party local offer) →
    is_early (story journal so.coupling) (side_at so.coupling offer.place) k ≡ false → hold_on journal k (own_offer (standing journal) party local) ≡ None
not_refused journal holds party local offer k so early =
    ap (λ (p : ℕ). hold_on journal k (own_offer (standing journal) p local)) (sym so.own)
    ∙ ap (λ (n : List ℕ). hold_on journal k (own_offer (standing journal) offer.party n)) (sym so.named)
    ∙ ap (hold_on journal k) (own_offer-is journal offer so.stands)
    ∙ ap (λ (c : Option Coupling). hold_under (sharing_of journal offer c) k) so.now
    ∙ in_time (sharing_of journal offer (Some so.coupling)) k early

-- one side at the most set last
one_set_last : (side : Side) (told : Story PlainArray) → is_last_setter (other_side side) told ≡ true → is_last_setter side told ≡ false
one_set_last side told h = by (last_set told) h
  where
    sides : (one two : Side) → same_side one (other_side two) ≡ true → same_side one two ≡ false
    sides A A h = cc
    sides A B h = refl
    sides B A h = refl
    sides B B h = cc

    by : (last : Option (Access PlainArray)) → option_map_or (λ access. same_side access.side (other_side side)) last false ≡ true → option_map_or (λ access. same_side access.side side) last false ≡ false
    by None h = cc
    by (Some access) h = sides access.side side h

-- a use sets nothing
use_part : (side by' : Side) (access : Option GrantedAccess) (told : Story PlainArray) → ((got : GrantedAccess) → access ≡ Some got → got.kind ≡ kind.Use) →
    is_last_setter side (story_part by' access ++ told) ≡ is_last_setter side told
use_part side by' None told is_use = refl
use_part side by' (Some got) told is_use = by got.kind (is_use got refl)
  where
    by : (k : Kind) → k ≡ kind.Use → is_last_setter side (story_part by' (let g : GrantedAccess = record { kind = k; value = got.value } in Some g) ++ told) ≡ is_last_setter side told
    by kind.Use h = refl
    by kind.Set h = cc

-- what the other side does leaves it that this side did not set last
others_part : (side : Side) (access : Option GrantedAccess) (told : Story PlainArray) → is_last_setter side told ≡ false → is_last_setter side (story_part (other_side side) access ++ told) ≡ false
others_part side None told h = h
others_part side (Some got) told h = by side got.kind h
  where
    by : (s : Side) (k : Kind) → is_last_setter s told ≡ false → is_last_setter s (story_part (other_side s) (let g : GrantedAccess = record { kind = k; value = got.value } in Some g) ++ told) ≡ false
    by A kind.Set h = refl
    by B kind.Set h = refl
    by A kind.Use h = h
    by B kind.Use h = h

-- an access of an entry that is a use is one
uses_only : (offer : Standing) (e : PlainEntry) (local : List ℕ) → e.act ≡ Use local → (got : GrantedAccess) → access_on offer e ≡ Some got → got.kind ≡ kind.Use
uses_only offer e local is got h = by got.kind got.value (IsAccessOn-from_access offer e got h).1
  where
    by : (k : Kind) (v : PlainArray) → IsAccessTo offer.local k v e.act e.answer → k ≡ kind.Use
    by kind.Use v on = refl
    by kind.Set v on = absurd (let no : Use local ≡ Set offer.local v = sym is ∙ on.0 in cc)

-- an entry that does not try to access the offer does not
pub untried : (offer : Standing) (e : PlainEntry) → tries offer e ≡ false → access_on offer e ≡ None
untried offer e h = elim (cases_Bool (eqb e.party offer.party)) [
  | inl own ↦ rw own (by (act_row e.act).row.accesses (rw own at h))
  | inr others ↦ rw others refl
]
  where
    by : (access : Option Accessing) → option_map_or (λ a. same_name a.local offer.local) access false ≡ false → granted_on offer.local (handed_in e.act) e.answer access ≡ None
    by None k = refl
    by (Some a) k = rw k refl

-- an entry that got a value used the offer's name
got_by_use : (offer : Standing) (e : PlainEntry) → gets_value offer e ≡ true → (e.party ≡ offer.party) × (e.act ≡ Use offer.local)
got_by_use offer e h = by (access_on offer e) refl h
  where
    by_kind : (k : Kind) (v : PlainArray) → not (is_set k) ≡ true → IsAccessTo offer.local k v e.act e.answer → e.act ≡ Use offer.local
    by_kind kind.Use v is_use on = on.0
    by_kind kind.Set v is_use on = cc

    by : (got : Option GrantedAccess) → access_on offer e ≡ got → option_map_or (λ access. not (is_set access.kind)) got false ≡ true → (e.party ≡ offer.party) × (e.act ≡ Use offer.local)
    by None is k = absurd (let no : false ≡ true = k in cc)
    by (Some access) is k = let on = IsAccessOn-from_access offer e access is in (on.0, by_kind access.kind access.value k on.1)

-- the story of a coupling after a later entry
story_later : (e : PlainEntry) (journal : Entries) (coupling : Coupling) → coupling.at ≤ length journal →
    story (e ∷ journal) coupling ≡ story_part A (access_on coupling.a e) ++ (story_part B (access_on coupling.b e) ++ story journal coupling)
story_later e journal coupling old =
    let later : ltb coupling.at (length journal + 1) ≡ true = lt-ltb _ _ (omega arith) in
    rw (later, story) (append_assoc (story_part A (access_on coupling.a e)) (story_part B (access_on coupling.b e)) (story journal coupling))

pub own-from : (party : ℕ) (local : List ℕ) (offer : Standing) → offer.party ≡ party → offer.local ≡ local → is_own party local offer ≡ true
own-from party local offer own named =
    subst (λ (p : ℕ). is_own p local offer ≡ true) own (subst (λ (n : List ℕ). is_own offer.party n offer ≡ true) named (own-itself offer))

-- ---- an entry that is later than a coupling, and who set last

module _ (e : PlainEntry) (journal : Entries) (offer : Standing) (coupling : Coupling) (old : coupling.at ≤ length journal) where
  -- the story of the coupling before the entry
  abbrev told : Story PlainArray
  told = story journal coupling

  -- the side of the offer
  abbrev own_side : Side
  own_side = side_at coupling offer.place

  -- a use that was due found a set of the partner that was unseen
  partner_set_last : (local : List ℕ) → work_of journal e.party ≡ work.Use local → e.act ≡ Use local → Contains (standing journal) offer → coupling_now journal offer.place ≡ Some coupling →
      (e.party ≡ offer.party) × (e.act ≡ Use offer.local) → is_last_setter (other_side own_side) told ≡ true
  partner_set_last local is same stood was used =
      let named : Use offer.local ≡ Use local = sym used.1 ∙ same in
      let local_is : offer.local ≡ local = cc in
      let w = use_due journal e.party local is in
      let one : w.0 ≡ offer = own_is_one journal e.party local w.0 offer w.1.stands (own-from e.party local w.0 w.1.own w.1.named) stood (own-from e.party local offer (sym used.0) local_is) in
      let same_coupling : w.1.coupling ≡ coupling = same_Some w.1.coupling coupling (sym w.1.now ∙ ap (λ (o : Standing). coupling_now journal o.place) one ∙ was) in
      let unseen : has_unseen journal offer coupling ≡ true =
      subst (λ (c : Coupling). has_unseen journal offer c ≡ true) same_coupling (subst (λ (o : Standing). has_unseen journal o w.1.coupling ≡ true) one w.1.here) in
      (and_parts (is_last_setter (other_side own_side) told) (not (has_used_since (other_side (other_side own_side)) told)) unseen).0

  -- so after a use by an auxiliary its own side did not set last
  not_last_after_use : (users : List ℕ) → IsLegal users (e ∷ journal) → is_auxiliary offer.party ≡ true → Contains (standing journal) offer → coupling_now journal offer.place ≡ Some coupling →
      (e.party ≡ offer.party) × (e.act ≡ Use offer.local) → is_last_setter own_side (story (e ∷ journal) coupling) ≡ false
  not_last_after_use users legal aux stood was used = elim (due_access (work_of journal e.party) (next_place journal) (act_row e.act).hands_in e.act due) [
    | no_access none ↦ absurd (none-some _ (sym none ∙ ap (λ (a : Act). (act_row a).row.accesses) used.1))
    | replies local reply is same ↦ absurd (let no : Use offer.local ≡ Set local reply = sym used.1 ∙ same in cc)
    | uses local is same ↦
        ap (is_last_setter own_side) (story_later e journal coupling old)
        ∙ use_part own_side A (access_on coupling.a e) (story_part B (access_on coupling.b e) ++ told) (uses_only coupling.a e offer.local used.1)
        ∙ use_part own_side B (access_on coupling.b e) told (uses_only coupling.b e offer.local used.1)
        ∙ one_set_last own_side told (partner_set_last local is same stood was used)
  ]
    where
      aux_entry : is_auxiliary e.party ≡ true
      aux_entry = ap is_auxiliary used.0 ∙ aux

      due : act_for (work_of journal e.party) (next_place journal) (act_row e.act).hands_in ≡ Some e.act
      due = subst (λ (b : Bool). act_due b journal e.party e.act ≡ Some e.act) aux_entry legal.0.due

  -- nor after an entry that makes no access on its offer, if it did not before
  not_last_after_another : Contains (standing (e ∷ journal)) offer → IsCouplingOf (e ∷ journal) offer.place coupling → access_on offer e ≡ None → is_last_setter own_side told ≡ false →
      is_last_setter own_side (story (e ∷ journal) coupling) ≡ false
  not_last_after_another has is none before = elim (cases_Bool (eqb coupling.a.place offer.place)) [
    | inl low ↦
        let side_is : own_side ≡ A = ap (λ (b : Bool). if b then A else B) low in
        let none_a : access_on coupling.a e ≡ None = ap (λ (o : Standing). access_on o e) (one coupling.a is.has_a (eqb-true coupling.a.place offer.place low)) ∙ none in
        subst (λ (s : Side). is_last_setter s (story (e ∷ journal) coupling) ≡ false) (sym side_is)
        (ap (is_last_setter A) (story_later e journal coupling old)
        ∙ ap (λ (got : Option GrantedAccess). is_last_setter A (story_part A got ++ (story_part B (access_on coupling.b e) ++ told))) none_a
        ∙ others_part A (access_on coupling.b e) told (subst (λ (s : Side). is_last_setter s told ≡ false) side_is before))
    | inr not_low ↦ elim is.here [
      | inl low ↦ absurd (eqb-false coupling.a.place offer.place not_low low)
      | inr high ↦
          let side_is : own_side ≡ B = ap (λ (b : Bool). if b then A else B) not_low in
          let none_b : access_on coupling.b e ≡ None = ap (λ (o : Standing). access_on o e) (one coupling.b is.has_b high) ∙ none in
          subst (λ (s : Side). is_last_setter s (story (e ∷ journal) coupling) ≡ false) (sym side_is)
          (ap (is_last_setter B) (story_later e journal coupling old)
          ∙ others_part B (access_on coupling.a e) (story_part B (access_on coupling.b e) ++ told)
          (ap (λ (got : Option GrantedAccess). is_last_setter B (story_part B got ++ told)) none_b ∙ subst (λ (s : Side). is_last_setter s told ≡ false) side_is before))
    ]
  ]
    where
      one : (other : Standing) → Contains (standing (e ∷ journal)) other → other.place ≡ offer.place → other ≡ offer
      one other there same = same_by_place (standing (e ∷ journal)) other offer (places_ascend (e ∷ journal)) there has same

-- an auxiliary that owes a reply used the partner's set, and has set nothing since
own_set_is_not_last : (users : List ℕ) (journal : Entries) → IsLegal users journal → (offer : Standing) (coupling : Coupling) → is_auxiliary offer.party ≡ true → Contains (standing journal) offer →
    coupling_now journal offer.place ≡ Some coupling → owes_reply journal offer coupling ≡ true → is_last_setter (side_at coupling offer.place) (story journal coupling) ≡ false
own_set_is_not_last users [] legal offer coupling aux has now owes = cc
own_set_is_not_last users (e ∷ journal) legal offer coupling aux has now owes = elim (cases_Bool (ltb coupling.at (length journal + 1))) [
  | inr newest ↦ absurd (let no : false ≡ true = rw newest at owes in cc)
  | inl later ↦
      let old : coupling.at ≤ length journal = let below = ltb-true coupling.at (length journal + 1) later in omega arith in
      let is = found_as_made users (e ∷ journal) legal offer.place coupling now in
      let order = coupling_places users (e ∷ journal) legal offer.place coupling is in
      let early : offer.place ≤ length journal = elim is.here [ inl low ↦ omega (arith, low, is.lower_first, order.0) | inr high ↦ omega (arith, high, order.0) ] in
      let stood = stood_before e journal offer early has in
      let was = coupling_was users e journal legal offer.place coupling now old in
      elim (cases_Bool (tries offer e)) [
        | inl tried ↦ let gets : gets_value offer e ≡ true = rw tried at (rw later at owes) in not_last_after_use e journal offer coupling old users legal aux stood was (got_by_use offer e gets)
        | inr not_tried ↦
            let before = own_set_is_not_last users journal legal.1 offer coupling aux stood was (rw not_tried at (rw later at owes)) in
            not_last_after_another e journal offer coupling old has is (untried offer e not_tried) before
      ]
]

-- after a legal journal the access of an auxiliary's work is not refused
pub work_is_in_time : (users : List ℕ) (journal : Entries) → IsLegal users journal → (party place : ℕ) (handed : Option PlainArray) (act : Act) → is_auxiliary party ≡ true →
    act_for (work_of journal party) place handed ≡ Some act → refused journal party act ≡ None
work_is_in_time users journal legal party place handed act aux due = elim (due_access (work_of journal party) place handed act due) [
  | no_access none ↦ ap (hold_of journal party) none
  | replies local reply is same ↦
      let w = reply_due journal party local is in
      let so = w.1 in
      let last = own_set_is_not_last users journal legal w.0 so.coupling (ap is_auxiliary so.own ∙ aux) so.stands so.now so.here in
      ap (refused journal party) same ∙ not_refused journal (owes_reply journal) party local w.0 kind.Set so
      (and_left (is_last_setter (side_at so.coupling w.0.place) (story journal so.coupling)) (not (has_used_since (other_side (side_at so.coupling w.0.place)) (story journal so.coupling))) last)
  | uses local is same ↦
      let w = use_due journal party local is in
      let so = w.1 in
      ap (refused journal party) same ∙ not_refused journal (has_unseen journal) party local w.0 kind.Use so (ap not so.here)
]

-- so in a legal journal none is
pub auxiliaries_are_never_refused : (users : List ℕ) (journal : Entries) (e : PlainEntry) → IsLegal users (e ∷ journal) → IsTrue (is_auxiliary e.party) → refused journal e.party e.act ≡ None
auxiliaries_are_never_refused users journal e legal aux =
    work_is_in_time users journal legal.1 e.party (next_place journal) (act_row e.act).hands_in e.act aux
    (subst (λ (b : Bool). act_due b journal e.party e.act ≡ Some e.act) aux legal.0.due)
