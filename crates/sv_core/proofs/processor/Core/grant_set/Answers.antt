use Rattle.std.proofs.Common.{◌∙◌, ◌≡◌, None, Option, Some, ap, refl, subst, sym}
use Rattle.std.proofs.lemmas.Bool.{not-true}
use Rattle.std.specs.Prelude.{Contains, IsSome}
use Rattle.apl_arrays.specs.Array.{PlainArray}
use Rattle.sv_cell_laws.proofs.QuietSteps.{set_makes_access}
use Rattle.sv_cell_laws.specs.Steps.{set_access}
use Rattle.sv_events.specs.declared.row.Accessing.{Accessing}
use Rattle.sv_offer_laws.proofs.OwnLemmas.{own_offer-parts}
use Rattle.sv_rules.specs.Coupling.{coupling_now}
use Rattle.sv_rules.specs.Entries.{is_leave}
use Rattle.sv_rules.specs.Legal.{MayFollow, entry_for}
use Rattle.sv_rules.specs.Outcome.{ActOutcome}
use Rattle.sv_rules.specs.Refused.{hold_on}
use Rattle.sv_rules.specs.Standing.{own_offer, standing}
use Rattle.sv_core.proofs.AccessingLemmas.{answers_with, ready_with}
use Rattle.sv_core.proofs.Kept.{IsEntered, entered, entry_as, same_core}
use Rattle.sv_core.proofs.MakingLemmas.{access_core}
use Rattle.sv_core.proofs.OutcomeLemmas.{access_granted, outcome_of_access, set_hands_in}
use Rattle.sv_core.specs.Core.{PlainCore}
use Rattle.sv_core.specs.Invariant.{core_parts}
use Rattle.sv_core.proofs.processor.Core.grant_set.Goals as goal
use Rattle.sv_core.proofs.processor.Core.grant_set.Goals.{After-push}

pub invariant_of-self : goal.invariant_of-self
invariant_of-self c =
    same_core (core_parts c.self.inside) _ c.self.invariant c.set_handed.ensures.users c.set_handed.ensures.journal refl refl refl
    c.in_default.ensures.err c.set_handed.ensures.kept

pub set_handed-requires-clause-hands : goal.set_handed-requires-clause-hands
set_handed-requires-clause-hands c = subst (λ (o : Option PlainArray). IsSome o) (sym (set_hands_in c.args.act.now c.args.access.now c.requires.row c.requires.kind).1) cc

pub set_handed-requires-clause-sets : goal.set_handed-requires-clause-sets
set_handed-requires-clause-sets c = subst (λ (o : Option Accessing). IsSome o) (sym c.requires.row) cc

pub set_handed-requires-clause-ready : goal.set_handed-requires-clause-ready
set_handed-requires-clause-ready c =
    let has = subst (λ (v : PlainCore). Contains (standing v.journal) c.args.offer.now) (sym c.self.view_is) (own_offer-parts (standing c.args.self.now.journal) c.args.party c.args.access.now.local c.args.offer.now c.requires.own).2 in
    ready_with (core_parts c.self.inside) c.self.invariant c.args.offer.now has c.args.coupling.now
    (subst (λ (v : PlainCore). c.args.coupling.now ≡ coupling_now v.journal c.args.offer.now.place) (sym c.self.view_is) c.requires.coupled)

-- the act may be made after the journal as it was
may : (c : After-push) → MayFollow c.self.inside.log.users c.self.inside.log.journal (entry_for c.self.inside.log.journal c.args.party c.args.act.now)
may c = subst (λ (v : PlainCore). MayFollow v.users v.journal (entry_for v.journal c.args.party c.args.act.now)) (sym c.self.view_is) c.requires.may.may

-- the offer is the party's own
own : (c : After-push) → own_offer (standing c.self.inside.log.journal) c.args.party c.args.access.now.local ≡ Some c.args.offer.now
own c = subst (λ (v : PlainCore). own_offer (standing v.journal) c.args.party c.args.access.now.local ≡ Some c.args.offer.now) (sym c.self.view_is) c.requires.own

-- its coupling is the one that was found
coupled : (c : After-push) → c.args.coupling.now ≡ coupling_now c.self.inside.log.journal c.args.offer.now.place
coupled c = subst (λ (v : PlainCore). c.args.coupling.now ≡ coupling_now v.journal c.args.offer.now.place) (sym c.self.view_is) c.requires.coupled

-- nothing refuses it
free : (c : After-push) → hold_on c.self.inside.log.journal c.args.access.now.kind (Some c.args.offer.now) ≡ None
free c = subst (λ (v : PlainCore). hold_on v.journal c.args.access.now.kind (Some c.args.offer.now) ≡ None) (sym c.self.view_is) c.requires.free

-- the log with the entry of the act
more : (c : After-push) → IsEntered c.self.inside.log c.push.new.self (entry_for c.self.inside.log.journal c.args.party c.args.act.now)
more c =
    let journal = c.self.inside.log.journal in
    entered c.self.inside.log c.set_handed.new.log c.push.new.self _ _ c.set_handed.ensures.users c.set_handed.ensures.journal c.in-Ok.ensures.room
    c.push.ensures.users c.push.ensures.journal c.push.ensures.room (entry_as journal c.args.party c.args.act.now _ _ _ c.in-Ok.ensures.act (access_granted journal c.args.party c.args.act.now c.args.access.now c.args.offer.now c.requires.row c.requires.kind (own c) (free c)) (c.new.ensures ∙ sym (ap (λ (o : ActOutcome). o.made) (outcome_of_access journal c.args.party c.args.act.now c.args.access.now c.requires.row))))

pub invariant_of-self-2 : goal.invariant_of-self-2
invariant_of-self-2 c =
    let d = (goal.at.invariant_of-self-2 c).After-push in
    let core = core_parts c.self.inside in
    let e = entry_for core.journal c.args.party c.args.act.now in
    let handed = set_hands_in c.args.act.now c.args.access.now c.requires.row c.requires.kind in
    let makes = set_makes_access core.journal c.args.party c.args.act.now c.args.access.now c.args.offer.now handed.0 c.requires.row c.requires.kind (own d) (free d) handed.1 in
    access_core core _ c.self.invariant e c.args.offer.now (set_access handed.0) (may d) (not-true (is_leave c.args.act.now) c.requires.may.stays)
    (own_offer-parts (standing core.journal) c.args.party c.args.access.now.local c.args.offer.now (own d)).2 makes (more d).users (more d).journal refl refl refl
    (answers_with core c.args.offer.now c.set_handed.new.cells (set_access handed.0) c.args.coupling.now (coupled d) (c.in-Ok.ensures.set handed.0 handed.1)) (more d).room
