use Rattle.std.proofs.Common.{◌∙◌, ◌≡◌, Some, ap, refl, subst, sym}
use Rattle.std.proofs.lemmas.Bool.{not-true}
use Rattle.std.specs.Prelude.{Contains}
use Rattle.sv_events.specs.Answer.{vector}
use Rattle.sv_offer_laws.proofs.OwnLemmas.{own_offer-parts}
use Rattle.sv_rules.specs.Control.{in_force_with}
use Rattle.sv_rules.specs.Entries.{is_leave}
use Rattle.sv_rules.specs.Legal.{MayFollow, entry_for}
use Rattle.sv_rules.specs.Outcome.{ActOutcome}
use Rattle.sv_rules.specs.Standing.{own_offer, standing}
use Rattle.sv_core.proofs.AccessingLemmas.{some_cell_in}
use Rattle.sv_core.proofs.Kept.{IsEntered, entered, entry_is, on_success, same_core}
use Rattle.sv_core.proofs.MakingLemmas.{control_core}
use Rattle.sv_core.proofs.OutcomeLemmas.{control_answered, outcome_of_control}
use Rattle.sv_core.specs.Core.{PlainCore}
use Rattle.sv_core.specs.Invariant.{core_parts}
use Rattle.sv_core.proofs.processor.Core.set_control.Goals as goal
use Rattle.sv_core.proofs.processor.Core.set_control.Goals.{After-enter}

pub in_force_with-vector-requires : goal.in_force_with-vector-requires
in_force_with-vector-requires c = (own_offer-parts (standing c.args.self.now.journal) c.args.party c.args.set.local c.args.offer c.requires.own).2

pub invariant_of-self : goal.invariant_of-self
invariant_of-self c =
    same_core (core_parts c.self.inside) _ c.self.invariant c.reserve.ensures.users c.reserve.ensures.journal refl refl refl (λ at. refl) c.reserve.ensures.kept

pub control-requires : goal.control-requires
control-requires c =
    let has = subst (λ (v : PlainCore). Contains (standing v.journal) c.args.offer) (sym c.self.view_is) (own_offer-parts (standing c.args.self.now.journal) c.args.party c.args.set.local c.args.offer c.requires.own).2 in
    some_cell_in (core_parts c.self.inside) c.self.invariant c.args.offer has

-- the act may be made after the journal as it was
may : (c : After-enter) → MayFollow c.self.inside.log.users c.self.inside.log.journal (entry_for c.self.inside.log.journal c.args.party c.args.act)
may c = subst (λ (v : PlainCore). MayFollow v.users v.journal (entry_for v.journal c.args.party c.args.act)) (sym c.self.view_is) c.requires.may.may

-- the offer is the party's own
own : (c : After-enter) → own_offer (standing c.self.inside.log.journal) c.args.party c.args.set.local ≡ Some c.args.offer
own c = subst (λ (v : PlainCore). own_offer (standing v.journal) c.args.party c.args.set.local ≡ Some c.args.offer) (sym c.self.view_is) c.requires.own

-- the log with the entry of the act
more : (c : After-enter) → IsEntered c.self.inside.log c.enter.new.log (entry_for c.self.inside.log.journal c.args.party c.args.act)
more c =
    let journal = c.self.inside.log.journal in
    entered c.self.inside.log c.reserve.new.self c.enter.new.log _ _ c.reserve.ensures.users c.reserve.ensures.journal (on_success c.reserve.result _ c.if-is_err.ensures.negation c.reserve.ensures.room)
    c.enter.ensures.users c.enter.ensures.journal c.enter.ensures.room (entry_is journal c.args.party c.args.act _ _ (ap vector c.in_force_with-vector.ensures ∙ ap (λ (v : PlainCore). vector (in_force_with v.journal c.args.set.control c.args.offer)) (sym c.self.view_is) ∙ control_answered journal c.args.party c.args.act c.args.set c.args.offer c.requires.row (own c)) (c.new.ensures ∙ sym (ap (λ (o : ActOutcome). o.made) (outcome_of_control journal c.args.party c.args.act c.args.set c.requires.row))))

pub invariant_of-self-2 : goal.invariant_of-self-2
invariant_of-self-2 c =
    let d = (goal.at.invariant_of-self-2 c).After-enter in
    control_core (core_parts c.self.inside) _ c.self.invariant c.args.party c.args.act c.args.set c.args.offer (may d) (not-true (is_leave c.args.act) c.requires.may.stays) c.requires.row (own d)
    (more d).users (more d).journal refl refl refl c.control.ensures (more d).room
