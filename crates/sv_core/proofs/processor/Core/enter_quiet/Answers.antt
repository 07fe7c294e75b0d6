use Rattle.std.proofs.Common.{◌∙◌, ap, refl, subst, sym}
use Rattle.std.proofs.lemmas.Bool.{not-true}
use Rattle.sv_cell_laws.specs.Steps.{TouchesNothing}
use Rattle.sv_rules.specs.Entries.{is_leave}
use Rattle.sv_rules.specs.Legal.{MayFollow, entry_for}
use Rattle.sv_rules.specs.Outcome.{outcome}
use Rattle.sv_core.proofs.Kept.{IsEntered, entered, entry_is, on_success, quiet_core, same_core}
use Rattle.sv_core.specs.Core.{PlainCore}
use Rattle.sv_core.specs.Invariant.{core_parts}
use Rattle.sv_core.proofs.processor.Core.enter_quiet.Goals as goal
use Rattle.sv_core.proofs.processor.Core.enter_quiet.Goals.{After-enter}

pub invariant_of-self : goal.invariant_of-self
invariant_of-self c =
    same_core (core_parts c.self.inside) _ c.self.invariant c.reserve.ensures.users c.reserve.ensures.journal refl refl refl (λ at. refl) c.reserve.ensures.kept

-- the act may be made after the journal as it was
may : (c : After-enter) → MayFollow c.self.inside.log.users c.self.inside.log.journal (entry_for c.self.inside.log.journal c.args.party c.args.act)
may c = subst (λ (v : PlainCore). MayFollow v.users v.journal (entry_for v.journal c.args.party c.args.act)) (sym c.self.view_is) c.requires.may.may

-- the log with the entry of the act
more : (c : After-enter) → IsEntered c.self.inside.log c.enter.new.log (entry_for c.self.inside.log.journal c.args.party c.args.act)
more c =
    let journal = c.self.inside.log.journal in
    entered c.self.inside.log c.reserve.new.self c.enter.new.log _ _ c.reserve.ensures.users c.reserve.ensures.journal (on_success c.reserve.result _ c.if-is_err.ensures.negation c.reserve.ensures.room)
    c.enter.ensures.users c.enter.ensures.journal c.enter.ensures.room (entry_is journal c.args.party c.args.act _ _ (c.in-Ok.ensures.kept ∙ c.requires.answer ∙ sym (ap (λ (v : PlainCore). (outcome v.journal c.args.party c.args.act).answer) c.self.view_is)) (c.new.ensures ∙ sym (ap (λ (v : PlainCore). (outcome v.journal c.args.party c.args.act).made) c.self.view_is ∙ c.requires.none)))

pub invariant_of-self-2 : goal.invariant_of-self-2
invariant_of-self-2 c =
    let d = (goal.at.invariant_of-self-2 c).After-enter in
    let e = entry_for c.self.inside.log.journal c.args.party c.args.act in
    let quiet = subst (λ (v : PlainCore). TouchesNothing v.journal (entry_for v.journal c.args.party c.args.act)) (sym c.self.view_is) c.requires.quiet in
    quiet_core (core_parts c.self.inside) _ e c.self.invariant (may d) (not-true (is_leave c.args.act) c.requires.may.stays) quiet (more d).users (more d).journal refl refl refl (λ at. refl) (more d).room
