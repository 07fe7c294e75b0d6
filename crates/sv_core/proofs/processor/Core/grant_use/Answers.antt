use Rattle.std.proofs.Common.{◌∙◌, ◌≡◌, None, Option, Some, ap, refl, subst, sym}
use Rattle.std.proofs.lemmas.Bool.{not-true}
use Rattle.std.specs.Option.{option_copied}
use Rattle.std.specs.Prelude.{Contains, IsSome}
use Rattle.sv_cell_laws.proofs.QuietSteps.{use_makes_access}
use Rattle.sv_cell_laws.specs.Steps.{use_access}
use Rattle.sv_events.specs.Answer.{PlainAnswer}
use Rattle.sv_events.specs.Row.{answer_row}
use Rattle.sv_events.specs.declared.row.Accessing.{Accessing}
use Rattle.sv_offer_laws.proofs.OwnLemmas.{own_offer-parts}
use Rattle.sv_rules.specs.Coupling.{coupling_now}
use Rattle.sv_rules.specs.Entries.{is_leave}
use Rattle.sv_rules.specs.Legal.{MayFollow, entry_for}
use Rattle.sv_rules.specs.Outcome.{ActOutcome, value_answer, value_for}
use Rattle.sv_rules.specs.Refused.{hold_on}
use Rattle.sv_rules.specs.Standing.{own_offer, standing}
use Rattle.sv_core.proofs.AccessingLemmas.{ready_with, uses_with}
use Rattle.sv_core.proofs.Kept.{IsEntered, entered, entry_as, same_core}
use Rattle.sv_core.proofs.MakingLemmas.{access_core}
use Rattle.sv_core.proofs.OutcomeLemmas.{outcome_of_access, use_granted, use_hands_none, value_answered}
use Rattle.sv_core.specs.Core.{PlainCore}
use Rattle.sv_core.specs.Invariant.{core_parts}
use Rattle.sv_core.proofs.processor.Core.grant_use.Goals as goal
use Rattle.sv_core.proofs.processor.Core.grant_use.Goals.{After-push}

pub value_for-requires-clause-stands : goal.value_for-requires-clause-stands
value_for-requires-clause-stands c = (own_offer-parts (standing c.args.self.now.journal) c.args.party c.args.access.now.local c.args.offer.now c.requires.own).2

pub invariant_of-self : goal.invariant_of-self
invariant_of-self c =
    same_core (core_parts c.self.inside) _ c.self.invariant c.use_given.ensures.users c.use_given.ensures.journal refl refl refl
    c.in_default.ensures.err c.use_given.ensures.kept

pub use_given-requires : goal.use_given-requires
use_given-requires c =
    let has = subst (λ (v : PlainCore). Contains (standing v.journal) c.args.offer.now) (sym c.self.view_is) (own_offer-parts (standing c.args.self.now.journal) c.args.party c.args.access.now.local c.args.offer.now c.requires.own).2 in
    ready_with (core_parts c.self.inside) c.self.invariant c.args.offer.now has c.args.coupling.now
    (subst (λ (v : PlainCore). c.args.coupling.now ≡ coupling_now v.journal c.args.offer.now.place) (sym c.self.view_is) c.requires.coupled)

pub use_again-requires-clause-uses : goal.use_again-requires-clause-uses
use_again-requires-clause-uses c = subst (λ (o : Option Accessing). IsSome o) (sym c.requires.row) cc

pub use_again-requires-clause-none : goal.use_again-requires-clause-none
use_again-requires-clause-none c = use_hands_none c.args.act.now c.args.access.now c.requires.row c.requires.kind

-- the act may be made after the journal as it was
may : (c : After-push) → MayFollow c.self.inside.log.users c.self.inside.log.journal (entry_for c.self.inside.log.journal c.args.party c.args.act.now)
may c = subst (λ (v : PlainCore). MayFollow v.users v.journal (entry_for v.journal c.args.party c.args.act.now)) (sym c.self.view_is) c.requires.may.may

-- the offer is the party's own
own : (c : After-push) → own_offer (standing c.self.inside.log.journal) c.args.party c.args.access.now.local ≡ Some c.args.offer.now
own c = subst (λ (v : PlainCore). own_offer (standing v.journal) c.args.party c.args.access.now.local ≡ Some c.args.offer.now) (sym c.self.view_is) c.requires.own

-- its coupling is the one that was found
coupled : (c : After-push) → c.args.coupling.now ≡ coupling_now c.self.inside.log.journal c.args.offer.now.place
coupled c = subst (λ (v : PlainCore). c.args.coupling.now ≡ coupling_now v.journal c.args.offer.now.place) (sym c.self.view_is) c.requires.coupled

-- nothing refuses it
free : (c : After-push) → hold_on c.self.inside.log.journal c.args.access.now.kind (Some c.args.offer.now) ≡ None
free c = subst (λ (v : PlainCore). hold_on v.journal c.args.access.now.kind (Some c.args.offer.now) ≡ None) (sym c.self.view_is) c.requires.free

-- the value in the answer
value_told : (c : After-push) → option_copied c.value.result ≡ value_for c.args.self.now.journal c.args.offer.now (coupling_now c.args.self.now.journal c.args.offer.now.place)
value_told c = c.value.ensures ∙ ap (λ (a : PlainAnswer). (answer_row a).value) c.in_ok-given.ensures ∙ value_answered (option_copied c.value_for.result) ∙ c.value_for.ensures

-- the log with the entry of the act
more : (c : After-push) → IsEntered c.self.inside.log c.push.new.self (entry_for c.self.inside.log.journal c.args.party c.args.act.now)
more c =
    let journal = c.self.inside.log.journal in
    entered c.self.inside.log c.use_given.new.log c.push.new.self _ _ c.use_given.ensures.users c.use_given.ensures.journal c.in-Ok.ensures.room
    c.push.ensures.users c.push.ensures.journal c.push.ensures.room (entry_as journal c.args.party c.args.act.now _ _ _ c.use_again.ensures (c.in-Ok.ensures.answer ∙ ap value_answer (value_told c) ∙ ap (λ (v : PlainCore). value_answer (value_for v.journal c.args.offer.now (coupling_now v.journal c.args.offer.now.place))) (sym c.self.view_is) ∙ use_granted journal c.args.party c.args.act.now c.args.access.now c.args.offer.now c.requires.row c.requires.kind (own c) (free c)) (c.new.ensures ∙ sym (ap (λ (o : ActOutcome). o.made) (outcome_of_access journal c.args.party c.args.act.now c.args.access.now c.requires.row))))

pub invariant_of-self-2 : goal.invariant_of-self-2
invariant_of-self-2 c =
    let d = (goal.at.invariant_of-self-2 c).After-push in
    let core = core_parts c.self.inside in
    let e = entry_for core.journal c.args.party c.args.act.now in
    let has = (own_offer-parts (standing core.journal) c.args.party c.args.access.now.local c.args.offer.now (own d)).2 in
    let makes = use_makes_access core.journal c.args.party c.args.act.now c.args.access.now c.args.offer.now c.requires.row c.requires.kind (own d) (free d) in
    access_core core _ c.self.invariant e c.args.offer.now (use_access (value_for core.journal c.args.offer.now (coupling_now core.journal c.args.offer.now.place))) (may d) (not-true (is_leave c.args.act.now) c.requires.may.stays)
    has makes (more d).users (more d).journal refl refl refl
    (uses_with core c.self.invariant c.args.offer.now c.use_given.new.cells has c.args.coupling.now (coupled d) c.in-Ok.ensures.ok) (more d).room
