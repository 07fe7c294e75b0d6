use Rattle.std.proofs.Common.{◌∙◌, Option, ap, sym}
use Rattle.std.specs.Prelude.{is_some}
use Rattle.sv_events.specs.declared.event.Hold.{Hold}
use Rattle.sv_offer_laws.proofs.OwnLemmas.{own_offer-parts}
use Rattle.sv_rules.specs.Refused.{hold_on}
use Rattle.sv_rules.specs.Standing.{standing}
use Rattle.sv_rules.specs.declared.standing.Standing.{Standing}
use Rattle.sv_core.proofs.processor.Core.is_held.Goals as goal

pub coupling_on-coupling-requires : goal.coupling_on-coupling-requires
coupling_on-coupling-requires c = (own_offer-parts (standing c.args.self.now.journal) c.args.party c.args.access.local c.in-Some.offer (sym c.own.ensures ∙ c.in-Some.is)).2

pub hold_on-requires-clause-stands : goal.hold_on-requires-clause-stands
hold_on-requires-clause-stands c = (own_offer-parts (standing c.args.self.now.journal) c.args.party c.args.access.local c.in-Some.offer (sym c.own.ensures ∙ c.in-Some.is)).2

pub returns-in-None : goal.returns-in-None
returns-in-None c = ap (λ (o : Option Standing). is_some (hold_on c.args.self.now.journal c.args.access.kind o)) (sym c.in-None.is ∙ c.own.ensures)

pub returns-in-Some : goal.returns-in-Some
returns-in-Some c =
    let journal = c.args.self.now.journal in
    let kind = c.args.access.kind in
    c.is_some.ensures ∙ ap (λ (h : Option Hold). is_some h) (c.hold_on.ensures ∙ ap (λ (o : Option Standing). hold_on journal kind o) (sym c.in-Some.is ∙ c.own.ensures))
