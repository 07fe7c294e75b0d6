use Rattle.std.proofs.Common.{◌∙◌, ◌≡◌, ap, eqb, not, refl, true}
use Rattle.std.specs.Prelude.{filter, find}
use Rattle.sv_rules.specs.Coupling.{is_coupled, open_to}
use Rattle.sv_rules.specs.declared.standing.Standing.{Standing}
use Rattle.sv_core.proofs.TogetherLemmas.{tables}
use Rattle.sv_core.specs.Core.{PlainCore}
use Rattle.sv_core.proofs.processor.Core.oldest_to.Goals as goal

pub returns : goal.returns
returns c =
    let party = c.args.party in
    let inside = c.self.inside in
    c.oldest_to.ensures
    ∙ tables inside.offers inside.log.journal c.self.invariant.stand c.self.invariant.couple
    (λ os ms. find (λ (o : Standing). true) (filter (λ (o : Standing). eqb o.to party) (filter (λ (o : Standing). not (is_coupled ms o.place)) os)) ≡ find (λ (o : Standing). true) (open_to inside.log.journal party)) refl
    ∙ ap (λ (v : PlainCore). find (λ (o : Standing). true) (open_to v.journal party)) c.self.view_is
