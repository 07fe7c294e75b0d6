use Rattle.std.proofs.Common.{◌≡◌, ap, sym, ◌∙◌, subst}
use Rattle.std.specs.Prelude.{Contains, IfSome}
use Rattle.sv_core.specs.Core.{PlainCore, IsFound}
use Rattle.sv_rules.specs.Standing.{standing}
use Rattle.sv_offer_laws.proofs.NowLemmas.{offer_is_found}
use Rattle.sv_rules.specs.Coupling.{coupling_at, coupling_now, couplings, offer_at}
use Rattle.sv_core.proofs.HoldingLemmas.{found_now}
use Rattle.std.proofs.Common.{List}
use Rattle.sv_rules.specs.declared.coupling.Made.{Made}
use Rattle.sv_rules.specs.declared.standing.Standing.{Standing}
use Rattle.sv_core.proofs.processor.Core.coupling_on.Goals as goal

pub returns-clause-found : goal.returns-clause-found
returns-clause-found c =
    let inside = c.self.inside in
    let now : coupling_now inside.log.journal c.args.offer.now.place ≡ c.coupling_on.result =
    ap (λ (o : List Standing). coupling_at o (couplings inside.log.journal) c.args.offer.now.place) (sym c.self.invariant.stand)
    ∙ ap (λ (m : List Made). coupling_at inside.offers.offers m c.args.offer.now.place) (sym c.self.invariant.couple)
    ∙ sym c.coupling_on.ensures in
    subst (λ (v : PlainCore). IfSome c.coupling_on.result (IsFound v.journal c.args.offer.now.place)) c.self.view_is
    (found_now inside.log.users inside.log.journal c.self.invariant.legal c.args.offer.now.place c.coupling_on.result now)

pub coupling_on-requires : goal.coupling_on-requires
coupling_on-requires c =
    let inside = c.self.inside in
    let has = subst (λ (v : PlainCore). Contains (standing v.journal) c.args.offer.now) (sym c.self.view_is) c.requires in
    ap (λ (os : List Standing). offer_at os c.args.offer.now.place) c.self.invariant.stand ∙ offer_is_found inside.log.journal c.args.offer.now has
