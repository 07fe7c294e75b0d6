use Rattle.std.proofs.Common.{◌≡◌, ap, sym, ◌∙◌, subst}
use Rattle.std.specs.Prelude.{IfSome}
use Rattle.sv_core.specs.Core.{PlainCore, IsFound}
use Rattle.sv_rules.specs.Coupling.{coupling_at, coupling_now, couplings}
use Rattle.sv_core.proofs.HoldingLemmas.{found_now}
use Rattle.std.proofs.Common.{List}
use Rattle.sv_rules.specs.declared.coupling.Made.{Made}
use Rattle.sv_rules.specs.declared.standing.Standing.{Standing}
use Rattle.sv_core.proofs.processor.Core.coupling.Goals as goal

pub returns-clause-found : goal.returns-clause-found
returns-clause-found c =
    let inside = c.self.inside in
    let now : coupling_now inside.log.journal c.args.place ≡ c.coupling.result =
    ap (λ (o : List Standing). coupling_at o (couplings inside.log.journal) c.args.place) (sym c.self.invariant.stand)
    ∙ ap (λ (m : List Made). coupling_at inside.offers.offers m c.args.place) (sym c.self.invariant.couple)
    ∙ sym c.coupling.ensures in
    subst (λ (v : PlainCore). IfSome c.coupling.result (IsFound v.journal c.args.place)) c.self.view_is
    (found_now inside.log.users inside.log.journal c.self.invariant.legal c.args.place c.coupling.result now)
