use Rattle.std.proofs.Common.{◌≡◌, ap, sym, ◌∙◌, subst, Some, Option}
use Rattle.std.specs.Prelude.{IfSome}
use Rattle.std.specs.Option.{option_copied}
use Rattle.sv_core.specs.Core.{PlainCore}
use Rattle.sv_rules.specs.Coupling.{coupling_now}
use Rattle.sv_kept.specs.Share.{PlainShare}
use Rattle.sv_cell_laws.specs.Fits.{FitsShare}
use Rattle.sv_core.proofs.HoldingLemmas.{a_stands, cell_fits, cell_is, copied_some, share_is}
use Rattle.sv_core.proofs.processor.Core.share.Goals.{After-share}
use Rattle.sv_core.proofs.processor.Core.share.Goals as goal

-- the share that is found
found : (c : After-share) → (share : PlainShare) × (option_copied c.share.result ≡ Some share) × FitsShare c.self.inside.log.journal c.args.coupling.now share
found c =
    let inside = c.self.inside in
    let now = subst (λ (v : PlainCore). coupling_now v.journal c.args.coupling.now.a.place ≡ Some c.args.coupling.now) (sym c.self.view_is) c.requires in
    let has = a_stands inside.log.users inside.log.journal c.self.invariant.legal c.args.coupling.now.a.place c.args.coupling.now now in
    let at = sym c.get.ensures ∙ ap option_copied c.in-Some.is in
    let fits = cell_fits inside.log.journal inside.cells c.self.invariant.fit c.args.coupling.now.a has c.in-Some.cell.now at in
    let is = share_is inside.log.journal c.args.coupling.now c.in-Some.cell.now now fits.held in
    (is.0, c.share.ensures ∙ is.1, is.2)

pub returns-in-None-clause-some : goal.returns-in-None-clause-some
returns-in-None-clause-some c =
    let inside = c.self.inside in
    let now = subst (λ (v : PlainCore). coupling_now v.journal c.args.coupling.now.a.place ≡ Some c.args.coupling.now) (sym c.self.view_is) c.requires in
    let has = a_stands inside.log.users inside.log.journal c.self.invariant.legal c.args.coupling.now.a.place c.args.coupling.now now in
    absurd (cell_is inside.log.journal inside.cells c.self.invariant.fit c.args.coupling.now.a has (sym c.get.ensures ∙ ap option_copied c.in-None.is))

pub returns-in-Some-clause-fits : goal.returns-in-Some-clause-fits
returns-in-Some-clause-fits c =
    let is = found c in
    subst (λ (o : Option PlainShare). IfSome o (FitsShare c.args.self.now.journal c.args.coupling.now)) (sym is.1)
    (subst (λ (v : PlainCore). FitsShare v.journal c.args.coupling.now is.0) c.self.view_is is.2)

pub returns-in-Some-clause-some : goal.returns-in-Some-clause-some
returns-in-Some-clause-some c = let is = found c in copied_some c.share.result is.0 is.1
