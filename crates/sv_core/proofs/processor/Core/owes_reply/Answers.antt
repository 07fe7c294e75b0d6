use Rattle.std.proofs.Common.{◌∙◌, ◌≡◌, Some, ap, subst, sym}
use Rattle.std.specs.Option.{option_copied}
use Rattle.std.specs.Prelude.{Contains}
use Rattle.sv_rules.specs.Coupling.{coupling_now}
use Rattle.sv_rules.specs.Standing.{standing}
use Rattle.sv_rules.specs.Work.{owes_reply}
use Rattle.sv_core.proofs.HoldingLemmas.{cell_fits, cell_is}
use Rattle.sv_core.specs.Core.{PlainCore}
use Rattle.sv_core.proofs.processor.Core.owes_reply.Goals as goal

pub returns-in-None : goal.returns-in-None
returns-in-None c = λ coupling now.
    let inside = c.self.inside in
    let has = subst (λ (v : PlainCore). Contains (standing v.journal) c.args.offer.now) (sym c.self.view_is) c.requires.stands in
    absurd (cell_is inside.log.journal inside.cells c.self.invariant.fit c.args.offer.now has (sym c.get.ensures ∙ ap option_copied c.in-None.is))

pub returns-in-Some : goal.returns-in-Some
returns-in-Some c = λ coupling h.
    let inside = c.self.inside in
    let has = subst (λ (v : PlainCore). Contains (standing v.journal) c.args.offer.now) (sym c.self.view_is) c.requires.stands in
    let now = subst (λ (v : PlainCore). coupling_now v.journal c.args.offer.now.place ≡ Some coupling) (sym c.self.view_is) h in
    let at = sym c.get.ensures ∙ ap option_copied c.in-Some.is in
    let fits = cell_fits inside.log.journal inside.cells c.self.invariant.fit c.args.offer.now has c.in-Some.cell.now at in
    (fits.work c.requires.own coupling now).owes ∙ ap (λ (v : PlainCore). owes_reply v.journal c.args.offer.now coupling) c.self.view_is
