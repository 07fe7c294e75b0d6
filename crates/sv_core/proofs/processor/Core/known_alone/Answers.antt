use Rattle.std.proofs.Common.{◌≡◌, ap, sym, ◌∙◌, subst, None}
use Rattle.std.specs.Prelude.{Contains}
use Rattle.std.specs.Option.{option_copied}
use Rattle.sv_core.specs.Core.{PlainCore}
use Rattle.sv_rules.specs.Standing.{standing}
use Rattle.sv_rules.specs.Coupling.{coupling_now}
use Rattle.sv_rules.specs.Story.{known}
use Rattle.sv_core.proofs.HoldingLemmas.{cell_fits, cell_is, known_is}
use Rattle.sv_core.proofs.processor.Core.known_alone.Goals as goal

pub returns-in-None : goal.returns-in-None
returns-in-None c =
    let inside = c.self.inside in
    let has = subst (λ (v : PlainCore). Contains (standing v.journal) c.args.offer.now) (sym c.self.view_is) c.requires.stands in
    absurd (cell_is inside.log.journal inside.cells c.self.invariant.fit c.args.offer.now has (sym c.get.ensures ∙ ap option_copied c.in-None.is))

pub returns-in-Some : goal.returns-in-Some
returns-in-Some c =
    let inside = c.self.inside in
    let has = subst (λ (v : PlainCore). Contains (standing v.journal) c.args.offer.now) (sym c.self.view_is) c.requires.stands in
    let none = subst (λ (v : PlainCore). coupling_now v.journal c.args.offer.now.place ≡ None) (sym c.self.view_is) c.requires.open in
    let at = sym c.get.ensures ∙ ap option_copied c.in-Some.is in
    let fits = cell_fits inside.log.journal inside.cells c.self.invariant.fit c.args.offer.now has c.in-Some.cell.now at in
    c.known.ensures ∙ known_is inside.log.journal c.args.offer.now c.in-Some.cell.now none fits.held
    ∙ ap (λ (v : PlainCore). known v.journal c.args.offer.now) c.self.view_is
