use Rattle.std.proofs.Common.{ap, sym, ◌∙◌, subst}
use Rattle.std.specs.Prelude.{Contains}
use Rattle.std.specs.Option.{option_copied}
use Rattle.sv_core.specs.Core.{PlainCore}
use Rattle.sv_rules.specs.Standing.{standing}
use Rattle.sv_rules.specs.Control.{vector_of}
use Rattle.sv_core.proofs.HoldingLemmas.{cell_fits, cell_is}
use Rattle.sv_core.proofs.processor.Core.vector.Goals as goal

pub returns-in-None : goal.returns-in-None
returns-in-None c =
    let inside = c.self.inside in
    let has = subst (λ (v : PlainCore). Contains (standing v.journal) c.args.offer.now) (sym c.self.view_is) c.requires in
    absurd (cell_is inside.log.journal inside.cells c.self.invariant.fit c.args.offer.now has (sym c.get.ensures ∙ ap option_copied c.in-None.is))

pub returns-in-Some : goal.returns-in-Some
returns-in-Some c =
    let inside = c.self.inside in
    let has = subst (λ (v : PlainCore). Contains (standing v.journal) c.args.offer.now) (sym c.self.view_is) c.requires in
    let at = sym c.get.ensures ∙ ap option_copied c.in-Some.is in
    (cell_fits inside.log.journal inside.cells c.self.invariant.fit c.args.offer.now has c.in-Some.cell.now at).vector
    ∙ ap (λ (v : PlainCore). vector_of v.journal c.args.offer.now) c.self.view_is
