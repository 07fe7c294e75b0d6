use Rattle.std.proofs.Common.{◌≡◌, ◌∙◌, None, Option, ap, subst, sym}
use Rattle.std.specs.Prelude.{Contains, is_some}
use Rattle.std.specs.Option.{option_copied}
use Rattle.apl_arrays.specs.Array.{PlainArray}
use Rattle.sv_access.specs.Story.{state_of_story}
use Rattle.sv_access.specs.declared.access.Side.TheVariants.{A}
use Rattle.sv_cell_laws.specs.Fits.{FitsCell}
use Rattle.sv_core.specs.Core.{PlainCore}
use Rattle.sv_rules.specs.Control.{vector_of}
use Rattle.sv_rules.specs.Coupling.{coupling_now}
use Rattle.sv_rules.specs.Standing.{standing}
use Rattle.sv_rules.specs.Story.{opening}
use Rattle.sv_kept.specs.Share.{alone}
use Rattle.sv_core.proofs.HoldingLemmas.{cell_fits, cell_is, copied_is, known_is, open_state}
use Rattle.sv_core.proofs.processor.Core.opened.Goals as goal
use Rattle.sv_core.proofs.processor.Core.opened.Goals.{After-alone}

-- the cell that is found is that of the offer
fits_inside : (c : After-alone) → FitsCell c.self.inside.log.journal c.args.offer.now c.in-Some.cell.now
fits_inside c =
    let inside = c.self.inside in
    let has = subst (λ (v : PlainCore). Contains (standing v.journal) c.args.offer.now) (sym c.self.view_is) c.requires.stands in
    cell_fits inside.log.journal inside.cells c.self.invariant.fit c.args.offer.now has c.in-Some.cell.now (sym c.get.ensures ∙ ap option_copied c.in-Some.is)

pub unreachable-requires : goal.unreachable-requires
unreachable-requires c =
    let inside = c.self.inside in
    let has = subst (λ (v : PlainCore). Contains (standing v.journal) c.args.offer.now) (sym c.self.view_is) c.requires.stands in
    cell_is inside.log.journal inside.cells c.self.invariant.fit c.args.offer.now has (sym c.get.ensures ∙ ap option_copied c.in-None.is)

pub returns-clause-vector : goal.returns-clause-vector
returns-clause-vector c = (fits_inside c).vector ∙ ap (λ (v : PlainCore). vector_of v.journal c.args.offer.now) c.self.view_is

pub returns-clause-state : goal.returns-clause-state
returns-clause-state c =
    let inside = c.self.inside in
    let has = subst (λ (v : PlainCore). Contains (standing v.journal) c.args.offer.now) (sym c.self.view_is) c.requires.stands in
    let none = subst (λ (v : PlainCore). coupling_now v.journal c.args.offer.now.place ≡ None) (sym c.self.view_is) c.requires.open in
    let known = known_is inside.log.journal c.args.offer.now c.in-Some.cell.now none (fits_inside c).held in
    c.alone.ensures ∙ ap alone (c.is_some.ensures ∙ copied_is c.known.result ∙ ap (λ (o : Option PlainArray). is_some o) (c.known.ensures ∙ known))
    ∙ sym (open_state inside.log.users inside.log.journal c.self.invariant.legal c.args.offer.now has none)
    ∙ ap (λ (v : PlainCore). state_of_story (opening A v.journal c.args.offer.now)) c.self.view_is
