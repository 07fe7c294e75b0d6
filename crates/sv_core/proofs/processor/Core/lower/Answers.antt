use Rattle.std.proofs.Common.{◌≡◌, ◌∙◌, Some, ap, subst, sym}
use Rattle.std.specs.Option.{option_copied}
use Rattle.sv_access.specs.Story.{state_of_story}
use Rattle.sv_cell_laws.specs.Fits.{FitsCell}
use Rattle.sv_core.specs.Core.{PlainCore}
use Rattle.sv_rules.specs.Control.{vector_of}
use Rattle.sv_rules.specs.Coupling.{coupling_now}
use Rattle.sv_rules.specs.Story.{story}
use Rattle.sv_core.proofs.HoldingLemmas.{a_stands, cell_fits, cell_is, share_is}
use Rattle.sv_core.proofs.processor.Core.lower.Goals as goal
use Rattle.sv_core.proofs.processor.Core.lower.Goals.{After-state_held}

-- the cell that is found is that of the lower offer
fits_inside : (c : After-state_held) → FitsCell c.self.inside.log.journal c.args.coupling.now.a c.in-Some.cell.now
fits_inside c =
    let inside = c.self.inside in
    let now = subst (λ (v : PlainCore). coupling_now v.journal c.args.coupling.now.a.place ≡ Some c.args.coupling.now) (sym c.self.view_is) c.requires in
    let has = a_stands inside.log.users inside.log.journal c.self.invariant.legal c.args.coupling.now.a.place c.args.coupling.now now in
    cell_fits inside.log.journal inside.cells c.self.invariant.fit c.args.coupling.now.a has c.in-Some.cell.now (sym c.get.ensures ∙ ap option_copied c.in-Some.is)

pub unreachable-requires : goal.unreachable-requires
unreachable-requires c =
    let inside = c.self.inside in
    let now = subst (λ (v : PlainCore). coupling_now v.journal c.args.coupling.now.a.place ≡ Some c.args.coupling.now) (sym c.self.view_is) c.requires in
    let has = a_stands inside.log.users inside.log.journal c.self.invariant.legal c.args.coupling.now.a.place c.args.coupling.now now in
    cell_is inside.log.journal inside.cells c.self.invariant.fit c.args.coupling.now.a has (sym c.get.ensures ∙ ap option_copied c.in-None.is)

pub returns-clause-vector : goal.returns-clause-vector
returns-clause-vector c = (fits_inside c).vector ∙ ap (λ (v : PlainCore). vector_of v.journal c.args.coupling.now.a) c.self.view_is

pub returns-clause-state : goal.returns-clause-state
returns-clause-state c =
    let now = subst (λ (v : PlainCore). coupling_now v.journal c.args.coupling.now.a.place ≡ Some c.args.coupling.now) (sym c.self.view_is) c.requires in
    let is = share_is c.self.inside.log.journal c.args.coupling.now c.in-Some.cell.now now (fits_inside c).held in
    c.state_held.ensures is.0 is.1 ∙ is.2.told.state ∙ ap (λ (v : PlainCore). state_of_story (story v.journal c.args.coupling.now)) c.self.view_is
