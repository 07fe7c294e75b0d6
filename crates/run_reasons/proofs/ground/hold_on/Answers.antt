use Rattle.std.proofs.Common.{sym, ap, ◌∙◌}
use Rattle.sv_access.specs.declared.access.Side.{Side}
use Rattle.sv_access.specs.declared.control.Control.{Control}
use Rattle.sv_rules.specs.Control.{Sharing}
use Rattle.sv_rules.specs.Refused.{hold_under}
use Rattle.run_reasons.specs.Ground.{control_in}
use Rattle.run_reasons.specs.Placed.{unplaced}
use Rattle.run_reasons.specs.declared.ground.GroundFacts.{GroundFacts}
use Rattle.run_reasons.proofs.UnplacedLemmas.{state-unplaced}
use Rattle.run_reasons.proofs.ground.hold_on.Goals as goal

pub returns : goal.returns
returns c = λ basis is.
    let told = unplaced basis.story in
    c.hold_by_state.ensures told (state-unplaced basis.story ∙ sym (ap (λ (f : GroundFacts). f.told.state) is))
    ∙ ap (λ (a : Control). let s : Sharing = record { story = told; a = a; b = c.control_in-of_b.result; side = c.args.facts.now.side } in hold_under s c.args.kind)
    (c.control_in-of_a.ensures ∙ ap (λ (f : GroundFacts). control_in f.a) is)
    ∙ ap (λ (b : Control). let s : Sharing = record { story = told; a = control_in basis.a; b = b; side = c.args.facts.now.side } in hold_under s c.args.kind)
    (c.control_in-of_b.ensures ∙ ap (λ (f : GroundFacts). control_in f.b) is)
    ∙ ap (λ (side : Side). let s : Sharing = record { story = told; a = control_in basis.a; b = control_in basis.b; side = side } in hold_under s c.args.kind)
    (ap (λ (f : GroundFacts). f.side) is)
