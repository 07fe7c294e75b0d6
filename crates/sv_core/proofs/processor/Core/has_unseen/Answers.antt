use Rattle.std.proofs.Common.{◌∙◌, ap, sym}
use Rattle.sv_access.specs.Story.{state_of_story}
use Rattle.sv_access.specs.declared.access.Side.{Side}
use Rattle.sv_access.specs.declared.state.AccessState.{AccessState}
use Rattle.sv_rules.specs.Control.{side_at}
use Rattle.sv_rules.specs.Story.{story}
use Rattle.sv_core.proofs.DueLemmas.{partners_unseen}
use Rattle.sv_core.specs.Due.{is_partners_unseen}
use Rattle.sv_core.proofs.processor.Core.has_unseen.Goals as goal

pub returns : goal.returns
returns c =
    let told = story c.args.self.now.journal c.args.coupling.now in
    c.is_partners_unseen.ensures ∙ ap (λ (s : AccessState). is_partners_unseen s c.side_at.result) c.state.ensures
    ∙ ap (λ (side : Side). is_partners_unseen (state_of_story told) side) c.side_at.ensures
    ∙ sym (partners_unseen told (side_at c.args.coupling.now c.args.offer.now.place))
