use Rattle.std.proofs.Common.{ap, sym, ◌∙◌, subst, Option}
use Rattle.std.specs.Prelude.{IfSome}
use Rattle.sv_access.specs.State.{vector_of_state}
use Rattle.sv_access.specs.Story.{state_of_story}
use Rattle.sv_access.specs.declared.access.Side.{Side}
use Rattle.sv_access.specs.declared.state.AccessState.{AccessState}
use Rattle.sv_access.proofs.StoryLemmas.{vector_by_state}
use Rattle.sv_rules.specs.Control.{side_at, state_vector_of}
use Rattle.sv_rules.specs.Story.{story}
use Rattle.sv_rules.specs.declared.coupling.Coupling.{Coupling}
use Rattle.sv_core.specs.Core.{IsFound}
use Rattle.sv_core.proofs.processor.Core.state_vector.Goals as goal

pub state-requires : goal.state-requires
state-requires c = (subst (λ (k : Option Coupling). IfSome k (IsFound c.args.self.now.journal c.args.offer.now.place)) c.in-Some.is c.coupling_on.ensures.found).at_a

pub returns-in-Some : goal.returns-in-Some
returns-in-Some c =
    let journal = c.args.self.now.journal in
    let told = story journal c.in-Some.coupling in
    c.view.ensures ∙ ap (λ (s : AccessState). vector_of_state s c.side_at.result) c.state.ensures
    ∙ ap (λ (side : Side). vector_of_state (state_of_story told) side) c.side_at.ensures
    ∙ vector_by_state told (side_at c.in-Some.coupling c.args.offer.now.place)
    ∙ sym (ap (λ (k : Option Coupling). state_vector_of journal c.args.offer.now.place k) (sym c.coupling_on.ensures.value ∙ c.in-Some.is))
