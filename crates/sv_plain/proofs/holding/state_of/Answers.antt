use Rattle.std.proofs.Common.{ap, sym, ◌∙◌, Option}
use Rattle.sv_access.specs.State.{vector_of_state}
use Rattle.sv_access.specs.Story.{state_of_story}
use Rattle.sv_access.specs.declared.access.Side.{Side}
use Rattle.sv_access.specs.declared.state.AccessState.{AccessState}
use Rattle.sv_access.proofs.StoryLemmas.{vector_by_state}
use Rattle.sv_rules.specs.Control.{side_at, state_vector_of}
use Rattle.sv_rules.specs.declared.coupling.Coupling.{Coupling}
use Rattle.sv_rules.specs.Journal.{journal_of}
use Rattle.sv_rules.specs.Story.{story}
use Rattle.sv_plain.proofs.holding.state_of.Goals as goal

pub returns-in_ok-state-in-Some : goal.returns-in_ok-state-in-Some
returns-in_ok-state-in-Some c =
    let told = story (journal_of c.args.entries.now) c.in-Some.coupling in
    c.view.ensures ∙ ap (λ (s : AccessState). vector_of_state s c.side_at-side.result) c.in_ok-state-in-Some.ensures
    ∙ ap (λ (side : Side). vector_of_state (state_of_story told) side) c.side_at-side.ensures
    ∙ vector_by_state told (side_at c.in-Some.coupling c.args.place)
    ∙ ap (λ (k : Option Coupling). state_vector_of (journal_of c.args.entries.now) c.args.place k) (sym c.in-Some.is)
