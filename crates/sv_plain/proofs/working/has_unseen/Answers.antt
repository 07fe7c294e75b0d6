use Rattle.std.proofs.Common.{ap, sym, ◌∙◌}
use Rattle.sv_access.specs.Access.{other_side}
use Rattle.sv_access.specs.Story.{state_of_story}
use Rattle.sv_access.specs.declared.access.Side.{Side}
use Rattle.sv_access.specs.declared.state.AccessState.{AccessState}
use Rattle.sv_plain.specs.Told.{is_unseen_by}
use Rattle.sv_rules.specs.Control.{side_at}
use Rattle.sv_rules.specs.Journal.{journal_of}
use Rattle.sv_rules.specs.Story.{story}
use Rattle.sv_plain.proofs.ToldLemmas.{unseen_by_state}
use Rattle.sv_plain.proofs.working.has_unseen.Goals as goal

pub returns : goal.returns
returns c =
    let told = story (journal_of c.args.entries.now) c.args.coupling.now in
    c.is_partners_unseen.ensures ∙ ap (λ (s : AccessState). is_unseen_by s (other_side c.side_at-side.result)) c.in_ok-state.ensures
    ∙ ap (λ (side : Side). is_unseen_by (state_of_story told) (other_side side)) c.side_at-side.ensures
    ∙ sym (unseen_by_state told (other_side (side_at c.args.coupling.now c.args.offer.now.place)))
