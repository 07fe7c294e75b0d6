use Rattle.std.proofs.Common.{ap, ◌∙◌, Option}
use Rattle.apl_arrays.specs.Array.{PlainArray}
use Rattle.sv_access.specs.Story.{state_of_story}
use Rattle.sv_rules.specs.Journal.{journal_of}
use Rattle.sv_rules.specs.Story.{giver_story}
use Rattle.sv_plain.proofs.stories.giver_state.Goals as goal

pub returns-in_ok-of_b-in-None : goal.returns-in_ok-of_b-in-None
returns-in_ok-of_b-in-None c =
    c.in_ok-of_b-in-None.ensures ∙ ap (λ (k : Option PlainArray). state_of_story (giver_story (journal_of c.args.entries.now) c.args.coupling.now k)) c.in-None.ensures

pub returns-in_ok-of_a-in-Some : goal.returns-in_ok-of_a-in-Some
returns-in_ok-of_a-in-Some c =
    c.in_ok-of_a-in-Some.ensures ∙ ap (λ (k : Option PlainArray). state_of_story (giver_story (journal_of c.args.entries.now) c.args.coupling.now k)) c.in-Some.ensures
