use Rattle.std.proofs.Common.{ap, ◌∙◌, Option}
use Rattle.apl_arrays.specs.Array.{PlainArray}
use Rattle.sv_access.specs.Story.{last_value}
use Rattle.sv_rules.specs.Journal.{journal_of}
use Rattle.sv_rules.specs.Story.{giver_story}
use Rattle.sv_plain.proofs.ToldLemmas.{same_value-on_b}
use Rattle.sv_plain.proofs.stories.giver_value.Goals as goal

pub returns-in_ok-of_b-in-None : goal.returns-in_ok-of_b-in-None
returns-in_ok-of_b-in-None c =
    c.in_ok-of_b-in-None.ensures ∙ same_value-on_b (journal_of c.args.entries.now) c.args.coupling.now.b
    ∙ ap (λ (k : Option PlainArray). last_value (giver_story (journal_of c.args.entries.now) c.args.coupling.now k)) c.in-None.ensures

pub returns-in_ok-of_a-in-Some : goal.returns-in_ok-of_a-in-Some
returns-in_ok-of_a-in-Some c =
    c.in_ok-of_a-in-Some.ensures ∙ ap (λ (k : Option PlainArray). last_value (giver_story (journal_of c.args.entries.now) c.args.coupling.now k)) c.in-Some.ensures
