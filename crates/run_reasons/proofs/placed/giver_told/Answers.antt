use Rattle.std.proofs.Common.{ap, ◌∙◌, Option}
use Rattle.apl_arrays.specs.Array.{PlainArray}
use Rattle.sv_rules.specs.Journal.{journal_of}
use Rattle.run_reasons.specs.Placed.{placed_giver}
use Rattle.run_reasons.specs.StoryFacts.{told}
use Rattle.run_reasons.proofs.placed.giver_told.Goals as goal

pub returns-in_ok-of_b-in-None : goal.returns-in_ok-of_b-in-None
returns-in_ok-of_b-in-None c =
    c.in_ok-of_b-in-None.ensures ∙ ap (λ (k : Option PlainArray). told (placed_giver (journal_of c.args.entries.now) c.args.coupling.now k)) c.in-None.ensures

pub returns-in_ok-of_a-in-Some : goal.returns-in_ok-of_a-in-Some
returns-in_ok-of_a-in-Some c =
    c.in_ok-of_a-in-Some.ensures ∙ ap (λ (k : Option PlainArray). told (placed_giver (journal_of c.args.entries.now) c.args.coupling.now k)) c.in-Some.ensures
