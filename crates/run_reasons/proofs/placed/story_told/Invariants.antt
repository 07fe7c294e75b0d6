use Rattle.std.proofs.Common.{◌≡◌, take}
use Rattle.sv_rules.specs.Journal.{journal_of}
use Rattle.run_reasons.specs.Placed.{placed_story}
use Rattle.run_reasons.specs.StoryFacts.{told}
use Rattle.run_reasons.proofs.placed.story_told.Given as goal

-- what is kept of the story so far
abbrev pub invariant-loop-i : goal.invariant-loop-i
invariant-loop-i l = l.story ≡ told (placed_story (journal_of (take l.i l.entries)) l.coupling)
