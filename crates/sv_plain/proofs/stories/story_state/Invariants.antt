use Rattle.std.proofs.Common.{◌≡◌, take}
use Rattle.sv_access.specs.Story.{state_of_story}
use Rattle.sv_rules.specs.Journal.{journal_of}
use Rattle.sv_rules.specs.Story.{story}
use Rattle.sv_plain.proofs.stories.story_state.Given as goal

-- the state of the story so far
abbrev pub invariant-loop-i : goal.invariant-loop-i
invariant-loop-i l = l.state ≡ state_of_story (story (journal_of (take l.i l.entries)) l.coupling)
