use Rattle.std.proofs.Common.{◌≡◌, take}
use Rattle.std.specs.Option.{option_copied}
use Rattle.sv_access.specs.Story.{last_value}
use Rattle.sv_rules.specs.Journal.{journal_of}
use Rattle.sv_rules.specs.Story.{story}
use Rattle.sv_plain.proofs.stories.story_value.Given as goal

-- the last value set so far
abbrev pub invariant-loop-i : goal.invariant-loop-i
invariant-loop-i l = option_copied l.value ≡ last_value (story (journal_of (take l.i l.entries)) l.coupling)
