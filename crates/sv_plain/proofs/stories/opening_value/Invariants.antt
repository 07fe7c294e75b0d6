use Rattle.std.proofs.Common.{◌≡◌, take}
use Rattle.std.specs.Option.{option_copied}
use Rattle.sv_access.specs.Story.{last_value}
use Rattle.sv_access.specs.declared.access.Side.TheVariants.{A}
use Rattle.sv_rules.specs.Journal.{journal_of}
use Rattle.sv_rules.specs.Story.{opening}
use Rattle.sv_plain.proofs.stories.opening_value.Given as goal

-- the last value set so far
abbrev pub invariant-loop-i : goal.invariant-loop-i
invariant-loop-i l = option_copied l.value ≡ last_value (opening A (journal_of (take l.i l.entries)) l.offer)
