use Rattle.std.proofs.Common.{◌+◌, ◌*◌}
use Rattle.apl_items.specs.Places.{GivesEach}
use Rattle.apl_operators.specs.Parts.{AtParts}
use Rattle.apl_operators.proofs.parts.lacks_by_parts.Given as goal

-- the rule gave an item at each place so far
abbrev pub invariant-loop-outer : goal.invariant-loop-outer
invariant-loop-outer g l = GivesEach (l.outer * l.split.along * l.split.inner) (AtParts (goal.F-post g l.rule) l.split)

abbrev pub invariant-loop-along : goal.invariant-loop-along
invariant-loop-along g l = GivesEach ((l.outer * l.split.along + l.along) * l.split.inner) (AtParts (goal.F-post g l.rule) l.split)

abbrev pub invariant-loop-inner : goal.invariant-loop-inner
invariant-loop-inner g l = GivesEach ((l.outer * l.split.along + l.along) * l.split.inner + l.inner) (AtParts (goal.F-post g l.rule) l.split)
