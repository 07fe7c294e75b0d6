use Rattle.std.proofs.Common.{◌≡◌, take}
use Rattle.apl_meaning.specs.Queries.{longest}
use Rattle.apl_answers.proofs.lists.longest.Given as goal

-- the longest so far
abbrev pub invariant-loop-name : goal.invariant-loop-name
invariant-loop-name l = l.width ≡ longest (take l.name-index l.names)
