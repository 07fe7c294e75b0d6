use Rattle.std.proofs.Common.{◌≡◌, ◌≤◌, drop, length, map}
use Rattle.line_scanner.specs.Token.{plain_token}
use Rattle.line_trees.specs.Building.{built_from}
use Rattle.line_trees.specs.Builders.{plain_builder}
use Rattle.line_trees.proofs.parsing.built_from.Given as goal

-- what the marks from a place on build
abbrev pub invariant-loop-at : goal.invariant-loop-at
invariant-loop-at l = (l.at ≤ length l.tokens) × (plain_builder l.builder ≡ built_from l.classes.items (drop l.at l.marks) (map plain_token (drop l.at l.tokens)))

-- the tokens that are left
abbrev pub decreases-loop-at : goal.decreases-loop-at
decreases-loop-at l = l.at
