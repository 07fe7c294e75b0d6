use Rattle.std.proofs.Common.{◌≡◌, length}
use Rattle.line_trees.specs.Building.{attached}
use Rattle.line_trees.proofs.builder.Builder.attach.Given as goal

-- what is still to be attached gives the same
abbrev pub invariant-loop-alloc : goal.invariant-loop-alloc
invariant-loop-alloc l = attached l.self.label l.value l.self.nodes.items l.self.waiting l.self.lists ≡ attached l.fn.self.label l.operand l.fn.self.nodes.items l.fn.self.waiting l.fn.self.lists

-- what waits
abbrev pub decreases-loop-alloc : goal.decreases-loop-alloc
decreases-loop-alloc l = length l.self.waiting
