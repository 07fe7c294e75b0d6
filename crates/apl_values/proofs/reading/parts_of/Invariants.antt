use Rattle.std.proofs.Common.{◌≡◌, ◌≤◌, length, vec_capacity}
use Rattle.std.specs.Prelude.{All, map}
use Rattle.line_trees.specs.Nodes.{plain_node}
use Rattle.apl_values.specs.Parts.{IsPart, plain_parts}
use Rattle.apl_values.proofs.reading.parts_of.Given as goal

abbrev pub invariant-loop-node : goal.invariant-loop-node
invariant-loop-node l = record {
  nodes : plain_parts l.parts.items ≡ map plain_node l.yielded;
  parts : All IsPart l.parts.items;
  room : length l.fn.nodes.items ≤ vec_capacity l.parts;
}
