-- What is built, as plain data.
use Rattle.line_trees.specs.declared.builder.Builder.{Builder}
use Rattle.line_trees.specs.Building.{Built}

-- what is built, whatever room is left in its lists
abbrev pub plain_builder : Builder → Built
plain_builder b = record { label = b.label; nodes = b.nodes.items; waiting = b.waiting; lists = b.lists }
