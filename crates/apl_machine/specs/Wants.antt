-- What holds where memory ran out for a part of a statement.
use Rattle.std.specs.Prelude.{Bool, true, false, Result, Ok, Err}
use Rattle.apl_arrays.specs.declared.report.Fail.{Fail}
use Rattle.apl_arrays.specs.declared.report.Fail.TheVariants as fail
use Rattle.line_trees.specs.Nodes as node
use Rattle.line_trees.specs.Nodes.{PlainNode}
use Rattle.apl_meaning.specs.State.{gives}
use Rattle.apl_meaning.specs.Tasks.{Run, goes_on}

-- lines that tell nothing: a function is left as soon as it was entered
abbrev pub no_lines : Run
no_lines task s = gives goes_on s

-- of a part of a statement it is said that memory runs out only where it has no report: of items that are replaced this is not said
abbrev pub looks_first : PlainNode → Bool
looks_first (node.constant items) = true
looks_first (node.value name) = true
looks_first (node.niladic name) = true
looks_first (node.paren k) = true
looks_first (node.indexed v places) = true
looks_first (node.apply f left right axis) = true
looks_first (node.assign name right) = true
looks_first (node.assign_at name places right) = false

-- a fact holds unless a report is told
abbrev pub UnlessReport : {T : Type 0} → Result T Fail → Type 0 → Type 0
UnlessReport (Ok value) fact = fact
UnlessReport (Err (fail.Report report)) fact = Unit {0}
UnlessReport (Err fail.WantOfMemory) fact = fact
