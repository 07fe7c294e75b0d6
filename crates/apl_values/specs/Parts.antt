-- Parts of an expression as the nodes that they are, and lines that were read.
use Rattle.std.specs.Prelude.{◌≡◌, ℕ, Bool, true, false, List, Some, None, Ok, Err, IsOk, All, map, length}
use Rattle.apl_arrays.specs.Array.{PlainArray}
use Rattle.apl_arrays.specs.declared.report.Fail.{Fail}
use Rattle.apl_arrays.specs.declared.report.Fail.TheVariants as fail
use Rattle.apl_arrays.specs.declared.report.Report.TheVariants.{Character, Syntax, WsFull}
use Rattle.apl_items.specs.Answers.{first_report, shape_faults}
use Rattle.line_trees.specs.Nodes as node
use Rattle.line_trees.specs.Nodes.{PlainNode, plain_node}
use Rattle.line_scanner.specs.Scanning.{Scanned, reading_of}
use Rattle.line_scanner.specs.declared.refused.ScanRefused.{ScanRefused}
use Rattle.line_scanner.specs.declared.refused.ScanRefused.TheVariants as scan_refused
use Rattle.line_trees.specs.declared.refused.ParseRefused.{ParseRefused}
use Rattle.line_trees.specs.declared.refused.ParseRefused.TheVariants as parse_refused
use Rattle.line_trees.specs.Parsing.{Parsed, PlainTree, parsed}
use Rattle.line_trees.specs.Trees.{Statement, nothing, branch, whole, execute, as_nodes, line_tree_of}
use Rattle.apl_workspace.specs.Workspace.{PlainWorkspace}
use Rattle.apl_meaning.specs.Expressions.{constant_array}
use Rattle.apl_meaning.specs.Reading.{Read, read_with, report_of_fault, classes_of}
use Rattle.apl_meaning.specs.Statements.{is_silent}
use Rattle.line_scanner.specs.Token.{PlainToken}
use Rattle.apl_values.specs.declared.part.Part.{Part}
use Rattle.apl_values.specs.declared.part.Part.TheVariants as part
use Rattle.apl_values.specs.declared.reading.LineReading.{LineReading}

-- the node that a part is
abbrev pub plain_part : Part → PlainNode
plain_part (part.Constant array) = node.constant array.items
plain_part (part.Other other) = plain_node other

-- the nodes that parts are
abbrev pub plain_parts : List Part → List PlainNode
plain_parts parts = map plain_part parts

-- the array of a constant that is not too large
pub record IsConstant (array : PlainArray) : Type 0 where
  pub whole : constant_array array.items ≡ array
  pub fits : first_report (shape_faults array.shape) ≡ None

-- a node that is kept as it is: a constant is so where its array would be too large
abbrev pub IsKeptNode : PlainNode → Type 0
IsKeptNode (node.constant items) = first_report (shape_faults (constant_array items).shape) ≡ Some WsFull
IsKeptNode (node.value name) = Unit {0}
IsKeptNode (node.niladic name) = Unit {0}
IsKeptNode (node.paren k) = Unit {0}
IsKeptNode (node.indexed v places) = Unit {0}
IsKeptNode (node.apply f left right axis) = Unit {0}
IsKeptNode (node.assign name right) = Unit {0}
IsKeptNode (node.assign_at name places right) = Unit {0}

-- each constant is the array that it makes, where it is not too large
abbrev pub IsPart : Part → Type 0
IsPart (part.Constant array) = IsConstant array
IsPart (part.Other other) = IsKeptNode (plain_node other)

-- the tree of a line that was read
abbrev pub reading_tree : LineReading → PlainTree
reading_tree reading = record { label = reading.label; form = reading.form; nodes = plain_parts reading.parts.items }

-- the nodes of a tree are those of the line for which they stand, each once and in the order of evaluation
abbrev pub IsTree : PlainTree → Type 0
IsTree tree = as_nodes (line_tree_of tree) ≡ tree

-- what holds of every line that was read
pub record IsLineReading (reading : LineReading) : Type 0 where
  pub parts : All IsPart reading.parts.items
  pub tree : IsTree (reading_tree reading)

-- this text was read so, with the classes of this workspace
pub record IsReadFrom (w : PlainWorkspace) (text : List ℕ) (line : LineReading) : Type 0 where
  pub reading : IsLineReading line
  pub tree : read_with w text ≡ Ok (line_tree_of (reading_tree line))

-- why a text was not read: by this report, or memory ran out
abbrev pub IsNotRead : Read → Fail → Type 0
IsNotRead read (fail.Report report) = read ≡ Err report
IsNotRead read fail.WantOfMemory = Unit {0}

-- why a text was not scanned: by the report of its first error, or memory ran out where it has none
abbrev pub IsNotScanned : Scanned → Fail → Type 0
IsNotScanned (Ok tokens) (fail.Report report) = ⊥
IsNotScanned (Err fault) (fail.Report report) = report ≡ report_of_fault fault
IsNotScanned scanned fail.WantOfMemory = IsOk scanned

-- why tokens are no tree: SYNTAX ERROR, or memory ran out
abbrev pub IsNotParsed : Parsed → Fail → Type 0
IsNotParsed (Ok tree) (fail.Report report) = ⊥
IsNotParsed (Err at) (fail.Report report) = report ≡ Syntax
IsNotParsed parsed fail.WantOfMemory = Unit {0}

-- the answer of a call for which a text was not scanned
abbrev pub scan_failure : ScanRefused → Fail
scan_failure (scan_refused.CharacterError at) = fail.Report Character
scan_failure (scan_refused.SyntaxError at) = fail.Report Syntax
scan_failure scan_refused.WantOfMemory = fail.WantOfMemory

-- the answer of a call for which tokens are no tree
abbrev pub parse_failure : ParseRefused → Fail
parse_failure (parse_refused.SyntaxError at) = fail.Report Syntax
parse_failure parse_refused.WantOfMemory = fail.WantOfMemory

-- a statement has an expression that begins with a target and an arrow
abbrev pub begins_silent : Statement → Bool
begins_silent nothing = false
begins_silent (branch e) = is_silent e
begins_silent (whole e) = is_silent e
begins_silent (execute e) = is_silent e

-- the statement of a line that was read
abbrev pub reading_statement : LineReading → Statement
reading_statement reading = (line_tree_of (reading_tree reading)).statement

-- a node is a pair of parentheses
abbrev pub is_paren : PlainNode → Bool
is_paren (node.constant items) = false
is_paren (node.value name) = false
is_paren (node.niladic name) = false
is_paren (node.paren k) = true
is_paren (node.indexed v places) = false
is_paren (node.apply f left right axis) = false
is_paren (node.assign name right) = false
is_paren (node.assign_at name places right) = false

-- a node is an assignment
abbrev pub is_assignment_node : PlainNode → Bool
is_assignment_node (node.constant items) = false
is_assignment_node (node.value name) = false
is_assignment_node (node.niladic name) = false
is_assignment_node (node.paren k) = false
is_assignment_node (node.indexed v places) = false
is_assignment_node (node.apply f left right axis) = false
is_assignment_node (node.assign name right) = true
is_assignment_node (node.assign_at name places right) = true

-- this is the tree of a text, with the classes of a workspace
pub record IsTreeOf (w : PlainWorkspace) (text : List ℕ) (tree : PlainTree) : Type 0 where
  pub tokens : List PlainToken
  pub scanned : reading_of text ≡ Ok tokens
  pub nodes : parsed (classes_of w) tokens (length text) ≡ Ok tree
