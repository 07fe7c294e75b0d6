-- The classes of names, and the tree of a text with the classes of the moment.
use Rattle.std.specs.Prelude.{ℕ, List, Option, Some, None, Result, Ok, Err, is_some, length, if◌then◌else◌}
use Rattle.std.specs.List.{filter_map}
use Rattle.apl_arrays.specs.declared.report.Report.{Report}
use Rattle.apl_arrays.specs.declared.report.Report.TheVariants.{Character, Syntax}
use Rattle.apl_workspace.specs.Header.{PlainHeader}
use Rattle.apl_workspace.specs.Listing.{all_names}
use Rattle.apl_workspace.specs.Workspace.{PlainWorkspace, look}
use Rattle.apl_workspace.specs.declared.meaning.Meaning.{Meaning}
use Rattle.apl_workspace.specs.declared.meaning.Meaning.TheVariants as meaning
use Rattle.line_scanner.specs.Scanning.{Fault, character_at, syntax_at, Scanned, reading_of}
use Rattle.line_trees.specs.declared.class.Class.{Class}
use Rattle.line_trees.specs.Parsing.{Parsed, parsed}
use Rattle.line_trees.specs.Trees.{LineTree, line_tree_of}

-- how many arguments a function of this header takes
abbrev pub argument_count : PlainHeader → ℕ
argument_count header = if is_some header.left then 2 else if is_some header.right then 1 else 0

-- the class of a name that stands for this, where it is a function
abbrev pub class_by : List ℕ → Meaning → Option Class
class_by name meaning.Nothing = None
class_by name (meaning.Value value) = None
class_by name (meaning.Function function) = Some (record { name = name; arguments = argument_count function.header })
class_by name (meaning.Label line) = None
class_by name (meaning.Shared copy) = None

-- the classes of those of these names that are functions where they are seen innermost
abbrev pub classes_among : PlainWorkspace → List (List ℕ) → List Class
classes_among w names = filter_map (λ name. class_by name (look w name)) names

-- the classes of a workspace; only global names are functions
abbrev pub classes_of : PlainWorkspace → List Class
classes_of w = classes_among w (all_names w)

-- the tree of a text, or the report in its place
abbrev pub Read : Type 0
Read = Result LineTree Report

-- the tree that was parsed; else it is SYNTAX ERROR
abbrev pub read_parsed : Parsed → Read
read_parsed (Ok tree) = Ok (line_tree_of tree)
read_parsed (Err at) = Err Syntax

-- the report of the first error of a line
abbrev pub report_of_fault : Fault → Report
report_of_fault (character_at at) = Character
report_of_fault (syntax_at at) = Syntax

-- the tree of a text of this length, whose tokens are scanned
abbrev pub read_scanned : List Class → ℕ → Scanned → Read
read_scanned classes length (Ok tokens) = read_parsed (parsed classes tokens length)
read_scanned classes length (Err fault) = Err (report_of_fault fault)

-- the tree of a text, with the classes of this moment
abbrev pub read_with : PlainWorkspace → List ℕ → Read
read_with w text = read_scanned (classes_of w) (length text) (reading_of text)
