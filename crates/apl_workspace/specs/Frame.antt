-- Frames of functions under way.
use Rattle.std.specs.Prelude.{◌≡◌, ◌+◌, ◌++◌, ℕ, List, [], ◌∷◌, Option, Some, None, fold, is_some, if◌then◌else◌}
use Rattle.std.specs.List.{list_any}
use Rattle.std.specs.Option.{option_to_list}
use Rattle.apl_arrays.specs.Array.{PlainArray}
use Rattle.apl_workspace.specs.Function.{PlainFunction}
use Rattle.apl_workspace.specs.Header.{PlainHeader}
use Rattle.apl_workspace.specs.Label.{label_of, line_among}
use Rattle.apl_workspace.specs.Meaning.{NameTable, meaning_of, meaning_weight, with_meaning}
use Rattle.apl_arrays.specs.Name.{same_name}
use Rattle.apl_workspace.specs.declared.args.Args.{Args}
use Rattle.apl_workspace.specs.declared.label.LabelledLine.{LabelledLine}
use Rattle.apl_workspace.specs.declared.meaning.Meaning.{Meaning}
use Rattle.apl_workspace.specs.declared.meaning.Meaning.TheVariants.{Nothing, Label}

-- the names with an argument, where the header has it
abbrev pub with_argument : NameTable → Option (List ℕ) → Option PlainArray → NameTable
with_argument names None value = names
with_argument names (Some name) value = with_meaning names name (meaning_of value)

-- the names with a local one, which has no value yet
abbrev pub with_local_name : NameTable → List ℕ → NameTable
with_local_name names name = with_meaning names name Nothing

-- the names of a header but the function's own: both arguments with their values, the result and the local ones without
abbrev pub header_names : PlainHeader → Args → NameTable
header_names header args = fold with_local_name (with_argument (with_argument [] header.left args.left) header.right args.right) (option_to_list header.result ++ header.locals)

-- what an argument of this name stands for, or another name
abbrev pub argument_or : Option (List ℕ) → Option PlainArray → List ℕ → Option Meaning → Option Meaning
argument_or None value name other = other
argument_or (Some argument) value name other = if same_name argument name then Some (meaning_of value) else other

-- what a name of a header stands for as its function begins: the result and the local names for nothing yet, the arguments for their values
abbrev pub header_meaning : PlainHeader → Args → List ℕ → Option Meaning
header_meaning header args name =
    if list_any (same_name name) (option_to_list header.result ++ header.locals) then Some Nothing
    else argument_or header.right args.right name (argument_or header.left args.left name None)

-- the names with a label that stands for a line, where that line has one
abbrev pub with_label_of_line : Option (List ℕ) → ℕ → NameTable → NameTable
with_label_of_line None line names = names
with_label_of_line (Some label) line names = with_meaning names label (Label line)

-- the names with the labels of these lines, of which the first has this number; of equal labels the first counts
abbrev pub with_labels : ℕ → List (List ℕ) → NameTable → NameTable
with_labels number [] names = names
with_labels number (line ∷ lines) names = with_label_of_line (label_of line) number (with_labels (number + 1) lines names)

-- the names with a label that stands for its line
abbrev pub with_labelled_line : NameTable → LabelledLine → NameTable
with_labelled_line names labelled = with_meaning names labelled.label (Label labelled.line)

-- the frame of a function: the names of its header, and its labels, which hide those
abbrev pub frame_of : PlainFunction → Args → NameTable
frame_of function args = with_labels 1 function.lines (header_names function.header args)

-- what an argument weighs in a frame with these labels: nothing where one of them hides it
abbrev pub argument_weight : List LabelledLine → Option (List ℕ) → Option PlainArray → ℕ
argument_weight labels None value = 0
argument_weight labels (Some name) value = if is_some (line_among labels name) then 0 else meaning_weight (meaning_of value)

-- the arguments are those that the header asks for
pub record AreArgumentsOf (header : PlainHeader) (args : Args) : Type 0 where
  pub left : is_some args.left ≡ is_some header.left
  pub right : is_some args.right ≡ is_some header.right
