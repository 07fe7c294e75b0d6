-- Labels of lines.
use Rattle.std.specs.Prelude.{◌≡◌, ◌+◌, ◌++◌, ◌==◌, ℕ, Bool, true, List, [], ◌∷◌, Option, Some, None, IsTrue, drop, is_some, map, if◌then◌else◌}
use Rattle.std.specs.List.{list_all}
use Rattle.apl_arrays.specs.Glyph.{colon, is_blank}
use Rattle.apl_arrays.specs.Name.{IsName, longest_name, same_name}
use Rattle.apl_arrays.specs.Run.{begins}
use Rattle.apl_workspace.specs.Blanks.{without_blanks}
use Rattle.apl_workspace.specs.Names.{all_differ}
use Rattle.apl_workspace.specs.declared.label.LabelledLine.{LabelledLine}

-- the glyph behind a label
abbrev pub is_colon : ℕ → Bool
is_colon glyph = glyph == colon

-- the label where this name, of so many glyphs, stands at the front
abbrev pub label_in : Option (List ℕ × ℕ) → List ℕ → Option (List ℕ)
label_in None glyphs = None
label_in (Some found) glyphs = if begins is_colon (without_blanks (drop found.1 glyphs)) then Some found.0 else None

-- the label of a line: the name with which it begins behind blanks, where a colon follows it behind blanks
abbrev pub label_of : List ℕ → Option (List ℕ)
label_of line = label_in (longest_name (without_blanks line)) (without_blanks line)

-- a line has this label: blanks, the name, blanks, a colon and anything
pub record HasLabel (line label : List ℕ) : Type 0 where
  pub before : List ℕ
  pub after : List ℕ
  pub rest : List ℕ
  pub whole : line ≡ before ++ (label ++ (after ++ colon ∷ rest))
  pub is_name : IsName label
  pub blank_before : IsTrue (list_all is_blank before)
  pub blank_after : IsTrue (list_all is_blank after)

-- the number of a line where it has this label, else that of a later one
abbrev pub this_or_later : Option (List ℕ) → List ℕ → ℕ → Option ℕ → Option ℕ
this_or_later None name number later = later
this_or_later (Some label) name number later = if same_name label name then Some number else later

-- the number of the first of these lines that has this label, where one has it; the first line has this number
abbrev pub labelled_line : ℕ → List (List ℕ) → List ℕ → Option ℕ
labelled_line number [] name = None
labelled_line number (line ∷ lines) name = this_or_later (label_of line) name number (labelled_line (number + 1) lines name)

-- the line of a label among these, where it is one of them
abbrev pub line_among : List LabelledLine → List ℕ → Option ℕ
line_among [] name = None
line_among (labelled ∷ labels) name = if same_name labelled.label name then Some labelled.line else line_among labels name

-- labels with that of a line more, where the line has one that is not among them
abbrev pub with_label : List LabelledLine → Option (List ℕ) → ℕ → List LabelledLine
with_label labels None number = labels
with_label labels (Some label) number = if is_some (line_among labels label) then labels else labels ++ record { label = label; line = number } ∷ []

-- all labels of these lines, each once, with the first line that has it
pub record AreLabels (lines : List (List ℕ)) (labels : List LabelledLine) : Type 0 where
  pub first : (name : List ℕ) → line_among labels name ≡ labelled_line 1 lines name
  pub differ : all_differ (map (λ labelled. labelled.label) labels) ≡ true
