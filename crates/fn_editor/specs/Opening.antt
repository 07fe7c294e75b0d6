-- How a definition is opened.
use Rattle.std.specs.Prelude.{◌&&◌, ℕ, Bool, true, false, not, List, [], Option, Some, None, length, drop, is_some, nat_le, if◌then◌else◌}
use Rattle.std.specs.Option.{option_map}
use Rattle.apl_arrays.specs.Glyph.{del, left_bracket}
use Rattle.apl_arrays.specs.Limits.{most_line_glyphs}
use Rattle.apl_arrays.specs.Name.{longest_name}
use Rattle.apl_workspace.specs.Blanks.{without_blanks}
use Rattle.apl_workspace.specs.Header.{PlainHeader, header_of}
use Rattle.apl_workspace.specs.Workspace.{PlainWorkspace, global_in}
use Rattle.apl_workspace.specs.declared.meaning.Meaning.{Meaning}
use Rattle.apl_workspace.specs.declared.meaning.Meaning.TheVariants.{Nothing, Value, Function, Label, Shared}
use Rattle.fn_editor.specs.Bracket.{bracket_in}
use Rattle.fn_editor.specs.Closing.{behind_glyph, body, closes_definition}
use Rattle.fn_editor.specs.Editing.{Edited, bracket_reads, by_bracket, quietly, then_closed}
use Rattle.fn_editor.specs.Editor.{PlainEditor, editor_of}
use Rattle.fn_editor.specs.Number.{line_number}

-- a new definition: no lines, and the number is 1
abbrev pub new_editor : List ℕ → PlainHeader → PlainEditor
new_editor text header = record { text = text; header = header; lines = []; number = line_number 1 0; closed = false }

-- a header that is a name and nothing else
abbrev pub is_bare : PlainHeader → Bool
is_bare header = not (is_some header.left) && not (is_some header.right) && not (is_some header.result) && nat_le (length header.locals) 0

-- a header opens a new definition where its name stands for nothing and its text has at most 1,000 glyphs; the bare name of a function opens that function
abbrev pub opened_as : List ℕ → PlainHeader → Meaning → Option Edited
opened_as text header Nothing = if nat_le (length text) most_line_glyphs then Some (quietly (new_editor text header)) else None
opened_as text header (Function function) = if is_bare header then Some (quietly (editor_of function)) else None
opened_as text header (Value value) = None
opened_as text header (Label line) = None
opened_as text header (Shared copy) = None

-- what a header opens, where the text is one
abbrev pub opened_by_header : PlainWorkspace → List ℕ → Option PlainHeader → Option Edited
opened_by_header w text None = None
opened_by_header w text (Some header) = opened_as text header (global_in w header.name)

-- a bracket behind a name is done to the function that the name stands for
abbrev pub opened_at : List ℕ → Meaning → Option Edited
opened_at rest (Function function) = by_bracket (editor_of function) (bracket_in rest)
opened_at rest Nothing = None
opened_at rest (Value value) = None
opened_at rest (Label line) = None
opened_at rest (Shared copy) = None

-- a name, and what follows the bracket behind it
abbrev pub bracket_behind : List ℕ → Option (List ℕ × ℕ) → Option (List ℕ × List ℕ)
bracket_behind text None = None
bracket_behind text (Some found) = option_map (λ rest. (found.0, rest)) (behind_glyph left_bracket (without_blanks (drop found.1 text)))

-- the name at the front, and what follows the bracket behind it, where one stands there
abbrev pub name_with_bracket : List ℕ → Option (List ℕ × List ℕ)
name_with_bracket text = bracket_behind (without_blanks text) (longest_name (without_blanks text))

-- what is opened by a name with a bracket behind it, or by a header
abbrev pub opened_with : PlainWorkspace → List ℕ → Option (List ℕ × List ℕ) → Option Edited
opened_with w text None = opened_by_header w text (header_of text)
opened_with w text (Some found) = opened_at found.1 (global_in w found.0)

-- what stands behind the ∇ that opens, without a ∇ that closes, opens this
abbrev pub opened_by : PlainWorkspace → List ℕ → Option Edited
opened_by w text = opened_with w text (name_with_bracket text)

-- what a line opens behind its first ∇: none is DEFN ERROR
abbrev pub opened_behind : PlainWorkspace → Option (List ℕ) → Option Edited
opened_behind w None = None
opened_behind w (Some rest) = option_map (then_closed (closes_definition rest)) (opened_by w (body rest))

-- what a line opens: none is DEFN ERROR, and nothing is opened
abbrev pub opened : PlainWorkspace → List ℕ → Option Edited
opened w line = opened_behind w (behind_glyph del (without_blanks line))

-- memory is taken before it is known whether something is opened: a header is read, by itself or behind a bracket
abbrev pub takes_memory_first : Option (List ℕ × List ℕ) → Bool
takes_memory_first None = true
takes_memory_first (Some found) = bracket_reads (bracket_in found.1)

-- the same of what stands behind the ∇ that opens
abbrev pub behind_takes_first : Option (List ℕ) → Bool
behind_takes_first None = false
behind_takes_first (Some rest) = takes_memory_first (name_with_bracket (body rest))

-- the same of a whole line
abbrev pub line_takes_first : List ℕ → Bool
line_takes_first line = behind_takes_first (behind_glyph del (without_blanks line))
