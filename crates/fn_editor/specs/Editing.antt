-- What a line does to an open definition.
use Rattle.std.specs.Prelude.{◌≡◌, ◌+◌, ◌&&◌, ◌||◌, ℕ, Bool, true, false, List, [], Option, Some, None, is_some, length, nat_le, nat_lt, if◌then◌else◌}
use Rattle.std.specs.Option.{option_map}
use Rattle.apl_arrays.specs.Glyph.{left_bracket}
use Rattle.apl_arrays.specs.Limits.{most_line_glyphs}
use Rattle.apl_arrays.specs.Name.{same_name}
use Rattle.apl_arrays.specs.declared.report.Fail.{Fail}
use Rattle.apl_arrays.specs.declared.report.Fail.TheVariants.{Report, WantOfMemory}
use Rattle.apl_arrays.specs.declared.report.Report.TheVariants.{Defn}
use Rattle.apl_workspace.specs.Blanks.{without_blanks}
use Rattle.apl_workspace.specs.Header.{PlainHeader, header_of}
use Rattle.apl_workspace.specs.Limits.{most_function_lines}
use Rattle.fn_editor.specs.Bracket.{bracket_in}
use Rattle.fn_editor.specs.Closing.{behind_glyph, body, closes_definition, is_blank_text}
use Rattle.fn_editor.specs.Editor.{PlainEditor, has_line, last_number, shown_definition, with_line_at, without_line}
use Rattle.fn_editor.specs.Number.{most_whole, next, whole_part}
use Rattle.fn_editor.specs.declared.bracket.Bracket.{Bracket}
use Rattle.fn_editor.specs.declared.bracket.Bracket.TheVariants.{Show, Delete, Header, At}

-- what a line leaves of a definition, and what is shown
pub record Edited : Type 0 where
  pub editor : PlainEditor
  pub shown : List (List ℕ)

-- the definition with its number moved
abbrev pub with_current_number : PlainEditor → ℕ → PlainEditor
with_current_number editor number = record editor { number = number }

-- text may become the line at the number: it has at most 1,000 glyphs, the number is not over 999, and there are not 200 other lines
abbrev pub may_enter : PlainEditor → List ℕ → Bool
may_enter editor text =
    nat_le (length text) most_line_glyphs && nat_le (whole_part editor.number) most_whole
    && (has_line editor.lines editor.number || nat_lt (length editor.lines) most_function_lines)

-- text is put in at the number, over a line that stands there, and the next number is current
abbrev pub entered : PlainEditor → List ℕ → PlainEditor
entered editor text = record editor { lines = with_line_at editor.lines editor.number text; number = next editor.number }

-- the definition with text entered at its number; blank text changes nothing
abbrev pub with_text : PlainEditor → List ℕ → Option PlainEditor
with_text editor text = if is_blank_text text then Some editor else if may_enter editor text then Some (entered editor text) else None

-- the definition without the line at a number, to which it moves
abbrev pub deleted : PlainEditor → ℕ → PlainEditor
deleted editor number = record editor { lines = without_line editor.lines number; number = number }

-- the definition with another header, where there is one of the same name and its text has at most 1,000 glyphs
abbrev pub with_header : PlainEditor → List ℕ → Option PlainHeader → Option PlainEditor
with_header editor text None = None
with_header editor text (Some header) =
    if nat_le (length text) most_line_glyphs && same_name editor.header.name header.name then Some (record editor { text = text; header = header }) else None

-- a line may be asked for at most one past the whole part of the last line's number
abbrev pub is_in_reach : PlainEditor → ℕ → Bool
is_in_reach editor number = nat_le (whole_part number) (whole_part (last_number 0 editor.lines) + 1)

-- nothing is shown
abbrev pub quietly : PlainEditor → Edited
quietly editor = record { editor = editor; shown = [] }

-- what a bracket does, with the text behind it: none is DEFN ERROR
abbrev pub bracket_done : PlainEditor → Bracket → List ℕ → Option Edited
bracket_done editor Show text = if is_blank_text text then Some (record { editor = editor; shown = shown_definition editor }) else None
bracket_done editor (Delete number) text = if is_blank_text text && has_line editor.lines number then Some (quietly (deleted editor number)) else None
bracket_done editor Header text = option_map quietly (with_header editor text (header_of text))
bracket_done editor (At number) text = if is_in_reach editor number then option_map quietly (with_text (with_current_number editor number) text) else None

-- what a bracket does, where it is one
abbrev pub by_bracket : PlainEditor → Option (Bracket × List ℕ) → Option Edited
by_bracket editor None = None
by_bracket editor (Some found) = bracket_done editor found.0 found.1

-- what a line does that begins with a bracket, or does not
abbrev pub edited_by : PlainEditor → List ℕ → Option (List ℕ) → Option Edited
edited_by editor line None = option_map quietly (with_text editor line)
edited_by editor line (Some rest) = by_bracket editor (bracket_in rest)

-- what a line without a closing ∇ does: a bracket at its start does what it asks, and any other line is text
abbrev pub edited : PlainEditor → List ℕ → Option Edited
edited editor line = edited_by editor line (behind_glyph left_bracket (without_blanks line))

-- and then the definition is closed, or stays open
abbrev pub then_closed : Bool → Edited → Edited
then_closed closed result = record result { editor = record result.editor { closed = closed } }

-- what a line does: none is DEFN ERROR, which changes nothing
abbrev pub fed : PlainEditor → List ℕ → Option Edited
fed editor line = option_map (then_closed (closes_definition line)) (edited editor (body line))

-- a bracket behind which a header is read
abbrev pub is_header_bracket : Bracket → Bool
is_header_bracket Show = false
is_header_bracket (Delete number) = false
is_header_bracket Header = true
is_header_bracket (At number) = false

-- a header is read behind a bracket, where it is one
abbrev pub bracket_reads : Option (Bracket × List ℕ) → Bool
bracket_reads None = false
bracket_reads (Some found) = is_header_bracket found.0

-- a header is read of a line that begins with a bracket, or does not
abbrev pub line_reads : Option (List ℕ) → Bool
line_reads None = false
line_reads (Some rest) = bracket_reads (bracket_in rest)

-- a header is read of a line without a closing ∇: memory is taken before it is known whether the rules give something
abbrev pub reads_header : List ℕ → Bool
reads_header line = line_reads (behind_glyph left_bracket (without_blanks line))

-- why nothing was done: DEFN ERROR, where the rules give nothing; or memory ran out where they give something, or where memory is taken before that is known
abbrev pub IsRefusal : {A : Type 0} → Bool → Option A → Fail → Type 0
IsRefusal early result (Report report) = (report ≡ Defn) × (result ≡ None)
IsRefusal early result WantOfMemory = (early || is_some result) ≡ true
