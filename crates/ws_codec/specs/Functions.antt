-- Saved functions: a header and lines.
use Rattle.std.specs.Prelude.{◌+◌, ◌&&◌, [], ℕ, Bool, List, Option, Some, None, Ok, length, nat_le, sum_by, if◌then◌else◌}
use Rattle.apl_arrays.specs.Limits.{most_line_glyphs}
use Rattle.apl_arrays.specs.Name.{same_name}
use Rattle.apl_workspace.specs.Function.{PlainFunction, function_with}
use Rattle.apl_workspace.specs.Header.{PlainHeader, header_of}
use Rattle.apl_workspace.specs.Limits.{most_function_lines, most_weight}
use Rattle.ws_codec.specs.Fields.{read_glyphs, read_number}
use Rattle.ws_codec.specs.Reading.{Reader, ◌>>=◌, read_more, keeps, required, repeated}
use Rattle.ws_codec.specs.declared.saved.SavedRule.TheVariants.{Header, Limit}

-- there are at most so many, and with them the weight does not pass its limit
abbrev pub is_within : ℕ → ℕ → ℕ → Bool
is_within most weight count = nat_le count most && nat_le (weight + count) most_weight

-- a header or a line behind what weighs so much: its length and its codes
unfoldable pub read_line : ℕ → Reader (List ℕ)
read_line weight rest = do
  count ← read_number 2 rest
  few ← keeps (is_within most_line_glyphs weight count.0) Limit (length rest)
  read_glyphs count.0 count.1

-- the header, where it is one of this name
abbrev pub header_named : List ℕ → Option PlainHeader → Option PlainHeader
header_named name None = None
header_named name (Some header) = if same_name header.name name then Some header else None

-- a header as it was entered, and what it is
unfoldable pub read_header : List ℕ → ℕ → Reader (List ℕ × PlainHeader)
read_header name weight rest = do
  text ← read_line weight rest
  header ← required (header_named name (header_of text.0)) Header (length rest)
  Ok ((text.0, header), text.1)

-- how many glyphs lines have
abbrev pub glyph_count : List (List ℕ) → ℕ
glyph_count lines = sum_by (λ line. length line) lines

-- a line behind others, and behind what weighs so much without their glyphs
abbrev pub read_next_line : ℕ → List (List ℕ) → Reader (List (List ℕ))
read_next_line weight lines rest = read_more lines (read_line (weight + glyph_count lines) rest)

-- how many lines, behind what weighs so much, and the lines
unfoldable pub read_lines : ℕ → Reader (List (List ℕ))
read_lines weight rest = do
  count ← read_number 2 rest
  few ← keeps (is_within most_function_lines weight count.0) Limit (length rest)
  repeated (read_next_line (weight + count.0)) count.0 [] count.1

-- a function of this name behind objects of this weight
unfoldable pub read_function : List ℕ → ℕ → Reader PlainFunction
read_function name weight rest = do
  header ← read_header name (weight + 1) rest
  lines ← read_lines (weight + 1 + length header.0.0) header.1
  Ok (function_with header.0.0 lines.0 header.0.1, lines.1)
