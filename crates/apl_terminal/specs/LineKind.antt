-- What a line is that is read while no definition is open, by its first glyph other than a blank.
use Rattle.std.specs.Prelude.{ℕ, Bool, List, is_some}
use Rattle.apl_arrays.specs.Glyph.{del, right_parenthesis}
use Rattle.apl_workspace.specs.Blanks.{without_blanks}
use Rattle.fn_editor.specs.Closing.{behind_glyph}

-- the first glyph of a line other than a blank is this one
abbrev pub begins_behind_blanks : ℕ → List ℕ → Bool
begins_behind_blanks glyph line = is_some (behind_glyph glyph (without_blanks line))

-- the line opens a definition
abbrev pub is_opening : List ℕ → Bool
is_opening line = begins_behind_blanks del line

-- the line is a command
abbrev pub is_command : List ℕ → Bool
is_command line = begins_behind_blanks right_parenthesis line
