-- What each glyph does at the front of a line.
use Rattle.std.specs.Prelude.{◌||◌, ◌==◌, ℕ, Bool, if◌then◌else◌}
use Rattle.apl_arrays.specs.Glyph as named
use Rattle.apl_arrays.specs.Glyph.{is_between, is_blank, is_letter, is_digit}
use Rattle.line_scanner.specs.declared.role.Role.{Role}
use Rattle.line_scanner.specs.declared.role.Role.TheVariants.{Blank, Letter, Digit, Overbar, Quote, Quad, Lamp, Sign, Unused}

-- a quote
abbrev pub is_quote : ℕ → Bool
is_quote glyph = glyph == named.quote

-- the sign of a negative number
abbrev pub is_overbar : ℕ → Bool
is_overbar glyph = glyph == named.overbar

-- a sign of ASCII: ! ( ) * + , - . / : ; < = > [ \ ] | ~
abbrev pub is_ascii_sign : ℕ → Bool
is_ascii_sign glyph =
    glyph == named.exclamation || is_between named.left_parenthesis named.slash glyph || is_between named.colon named.greater glyph
    || is_between named.left_bracket named.right_bracket glyph || glyph == named.bar || glyph == named.tilde

-- a sign of APL: all from ⍴ to ⍎, but for ⎕, ¯, ∆ and ⍝
abbrev pub is_apl_sign : ℕ → Bool
is_apl_sign glyph =
    is_between named.rho named.right_arrow glyph || glyph == named.del || glyph == named.jot || is_between named.decode named.execute glyph

-- the role of a glyph; what is in no table has none
unfoldable pub role_of : ℕ → Role
role_of glyph =
    if is_blank glyph then Blank
    else if is_letter glyph then Letter
    else if is_digit glyph then Digit
    else if is_overbar glyph then Overbar
    else if is_quote glyph then Quote
    else if glyph == named.quad then Quad
    else if glyph == named.lamp then Lamp
    else if is_ascii_sign glyph || is_apl_sign glyph then Sign
    else Unused
