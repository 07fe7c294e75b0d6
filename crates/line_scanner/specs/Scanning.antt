-- The tokens of a line, or its first error, computed.
use Rattle.std.specs.Prelude.{◌≡◌, ◌+◌, ◌-◌, ◌==◌, ℕ, zero, suc, ℤ, Bool, true, false, List, [], ◌∷◌, Option, Some, None, Result, Ok, Err, IsOk, find, if◌then◌else◌}
use Rattle.std.specs.List.{starts_with}
use Rattle.apl_arrays.specs.Name.{longest_name}
use Rattle.apl_arrays.specs.System.{system_names, system_text}
use Rattle.line_scanner.specs.declared.role.Role.{Role}
use Rattle.line_scanner.specs.declared.role.Role.TheVariants.{Blank, Letter, Digit, Overbar, Quote, Quad, Lamp, Sign, Unused}
use Rattle.line_scanner.specs.declared.refused.ScanRefused.{ScanRefused}
use Rattle.line_scanner.specs.declared.refused.ScanRefused.TheVariants.{CharacterError, SyntaxError, WantOfMemory}
use Rattle.apl_arrays.specs.declared.system.SystemName.{SystemName}
use Rattle.line_scanner.specs.Token.{PlainKind, numbers, chars, name, system, sign, PlainToken}
use Rattle.line_scanner.specs.Role.{role_of, is_quote}
use Rattle.line_scanner.specs.Number.{constant, found_after}

-- what stands at the front: the end or a comment, a blank, a token and how many glyphs it takes, or an error
pub data PlainFront : Type 0 where
  nothing : PlainFront
  blank : PlainFront
  token : PlainKind → ℕ → PlainFront
  unused : PlainFront
  malformed : PlainFront

-- the first error of a line, with its place
pub data Fault : Type 0 where
  character_at : ℕ → Fault
  syntax_at : ℕ → Fault

-- a character of one glyph before others
abbrev pub with_char : ℕ → Option (List ℕ × ℕ) → Option (List ℕ × ℕ)
with_char char None = None
with_char char (Some found) = Some (char ∷ found.0, 1 + found.1)

-- the characters from a glyph on. The first argument tells whether a quote stands before that closes unless this glyph is a quote too, the second whether it is one.
abbrev pub chars_by : Bool → Bool → ℕ → (Bool → Option (List ℕ × ℕ)) → Option (List ℕ × ℕ)
chars_by false false glyph beyond = with_char glyph (beyond false)
chars_by false true glyph beyond = found_after 1 (beyond true)
chars_by true true glyph beyond = with_char glyph (beyond false)
chars_by true false glyph beyond = Some ([], 0)

-- the characters up to the closing quote, and how many glyphs these and it take; at first no quote stands before
unfoldable pub chars_from : Bool → List ℕ → Option (List ℕ × ℕ)
chars_from closing [] = if closing then Some ([], 0) else None
chars_from closing (glyph ∷ rest) = chars_by closing (is_quote glyph) glyph (λ next. chars_from next rest)

-- the system name at the front
abbrev pub system_name : List ℕ → Option SystemName
system_name line = find (λ which. starts_with ◌==◌ line (system_text which)) system_names

-- a name, where there is one
abbrev pub name_front : Option (List ℕ × ℕ) → PlainFront
name_front None = malformed
name_front (Some found) = token (name found.0) found.1

-- a constant of numbers, where there is one
abbrev pub constant_front : Option (List ℤ × ℕ) → PlainFront
constant_front None = malformed
constant_front (Some found) = token (numbers found.0) found.1

-- a constant of characters, where it is closed
abbrev pub chars_front : Option (List ℕ × ℕ) → PlainFront
chars_front None = malformed
chars_front (Some found) = token (chars found.0) found.1

-- a system name, where it is one
abbrev pub system_front : Option SystemName → PlainFront
system_front None = malformed
system_front (Some which) = token (system which) 4

-- what stands at the front, by the role of the first glyph
abbrev pub front_by : Role → ℕ → List ℕ → PlainFront
front_by Blank first rest = blank
front_by Letter first rest = name_front (longest_name (first ∷ rest))
front_by Digit first rest = constant_front (constant (first ∷ rest))
front_by Overbar first rest = constant_front (constant (first ∷ rest))
front_by Quote first rest = chars_front (found_after 1 (chars_from false rest))
front_by Quad first rest = system_front (system_name (first ∷ rest))
front_by Lamp first rest = nothing
front_by Sign first rest = token (sign first) 1
front_by Unused first rest = unused

-- what stands at the front
unfoldable pub front_of : List ℕ → PlainFront
front_of [] = nothing
front_of (first ∷ rest) = front_by (role_of first) first rest

-- the tokens of a line, or its first error
abbrev pub Scanned : Type 0
Scanned = Result (List PlainToken) Fault

-- a token before what comes after it
abbrev pub with_token : PlainToken → Scanned → Scanned
with_token first (Ok tokens) = Ok (first ∷ tokens)
with_token first (Err fault) = Err fault

-- what is scanned from a place on, by what stands there, and by what is scanned beyond the first glyph and some that are passed over
abbrev pub scan_front : PlainFront → ℕ → (ℕ → Scanned) → Scanned
scan_front nothing at beyond = Ok []
scan_front blank at beyond = beyond 0
scan_front (token kind taken) at beyond = with_token (record { kind = kind; at = at; after = at + taken }) (beyond (taken - 1))
scan_front unused at beyond = Err (character_at at)
scan_front malformed at beyond = Err (syntax_at at)

-- what is scanned from a place on, where so many glyphs belong to the token before and are passed over
unfoldable pub scan_from : ℕ → ℕ → List ℕ → Scanned
scan_from at passed [] = Ok []
scan_from at (suc passed) (glyph ∷ rest) = scan_from (at + 1) passed rest
scan_from at zero (glyph ∷ rest) = scan_front (front_of (glyph ∷ rest)) at (λ passed. scan_from (at + 1) passed rest)

-- the tokens of a line, or its first error
abbrev pub reading_of : List ℕ → Scanned
reading_of line = scan_from 0 0 line

-- the first error of a line, where it has one, as it is refused
abbrev pub refusal_in : Scanned → Option ScanRefused
refusal_in (Ok tokens) = None
refusal_in (Err (character_at at)) = Some (CharacterError at)
refusal_in (Err (syntax_at at)) = Some (SyntaxError at)

-- why a line was refused is its first error; or memory ran out, and it has none
abbrev pub IsRefusal : ScanRefused → Scanned → Type 0
IsRefusal (CharacterError at) scanned = scanned ≡ Err (character_at at)
IsRefusal (SyntaxError at) scanned = scanned ≡ Err (syntax_at at)
IsRefusal WantOfMemory scanned = IsOk scanned

-- why a line was refused is its first error, unless memory ran out
abbrev pub IsErrorFound : ScanRefused → Scanned → Type 0
IsErrorFound (CharacterError at) scanned = scanned ≡ Err (character_at at)
IsErrorFound (SyntaxError at) scanned = scanned ≡ Err (syntax_at at)
IsErrorFound WantOfMemory scanned = Unit {0}
