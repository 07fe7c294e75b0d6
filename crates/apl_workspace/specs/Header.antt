-- Headers of functions as plain data, and how the header of a line is computed.
use Rattle.std.specs.Prelude.{◌++◌, ◌==◌, ℕ, Bool, List, [], ◌∷◌, Option, Some, None, Ok, Err, map, if◌then◌else◌}
use Rattle.std.specs.List.{list_any}
use Rattle.std.specs.Option.{option_to_list, option_map}
use Rattle.apl_arrays.specs.Glyph.{lamp, left_arrow, semicolon}
use Rattle.line_scanner.specs.Token.{PlainKind, numbers, chars, name, system, sign, PlainToken}
use Rattle.line_scanner.specs.Scanning.{Scanned, reading_of}
use Rattle.apl_workspace.specs.declared.symbol.HeaderSymbol.{HeaderSymbol}
use Rattle.apl_workspace.specs.declared.symbol.Syntax.{Syntax}
use Rattle.apl_workspace.specs.declared.symbol.HeaderSymbol.TheVariants.{Word, Arrow, Semicolon, Other}
use Rattle.apl_workspace.specs.Names.{all_differ}

-- a header as plain data: the function's name, its arguments and its result, where it has them, and its local names
pub record PlainHeader : Type 0 where
  pub name : List ℕ
  pub left : Option (List ℕ)
  pub right : Option (List ℕ)
  pub result : Option (List ℕ)
  pub locals : List (List ℕ)

-- all names of a header
abbrev pub names_of : PlainHeader → List (List ℕ)
names_of header = header.name ∷ option_to_list header.left ++ option_to_list header.right ++ option_to_list header.result ++ header.locals

-- what a sign is in a header
abbrev pub header_symbol_of_sign : ℕ → HeaderSymbol
header_symbol_of_sign glyph = if glyph == left_arrow then Arrow else if glyph == semicolon then Semicolon else Other

-- what a token is in a header
abbrev pub header_symbol : PlainKind → HeaderSymbol
header_symbol (numbers list) = Other
header_symbol (chars list) = Other
header_symbol (name glyphs) = Word glyphs
header_symbol (system which) = Other
header_symbol (sign glyph) = header_symbol_of_sign glyph

-- a local name before others
abbrev pub with_local : List ℕ → Option (List (List ℕ)) → Option (List (List ℕ))
with_local local None = None
with_local local (Some locals) = Some (local ∷ locals)

-- the local names, each behind a semicolon
unfoldable pub locals_in : List HeaderSymbol → Option (List (List ℕ))
locals_in [] = Some []
locals_in (Semicolon ∷ Word local ∷ rest) = with_local local (locals_in rest)
locals_in _ = None

-- the local name behind a semicolon at the front, where there is one, and what follows
abbrev pub local_in : List HeaderSymbol → Option (List ℕ × List HeaderSymbol)
local_in (Semicolon ∷ Word local ∷ rest) = Some (local, rest)
local_in symbols = None

-- the name of a result before an arrow, where there is one, and what follows
abbrev pub result_in : List HeaderSymbol → Option (List ℕ) × List HeaderSymbol
result_in (Word result ∷ Arrow ∷ rest) = (Some result, rest)
result_in symbols = (None, symbols)

-- the name at the front, where there is one, and what follows
abbrev pub word_in : List HeaderSymbol → Option (List ℕ × List HeaderSymbol)
word_in (Word glyphs ∷ rest) = Some (glyphs, rest)
word_in symbols = None

-- a function of two names, or of three where one more follows
abbrev pub syntax_of_two : List ℕ → List ℕ → List HeaderSymbol → Option (List ℕ × List HeaderSymbol) → Syntax × List HeaderSymbol
syntax_of_two first second rest None = (record { left = None; name = first; right = Some second }, rest)
syntax_of_two first second rest (Some third) = (record { left = Some first; name = second; right = Some third.0 }, third.1)

-- a function of one name, or of more where they follow
abbrev pub syntax_of_one : List ℕ → List HeaderSymbol → Option (List ℕ × List HeaderSymbol) → Syntax × List HeaderSymbol
syntax_of_one first rest None = (record { left = None; name = first; right = None }, rest)
syntax_of_one first rest (Some second) = syntax_of_two first second.0 second.1 (word_in second.1)

-- a function whose first name is there
abbrev pub syntax_from : Option (List ℕ × List HeaderSymbol) → Option (Syntax × List HeaderSymbol)
syntax_from None = None
syntax_from (Some first) = Some (syntax_of_one first.0 first.1 (word_in first.1))

-- the function and its arguments, and what follows: one name alone is the function, the first of two is, and the second of three
abbrev pub syntax_in : List HeaderSymbol → Option (Syntax × List HeaderSymbol)
syntax_in symbols = syntax_from (word_in symbols)

-- a header of these parts
abbrev pub header_with : Option (List ℕ) → Syntax → List (List ℕ) → PlainHeader
header_with result syntax locals = record { name = syntax.name; left = syntax.left; right = syntax.right; result = result; locals = locals }

-- the header of a function and its arguments, and of what follows them
abbrev pub header_behind : Option (List ℕ) → Option (Syntax × List HeaderSymbol) → Option PlainHeader
header_behind result None = None
header_behind result (Some found) = option_map (header_with result found.0) (locals_in found.1)

-- the header that symbols spell, whether or not its names differ
abbrev pub header_in : List HeaderSymbol → Option PlainHeader
header_in symbols = header_behind (result_in symbols).0 (syntax_in (result_in symbols).1)

-- the header, where its names differ
abbrev pub with_names_apart : Option PlainHeader → Option PlainHeader
with_names_apart None = None
with_names_apart (Some header) = if all_differ (names_of header) then Some header else None

-- the symbols of tokens
abbrev pub symbols_of : List PlainToken → List HeaderSymbol
symbols_of tokens = map (λ token. header_symbol token.kind) tokens

-- the header that a scan gives
abbrev pub header_of_scan : Scanned → Option PlainHeader
header_of_scan (Err fault) = None
header_of_scan (Ok tokens) = with_names_apart (header_in (symbols_of tokens))

-- the first glyph of a comment
abbrev pub is_lamp : ℕ → Bool
is_lamp glyph = glyph == lamp

-- the header that a line is; a line with a comment is none
unfoldable pub header_of : List ℕ → Option PlainHeader
header_of line = if list_any is_lamp line then None else header_of_scan (reading_of line)
