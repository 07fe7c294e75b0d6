-- The grammar of a line: which glyphs make which token, and what is an error.
use Rattle.std.specs.Prelude.{◌≡◌, ◌<◌, ◌≤◌, ◌+◌, ◌-◌, ◌++◌, ◌∷◌, [], ℕ, ℤ, Bool, true, false, List, Ok, Err, IsTrue, FitsSigned, length, slice_range, if◌then◌else◌}
use Rattle.std.specs.Int.{w64}
use Rattle.std.specs.List.{list_all, flat_map}
use Rattle.std.specs.Str.Parse.{digits_value}
use Rattle.apl_arrays.specs.Glyph as named
use Rattle.apl_arrays.specs.Glyph.{is_blank, is_digit, is_letter}
use Rattle.apl_arrays.specs.Limits.{most_name_glyphs}
use Rattle.apl_arrays.specs.Name.{IsName, goes_on}
use Rattle.apl_arrays.specs.Run.{begins}
use Rattle.apl_arrays.specs.System.{system_text}
use Rattle.line_scanner.specs.declared.role.Role.TheVariants.{Sign, Unused}
use Rattle.apl_arrays.specs.declared.system.SystemName.{SystemName}
use Rattle.line_scanner.specs.Token.{PlainKind, numbers, chars, name, system, sign, PlainToken}
use Rattle.line_scanner.specs.Role.{role_of, is_quote}
use Rattle.line_scanner.specs.Number.{signed}
use Rattle.line_scanner.specs.Scanning.{character_at, syntax_at, Scanned}

-- only blanks
abbrev pub AreBlank : List ℕ → Type 0
AreBlank glyphs = IsTrue (list_all is_blank glyphs)

-- digits, one at the least
pub record AreDigits (digits : List ℕ) : Type 0 where
  pub some : 0 < length digits
  pub all : IsTrue (list_all is_digit digits)

-- ¯ before the digits of a negative number
abbrev pub overbar_if : Bool → List ℕ
overbar_if true = named.overbar ∷ []
overbar_if false = []

-- a number: perhaps ¯, and digits, of a value that fits 64 bits
pub record IsNumber (text : List ℕ) (value : ℤ) : Type 0 where
  pub negative : Bool
  pub digits : List ℕ
  pub are_digits : AreDigits digits
  pub spelled : text ≡ overbar_if negative ++ digits
  pub is : value ≡ signed negative (digits_value 10 digits)
  pub fits : FitsSigned w64 value

-- a number, and what follows it, which is no digit
pub record NumberFirst (text : List ℕ) (value : ℤ) (others : List ℕ) : Type 0 where
  pub number : List ℕ
  pub whole : text ≡ number ++ others
  pub is_number : IsNumber number value
  pub ends : begins is_digit others ≡ false

-- the same, with blanks before the number
pub record NumberNext (text : List ℕ) (value : ℤ) (others : List ℕ) : Type 0 where
  pub blanks : List ℕ
  pub behind : List ℕ
  pub whole : text ≡ blanks ++ behind
  pub are_blank : AreBlank blanks
  pub first : NumberFirst behind value others

-- numbers, each with only blanks before it
abbrev pub AreNext : List ℤ → List ℕ → Type 0
AreNext [] text = text ≡ []
AreNext (value ∷ values) text = (others : List ℕ) × NumberNext text value others × AreNext values others

-- a constant of numbers: one or more with only blanks between them
abbrev pub IsNumericConstant : List ℤ → List ℕ → Type 0
IsNumericConstant [] text = ⊥
IsNumericConstant (value ∷ values) text = (others : List ℕ) × NumberFirst text value others × AreNext values others

-- a character as it stands between quotes: a quote is written twice
abbrev pub doubled : ℕ → List ℕ
doubled char = if is_quote char then char ∷ char ∷ [] else char ∷ []

-- a constant of characters
abbrev pub quoted : List ℕ → List ℕ
quoted list = named.quote ∷ flat_map doubled list ++ named.quote ∷ []

-- these glyphs are this token
abbrev pub IsTokenText : PlainKind → List ℕ → Type 0
IsTokenText (numbers values) text = IsNumericConstant values text
IsTokenText (chars list) text = text ≡ quoted list
IsTokenText (name glyphs) text = (text ≡ glyphs) × IsName glyphs
IsTokenText (system which) text = text ≡ system_text which
IsTokenText (sign glyph) text = (text ≡ glyph ∷ []) × (role_of glyph ≡ Sign)

-- no digit follows, and no number comes next behind blanks
pub record NoNumberNext (rest : List ℕ) : Type 0 where
  pub no_digit : begins is_digit rest ≡ false
  pub no_number : (value : ℤ) (others : List ℕ) → NumberNext rest value others → ⊥

-- what follows a token does not go on with it: a constant of numbers takes all numbers, a constant of characters does not end at the first of two quotes, and a name is as long as possible
abbrev pub EndsBefore : PlainKind → List ℕ → Type 0
EndsBefore (numbers values) rest = NoNumberNext rest
EndsBefore (chars list) rest = begins is_quote rest ≡ false
EndsBefore (name glyphs) rest = begins goes_on rest ≡ false
EndsBefore (system which) rest = Unit {0}
EndsBefore (sign glyph) rest = Unit {0}

-- a token comes next behind blanks, with its place, and more behind it
pub record TokenNext (at : ℕ) (line : List ℕ) (token : PlainToken) (more : List ℕ) : Type 0 where
  pub blanks : List ℕ
  pub text : List ℕ
  pub whole : line ≡ blanks ++ (text ++ more)
  pub are_blank : AreBlank blanks
  pub is_text : IsTokenText token.kind text
  pub ends : EndsBefore token.kind more
  pub from : token.at ≡ at + length blanks
  pub to : token.after ≡ token.at + length text

-- blanks come next, and then the rest, which has this place
pub record BlanksNext (at : ℕ) (line : List ℕ) (place : ℕ) (rest : List ℕ) : Type 0 where
  pub blanks : List ℕ
  pub whole : line ≡ blanks ++ rest
  pub are_blank : AreBlank blanks
  pub from : place ≡ at + length blanks

-- these tokens come one after the other, and behind them and blanks the rest, which has this place
abbrev pub TokensNext : ℕ → List ℕ → List PlainToken → ℕ → List ℕ → Type 0
TokensNext at line [] place rest = BlanksNext at line place rest
TokensNext at line (token ∷ tokens) place rest = (more : List ℕ) × TokenNext at line token more × TokensNext token.after more tokens place rest

-- the line ends, or a comment begins
pub data EndsLine (rest : List ℕ) : Type 0 where
  at_end : rest ≡ [] → EndsLine rest
  at_comment : (comment : List ℕ) → rest ≡ named.lamp ∷ comment → EndsLine rest

-- a glyph without a role
pub record IsUnused (rest : List ℕ) : Type 0 where
  pub glyph : ℕ
  pub more : List ℕ
  pub whole : rest ≡ glyph ∷ more
  pub unused : role_of glyph ≡ Unused

-- no token begins so: ¯ without a digit, a number out of range, an open quote, a name longer than 32, or ⎕ without the rest of a system name
pub data BeginsNoToken (rest : List ℕ) : Type 0 where
  no_digit : (more : List ℕ) → rest ≡ named.overbar ∷ more → begins is_digit more ≡ false → BeginsNoToken rest
  out_of_range : (negative : Bool) (digits more : List ℕ) → rest ≡ overbar_if negative ++ (digits ++ more) → AreDigits digits → begins is_digit more ≡ false
      → (FitsSigned w64 (signed negative (digits_value 10 digits)) → ⊥) → BeginsNoToken rest
  open_quote : (list : List ℕ) → rest ≡ named.quote ∷ flat_map doubled list → BeginsNoToken rest
  long_name : (first : ℕ) (others more : List ℕ) → rest ≡ first ∷ (others ++ more) → IsTrue (is_letter first) → IsTrue (list_all goes_on others) → begins goes_on more ≡ false
      → most_name_glyphs - 1 < length others → BeginsNoToken rest
  no_system_name : (more : List ℕ) → rest ≡ named.quad ∷ more → ((which : SystemName) (others : List ℕ) → rest ≡ system_text which ++ others → ⊥) → BeginsNoToken rest

-- what the glyphs from a place on are: tokens and the end of the line, or an error behind tokens
abbrev pub ReadsFrom : ℕ → List ℕ → Scanned → Type 0
ReadsFrom at line (Ok tokens) = (place : ℕ) × (rest : List ℕ) × TokensNext at line tokens place rest × EndsLine rest
ReadsFrom at line (Err (character_at place)) = (tokens : List PlainToken) × (rest : List ℕ) × TokensNext at line tokens place rest × IsUnused rest
ReadsFrom at line (Err (syntax_at place)) = (tokens : List PlainToken) × (rest : List ℕ) × TokensNext at line tokens place rest × BeginsNoToken rest

-- what a line is
abbrev pub IsReading : List ℕ → Scanned → Type 0
IsReading line reading = ReadsFrom 0 line reading

-- the spans of tokens come one after the other from one place to another, each of one glyph at the least
abbrev pub AreInOrder : ℕ → List PlainToken → ℕ → Type 0
AreInOrder from [] to = from ≤ to
AreInOrder from (token ∷ tokens) to = (from ≤ token.at) × (token.at < token.after) × AreInOrder token.after tokens to

-- the glyphs of a line from a token's first place to its last are the token
abbrev pub IsSliceOf : List ℕ → PlainToken → Type 0
IsSliceOf line token = IsTokenText token.kind (slice_range line token.at token.after)
