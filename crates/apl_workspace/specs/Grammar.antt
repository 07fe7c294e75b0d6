-- The grammar of a header.
use Rattle.std.specs.Prelude.{◌≡◌, ◌++◌, true, ℕ, List, [], ◌∷◌, Option, Some, None, IsSome, map}
use Rattle.std.specs.List.{flat_map}
use Rattle.apl_arrays.specs.Glyph.{left_arrow, semicolon}
use Rattle.line_scanner.specs.Token.{PlainKind, name, sign, PlainToken}
use Rattle.line_scanner.specs.Grammar.{TokensNext}
use Rattle.apl_workspace.specs.Header.{PlainHeader, names_of}
use Rattle.apl_workspace.specs.Names.{all_differ}

-- R←, where there is a result
abbrev pub result_part : Option (List ℕ) → List PlainKind
result_part None = []
result_part (Some result) = name result ∷ sign left_arrow ∷ []

-- a name, where there is one
abbrev pub name_part : Option (List ℕ) → List PlainKind
name_part None = []
name_part (Some glyphs) = name glyphs ∷ []

-- ;L
abbrev pub local_part : List ℕ → List PlainKind
local_part local = sign semicolon ∷ name local ∷ []

-- the tokens of a header: R←, A, F, B and ;L for each local name, of which R←, A, B and the local names may be wanting
abbrev pub header_kinds : PlainHeader → List PlainKind
header_kinds header = result_part header.result ++ (name_part header.left ++ (name header.name ∷ (name_part header.right ++ flat_map local_part header.locals)))

-- a line is this header: it has these tokens and no comment, all names differ, and a left argument comes with a right one
pub record IsHeader (line : List ℕ) (header : PlainHeader) : Type 0 where
  pub tokens : List PlainToken
  pub place : ℕ
  pub reads : TokensNext 0 line tokens place []
  pub kinds : map (λ token. token.kind) tokens ≡ header_kinds header
  pub differ : all_differ (names_of header) ≡ true
  pub right : IsSome header.left → IsSome header.right
