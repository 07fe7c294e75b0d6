-- The symbols of a header, and what is computed of them.
use Rattle.std.proofs.Common.{◌≡◌, ℕ, List, [], ◌∷◌, ◌++◌, Option, Some, None, refl, ap, subst, ◌∙◌, map}
use Rattle.std.specs.Prelude.{IsSome}
use Rattle.std.specs.List.{flat_map}
use Rattle.std.specs.Option.{option_map}
use Rattle.std.proofs.lemmas.Bool.{false≢true}
use Rattle.std.proofs.lemmas.Option.{same_Some}
use Rattle.apl_arrays.specs.Glyph.{blank, left_arrow, semicolon}
use Rattle.line_scanner.specs.Token.{PlainKind, name, sign}
use Rattle.apl_workspace.specs.declared.symbol.HeaderSymbol.{HeaderSymbol}
use Rattle.apl_workspace.specs.declared.symbol.HeaderSymbol.TheVariants.{Word, Arrow, Semicolon, Other}
use Rattle.apl_workspace.specs.declared.symbol.Syntax.{Syntax}
use Rattle.apl_workspace.specs.Header.{PlainHeader, header_symbol, with_local, locals_in, result_in, word_in, syntax_of_two, syntax_of_one, syntax_from, syntax_in, header_with, header_behind, header_in}
use Rattle.apl_workspace.specs.Grammar.{result_part, name_part, local_part, header_kinds}

-- R←, where there is a result
abbrev pub result_symbols : Option (List ℕ) → List HeaderSymbol
result_symbols None = []
result_symbols (Some result) = Word result ∷ Arrow ∷ []

-- a name, where there is one
abbrev pub name_symbols : Option (List ℕ) → List HeaderSymbol
name_symbols None = []
name_symbols (Some glyphs) = Word glyphs ∷ []

-- local names, each behind a semicolon
abbrev pub local_symbols : List (List ℕ) → List HeaderSymbol
local_symbols [] = []
local_symbols (local ∷ locals) = Semicolon ∷ Word local ∷ local_symbols locals

-- the symbols of a header of these parts
abbrev pub symbols_with : Option (List ℕ) → Option (List ℕ) → List ℕ → Option (List ℕ) → List (List ℕ) → List HeaderSymbol
symbols_with result left function right locals = result_symbols result ++ (name_symbols left ++ (Word function ∷ (name_symbols right ++ local_symbols locals)))

-- the symbols of a header
abbrev pub header_symbols : PlainHeader → List HeaderSymbol
header_symbols header = symbols_with header.result header.left header.name header.right header.locals

-- ---- what they spell

unfolded : (locals : List (List ℕ)) → locals_in (local_symbols locals) ≡ Some locals
unfolding locals_in
unfolded [] = refl
unfolded (local ∷ locals) = ap (with_local local) (unfolded locals)

-- the header of these parts
abbrev pub header_of_parts : Option (List ℕ) → Option (List ℕ) → List ℕ → Option (List ℕ) → List (List ℕ) → PlainHeader
header_of_parts result left function right locals = record { name = function; left = left; right = right; result = result; locals = locals }

with_syntax : (result left : Option (List ℕ)) (function : List ℕ) (right : Option (List ℕ)) (locals : List (List ℕ)) → option_map (header_with result (record { left = left; name = function; right = right })) (locals_in (local_symbols locals)) ≡ Some (header_of_parts result left function right locals)
with_syntax result left function right locals = ap (option_map (header_with result (record { left = left; name = function; right = right }))) (unfolded locals)

parts_spelled : (result left : Option (List ℕ)) (function : List ℕ) (right : Option (List ℕ)) (locals : List (List ℕ)) → (IsSome left → IsSome right) → header_in (symbols_with result left function right locals) ≡ Some (header_of_parts result left function right locals)
parts_spelled None None f None [] h = with_syntax None None f None []
parts_spelled None None f None (l ∷ ls) h = with_syntax None None f None (l ∷ ls)
parts_spelled None None f (Some b) [] h = with_syntax None None f (Some b) []
parts_spelled None None f (Some b) (l ∷ ls) h = with_syntax None None f (Some b) (l ∷ ls)
parts_spelled None (Some a) f (Some b) ls h = with_syntax None (Some a) f (Some b) ls
parts_spelled None (Some a) f None ls h = absurd (false≢true (h refl))
parts_spelled (Some r) None f None [] h = with_syntax (Some r) None f None []
parts_spelled (Some r) None f None (l ∷ ls) h = with_syntax (Some r) None f None (l ∷ ls)
parts_spelled (Some r) None f (Some b) [] h = with_syntax (Some r) None f (Some b) []
parts_spelled (Some r) None f (Some b) (l ∷ ls) h = with_syntax (Some r) None f (Some b) (l ∷ ls)
parts_spelled (Some r) (Some a) f (Some b) ls h = with_syntax (Some r) (Some a) f (Some b) ls
parts_spelled (Some r) (Some a) f None ls h = absurd (false≢true (h refl))

-- the symbols of a header give it back
pub header_is_spelled : (header : PlainHeader) → (IsSome header.left → IsSome header.right) → header_in (header_symbols header) ≡ Some header
header_is_spelled header h = parts_spelled header.result header.left header.name header.right header.locals h

-- ---- what spells them

result_first : (symbols : List HeaderSymbol) → symbols ≡ result_symbols (result_in symbols).0 ++ (result_in symbols).1
result_first [] = refl
result_first (Word r ∷ []) = refl
result_first (Word r ∷ Arrow ∷ rest) = refl
result_first (Word r ∷ Word next ∷ rest) = refl
result_first (Word r ∷ Semicolon ∷ rest) = refl
result_first (Word r ∷ Other ∷ rest) = refl
result_first (Arrow ∷ rest) = refl
result_first (Semicolon ∷ rest) = refl
result_first (Other ∷ rest) = refl

word_first : (symbols : List HeaderSymbol) (found : List ℕ × List HeaderSymbol) → word_in symbols ≡ Some found → symbols ≡ Word found.0 ∷ found.1
word_first [] found e = absurd cc
word_first (Word glyphs ∷ rest) found e =
    let here : List ℕ × List HeaderSymbol = (glyphs, rest) in
    let same : here ≡ found = same_Some here found e in
    ap (λ (x : List ℕ × List HeaderSymbol). Word x.0 ∷ x.1) same
word_first (Arrow ∷ rest) found e = absurd cc
word_first (Semicolon ∷ rest) found e = absurd cc
word_first (Other ∷ rest) found e = absurd cc

-- a function between its arguments, before what follows
abbrev syntax_symbols : Syntax × List HeaderSymbol → List HeaderSymbol
syntax_symbols found = name_symbols found.0.left ++ (Word found.0.name ∷ (name_symbols found.0.right ++ found.1))

-- a left argument comes with a right one
abbrev HasRight : Syntax → Type 0
HasRight syntax = IsSome syntax.left → IsSome syntax.right

two_spelled : (first second : List ℕ) (rest : List HeaderSymbol) (third : Option (List ℕ × List HeaderSymbol)) → word_in rest ≡ third → (Word first ∷ Word second ∷ rest ≡ syntax_symbols (syntax_of_two first second rest third)) × HasRight (syntax_of_two first second rest third).0
two_spelled first second rest None e = (refl, λ h. refl)
two_spelled first second rest (Some third) e = (ap (λ (x : List HeaderSymbol). Word first ∷ Word second ∷ x) (word_first rest third e), λ h. refl)

one_spelled : (first : List ℕ) (rest : List HeaderSymbol) (second : Option (List ℕ × List HeaderSymbol)) → word_in rest ≡ second → (Word first ∷ rest ≡ syntax_symbols (syntax_of_one first rest second)) × HasRight (syntax_of_one first rest second).0
one_spelled first rest None e = (refl, λ h. h)
one_spelled first rest (Some second) e =
    let two = two_spelled first second.0 second.1 (word_in second.1) refl in
    (ap (λ (x : List HeaderSymbol). Word first ∷ x) (word_first rest second e) ∙ two.0, two.1)

syntax_by : (symbols : List HeaderSymbol) (first : Option (List ℕ × List HeaderSymbol)) (found : Syntax × List HeaderSymbol) → word_in symbols ≡ first → syntax_from first ≡ Some found → (symbols ≡ syntax_symbols found) × HasRight found.0
syntax_by symbols None found e f = absurd cc
syntax_by symbols (Some first) found e f =
    let one = one_spelled first.0 first.1 (word_in first.1) refl in
    let same : syntax_of_one first.0 first.1 (word_in first.1) ≡ found = same_Some (syntax_of_one first.0 first.1 (word_in first.1)) found f in
    (word_first symbols first e ∙ one.0 ∙ ap syntax_symbols same, subst (λ (x : Syntax × List HeaderSymbol). HasRight x.0) same one.1)

syntax_first : (symbols : List HeaderSymbol) (found : Syntax × List HeaderSymbol) → syntax_in symbols ≡ Some found → (symbols ≡ syntax_symbols found) × HasRight found.0
syntax_first symbols found e = syntax_by symbols (word_in symbols) found refl e

locals_by : (local : List ℕ) (rest : Option (List (List ℕ))) (locals : List (List ℕ)) → with_local local rest ≡ Some locals → (others : List (List ℕ)) × (rest ≡ Some others) × (local ∷ others ≡ locals)
locals_by local None locals e = absurd cc
locals_by local (Some others) locals e = (others, refl, same_Some (local ∷ others) locals e)

locals_only : (symbols : List HeaderSymbol) (locals : List (List ℕ)) → locals_in symbols ≡ Some locals → symbols ≡ local_symbols locals
unfolding locals_in
locals_only [] locals e = ap local_symbols (same_Some [] locals e)
locals_only (Semicolon ∷ []) locals e = absurd cc
locals_only (Semicolon ∷ Word local ∷ rest) locals e =
    let found = locals_by local (locals_in rest) locals e in
    ap (λ (x : List HeaderSymbol). Semicolon ∷ Word local ∷ x) (locals_only rest found.0 found.1) ∙ ap local_symbols found.2
locals_only (Semicolon ∷ Arrow ∷ rest) locals e = absurd cc
locals_only (Semicolon ∷ Semicolon ∷ rest) locals e = absurd cc
locals_only (Semicolon ∷ Other ∷ rest) locals e = absurd cc
locals_only (Word local ∷ rest) locals e = absurd cc
locals_only (Arrow ∷ rest) locals e = absurd cc
locals_only (Other ∷ rest) locals e = absurd cc

mapped : {A B : Type 0} (f : A → B) (o : Option A) (b : B) → option_map f o ≡ Some b → (a : A) × (o ≡ Some a) × (f a ≡ b)
mapped f None b e = absurd cc
mapped f (Some a) b e = (a, refl, same_Some (f a) b e)

behind_by : (result : Option (List ℕ)) (found : Option (Syntax × List HeaderSymbol)) (header : PlainHeader) → header_behind result found ≡ Some header
    → (syntax : Syntax × List HeaderSymbol) × (found ≡ Some syntax) × (locals : List (List ℕ)) × (locals_in syntax.1 ≡ Some locals) × (header_with result syntax.0 locals ≡ header)
behind_by result None header e = absurd cc
behind_by result (Some found) header e =
    let parts = mapped (header_with result found.0) (locals_in found.1) header e in
    (found, refl, parts.0, parts.1, parts.2)

-- symbols that give a header are its symbols, and a left argument comes with a right one
pub header_was_spelled : (symbols : List HeaderSymbol) (header : PlainHeader) → header_in symbols ≡ Some header → (symbols ≡ header_symbols header) × (IsSome header.left → IsSome header.right)
header_was_spelled symbols header e =
    let behind = (result_in symbols).1 in
    let found = behind_by (result_in symbols).0 (syntax_in behind) header e in
    let syntax = found.0 in
    let first = syntax_first behind syntax found.1 in
    let locals = locals_only syntax.1 found.2 found.3 in
    let whole : symbols ≡ header_symbols (header_with (result_in symbols).0 syntax.0 found.2) =
    result_first symbols ∙ ap (λ (x : List HeaderSymbol). result_symbols (result_in symbols).0 ++ x) (first.0 ∙ ap (λ (x : List HeaderSymbol). name_symbols syntax.0.left ++ (Word syntax.0.name ∷ (name_symbols syntax.0.right ++ x))) locals) in
    (whole ∙ ap header_symbols found.4, subst (λ (h : PlainHeader). IsSome h.left → IsSome h.right) found.4 first.1)

-- ---- symbols and tokens

-- a token that is this symbol, which is no other
abbrev pub kind_of : HeaderSymbol → PlainKind
kind_of (Word glyphs) = name glyphs
kind_of Arrow = sign left_arrow
kind_of Semicolon = sign semicolon
kind_of Other = sign blank

result_kinds : (result : Option (List ℕ)) (more : List PlainKind) → map header_symbol (result_part result ++ more) ≡ result_symbols result ++ map header_symbol more
result_kinds None more = refl
result_kinds (Some result) more = refl

name_kinds : (glyphs : Option (List ℕ)) (more : List PlainKind) → map header_symbol (name_part glyphs ++ more) ≡ name_symbols glyphs ++ map header_symbol more
name_kinds None more = refl
name_kinds (Some glyphs) more = refl

local_kinds : (locals : List (List ℕ)) → map header_symbol (flat_map local_part locals) ≡ local_symbols locals
local_kinds [] = refl
local_kinds (local ∷ locals) = ap (λ (x : List HeaderSymbol). Semicolon ∷ Word local ∷ x) (local_kinds locals)

-- the tokens of a header have its symbols
pub header_kinds_symbols : (header : PlainHeader) → map header_symbol (header_kinds header) ≡ header_symbols header
header_kinds_symbols header =
    let locals = flat_map local_part header.locals in
    let right = name_part header.right ++ locals in
    let behind : map header_symbol right ≡ name_symbols header.right ++ local_symbols header.locals = name_kinds header.right locals ∙ ap (λ (x : List HeaderSymbol). name_symbols header.right ++ x) (local_kinds header.locals) in
    let left : map header_symbol (name_part header.left ++ (name header.name ∷ right)) ≡ name_symbols header.left ++ (Word header.name ∷ (name_symbols header.right ++ local_symbols header.locals)) =
    name_kinds header.left (name header.name ∷ right) ∙ ap (λ (x : List HeaderSymbol). name_symbols header.left ++ (Word header.name ∷ x)) behind in
    result_kinds header.result (name_part header.left ++ (name header.name ∷ right)) ∙ ap (λ (x : List HeaderSymbol). result_symbols header.result ++ x) left
