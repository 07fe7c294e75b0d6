-- The tokens of a header leave no room for a comment, and are told by their symbols.
use Rattle.std.proofs.Common.{◌≡◌, ℕ, Bool, true, false, cond, eqb, ◌||◌, List, [], ◌∷◌, ◌++◌, Option, Some, None, refl, sym, ap, ◌∙◌, map}
use Rattle.std.specs.List.{list_any, list_all}
use Rattle.std.proofs.lemmas.Bool.{and_parts, false≢true, eqb-true, or_parts}
use Rattle.std.proofs.lemmas.List.Folds.{list_any-append}
use Rattle.apl_arrays.specs.Glyph.{is_blank, lamp, left_arrow, semicolon}
use Rattle.apl_arrays.specs.Name.{goes_on}
use Rattle.apl_arrays.proofs.Names.{name_goes_on}
use Rattle.line_scanner.specs.Token.{PlainKind, numbers, chars, name, system, sign, PlainToken}
use Rattle.line_scanner.specs.Grammar.{IsTokenText, TokensNext}
use Rattle.apl_workspace.specs.declared.symbol.HeaderSymbol.{HeaderSymbol}
use Rattle.apl_workspace.specs.declared.symbol.HeaderSymbol.TheVariants.{Word, Arrow, Semicolon, Other}
use Rattle.apl_workspace.specs.Header.{PlainHeader, header_symbol, symbols_of, is_lamp}
use Rattle.apl_workspace.specs.Grammar.{header_kinds}
use Rattle.apl_workspace.proofs.Symbols.{result_symbols, name_symbols, local_symbols, header_symbols, kind_of, header_kinds_symbols}

-- a symbol that no header has
abbrev pub is_other : HeaderSymbol → Bool
is_other (Word glyphs) = false
is_other Arrow = false
is_other Semicolon = false
is_other Other = true

or_none : (a b : Bool) → a ≡ false → b ≡ false → a || b ≡ false
or_none true b e f = absurd (false≢true (sym e))
or_none false b e f = f

or_second : (a b : Bool) → b ≡ true → a || b ≡ true
or_second true b e = refl
or_second false b e = e

-- ---- a header has no other symbols

locals_plain : (locals : List (List ℕ)) → list_any is_other (local_symbols locals) ≡ false
locals_plain [] = refl
locals_plain (local ∷ locals) = locals_plain locals

name_plain : (glyphs : Option (List ℕ)) (more : List HeaderSymbol) → list_any is_other more ≡ false → list_any is_other (name_symbols glyphs ++ more) ≡ false
name_plain None more e = e
name_plain (Some glyphs) more e = e

result_plain : (result : Option (List ℕ)) (more : List HeaderSymbol) → list_any is_other more ≡ false → list_any is_other (result_symbols result ++ more) ≡ false
result_plain None more e = e
result_plain (Some result) more e = e

pub header_is_plain : (header : PlainHeader) → list_any is_other (header_symbols header) ≡ false
header_is_plain header =
    let right = name_plain header.right (local_symbols header.locals) (locals_plain header.locals) in
    let left = name_plain header.left (Word header.name ∷ (name_symbols header.right ++ local_symbols header.locals)) right in
    result_plain header.result (name_symbols header.left ++ (Word header.name ∷ (name_symbols header.right ++ local_symbols header.locals))) left

-- ---- tokens by their symbols

sign_back : (glyph : ℕ) (arrow semi : Bool) → eqb glyph left_arrow ≡ arrow → eqb glyph semicolon ≡ semi → is_other (cond arrow Arrow (cond semi Semicolon Other)) ≡ false → kind_of (cond arrow Arrow (cond semi Semicolon Other)) ≡ sign glyph
sign_back glyph true semi e f h = ap sign (sym (eqb-true glyph left_arrow e))
sign_back glyph false true e f h = ap sign (sym (eqb-true glyph semicolon f))
sign_back glyph false false e f h = absurd (false≢true (sym h))

kind_back : (kind : PlainKind) → is_other (header_symbol kind) ≡ false → kind_of (header_symbol kind) ≡ kind
kind_back (numbers list) e = absurd (false≢true (sym e))
kind_back (chars list) e = absurd (false≢true (sym e))
kind_back (name glyphs) e = refl
kind_back (system which) e = absurd (false≢true (sym e))
kind_back (sign glyph) e = sign_back glyph (eqb glyph left_arrow) (eqb glyph semicolon) refl refl e

kinds_back : (kinds : List PlainKind) → list_any is_other (map header_symbol kinds) ≡ false → map kind_of (map header_symbol kinds) ≡ kinds
kinds_back [] e = refl
kinds_back (kind ∷ kinds) e =
    let parts = or_parts (is_other (header_symbol kind)) (list_any is_other (map header_symbol kinds)) e in
    ap (λ (first : PlainKind). first ∷ map kind_of (map header_symbol kinds)) (kind_back kind parts.0) ∙ ap (λ (rest : List PlainKind). kind ∷ rest) (kinds_back kinds parts.1)

abbrev pub kinds_of : List PlainToken → List PlainKind
kinds_of tokens = map (λ token. token.kind) tokens

symbols_by_kinds : (tokens : List PlainToken) → symbols_of tokens ≡ map header_symbol (kinds_of tokens)
symbols_by_kinds [] = refl
symbols_by_kinds (token ∷ tokens) = ap (λ (rest : List HeaderSymbol). header_symbol token.kind ∷ rest) (symbols_by_kinds tokens)

-- tokens of a header have its symbols
pub symbols_from_kinds : (tokens : List PlainToken) (header : PlainHeader) → kinds_of tokens ≡ header_kinds header → symbols_of tokens ≡ header_symbols header
symbols_from_kinds tokens header e = symbols_by_kinds tokens ∙ ap (map header_symbol) e ∙ header_kinds_symbols header

-- tokens with the symbols of a header are its tokens
pub kinds_from_symbols : (tokens : List PlainToken) (header : PlainHeader) → symbols_of tokens ≡ header_symbols header → kinds_of tokens ≡ header_kinds header
kinds_from_symbols tokens header e =
    let same : map header_symbol (kinds_of tokens) ≡ header_symbols header = sym (symbols_by_kinds tokens) ∙ e in
    let plain : list_any is_other (map header_symbol (kinds_of tokens)) ≡ false = ap (list_any is_other) same ∙ header_is_plain header in
    let theirs : list_any is_other (map header_symbol (header_kinds header)) ≡ false = ap (list_any is_other) (header_kinds_symbols header) ∙ header_is_plain header in
    sym (kinds_back (kinds_of tokens) plain) ∙ ap (map kind_of) (same ∙ sym (header_kinds_symbols header)) ∙ kinds_back (header_kinds header) theirs

-- ---- comments

lamp_fails : (p : ℕ → Bool) (glyph : ℕ) (b : Bool) → p lamp ≡ false → p glyph ≡ true → eqb glyph lamp ≡ b → b ≡ false
lamp_fails p glyph true none e is = absurd (false≢true (sym none ∙ ap p (sym (eqb-true glyph lamp is)) ∙ e))
lamp_fails p glyph false none e is = refl

run_without : (p : ℕ → Bool) (glyphs : List ℕ) → p lamp ≡ false → list_all p glyphs ≡ true → list_any is_lamp glyphs ≡ false
run_without p [] none e = refl
run_without p (glyph ∷ glyphs) none e =
    let parts = and_parts (p glyph) (list_all p glyphs) e in
    or_none (is_lamp glyph) (list_any is_lamp glyphs) (lamp_fails p glyph (eqb glyph lamp) none parts.0 refl) (run_without p glyphs none parts.1)

sign_without : (glyph : ℕ) (arrow semi : Bool) → eqb glyph left_arrow ≡ arrow → eqb glyph semicolon ≡ semi → is_other (cond arrow Arrow (cond semi Semicolon Other)) ≡ false → is_lamp glyph ≡ false
sign_without glyph true semi e f h = ap is_lamp (eqb-true glyph left_arrow e)
sign_without glyph false true e f h = ap is_lamp (eqb-true glyph semicolon f)
sign_without glyph false false e f h = absurd (false≢true (sym h))

text_without : (kind : PlainKind) (text : List ℕ) → IsTokenText kind text → is_other (header_symbol kind) ≡ false → list_any is_lamp text ≡ false
text_without (numbers list) text is e = absurd (false≢true (sym e))
text_without (chars list) text is e = absurd (false≢true (sym e))
text_without (name glyphs) text is e = ap (list_any is_lamp) is.0 ∙ run_without goes_on glyphs refl (name_goes_on glyphs is.1)
text_without (system which) text is e = absurd (false≢true (sym e))
text_without (sign glyph) text is e = ap (list_any is_lamp) is.0 ∙ or_none (is_lamp glyph) false (sign_without glyph (eqb glyph left_arrow) (eqb glyph semicolon) refl refl e) refl

-- a line of the tokens of a header has no ⍝
pub tokens_without : (tokens : List PlainToken) (at : ℕ) (line : List ℕ) (place : ℕ) → TokensNext at line tokens place [] → list_any is_other (symbols_of tokens) ≡ false → list_any is_lamp line ≡ false
tokens_without [] at line place h e =
    ap (list_any is_lamp) h.whole ∙ list_any-append is_lamp h.blanks [] ∙ or_none (list_any is_lamp h.blanks) false (run_without is_blank h.blanks refl h.are_blank) refl
tokens_without (token ∷ tokens) at line place (more, h, next) e =
    let parts = or_parts (is_other (header_symbol token.kind)) (list_any is_other (symbols_of tokens)) e in
    let rest = tokens_without tokens token.after more place next parts.1 in
    ap (list_any is_lamp) h.whole ∙ list_any-append is_lamp h.blanks (h.text ++ more)
    ∙ or_none (list_any is_lamp h.blanks) (list_any is_lamp (h.text ++ more)) (run_without is_blank h.blanks refl h.are_blank)
    (list_any-append is_lamp h.text more ∙ or_none (list_any is_lamp h.text) (list_any is_lamp more) (text_without token.kind h.text h.is_text parts.0) rest)

-- a ⍝ behind tokens stands in the line
pub lamp_behind : (tokens : List PlainToken) (at : ℕ) (line : List ℕ) (place : ℕ) (rest : List ℕ) → TokensNext at line tokens place rest → list_any is_lamp rest ≡ true → list_any is_lamp line ≡ true
lamp_behind [] at line place rest h e = ap (list_any is_lamp) h.whole ∙ list_any-append is_lamp h.blanks rest ∙ or_second (list_any is_lamp h.blanks) (list_any is_lamp rest) e
lamp_behind (token ∷ tokens) at line place rest (more, h, next) e =
    let behind = lamp_behind tokens token.after more place rest next e in
    ap (list_any is_lamp) h.whole ∙ list_any-append is_lamp h.blanks (h.text ++ more)
    ∙ or_second (list_any is_lamp h.blanks) (list_any is_lamp (h.text ++ more)) (list_any-append is_lamp h.text more ∙ or_second (list_any is_lamp h.text) (list_any is_lamp more) behind)
