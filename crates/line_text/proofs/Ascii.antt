-- ASCII stands for itself in UTF-8.
use Rattle.std.proofs.Common.{◌≡◌, ℕ, ◌<◌, ◌^◌, true, leb, List, [], ◌∷◌, ◌++◌, codes, refl, ap, ap₂, ◌∙◌, arith}
use Rattle.std.proofs.lemmas.Bool.Decides.{nat_tests}
use Rattle.std.specs.Char.{encode_utf8}
use Rattle.std.specs.Fmt.{decimal}
use Rattle.std.specs.List.{list_all}
use Rattle.apl_arrays.specs.Glyph.{bar, glyph_utf8, line_utf8}
use Rattle.apl_arrays.proofs.Glyphs.{scalar_of_low}
use Rattle.apl_arrays.proofs.Scalars.{encode_one}
use Rattle.line_text.specs.Lines.{heading, content, end_line}
use Rattle.line_text.specs.Spaced.{is_plain}
use Rattle.line_text.proofs.Decimals.{digits_are_plain}
use Rattle.line_text.proofs.Spans.{both}

low_utf8 : (code : ℕ) → code < 128 → glyph_utf8 code ≡ code ∷ []
low_utf8 code low = ap encode_utf8 (scalar_of_low code low) ∙ encode_one code low

plain_is_low : (code : ℕ) → is_plain code ≡ true → code < 128
plain_is_low code e =
    let parts = both (leb 32 code) (leb code 126) e in grind (arith, nat_tests)

pub plain_utf8 : (text : List ℕ) → list_all is_plain text ≡ true → line_utf8 text ≡ text
plain_utf8 [] e = refl
plain_utf8 (x ∷ xs) e =
    let parts = both (is_plain x) (list_all is_plain xs) e in
    ap₂ (λ (front rest : List ℕ). front ++ rest) (low_utf8 x (plain_is_low x parts.0)) (plain_utf8 xs parts.1)

pub heading_utf8 : (number : ℕ) → number < 2 ^ 64 → line_utf8 (heading number) ≡ codes "user " ++ decimal number
heading_utf8 number fits = plain_utf8 (heading number) (digits_are_plain number fits)

pub content_utf8 : (line : List ℕ) → line_utf8 (content line) ≡ bar ∷ line_utf8 line
content_utf8 line = ap (λ (front : List ℕ). front ++ line_utf8 line) (low_utf8 bar (omega arith))

pub end_utf8 : line_utf8 end_line ≡ end_line
end_utf8 = plain_utf8 end_line refl
