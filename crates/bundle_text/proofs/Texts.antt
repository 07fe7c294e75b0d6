-- A line is read in one way.
use Rattle.std.proofs.Common.{◌≡◌, ◌≢◌, ℕ, ◌<◌, ◌≤◌, ◌^◌, Bool, true, false, not, ◌&&◌, eqb, leb, List, [], ◌∷◌, ◌++◌, length, codes, refl, sym, ap, ◌∙◌, arith, append-nil}
use Rattle.std.specs.Fmt.{decimal}
use Rattle.std.specs.List.{All, list_all, flat_map, AllByRecursion}
use Rattle.std.proofs.lemmas.Bool.{false≢true}
use Rattle.std.proofs.lemmas.Bool.Decides.{nat_tests}
use Rattle.std.proofs.lemmas.Fmt.{decimal_injective}
use Rattle.std.proofs.lemmas.List.Elements.{All-head, All-tail, All-weaker}
use Rattle.apl_arrays.specs.File.{IsFileName, is_file_name, is_file_byte}
use Rattle.apl_arrays.specs.Glyph.{IsGlyph, is_digit, is_between, line_utf8, Spells}
use Rattle.apl_arrays.specs.Run.{begins}
use Rattle.apl_arrays.proofs.Spelling.{one_line, no_control}
use Rattle.line_text.specs.Lines.{end_line, HasNoFeed}
use Rattle.line_text.specs.Spaced.{spaced}
use Rattle.line_text.proofs.GlyphTexts.{Glyphs, passing, plain_glyphs, spaced_glyphs, heading_glyphs, content_glyphs, end_glyphs}
use Rattle.line_text.proofs.Spans.{both, same_span}
use Rattle.bundle_text.specs.Rules.{IsUserNumber}
use Rattle.bundle_text.specs.BundleLine.{PlainLine, input, user, order, file, clock, end, IsBundleLine, IsReadingText, IsTextOf, line_glyphs}
use Rattle.text_reader.specs.Numeral.{is_numeral}
use Rattle.text_reader.proofs.Numerals.{numeral_digits}

-- a line is of glyphs

digit_glyph : (glyph : ℕ) → is_digit glyph ≡ true → IsGlyph glyph
digit_glyph glyph e =
    let parts = both (leb 48 glyph) (leb glyph 57) e in
    (grind (arith, nat_tests), grind (arith, nat_tests), λ same. grind (arith, nat_tests))

file_glyph : (byte : ℕ) → is_file_byte byte ≡ true → IsGlyph byte
file_glyph byte e =
    (grind (arith, nat_tests), grind (arith, nat_tests), λ same. grind (arith, nat_tests))

words_glyphs : (words : List (List ℕ)) → list_all is_numeral words ≡ true → AllByRecursion Glyphs words
words_glyphs [] e = tt
words_glyphs (word ∷ words) e =
    let parts = both (is_numeral word) (list_all is_numeral words) e in
    (passing is_digit digit_glyph word (numeral_digits word parts.0), words_glyphs words parts.1)

pub reading_numerals : (words : List (List ℕ)) → All IsReadingText words → list_all is_numeral words ≡ true
reading_numerals [] each = refl
reading_numerals (word ∷ words) each =
    rw ((All-head IsReadingText word words each).numeral, reading_numerals words (All-tail IsReadingText word words each)) refl

pub name_bytes : (name : List ℕ) → is_file_name name ≡ true → list_all is_file_byte name ≡ true
name_bytes [] e = absurd (false≢true e)
name_bytes (first ∷ rest) e = grind (arith, nat_tests)

pub glyphs_of_line : (line : PlainLine) → IsBundleLine line → All IsGlyph (line_glyphs line)
glyphs_of_line (input line) form = content_glyphs line form
glyphs_of_line (user number) form = heading_glyphs number (omega (arith, form.1))
glyphs_of_line (order numbers) form =
    spaced_glyphs (codes "order" ∷ numbers) (plain_glyphs (codes "order") refl, words_glyphs numbers form.1)
glyphs_of_line (file name) form =
    spaced_glyphs (codes "file" ∷ name ∷ []) (plain_glyphs (codes "file") refl, (passing is_file_byte file_glyph name (name_bytes name form), tt))
glyphs_of_line (clock numbers) form =
    spaced_glyphs (codes "clock" ∷ numbers) (plain_glyphs (codes "clock") refl, words_glyphs numbers (reading_numerals numbers form.1))
glyphs_of_line end form = end_glyphs

pub line_spells : (line : PlainLine) (bytes : List ℕ) → IsTextOf line bytes → Spells bytes (line_glyphs line)
line_spells line bytes text = (glyphs_of_line line text.0, text.1)

pub line_has_no_feed : (line : PlainLine) → IsBundleLine line → HasNoFeed (line_utf8 (line_glyphs line))
line_has_no_feed line form =
    All-weaker (λ byte. 32 ≤ byte) (λ byte. byte ≢ 10) (λ byte high e. omega arith) (line_utf8 (line_glyphs line)) (no_control (line_glyphs line) (glyphs_of_line line form))

-- words of digits, each behind a blank

abbrev pub tails : List (List ℕ) → List ℕ
tails words = flat_map (λ word. 32 ∷ word) words

pub spaced_words : (word : List ℕ) (words : List (List ℕ)) → spaced (word ∷ words) ≡ word ++ tails words
spaced_words word [] = sym (append-nil word)
spaced_words word (next ∷ words) = ap (λ (rest : List ℕ). word ++ 32 ∷ rest) (spaced_words next words)

pub no_digit_begins : (words : List (List ℕ)) → begins is_digit (tails words) ≡ false
no_digit_begins [] = refl
no_digit_begins (word ∷ words) = refl

pub same_tails : (xs ys : List (List ℕ)) → list_all is_numeral xs ≡ true → list_all is_numeral ys ≡ true → tails xs ≡ tails ys → xs ≡ ys
same_tails [] [] a b e = refl
same_tails [] (y ∷ ys) a b e = absurd cc
same_tails (x ∷ xs) [] a b e = absurd cc
same_tails (x ∷ xs) (y ∷ ys) a b e =
    let one = both (is_numeral x) (list_all is_numeral xs) a in
    let other = both (is_numeral y) (list_all is_numeral ys) b in
    let after : x ++ tails xs ≡ y ++ tails ys = cc in
    let same = same_span is_digit x y (tails xs) (tails ys) (numeral_digits x one.0) (numeral_digits y other.0) (no_digit_begins xs) (no_digit_begins ys) after in
    let rest = same_tails xs ys one.1 other.1 same.1 in
    cc (same.0, rest)

-- the first glyph of each line tells what it is

abbrev pub first_glyph : List ℕ → ℕ
first_glyph [] = 0
first_glyph (first ∷ rest) = first

abbrev pub tag : PlainLine → ℕ
tag (input line) = 124
tag (user number) = 117
tag (order numbers) = 111
tag (file name) = 102
tag (clock numbers) = 99
tag end = 101

pub tag_of : (line : PlainLine) → first_glyph (line_glyphs line) ≡ tag line
tag_of (input line) = refl
tag_of (user number) = refl
tag_of (order []) = refl
tag_of (order (word ∷ numbers)) = refl
tag_of (file name) = refl
tag_of (clock []) = refl
tag_of (clock (word ∷ numbers)) = refl
tag_of end = refl

order_tails : (numbers : List (List ℕ)) → spaced (codes "order" ∷ numbers) ≡ codes "order" ++ tails numbers
order_tails numbers = spaced_words (codes "order") numbers

clock_tails : (numbers : List (List ℕ)) → spaced (codes "clock" ∷ numbers) ≡ codes "clock" ++ tails numbers
clock_tails numbers = spaced_words (codes "clock") numbers

same_glyphs : (line other : PlainLine) → tag line ≡ tag other → line_glyphs line ≡ line_glyphs other → IsBundleLine line → IsBundleLine other → line ≡ other
same_glyphs (input line) (input other) t e a b = ap input cc
same_glyphs (user m) (user n) t e a b =
    let digits : decimal m ≡ decimal n = cc in
    ap user (decimal_injective m n (omega (arith, a.1)) (omega (arith, b.1)) digits)
same_glyphs (order xs) (order ys) t e a b =
    let whole : codes "order" ++ tails xs ≡ codes "order" ++ tails ys = sym (order_tails xs) ∙ (e ∙ order_tails ys) in
    let rest : tails xs ≡ tails ys = cc in
    ap order (same_tails xs ys a.1 b.1 rest)
same_glyphs (file x) (file y) t e a b = ap file cc
same_glyphs (clock xs) (clock ys) t e a b =
    let whole : codes "clock" ++ tails xs ≡ codes "clock" ++ tails ys = sym (clock_tails xs) ∙ (e ∙ clock_tails ys) in
    let rest : tails xs ≡ tails ys = cc in
    ap clock (same_tails xs ys (reading_numerals xs a.1) (reading_numerals ys b.1) rest)
same_glyphs end end t e a b = refl
same_glyphs _ _ t e a b = absurd (omega (arith, t))

-- bytes are the text of one line at the most
pub same_line : (line other : PlainLine) (bytes : List ℕ) → IsTextOf line bytes → IsTextOf other bytes → line ≡ other
same_line line other bytes a b =
    let glyphs = one_line bytes (line_glyphs line) (line_glyphs other) (line_spells line bytes a) (line_spells other bytes b) in
    same_glyphs line other (sym (tag_of line) ∙ (ap first_glyph glyphs ∙ tag_of other)) glyphs a.0 b.0
