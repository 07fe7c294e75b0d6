-- How many bytes glyphs and lines take.
use Rattle.std.proofs.Common.{◌≡◌, ℕ, ◌+◌, ◌-◌, ◌<◌, ◌≤◌, ◌^◌, Bool, true, ◌||◌, cond, eqb, List, [], ◌∷◌, length, take, get_or, codes, refl, ap, ◌∙◌, arith, length-append, zero-add, subst}
use Rattle.std.proofs.lemmas.Bool.{eqb-true}
use Rattle.std.proofs.lemmas.List.FromFn.{get_or-range_with_len, length-range_with_len}
use Rattle.std.proofs.lemmas.List.Sums.{AllPass-from_list_all}
use Rattle.std.proofs.lemmas.Str.{length-encode}
use Rattle.std.specs.Char.{encode_utf8, len_utf8}
use Rattle.std.specs.Fmt.{decimal}
use Rattle.std.specs.List.{list_all, range_with_len}
use Rattle.apl_arrays.specs.Glyph.{IsGlyph, scalars, scalar_of, glyph_utf8, line_utf8, times, divide, overbar}
use Rattle.apl_arrays.proofs.Glyphs.{scalar_of_low, scalar_of_high}
use Rattle.apl_arrays.proofs.Scalars.{encode_one}
use Rattle.apl_arrays.proofs.Spelling.{line_more}
use Rattle.line_text.specs.Lines.{heading, line_text}
use Rattle.line_text.proofs.Ascii.{heading_utf8}

-- the glyphs of two bytes, by their codes
abbrev takes_two : ℕ → Bool
takes_two code = eqb code times || eqb code divide || eqb code overbar

-- and by their places in the table
abbrev is_short : ℕ → Bool
is_short place = takes_two (place + 128)

abbrev sized_at : ℕ → Bool
sized_at place = eqb (len_utf8 (get_or scalars place 0)) (cond (is_short place) 2 3)

table_sized : list_all sized_at (range_with_len 0 35) ≡ true
table_sized = refl

sized : (place : ℕ) → place < 35 → len_utf8 (get_or scalars place 0) ≡ cond (is_short place) 2 3
sized place below =
    let within : place < length (range_with_len 0 35) = omega (arith, length-range_with_len 0 35) in
    let at = AllPass-from_list_all sized_at (range_with_len 0 35) table_sized place 0 within in
    eqb-true _ _ (subst (λ n. sized_at n ≡ true) (get_or-range_with_len 0 35 place 0 below ∙ zero-add place) at)

pub one_byte : (code : ℕ) → code < 128 → length (glyph_utf8 code) ≡ 1
one_byte code low = ap length (ap encode_utf8 (scalar_of_low code low) ∙ encode_one code low)

pub more_bytes : (code : ℕ) → IsGlyph code → 128 ≤ code → length (glyph_utf8 code) ≡ cond (takes_two code) 2 3
more_bytes code glyph high =
    let same : code - 128 + 128 ≡ code = omega arith in
    length-encode (scalar_of code) ∙ (ap len_utf8 (scalar_of_high code high) ∙ (sized (code - 128) (omega arith) ∙ ap (λ n. cond (takes_two n) 2 3) same))

-- one glyph more
pub size_more : (items : List ℕ) (place glyph size one : ℕ) → place < length items → glyph ≡ get_or items place glyph → size ≡ length (line_utf8 (take place items)) + 1 → one ≡ length (glyph_utf8 glyph) → size + one ≡ length (line_utf8 (take (place + 1) items)) + 1
size_more items place glyph size one within read so_far is =
    omega (arith, ap length (line_more items place glyph within read), length-append (line_utf8 (take place items)) (glyph_utf8 glyph))

-- a heading
pub heading_size : (number : ℕ) → number < 2 ^ 64 → length (line_text (heading number)) ≡ 6 + length (decimal number)
heading_size number fits =
    let text = heading_utf8 number fits in
    omega (arith, length-append (line_utf8 (heading number)) (10 ∷ []), ap length text, length-append (codes "user ") (decimal number))
