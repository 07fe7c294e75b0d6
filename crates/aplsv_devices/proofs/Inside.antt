-- Names lead to files of the folder that they stand behind.
use Rattle.std.proofs.Common.{◌≡◌, ◌≢◌, ◌+◌, ◌-◌, ◌/◌, ◌%◌, ◌<◌, ◌≤◌, ◌⊎◌, ◌&&◌, ◌||◌, ◌++◌, ⊎_elim, ℕ, List, [], ◌∷◌, true, not, length, get_or, refl, sym, subst, arith, eqb}
use Rattle.std.proofs.Math.Dec.{leb}
use Rattle.std.proofs.lemmas.Bool.{false≢true, and_parts, or_left, cases_lt}
use Rattle.std.proofs.lemmas.Bool.Decides.{nat_tests}
use Rattle.std.proofs.lemmas.List.Elements.{All-nil, All-cons, All-append}
use Rattle.std.proofs.lemmas.List.Sums.{AllPass-from_list_all}
use Rattle.std.specs.Char.{encode_utf8}
use Rattle.std.specs.List.{All, list_all}
use Rattle.apl_arrays.proofs.Scalars.{encode_two, encode_three}
use Rattle.apl_arrays.proofs.Spelling.{bytes_of_low}
use Rattle.apl_arrays.specs.File.{IsFileName, is_file_byte}
use Rattle.apl_arrays.specs.Glyph.{delta, glyph_utf8, is_digit, is_letter, line_utf8, period, underscore}
use Rattle.apl_arrays.specs.Limits.{most_file_name_bytes, most_name_glyphs}
use Rattle.apl_arrays.specs.Name.{IsName, goes_on}
use Rattle.aplsv_devices.specs.Paths.{slash, ShowsItself, StaysInside}

abbrev IsNoSlash : ℕ → Type 0
IsNoSlash byte = byte ≢ slash

file_byte : (byte : ℕ) → is_file_byte byte ≡ true → byte ≢ slash
file_byte byte is same = let P : ℕ → Type 0 = λ b. is_file_byte b ≡ true in false≢true (subst P same is)

no_dot : (byte : ℕ) → not (eqb byte period) ≡ true → byte ≢ period
no_dot byte is same = let P : ℕ → Type 0 = λ b. not (eqb b period) ≡ true in false≢true (subst P same is)

pub file_stays : (name : List ℕ) → IsFileName name → StaysInside name
file_stays [] is = absurd (false≢true is)
file_stays (first ∷ rest) is =
    let parts = and_parts (not (eqb first period) && leb (length rest) (most_file_name_bytes - 1)) (list_all is_file_byte (first ∷ rest)) is in
    let front = and_parts (not (eqb first period)) (leb (length rest) (most_file_name_bytes - 1)) parts.0 in
    record {
      shown = no_dot first front.0;
      one_name = λ place other within. file_byte (get_or (first ∷ rest) place other) (AllPass-from_list_all is_file_byte (first ∷ rest) parts.1 place other within);
    }

-- what a name goes on with is ∆ or of ASCII
kinds : (code : ℕ) → goes_on code ≡ true → (code ≡ delta) ⊎ (code < 128)
kinds code is = grind (arith, nat_tests)

no_slash : (code : ℕ) → goes_on code ≡ true → code ≢ slash
no_slash code is same = let P : ℕ → Type 0 = λ c. goes_on c ≡ true in false≢true (subst P same is)

letter_is_no_dot : (code : ℕ) → is_letter code ≡ true → code ≢ period
letter_is_no_dot code is same = let P : ℕ → Type 0 = λ c. is_letter c ≡ true in false≢true (subst P same is)

letter_goes_on : (code : ℕ) → is_letter code ≡ true → goes_on code ≡ true
letter_goes_on code is = or_left (is_letter code || is_digit code) (eqb code underscore) (or_left (is_letter code) (is_digit code) is)

-- ∆ in UTF-8
delta_bytes : glyph_utf8 delta ≡ 226 ∷ 136 ∷ 134 ∷ []
delta_bytes = encode_three 0x2206 (omega arith) (omega arith)

delta_free : All IsNoSlash (glyph_utf8 delta)
delta_free =
    rw delta_bytes (All-cons IsNoSlash 226 (136 ∷ 134 ∷ []) (λ same. omega arith) (All-cons IsNoSlash 136 (134 ∷ []) (λ same. omega arith) (All-cons IsNoSlash 134 [] (λ same. omega arith) (All-nil IsNoSlash))))

delta_shows : ShowsItself (glyph_utf8 delta)
delta_shows = rw delta_bytes (λ same. omega arith)

glyph_free : (code : ℕ) → goes_on code ≡ true → All IsNoSlash (glyph_utf8 code)
glyph_free code is =
    ⊎_elim (λ same. let P : ℕ → Type 0 = λ c. All IsNoSlash (glyph_utf8 c) in subst P (sym same) delta_free)
    (λ low. rw (bytes_of_low code low) (All-cons IsNoSlash code [] (no_slash code is) (All-nil IsNoSlash)))
    (kinds code is)

letter_shows : (code : ℕ) → is_letter code ≡ true → ShowsItself (glyph_utf8 code)
letter_shows code is =
    ⊎_elim (λ same. let P : ℕ → Type 0 = λ c. ShowsItself (glyph_utf8 c) in subst P (sym same) delta_shows)
    (λ low. rw (bytes_of_low code low) (letter_is_no_dot code is))
    (kinds code (letter_goes_on code is))

line_free : (line : List ℕ) → list_all goes_on line ≡ true → All IsNoSlash (line_utf8 line)
line_free [] pass = All-nil IsNoSlash
line_free (code ∷ rest) pass =
    let parts = and_parts (goes_on code) (list_all goes_on rest) pass in
    All-append IsNoSlash (glyph_utf8 code) (line_utf8 rest) (glyph_free code parts.0) (line_free rest parts.1)

-- what shows itself does so with more behind it
shows_with : (front rest : List ℕ) → ShowsItself front → ShowsItself (front ++ rest)
shows_with [] rest shown = absurd shown
shows_with (first ∷ front) rest shown = shown

pub name_stays : (name : List ℕ) → IsName name → StaysInside (line_utf8 name)
name_stays [] is = absurd (false≢true is)
name_stays (first ∷ rest) is =
    let parts = and_parts (is_letter first && leb (length rest) (most_name_glyphs - 1)) (list_all goes_on rest) is in
    let front = and_parts (is_letter first) (leb (length rest) (most_name_glyphs - 1)) parts.0 in
    record {
      shown = shows_with (glyph_utf8 first) (line_utf8 rest) (letter_shows first front.0);
      one_name = All-append IsNoSlash (glyph_utf8 first) (line_utf8 rest) (glyph_free first (letter_goes_on first front.0)) (line_free rest parts.1);
    }
