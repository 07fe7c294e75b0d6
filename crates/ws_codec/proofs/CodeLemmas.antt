-- Codes of glyphs and of names.
use Rattle.std.proofs.Common.{◌≡◌, ℕ, ◌<◌, ◌≤◌, Bool, true, false, ◌&&◌, List, [], ◌∷◌, None, Some, length, get_or, refl, sym, ◌∙◌, arith}
use Rattle.std.specs.Prelude.{nat_le, if◌then◌else◌}
use Rattle.std.specs.List.{list_all, prefix_len}
use Rattle.std.proofs.lemmas.Bool.{and_parts, false≢true, leb-true}
use Rattle.std.proofs.lemmas.Bool.Decides.{nat_tests}
use Rattle.std.proofs.lemmas.List.Folds.{list_all_at}
use Rattle.std.proofs.lemmas.List.Sums.{prefix_len-le-length}
use Rattle.apl_arrays.specs.Glyph.{IsGlyph, is_letter}
use Rattle.apl_arrays.specs.Name.{IsName, goes_on, is_name}
use Rattle.ws_codec.specs.Fields.{is_code, name_of_codes}

-- the codes at the front are no more than all bytes
pub run_fits : (bytes : List ℕ) → prefix_len is_code bytes ≤ length bytes
run_fits bytes = prefix_len-le-length is_code bytes

-- the test is of glyphs
pub is_glyph : (byte : ℕ) → is_code byte ≡ true → IsGlyph byte
is_glyph byte e = grind (arith, nat_tests)

pub passes_at : (codes : List ℕ) (i d : ℕ) → list_all is_code codes ≡ true → i < length codes → is_code (get_or codes i d) ≡ true
passes_at codes i d all lt = by (is_code (get_or codes i d)) refl
  where
    by : (b : Bool) → is_code (get_or codes i d) ≡ b → is_code (get_or codes i d) ≡ true
    by true e = e
    by false e = absurd (false≢true (sym (list_all_at is_code codes i d lt e) ∙ all))

-- each of codes is of a glyph
pub coded_at : (codes : List ℕ) (i d : ℕ) → list_all is_code codes ≡ true → i < length codes → IsGlyph (get_or codes i d)
coded_at codes i d all lt = is_glyph (get_or codes i d) (passes_at codes i d all lt)

-- names are of codes

letter_is_code : (x : ℕ) → is_letter x ≡ true → is_code x ≡ true
letter_is_code x e = grind (arith, nat_tests)

goes_on_is_code : (x : ℕ) → goes_on x ≡ true → is_code x ≡ true
goes_on_is_code x e = grind (arith, nat_tests)

all_go_on : (xs : List ℕ) → list_all goes_on xs ≡ true → list_all is_code xs ≡ true
all_go_on [] e = refl
all_go_on (x ∷ xs) e =
    let parts = and_parts (goes_on x) (list_all goes_on xs) e in
    rw (goes_on_is_code x parts.0) (all_go_on xs parts.1)

pub name_is_coded : (bytes : List ℕ) → is_name bytes ≡ true → list_all is_code bytes ≡ true
name_is_coded [] e = absurd (false≢true e)
name_is_coded (x ∷ xs) e =
    let parts = and_parts (is_letter x && nat_le (length xs) 31) (list_all goes_on xs) e in
    let front = and_parts (is_letter x) (nat_le (length xs) 31) parts.0 in
    rw (letter_is_code x front.0) (all_go_on xs parts.1)

none_by : (bytes : List ℕ) (b : Bool) → is_name bytes ≡ b → list_all is_code bytes ≡ false → (if b then Some bytes else None) ≡ None
none_by bytes true e all = absurd (false≢true (sym all ∙ name_is_coded bytes e))
none_by bytes false e all = refl

-- bytes that are not all codes are no name
pub no_name : (bytes : List ℕ) → list_all is_code bytes ≡ false → None ≡ name_of_codes bytes
no_name bytes all = sym (none_by bytes (is_name bytes) refl all)

-- a name has 32 glyphs at the most
pub names_are_short : (name : List ℕ) → IsName name → length name ≤ 32
names_are_short [] e = omega arith
names_are_short (x ∷ xs) e =
    let parts = and_parts (is_letter x && nat_le (length xs) 31) (list_all goes_on xs) e in
    let front = and_parts (is_letter x) (nat_le (length xs) 31) parts.0 in
    let few : length xs ≤ 31 = leb-true (length xs) 31 front.1 in
    omega (arith, few)
