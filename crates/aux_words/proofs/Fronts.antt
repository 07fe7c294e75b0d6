-- A field up to its blank.
use Rattle.std.proofs.Common.{◌≡◌, ◌∙◌, ℕ, ◌+◌, ◌<◌, ◌≤◌, ◌%◌, Bool, true, false, cond, not, ◌&&◌, ltb, List, [], ◌∷◌, ◌++◌, length, take, drop, Some, None, refl, sym, ap, ap₂, arith, append_assoc, length-append}
use Rattle.std.specs.Fmt.{decimal}
use Rattle.std.specs.List.{list_all, position, position_or_len}
use Rattle.std.proofs.lemmas.Bool.{and_from, and_parts, false≢true, le-ltb, lt-ltb, ne_eqb}
use Rattle.std.proofs.lemmas.Fmt.{decimal_by_steps}
use Rattle.std.proofs.lemmas.List.{drop_at, take_at}
use Rattle.std.proofs.lemmas.List.Folds.{list_all-append}
use Rattle.apl_arrays.specs.File.{IsFileName, is_file_byte}
use Rattle.apl_arrays.specs.Glyph.{blank, is_blank}
use Rattle.apl_arrays.specs.Word.{is_no_blank}
use Rattle.aux_words.specs.Fields.{cut_at, cut_at_blank}
use Rattle.aux_words.specs.Number.{greatest_number}

-- the first blank stands behind the front
first_blank : (front rest : List ℕ) → list_all is_no_blank front ≡ true → position_or_len is_blank (front ++ blank ∷ rest) ≡ length front
first_blank [] rest none = refl
first_blank (glyph ∷ front) rest none =
    let parts = and_parts (is_no_blank glyph) (list_all is_no_blank front) none in
    let step = first_blank front rest parts.1 in
    ap (λ b. cond b (1 + position_or_len is_blank (front ++ blank ∷ rest)) 0) parts.0 ∙ (let whole : 1 + position_or_len is_blank (front ++ blank ∷ rest) ≡ length (glyph ∷ front) = omega (arith, step) in whole)

no_blank : (line : List ℕ) → list_all is_no_blank line ≡ true → position_or_len is_blank line ≡ length line
no_blank [] none = refl
no_blank (glyph ∷ line) none =
    let parts = and_parts (is_no_blank glyph) (list_all is_no_blank line) none in
    let step = no_blank line parts.1 in
    ap (λ b. cond b (1 + position_or_len is_blank line) 0) parts.0 ∙ (let whole : 1 + position_or_len is_blank line ≡ length (glyph ∷ line) = omega (arith, step) in whole)

place_is : (line : List ℕ) (place : ℕ) → position_or_len is_blank line ≡ place → place < length line → position is_blank line ≡ Some place
place_is line place is within =
    ap (λ n. cond (ltb n (length line)) (Some n) None) is ∙ ap (λ b. cond b (Some place) None) (lt-ltb place (length line) within)

pub front_is_cut : (front rest : List ℕ) → list_all is_no_blank front ≡ true → cut_at_blank (front ++ blank ∷ rest) ≡ Some (front, rest)
front_is_cut front rest none =
    let place : position is_blank (front ++ blank ∷ rest) ≡ Some (length front) =
    place_is (front ++ blank ∷ rest) (length front) (first_blank front rest none) (omega (arith, length-append front (blank ∷ rest))) in
    let before : take (length front) (front ++ blank ∷ rest) ≡ front = take_at front (blank ∷ rest) (length front) refl in
    let behind : drop (length front + 1) (front ++ blank ∷ rest) ≡ rest =
    ap (drop (length front + 1)) (sym (append_assoc front (blank ∷ []) rest)) ∙ drop_at (front ++ blank ∷ []) rest (length front + 1) (length-append front (blank ∷ [])) in
    ap (cut_at (front ++ blank ∷ rest)) place ∙ ap₂ (λ (f r : List ℕ). Some (f, r)) before behind

pub nothing_is_cut : (line : List ℕ) → list_all is_no_blank line ≡ true → cut_at_blank line ≡ None
nothing_is_cut line none =
    let past : ltb (position_or_len is_blank line) (length line) ≡ false = le-ltb (position_or_len is_blank line) (length line) (omega (arith, no_blank line none)) in
    ap (λ b. cut_at line (cond b (Some (position_or_len is_blank line)) None)) past

-- digits are no blanks
digit_is_no_blank : (digit : ℕ) → digit < 10 → is_no_blank (48 + digit) ≡ true
digit_is_no_blank digit small = ap not (ne_eqb (48 + digit) 32 (λ same. omega (arith, same)))

pub number_has_no_blank : (number : ℕ) → number ≤ greatest_number → list_all is_no_blank (decimal number) ≡ true
number_has_no_blank number fits =
    decimal_by_steps (λ _ digits. list_all is_no_blank digits ≡ true)
    (λ n small. ap (λ b. b && true) (digit_is_no_blank n small))
    (λ n digits large before. list_all-append is_no_blank digits ((48 + n % 10) ∷ []) ∙ ap₂ (λ (b c : Bool). b && (c && true)) before (digit_is_no_blank (n % 10) (omega arith)))
    number (omega (arith, fits))

-- the bytes of a file's name are none
byte_is_no_blank : (byte : ℕ) → is_file_byte byte ≡ true → is_no_blank byte ≡ true
byte_is_no_blank byte is = ap not (ne_eqb byte 32 (λ same. false≢true (sym (ap is_file_byte same) ∙ is)))

bytes_have_no_blank : (bytes : List ℕ) → list_all is_file_byte bytes ≡ true → list_all is_no_blank bytes ≡ true
bytes_have_no_blank [] all = refl
bytes_have_no_blank (byte ∷ bytes) all =
    let parts = and_parts (is_file_byte byte) (list_all is_file_byte bytes) all in
    and_from (is_no_blank byte) (list_all is_no_blank bytes) (byte_is_no_blank byte parts.0) (bytes_have_no_blank bytes parts.1)

pub name_has_no_blank : (name : List ℕ) → IsFileName name → list_all is_no_blank name ≡ true
name_has_no_blank [] is = refl
name_has_no_blank (first ∷ rest) is = bytes_have_no_blank (first ∷ rest) (and_parts _ (list_all is_file_byte (first ∷ rest)) is).1
