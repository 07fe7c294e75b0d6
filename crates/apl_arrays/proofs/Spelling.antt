-- A text of glyphs is read in one way.
use Rattle.std.proofs.Common.{◌≡◌, true, ℕ, ◌+◌, ◌-◌, ◌/◌, replicate, ◌%◌, ◌<◌, ◌≤◌, List, [], ◌∷◌, ◌++◌, length, get_or, take, drop, refl, sym, ap, ◌∙◌, ⊎_elim, arith, length-append, append_assoc, append-nil}
use Rattle.std.proofs.Math.Dec.{ltb}
use Rattle.std.proofs.lemmas.Bool.{cases_lt, ltb-true}
use Rattle.std.proofs.lemmas.List.Sums.{AllPass-from_list_all}
use Rattle.std.proofs.lemmas.List.{take_all, take_more}
use Rattle.std.proofs.Math.Seq.{take-append_seam}
use Rattle.std.proofs.lemmas.List.Concat.{flat_map-append}
use Rattle.std.proofs.lemmas.List.Elements.{All-head, All-tail, All-cons, All-nil, All-append}
use Rattle.std.proofs.lemmas.Str.{encode_same, length-encode, len_utf8_bounds}
use Rattle.std.specs.Char.{encode_utf8}
use Rattle.std.specs.List.{All, list_all}
use Rattle.apl_arrays.proofs.Glyphs.{same_code, scalar_of_bound, scalar_of_low}
use Rattle.apl_arrays.proofs.Scalars.{encode_one, encode_two, encode_three}
use Rattle.apl_arrays.specs.Glyph.{IsGlyph, scalar_of, glyph_utf8, line_utf8, Spells, StartsWithNoGlyph, IsBadFrom}

-- a glyph of ASCII is one byte: its code
pub bytes_of_low : (code : ℕ) → code < 128 → glyph_utf8 code ≡ code ∷ []
bytes_of_low code low = ap encode_utf8 (scalar_of_low code low) ∙ encode_one code low

-- glyphs of ASCII are as many bytes: their codes
pub codes_are_bytes : (line : List ℕ) → All (λ code. code < 128) line → line_utf8 line ≡ line
codes_are_bytes [] low = refl
codes_are_bytes (code ∷ rest) low =
    let first : glyph_utf8 code ≡ code ∷ [] = bytes_of_low code (All-head (λ code. code < 128) code rest low) in
    let others : line_utf8 rest ≡ rest = codes_are_bytes rest (All-tail (λ code. code < 128) code rest low) in
    ap (λ (front : List ℕ). front ++ line_utf8 rest) first ∙ ap (λ (back : List ℕ). code ∷ back) others

-- glyphs come off two texts in the same way, until no glyph stands at the front
pub same_split : (line other rest left : List ℕ) → All IsGlyph line → All IsGlyph other → StartsWithNoGlyph rest → StartsWithNoGlyph left → line_utf8 line ++ rest ≡ line_utf8 other ++ left → (line ≡ other) × (rest ≡ left)
same_split [] [] rest left a b none nothing e = (refl, e)
same_split [] (y ∷ ys) rest left a b none nothing e =
    absurd (none y (line_utf8 ys ++ left) (All-head IsGlyph y ys b) (e ∙ append_assoc (glyph_utf8 y) (line_utf8 ys) left))
same_split (x ∷ xs) [] rest left a b none nothing e =
    absurd (nothing x (line_utf8 xs ++ rest) (All-head IsGlyph x xs a) (sym e ∙ append_assoc (glyph_utf8 x) (line_utf8 xs) rest))
same_split (x ∷ xs) (y ∷ ys) rest left a b none nothing e =
    let parts = encode_same (scalar_of x) (scalar_of y) (line_utf8 xs ++ rest) (line_utf8 ys ++ left) (sym (append_assoc (glyph_utf8 x) (line_utf8 xs) rest) ∙ (e ∙ append_assoc (glyph_utf8 y) (line_utf8 ys) left)) in
    let heads = same_code x y (All-head IsGlyph x xs a) (All-head IsGlyph y ys b) parts.0 in
    let tails = same_split xs ys rest left (All-tail IsGlyph x xs a) (All-tail IsGlyph y ys b) none nothing parts.1 in
    (cc (heads, tails.0), tails.1)

pub no_glyph_in_nothing : StartsWithNoGlyph []
no_glyph_in_nothing code rest glyph e =
    omega (arith, ap length e ∙ length-append (glyph_utf8 code) rest, length-encode (scalar_of code), len_utf8_bounds (scalar_of code))

pub one_line : (bytes line other : List ℕ) → Spells bytes line → Spells bytes other → line ≡ other
one_line bytes line other a b =
    (same_split line other [] [] a.0 b.0 no_glyph_in_nothing no_glyph_in_nothing (append-nil (line_utf8 line) ∙ (sym a.1 ∙ (b.1 ∙ sym (append-nil (line_utf8 other)))))).0

pub bad_nowhere : (bytes line : List ℕ) (offset : ℕ) → Spells bytes line → IsBadFrom bytes offset → ⊥
bad_nowhere bytes line offset a b =
    let split = same_split line b.line [] b.rest a.0 b.glyphs no_glyph_in_nothing b.bad (append-nil (line_utf8 line) ∙ (sym a.1 ∙ b.whole)) in
    omega (arith, ap length split.1, b.more)

pub one_place : (bytes : List ℕ) (offset other : ℕ) → IsBadFrom bytes offset → IsBadFrom bytes other → offset ≡ other
one_place bytes offset other a b =
    let split = same_split a.line b.line a.rest b.rest a.glyphs b.glyphs a.bad b.bad (sym a.whole ∙ b.whole) in
    a.place ∙ (ap (λ line. length (line_utf8 line)) split.0 ∙ sym b.place)

pub bad_here : (bytes line rest : List ℕ) → All IsGlyph line → bytes ≡ line_utf8 line ++ rest → 0 < length rest → StartsWithNoGlyph rest → IsBadFrom bytes (length bytes - length rest)
bad_here bytes line rest glyphs whole more bad = record {
  line = line;
  rest = rest;
  glyphs = glyphs;
  whole = whole;
  place = omega (arith, ap length whole ∙ length-append (line_utf8 line) rest);
  more = more;
  bad = bad;
}

pub spelled_whole : (bytes line rest : List ℕ) → All IsGlyph line → bytes ≡ line_utf8 line ++ rest → length rest ≡ 0 → Spells bytes line
spelled_whole bytes line [] glyphs whole none = (glyphs, whole ∙ append-nil (line_utf8 line))
spelled_whole bytes line (x ∷ xs) glyphs whole none = absurd (omega arith)

-- one glyph more

pub one_more : (bytes line rest : List ℕ) (glyph taken : ℕ) → bytes ≡ line_utf8 line ++ rest → rest ≡ glyph_utf8 glyph ++ drop taken rest → bytes ≡ line_utf8 (line ++ glyph ∷ []) ++ drop taken rest
one_more bytes line rest glyph taken whole front =
    let joined = flat_map-append glyph_utf8 line (glyph ∷ []) ∙ ap (λ end. line_utf8 line ++ end) (append-nil (glyph_utf8 glyph)) in
    whole ∙ (ap (λ end. line_utf8 line ++ end) front ∙ (sym (append_assoc (line_utf8 line) (glyph_utf8 glyph) (drop taken rest)) ∙ ap (λ text. text ++ drop taken rest) (sym joined)))

pub line_more : (items : List ℕ) (place glyph : ℕ) → place < length items → glyph ≡ get_or items place glyph → line_utf8 (take (place + 1) items) ≡ line_utf8 (take place items) ++ glyph_utf8 glyph
line_more items place glyph within read =
    let longer = take_more items place glyph within in
    ap line_utf8 (longer ∙ ap (λ last. take place items ++ last ∷ []) (sym read)) ∙ (flat_map-append glyph_utf8 (take place items) (glyph ∷ []) ∙ ap (λ end. line_utf8 (take place items) ++ end) (append-nil (glyph_utf8 glyph)))

-- no byte is a control character

abbrev IsNoControl : ℕ → Type 0
IsNoControl byte = 32 ≤ byte

all_of_one : (a : ℕ) → IsNoControl a → All IsNoControl (a ∷ [])
all_of_one a h = All-cons IsNoControl a [] h (All-nil IsNoControl)

all_of_two : (a b : ℕ) → IsNoControl a → IsNoControl b → All IsNoControl (a ∷ b ∷ [])
all_of_two a b h i = All-cons IsNoControl a (b ∷ []) h (all_of_one b i)

all_of_three : (a b c : ℕ) → IsNoControl a → IsNoControl b → IsNoControl c → All IsNoControl (a ∷ b ∷ c ∷ [])
all_of_three a b c h i j = All-cons IsNoControl a (b ∷ c ∷ []) h (all_of_two b c i j)

glyph_bytes : (code : ℕ) → IsGlyph code → All IsNoControl (glyph_utf8 code)
glyph_bytes code glyph =
    let bound = scalar_of_bound code glyph in
    let s : ℕ = scalar_of code in
    ⊎_elim (λ low. rw (encode_one s low) (all_of_one s bound.0))
    (λ high.
    ⊎_elim (λ low. rw (encode_two s high low) (all_of_two (192 + s / 64) (128 + s % 64) (omega arith) (omega arith)))
    (λ higher. rw (encode_three s higher (omega arith)) (all_of_three (224 + s / 4096) (128 + s / 64 % 64) (128 + s % 64) (omega arith) (omega arith) (omega arith)))
    (cases_lt s 2048))
    (cases_lt s 128)

pub no_control : (line : List ℕ) → All IsGlyph line → All (λ byte. 32 ≤ byte) (line_utf8 line)
no_control [] glyphs = All-nil IsNoControl
no_control (x ∷ xs) glyphs =
    All-append IsNoControl (glyph_utf8 x) (line_utf8 xs) (glyph_bytes x (All-head IsGlyph x xs glyphs)) (no_control xs (All-tail IsGlyph x xs glyphs))

-- codes that all pass the test are below 128
pub low_codes : (line : List ℕ) → list_all (λ code. ltb code 128) line ≡ true → All (λ code. code < 128) line
low_codes line pass = λ place other within. ltb-true (get_or line place other) 128 (AllPass-from_list_all (λ code. ltb code 128) line pass place other within)

-- codes that are written behind bytes, over as many places that were filled up, stand behind them
pub codes_stand : (before line filled made : List ℕ) (start whole : ℕ) → start ≡ length before → whole ≡ start + length line → filled ≡ take whole before ++ replicate (whole - start) 0 → made ≡ take start filled ++ line → list_all (λ code. ltb code 128) line ≡ true → take whole (made ++ drop (length made) filled) ≡ before ++ line_utf8 line
codes_stand before line filled made start whole from to fills made_of low =
    let kept : take whole before ≡ before = take_all whole before (omega (arith, from, to)) in
    let front : take start filled ≡ before = ap (take start) (fills ∙ ap (λ (k : List ℕ). k ++ replicate (whole - start) 0) kept) ∙ (ap (λ (k : ℕ). take k (before ++ replicate (whole - start) 0)) from ∙ take-append_seam before (replicate (whole - start) 0)) in
    let is : made ≡ before ++ line = made_of ∙ ap (λ (k : List ℕ). k ++ line) front in
    let count : whole ≡ length made = omega (arith, from, to, ap length is ∙ length-append before line) in
    ap (λ (k : ℕ). take k (made ++ drop (length made) filled)) count ∙ (take-append_seam made (drop (length made) filled) ∙ (is ∙ ap (λ (k : List ℕ). before ++ k) (sym (codes_are_bytes line (low_codes line low)))))
