-- Texts of glyphs.
use Rattle.std.proofs.Common.{◌≡◌, ℕ, ℤ, pos, negsuc, suc, ◌<◌, ◌^◌, Bool, true, leb, List, [], ◌∷◌, ◌++◌, map, codes, refl, arith}
use Rattle.std.proofs.lemmas.Bool.Decides.{nat_tests}
use Rattle.std.proofs.lemmas.List.Elements.{All-nil, All-cons, All-append, recursion_from_All}
use Rattle.std.specs.Fmt.{decimal}
use Rattle.std.specs.List.{All, list_all, flat_map, AllByRecursion}
use Rattle.apl_arrays.specs.Glyph.{IsGlyph, bar, blank, overbar}
use Rattle.line_text.specs.Lines.{heading, content, user_lines, end_line}
use Rattle.line_text.specs.Number.{number_text}
use Rattle.line_text.specs.Spaced.{is_plain, spaced}
use Rattle.line_text.proofs.Decimals.{digits_are_plain}
use Rattle.line_text.proofs.SameNumbers.{Fits64}
use Rattle.line_text.proofs.Spans.{both}

abbrev pub Glyphs : List ℕ → Type 0
Glyphs text = All IsGlyph text

pub none : Glyphs []
none = All-nil IsGlyph

pub with_first : (glyph : ℕ) (text : List ℕ) → IsGlyph glyph → Glyphs text → Glyphs (glyph ∷ text)
with_first = All-cons IsGlyph

pub joined : (text more : List ℕ) → Glyphs text → Glyphs more → Glyphs (text ++ more)
joined = All-append IsGlyph

pub passing : (p : ℕ → Bool) → ((glyph : ℕ) → p glyph ≡ true → IsGlyph glyph) → (text : List ℕ) → list_all p text ≡ true → Glyphs text
passing p known [] e = none
passing p known (x ∷ xs) e =
    let parts = both (p x) (list_all p xs) e in
    with_first x xs (known x parts.0) (passing p known xs parts.1)

plain_glyph : (glyph : ℕ) → is_plain glyph ≡ true → IsGlyph glyph
plain_glyph glyph e =
    let parts = both (leb 32 glyph) (leb glyph 126) e in
    (grind (arith, nat_tests), grind (arith, nat_tests), λ same. grind (arith, nat_tests))

pub plain_glyphs : (text : List ℕ) → list_all is_plain text ≡ true → Glyphs text
plain_glyphs = passing is_plain plain_glyph

pub count_glyphs : (n : ℕ) → n < 2 ^ 64 → Glyphs (decimal n)
count_glyphs n fits = plain_glyphs (decimal n) (digits_are_plain n fits)

pub number_glyphs : (z : ℤ) → Fits64 z → Glyphs (number_text z)
number_glyphs (pos n) fits = count_glyphs n (omega arith)
number_glyphs (negsuc n) fits =
    with_first overbar (decimal (suc n)) (omega arith, omega arith, λ same. omega arith) (count_glyphs (suc n) (omega arith))

blank_glyph : IsGlyph blank
blank_glyph = (omega arith, omega arith, λ same. omega arith)

pub spaced_glyphs : (texts : List (List ℕ)) → AllByRecursion Glyphs texts → Glyphs (spaced texts)
spaced_glyphs [] a = none
spaced_glyphs (x ∷ []) a = a.0
spaced_glyphs (x ∷ y ∷ texts) a =
    joined x (32 ∷ spaced (y ∷ texts)) a.0 (with_first blank (spaced (y ∷ texts)) blank_glyph (spaced_glyphs (y ∷ texts) a.1))

pub each_text : {A : Type 0} (f : A → List ℕ) (ok : A → Type 0) → ((x : A) → ok x → Glyphs (f x)) → (xs : List A) → AllByRecursion ok xs → AllByRecursion Glyphs (map f xs)
each_text f ok known [] a = tt
each_text f ok known (x ∷ xs) a = (known x a.0, each_text f ok known xs a.1)

pub all_texts : {A : Type 0} (f : A → List ℕ) (ok : A → Type 0) → ((x : A) → ok x → Glyphs (f x)) → (xs : List A) → AllByRecursion ok xs → Glyphs (flat_map f xs)
all_texts f ok known [] a = none
all_texts f ok known (x ∷ xs) a = joined (f x) (flat_map f xs) (known x a.0) (all_texts f ok known xs a.1)

-- lines

abbrev pub AreGlyphs : List (List ℕ) → Type 0
AreGlyphs lines = All Glyphs lines

pub content_glyphs : (line : List ℕ) → Glyphs line → Glyphs (content line)
content_glyphs line a = with_first bar line (omega arith, omega arith, λ same. omega arith) a

contents_glyphs : (lines : List (List ℕ)) → AllByRecursion Glyphs lines → AreGlyphs (map content lines)
contents_glyphs [] a = All-nil Glyphs
contents_glyphs (x ∷ xs) a =
    All-cons Glyphs (content x) (map content xs) (content_glyphs x a.0) (contents_glyphs xs a.1)

pub heading_glyphs : (number : ℕ) → number < 2 ^ 64 → Glyphs (heading number)
heading_glyphs number fits =
    spaced_glyphs (codes "user" ∷ decimal number ∷ []) (plain_glyphs (codes "user") refl, (count_glyphs number fits, tt))

pub user_lines_glyphs : (number : ℕ) (lines : List (List ℕ)) → number < 2 ^ 64 → AreGlyphs lines → AreGlyphs (user_lines number lines)
user_lines_glyphs number lines fits each =
    All-cons Glyphs (heading number) (map content lines) (heading_glyphs number fits) (contents_glyphs lines (recursion_from_All Glyphs lines each))

pub end_glyphs : Glyphs end_line
end_glyphs = plain_glyphs end_line refl
