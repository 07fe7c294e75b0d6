-- The texts of values are texts of glyphs.
use Rattle.std.proofs.Common.{◌≡◌, ℕ, ◌<◌, ◌^◌, Option, Some, None, IfSome, List, [], ◌∷◌, ◌++◌, map, codes, refl, ⊎_elim, arith}
use Rattle.std.proofs.lemmas.List.Elements.{recursion_from_All}
use Rattle.std.specs.Fmt.{decimal}
use Rattle.std.specs.List.{flat_map}
use Rattle.apl_arrays.specs.Array.{PlainItems, numbers, chars, PlainArray}
use Rattle.apl_arrays.specs.Glyph.{IsGlyph, quote}
use Rattle.line_text.specs.Number.{number_text}
use Rattle.line_text.specs.Spaced.{spaced}
use Rattle.line_text.proofs.GlyphTexts.{Glyphs, none, with_first, joined, plain_glyphs, count_glyphs, number_glyphs, spaced_glyphs, each_text, all_texts}
use Rattle.line_text.proofs.SameNumbers.{Fits64}
use Rattle.sv_text.specs.Printable.{ArePrintableItems, IsPrintableArray}
use Rattle.sv_text.specs.ValueText.{char_text, kind_text, items_text, array_text, value_text}
use Rattle.sv_text.proofs.SameValues.{char_cases}

quote_glyph : IsGlyph quote
quote_glyph = (omega arith, omega arith, λ same. omega arith)

char_glyphs : (glyph : ℕ) → IsGlyph glyph → Glyphs (char_text glyph)
char_glyphs glyph h =
    ⊎_elim (λ twice. rw twice.1 (with_first quote (quote ∷ []) quote_glyph (with_first quote [] quote_glyph none)))
    (λ once. rw once.1 (with_first glyph [] h none))
    (char_cases glyph)

kind_glyphs : (items : PlainItems) → Glyphs (kind_text items)
kind_glyphs (numbers list) = plain_glyphs (codes "N") refl
kind_glyphs (chars list) = plain_glyphs (codes "C") refl

items_glyphs : (items : PlainItems) → ArePrintableItems items → Glyphs (items_text items)
items_glyphs (numbers list) h =
    spaced_glyphs (map number_text list) (each_text number_text Fits64 number_glyphs list (recursion_from_All Fits64 list h))
items_glyphs (chars list) h =
    with_first quote (flat_map char_text list ++ quote ∷ []) quote_glyph (joined (flat_map char_text list) (quote ∷ []) (all_texts char_text IsGlyph char_glyphs list (recursion_from_All IsGlyph list h)) (with_first quote [] quote_glyph none))

abbrev Axis : ℕ → Type 0
Axis axis = axis < 2 ^ 64

pub array_glyphs : (a : PlainArray) → IsPrintableArray a → Glyphs (array_text a)
array_glyphs a h =
    let axes : Glyphs (spaced (map decimal a.shape)) = spaced_glyphs (map decimal a.shape) (each_text decimal Axis (λ n small. count_glyphs n (omega arith)) a.shape (recursion_from_All Axis a.shape h.axes)) in
    joined (kind_text a.items) (codes "(" ++ (spaced (map decimal a.shape) ++ (codes ")" ++ items_text a.items))) (kind_glyphs a.items) (joined (codes "(") (spaced (map decimal a.shape) ++ (codes ")" ++ items_text a.items)) (plain_glyphs (codes "(") refl) (joined (spaced (map decimal a.shape)) (codes ")" ++ items_text a.items) axes (joined (codes ")") (items_text a.items) (plain_glyphs (codes ")") refl) (items_glyphs a.items h.items))))

pub value_glyphs : (v : Option PlainArray) → IfSome v (λ array. IsPrintableArray array) → Glyphs (value_text v)
value_glyphs None h = plain_glyphs (codes "none") refl
value_glyphs (Some a) h = array_glyphs a h
