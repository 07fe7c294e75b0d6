-- The bytes of lines are read in one way.
use Rattle.std.proofs.Common.{◌≡◌, ℕ, Bool, true, leb, List, [], ◌∷◌, ◌++◌, length, refl, sym, ap, ◌∙◌, append-nil, append_assoc, length-append, arith}
use Rattle.std.proofs.lemmas.Bool.{le-leb}
use Rattle.std.proofs.lemmas.List.Elements.{recursion_from_All}
use Rattle.std.proofs.lemmas.List.Sums.{list_all-from_AllPass}
use Rattle.std.specs.List.{list_all}
use Rattle.apl_arrays.specs.Glyph.{line_utf8}
use Rattle.apl_arrays.proofs.Spelling.{one_line, no_control}
use Rattle.line_text.specs.Lines.{line_text, lines_text}
use Rattle.line_text.proofs.GlyphTexts.{Glyphs, AreGlyphs}
use Rattle.line_text.proofs.Spans.{same_span, Reads, same_list}

abbrev no_control_byte : ℕ → Bool
no_control_byte byte = leb 32 byte

line_bytes : (line : List ℕ) → Glyphs line → list_all no_control_byte (line_utf8 line) ≡ true
line_bytes line a =
    list_all-from_AllPass no_control_byte (line_utf8 line) (λ k d within. le-leb 32 _ (no_control line a k d within))

abbrev IsNothing : List ℕ → Type 0
IsNothing text = text ≡ []

abbrev Anything : List ℕ → Type 0
Anything text = Unit {0}

some_line : (line rest left : List ℕ) → IsNothing left → line_text line ++ rest ≡ left → ⊥
some_line line rest left none e =
    omega (arith, ap length (e ∙ none), length-append (line_utf8 line ++ 10 ∷ []) rest, length-append (line_utf8 line) (10 ∷ []))

-- the first of two texts' lines are one, and so is what follows
pub same_first_line : (x y rest left : List ℕ) → Glyphs x → Glyphs y → line_text x ++ rest ≡ line_text y ++ left → (x ≡ y) × (rest ≡ left)
same_first_line x y rest left a b e =
    let same = same_span no_control_byte (line_utf8 x) (line_utf8 y) (10 ∷ rest) (10 ∷ left) (line_bytes x a) (line_bytes y b) refl refl (sym (append_assoc (line_utf8 x) (10 ∷ []) rest) ∙ (e ∙ append_assoc (line_utf8 y) (10 ∷ []) left)) in
    (one_line (line_utf8 x) x y (a, refl) (b, same.0), let after : rest ≡ left = cc same.1 in after)

lines_read : Reads line_text Glyphs IsNothing Anything
lines_read = record {
  unlike = λ line rest left a none e. some_line line rest left none e;
  split = λ x y rest left a b stop halt e. same_first_line x y rest left a b e;
  last = λ rest none. tt;
  next = λ line rest a. tt;
}

pub same_lines : (xs ys : List (List ℕ)) → AreGlyphs xs → AreGlyphs ys → lines_text xs ≡ lines_text ys → xs ≡ ys
same_lines xs ys a b e =
    (same_list line_text Glyphs IsNothing Anything lines_read xs ys [] [] (recursion_from_All Glyphs xs a) (recursion_from_All Glyphs ys b) refl refl (append-nil (lines_text xs) ∙ (e ∙ sym (append-nil (lines_text ys))))).0
