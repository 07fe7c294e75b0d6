-- Glyphs that are counted.
use Rattle.std.proofs.Common.{◌≡◌, ℕ, ◌+◌, ◌-◌, ◌<◌, ◌≤◌, List, [], ◌∷◌, ◌++◌, length, take, drop, refl, sym, ap, ◌∙◌, arith, append-nil, length-append, length-drop}
use Rattle.std.specs.List.{All}
use Rattle.std.proofs.lemmas.List.{take_all}
use Rattle.std.proofs.lemmas.List.Elements.{All-nil, All-push}
use Rattle.apl_arrays.specs.Glyph.{IsGlyph, Spells, IsBadFrom, StartsWithNoGlyph, glyph_utf8, line_utf8, bar}
use Rattle.apl_arrays.proofs.Spelling.{bad_here, one_more, spelled_whole}
use Rattle.line_text.proofs.Ascii.{content_utf8}
use Rattle.line_text.proofs.GlyphTexts.{content_glyphs}
use Rattle.line_text.specs.Lines.{content}

-- so many glyphs stand before what is left
pub record CountsTo (bytes rest : List ℕ) (count : ℕ) : Type 0 where
  pub line : List ℕ
  pub glyphs : All IsGlyph line
  pub whole : bytes ≡ line_utf8 line ++ rest
  pub counted : count ≡ length line
  pub within : count + length rest ≤ length bytes

-- what a slice from a place on has
pub cut_off : (taken : ℕ) (xs : List ℕ) → take (length xs - taken) (drop taken xs) ≡ drop taken xs
cut_off taken xs = take_all (length xs - taken) (drop taken xs) (omega (arith, length-drop taken xs))

pub none_counted : (bytes : List ℕ) (count : ℕ) → count ≡ 0 → CountsTo bytes bytes count
none_counted bytes count e = record { line = []; glyphs = All-nil IsGlyph; whole = refl; counted = e; within = omega (arith, e) }

pub one_counted : (bytes rest : List ℕ) (count glyph taken : ℕ) → CountsTo bytes rest count → IsGlyph glyph → rest ≡ glyph_utf8 glyph ++ drop taken rest → 0 < taken → taken ≤ length rest → CountsTo bytes (drop taken rest) (count + 1)
one_counted bytes rest count glyph taken so_far is front some within = record {
  line = so_far.line ++ glyph ∷ [];
  glyphs = All-push IsGlyph so_far.line glyph so_far.glyphs is;
  whole = one_more bytes so_far.line rest glyph taken so_far.whole front;
  counted = omega (arith, so_far.counted, length-append so_far.line (glyph ∷ []));
  within = omega (arith, so_far.within, length-drop taken rest);
}

pub all_counted : (bytes rest : List ℕ) (count : ℕ) → CountsTo bytes rest count → length rest ≡ 0 → (line : List ℕ) × Spells bytes line × (count ≡ length line)
all_counted bytes rest count so_far none = (so_far.line, spelled_whole bytes so_far.line rest so_far.glyphs so_far.whole none, so_far.counted)

pub bad_counted : (bytes rest : List ℕ) (count : ℕ) → CountsTo bytes rest count → 0 < length rest → StartsWithNoGlyph rest → IsBadFrom bytes (length bytes - length rest)
bad_counted bytes rest count so_far more bad = bad_here bytes so_far.line rest so_far.glyphs so_far.whole more bad

-- a bar in front of what is bad
pub bad_behind_bar : (text : List ℕ) (at : ℕ) → IsBadFrom text at → IsBadFrom (bar ∷ text) (at + 1)
bad_behind_bar text at bad = record {
  line = bar ∷ bad.line;
  rest = bad.rest;
  glyphs = content_glyphs bad.line bad.glyphs;
  whole = ap (λ (some : List ℕ). bar ∷ some) bad.whole ∙ ap (λ (some : List ℕ). some ++ bad.rest) (sym (content_utf8 bad.line));
  place = omega (arith, bad.place, ap length (content_utf8 bad.line));
  more = bad.more;
  bad = bad.bad;
}

-- a bar in front of what is spelled
pub spelled_behind_bar : (text line : List ℕ) → Spells text line → Spells (bar ∷ text) (content line)
spelled_behind_bar text line is = (content_glyphs line is.0, ap (λ (some : List ℕ). bar ∷ some) is.1 ∙ sym (content_utf8 line))
