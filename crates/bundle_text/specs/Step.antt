-- What a step of the reader answers.
use Rattle.std.specs.Prelude.{◌≡◌, ◌⊎◌, ℕ, ◌+◌, Bool, IsTrue, IsFalse, List, [], ◌∷◌, ◌++◌, Result, MatchResult}
use Rattle.apl_arrays.specs.Glyph.{Spells, IsBadFrom, bar}
use Rattle.bundle_text.specs.Breaks.{IsSound, AreSound, IsBroken, IsEnded, IsSpelled, LineBreaks, BreaksBehind, text_before}
use Rattle.bundle_text.specs.BundleLine.{PlainLine, input, IsTextOf}
use Rattle.bundle_text.specs.Draft.{PlainDraft, with_line, said}
use Rattle.bundle_text.specs.Refused.{IsRefusal}
use Rattle.bundle_text.specs.declared.refused.BundleRule.{BundleRule}
use Rattle.bundle_text.specs.declared.refused.BundleRule.TheVariants.{Glyph, Limit}
use Rattle.bundle_text.specs.declared.refused.BundleRefused.{BundleRefused}

-- the rule of glyphs, at the first byte that begins none of the bytes that stand at this offset
pub record IsBadGlyph (bytes : List ℕ) (offset place : ℕ) (rule : BundleRule) : Type 0 where
  pub at : ℕ
  pub bad : IsBadFrom bytes at
  pub named : rule ≡ Glyph
  pub there : place ≡ offset + at

-- the rule of glyphs, at the first byte that begins none of the bytes from this place on; or all of them spell glyphs, and it
-- is this rule, at this offset
abbrev pub IsGlyphOr : List ℕ → ℕ → ℕ → BundleRule → ℕ → BundleRule → Type 0
IsGlyphOr bytes from offset other place rule = IsBadGlyph bytes from place rule ⊎ (IsSpelled bytes × (place ≡ offset) × (rule ≡ other))

-- a rule that the line at this offset breaks, at a byte of it
pub record IsLineBroken (draft : PlainDraft) (line : List ℕ) (fed : Bool) (offset place : ℕ) (rule : BundleRule) : Type 0 where
  pub at : ℕ
  pub broken : LineBreaks draft line fed rule at
  pub there : place ≡ offset + at

-- the rule of limits at this offset, where a limit is not kept
abbrev pub BreaksLimit : ℕ → Bool → ℕ → BundleRule → Type 0
BreaksLimit offset keeps place rule = (place ≡ offset) × (rule ≡ Limit) × IsFalse keeps

-- a line of this form is sound, and what is said is more by it; or it breaks the rule that is named, at this offset
abbrev pub Adds : PlainDraft → PlainLine → PlainDraft → ℕ → Result (Unit {0}) BundleRefused → Type 0
Adds old line new offset result =
    MatchResult result (λ _. IsSound old line × (new ≡ with_line old line))
    (λ why. IsRefusal why (λ place rule. (place ≡ offset) × IsBroken old line rule))

-- the bytes are the text of a sound line, and what is said is more by it
pub record IsAdded (old : PlainDraft) (bytes : List ℕ) (new : PlainDraft) : Type 0 where
  pub line : PlainLine
  pub text : IsTextOf line bytes
  pub sound : IsSound old line
  pub more : new ≡ with_line old line

-- these bytes, at this offset, are added as a line; or they break the rule that is named, where it is named, whether a line
-- feed ends them or not
abbrev pub AddsText : PlainDraft → List ℕ → PlainDraft → ℕ → Result (Unit {0}) BundleRefused → Type 0
AddsText old bytes new offset result =
    MatchResult result (λ _. IsAdded old bytes new)
    (λ why. IsRefusal why (λ place rule. (fed : Bool) → IsEnded bytes fed → IsLineBroken old bytes fed offset place rule))

-- lines were read up to what is left, each of them sound, and this is what they say
pub record IsReadTo (bytes rest : List ℕ) (draft : PlainDraft) : Type 0 where
  pub before : List PlainLine
  pub sound : AreSound before
  pub whole : bytes ≡ text_before before ++ rest
  pub says : draft ≡ said before
