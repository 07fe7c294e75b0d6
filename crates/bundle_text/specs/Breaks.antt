-- Which line breaks which rule.
use Rattle.std.specs.Prelude.{◌≡◌, ◌≢◌, ◌⊎◌, ℕ, ◌+◌, ◌<◌, Bool, true, false, IsTrue, IsFalse, List, [], ◌∷◌, ◌++◌, length}
use Rattle.apl_arrays.specs.Glyph.{Spells, IsBadFrom}
use Rattle.line_text.specs.Lines.{line_feed, end_line, line_text, HasNoFeed}
use Rattle.bundle_text.specs.BundleLine.{PlainLine, IsBundleLine, IsTextOf, IsNoLine, line_glyphs}
use Rattle.bundle_text.specs.Draft.{PlainDraft, may_stand, names_parties, line_keeps_limits, users_so_far, is_at_end, said}
use Rattle.bundle_text.specs.declared.refused.BundleRule.{BundleRule}
use Rattle.bundle_text.specs.declared.refused.BundleRule.TheVariants.{Glyph, Newline, Form, Place, Party, Limit, End}

-- a line may stand behind what was said, and keeps the rules on parties and limits
pub record IsSound (draft : PlainDraft) (line : PlainLine) : Type 0 where
  pub form : IsBundleLine line
  pub place : IsTrue (may_stand draft.section line)
  pub parties : IsTrue (names_parties (users_so_far draft) line)
  pub limits : IsTrue (line_keeps_limits draft line)

-- lines, the last one first, each of them sound behind those before it
abbrev pub AreSound : List PlainLine → Type 0
AreSound [] = Unit {0}
AreSound (line ∷ before) = IsSound (said before) line × AreSound before

-- the bytes of lines, the last one first, each with its line feed
abbrev pub text_before : List PlainLine → List ℕ
text_before [] = []
text_before (line ∷ before) = text_before before ++ line_text (line_glyphs line)

-- the bytes spell glyphs
abbrev pub IsSpelled : List ℕ → Type 0
IsSpelled bytes = (line : List ℕ) × Spells bytes line

-- a line feed ends the line, or it is the end, which may lack it
abbrev pub IsEnded : List ℕ → Bool → Type 0
IsEnded line fed = IsTrue fed ⊎ (line ≡ end_line)

-- a line of this form breaks the rule on places, on parties or on limits, and none before it
abbrev pub IsBroken : PlainDraft → PlainLine → BundleRule → Type 0
IsBroken draft line Place = IsFalse (may_stand draft.section line)
IsBroken draft line Party = IsTrue (may_stand draft.section line) × IsFalse (names_parties (users_so_far draft) line)
IsBroken draft line Limit =
    IsTrue (may_stand draft.section line) × IsTrue (names_parties (users_so_far draft) line) × IsFalse (line_keeps_limits draft line)
IsBroken draft line _ = ⊥

-- the bytes are the text of a line that breaks such a rule
pub record IsMisfit (draft : PlainDraft) (bytes : List ℕ) (rule : BundleRule) : Type 0 where
  pub line : PlainLine
  pub text : IsTextOf line bytes
  pub broken : IsBroken draft line rule

-- the line, which a line feed ends or not, breaks this rule and none before it, at this byte of it: a byte that begins no
-- glyph, else the first
abbrev pub LineBreaks : PlainDraft → List ℕ → Bool → BundleRule → ℕ → Type 0
LineBreaks draft line fed Glyph at = IsBadFrom line at
LineBreaks draft line fed Newline at = (at ≡ 0) × IsSpelled line × IsFalse fed × (line ≢ end_line)
LineBreaks draft line fed Form at = (at ≡ 0) × IsSpelled line × IsEnded line fed × IsNoLine line
LineBreaks draft line fed Place at = (at ≡ 0) × IsEnded line fed × IsMisfit draft line Place
LineBreaks draft line fed Party at = (at ≡ 0) × IsEnded line fed × IsMisfit draft line Party
LineBreaks draft line fed Limit at = (at ≡ 0) × IsEnded line fed × IsMisfit draft line Limit
LineBreaks draft line fed End at = ⊥

-- a line at the front of bytes, up to its line feed, or all of them where there is none
pub record IsFirstLine (bytes line : List ℕ) (fed : Bool) : Type 0 where
  pub no_feed : HasNoFeed line
  pub rest : List ℕ
  pub whole : ((fed ≡ true) × (bytes ≡ line ++ line_feed ∷ rest)) ⊎ ((fed ≡ false) × (bytes ≡ line) × (0 < length line))

-- what stands behind lines begins with a line that breaks this rule
pub record FirstBreaks (draft : PlainDraft) (bytes : List ℕ) (rule : BundleRule) (at : ℕ) : Type 0 where
  pub line : List ℕ
  pub fed : Bool
  pub first : IsFirstLine bytes line fed
  pub broken : LineBreaks draft line fed rule at

-- nothing stands behind lines of which none is the end
pub record LacksEnd (draft : PlainDraft) (bytes : List ℕ) (rule : BundleRule) (at : ℕ) : Type 0 where
  pub nothing : bytes ≡ []
  pub no_end : IsFalse (is_at_end draft.section)
  pub named : rule ≡ End
  pub front : at ≡ 0

-- a rule is broken behind what was said, at this byte of what stands there
abbrev pub BreaksBehind : PlainDraft → List ℕ → BundleRule → ℕ → Type 0
BreaksBehind draft bytes rule at = FirstBreaks draft bytes rule at ⊎ LacksEnd draft bytes rule at

-- the bytes break this rule at this offset: behind sound lines stands one that breaks it and none before it, or nothing,
-- where no line was the end
pub record Breaks (bytes : List ℕ) (offset : ℕ) (rule : BundleRule) : Type 0 where
  pub before : List PlainLine
  pub rest : List ℕ
  pub at : ℕ
  pub sound : AreSound before
  pub whole : bytes ≡ text_before before ++ rest
  pub place : offset ≡ length (text_before before) + at
  pub broken : BreaksBehind (said before) rest rule at
