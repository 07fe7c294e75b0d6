-- Content lines that are added, or refused.
use Rattle.std.proofs.Common.{◌≡◌, ◌⊎◌, ℕ, ℤ, ◌+◌, ◌<◌, ◌≤◌, Bool, true, false, ◌&&◌, List, [], ◌∷◌, ◌++◌, length, Result, Ok, Err, MatchResult, refl, sym, ap, ap₂, ◌∙◌, subst, arith, ⊎_elim}
use Rattle.std.specs.Prelude.{nat_lt, nat_le, IsTrue}
use Rattle.apl_arrays.specs.FileList.{PlainFile}
use Rattle.apl_arrays.specs.Glyph.{Spells, bar, line_utf8}
use Rattle.apl_arrays.specs.Limits.{most_line_glyphs, most_user_lines}
use Rattle.line_text.specs.Lines.{content, line_text}
use Rattle.line_text.proofs.Ascii.{content_utf8}
use Rattle.bundle_text.specs.Breaks.{IsSound, IsBroken, IsMisfit, IsEnded, IsSpelled, LineBreaks}
use Rattle.bundle_text.specs.BundleLine.{PlainLine, input, IsBundleLine, IsTextOf, line_glyphs}
use Rattle.bundle_text.specs.Draft.{PlainDraft, PlainSection, of_user, of_file, takes_content, has_room, longer, line_keeps_limits, with_line}
use Rattle.bundle_text.specs.Refused.{IsRefusal}
use Rattle.bundle_text.specs.Step.{AddsText, IsAdded, IsLineBroken, IsBadGlyph, IsGlyphOr, BreaksLimit}
use Rattle.bundle_text.specs.Section.{plain_section}
use Rattle.bundle_text.specs.User.{PlainUser}
use Rattle.bundle_text.specs.declared.section.OpenFile.{OpenFile}
use Rattle.bundle_text.specs.declared.section.Section.{Section}
use Rattle.bundle_text.specs.declared.section.Section.TheVariants as sections
use Rattle.bundle_text.specs.declared.user.BundleUser.{BundleUser}
use Rattle.bundle_text.specs.declared.refused.BundleRule.{BundleRule}
use Rattle.bundle_text.specs.declared.refused.BundleRule.TheVariants.{Glyph, Place, Limit}
use Rattle.bundle_text.specs.declared.refused.BundleRefused.{BundleRefused}
use Rattle.bundle_text.specs.declared.refused.BundleRefused.TheVariants.{Malformed, WantOfMemory}
use Rattle.bundle_text.proofs.Spelled.{bad_behind_bar}

-- bytes behind a bar are a content line
pub content_text : (text line : List ℕ) → Spells text line → IsTextOf (input line) (bar ∷ text)
content_text text line is = (is.0, ap (λ (some : List ℕ). bar ∷ some) is.1 ∙ sym (content_utf8 line))

-- a byte that begins no glyph
pub bad_content : (draft : PlainDraft) (text : List ℕ) (offset : ℕ) (why : BundleRefused) → IsRefusal why (IsBadGlyph text (offset + 1)) → IsRefusal why (λ place rule. (fed : Bool) → IsEnded (bar ∷ text) fed → IsLineBroken draft (bar ∷ text) fed offset place rule)
bad_content draft text offset WantOfMemory is = tt
bad_content draft text offset (Malformed place rule) is =
    λ fed ended.
    let broken : LineBreaks draft (bar ∷ text) fed Glyph (is.at + 1) = bad_behind_bar text is.at is.bad in
    record { at = is.at + 1; broken = subst (λ some. LineBreaks draft (bar ∷ text) fed some (is.at + 1)) (sym is.named) broken; there = omega (arith, is.there) }

misfit_here : (draft : PlainDraft) (text line : List ℕ) (rule : BundleRule) → Spells text line → IsBroken draft (input line) rule → IsMisfit draft (bar ∷ text) rule
misfit_here draft text line rule is broken = record { line = input line; text = content_text text line is; broken = broken }

no_place_here : (draft : PlainDraft) (text : List ℕ) (offset place : ℕ) (rule : BundleRule) (fed : Bool) → IsSpelled text → place ≡ offset → rule ≡ Place → takes_content draft.section ≡ false → IsEnded (bar ∷ text) fed → IsLineBroken draft (bar ∷ text) fed offset place rule
no_place_here draft text offset place rule fed is there named none ended =
    let broken : LineBreaks draft (bar ∷ text) fed Place 0 = (refl, ended, misfit_here draft text is.0 Place is.1 none) in
    record { at = 0; broken = subst (λ some. LineBreaks draft (bar ∷ text) fed some 0) (sym named) broken; there = omega (arith, there) }

-- no place for a content line
pub misplaced_content : (draft : PlainDraft) (text : List ℕ) (offset : ℕ) (why : BundleRefused) → IsRefusal why (IsGlyphOr text (offset + 1) offset Place) → takes_content draft.section ≡ false
    → IsRefusal why (λ place rule. (fed : Bool) → IsEnded (bar ∷ text) fed → IsLineBroken draft (bar ∷ text) fed offset place rule)
misplaced_content draft text offset WantOfMemory is none = tt
misplaced_content draft text offset (Malformed place rule) is none =
    ⊎_elim (λ bad. bad_content draft text offset (Malformed place rule) bad) (λ plain fed ended. no_place_here draft text offset place rule fed plain.0 plain.1 plain.2 none ended) is

-- past a limit
pub long_content : (draft : PlainDraft) (text line : List ℕ) (offset : ℕ) (keeps : Bool) (why : BundleRefused) → Spells text line → takes_content draft.section ≡ true → (keeps ≡ false → line_keeps_limits draft (input line) ≡ false) → IsRefusal why (BreaksLimit offset keeps)
    → IsRefusal why (λ place rule. (fed : Bool) → IsEnded (bar ∷ text) fed → IsLineBroken draft (bar ∷ text) fed offset place rule)
long_content draft text line offset keeps WantOfMemory is takes over e = tt
long_content draft text line offset keeps (Malformed place rule) is takes over e =
    λ fed ended.
    let broken : LineBreaks draft (bar ∷ text) fed Limit 0 = (refl, ended, misfit_here draft text line Limit is (takes, refl, over e.2)) in
    record { at = 0; broken = subst (λ some. LineBreaks draft (bar ∷ text) fed some 0) (sym e.1) broken; there = omega (arith, e.0) }

-- where neither a user nor a file is open
pub no_content : (section : Section) → ((one : BundleUser) → section ≡ sections.User one → ⊥) → ((one : OpenFile) → section ≡ sections.File one → ⊥) → takes_content (plain_section section) ≡ false
no_content sections.Start a b = refl
no_content (sections.User one) a b = absurd (a one refl)
no_content sections.Order a b = refl
no_content (sections.File one) a b = absurd (b one refl)
no_content sections.Clock a b = refl
no_content sections.End a b = refl

-- a line of a user
pub user_line : (old new : PlainDraft) (one next : PlainUser) (text line : List ℕ) (offset : ℕ) (result : Result (Unit {0}) BundleRefused) → old.section ≡ of_user one → new ≡ record old { section = of_user next } → Spells text line
    → MatchResult result (λ _. IsTrue (nat_lt (length one.lines) most_user_lines && nat_le (length line) most_line_glyphs) × (next ≡ record { number = one.number; lines = one.lines ++ line ∷ [] }))
    (λ why. IsRefusal why (BreaksLimit offset (nat_lt (length one.lines) most_user_lines && nat_le (length line) most_line_glyphs)))
    → AddsText old (bar ∷ text) new offset result
user_line old new one next text line offset (Ok done) was now is kept = record {
  line = input line;
  text = content_text text line is;
  sound = record { form = is.0; place = ap takes_content was; parties = refl; limits = ap (λ (s : PlainSection). has_room s && nat_le (length line) most_line_glyphs) was ∙ kept.0 };
  more = now ∙ ap (λ (s : PlainSection). record old { section = s }) (ap (λ (u : PlainUser). of_user u) kept.1 ∙ sym (ap (λ (s : PlainSection). longer s line) was));
}
user_line old new one next text line offset (Err why) was now is over =
    long_content old text line offset (nat_lt (length one.lines) most_user_lines && nat_le (length line) most_line_glyphs) why is (ap takes_content was) (λ e. ap (λ (s : PlainSection). has_room s && nat_le (length line) most_line_glyphs) was ∙ e) over

-- a line of a file
pub file_line : (old new : PlainDraft) (one next : PlainFile) (text line : List ℕ) (count offset : ℕ) (result : Result (Unit {0}) BundleRefused) → old.section ≡ of_file one → new ≡ record old { section = of_file next } → Spells text line → count ≡ length line → next.name ≡ one.name
    → MatchResult result (λ _. IsTrue (nat_le count most_line_glyphs) × (next.bytes ≡ one.bytes ++ (text ++ 10 ∷ []))) (λ why. IsRefusal why (BreaksLimit offset (nat_le count most_line_glyphs)))
    → AddsText old (bar ∷ text) new offset result
file_line old new one next text line count offset (Ok done) was now is counted name kept = record {
  line = input line;
  text = content_text text line is;
  sound = record {
    form = is.0;
    place = ap takes_content was;
    parties = refl;
    limits = ap (λ (s : PlainSection). has_room s && nat_le (length line) most_line_glyphs) was ∙ (ap (λ n. nat_le n most_line_glyphs) (sym counted) ∙ kept.0);
  };
  more = now ∙ ap (λ (s : PlainSection). record old { section = s }) (ap₂ (λ (n bs : List ℕ). of_file (record { name = n; bytes = bs })) name (kept.1 ∙ ap (λ (some : List ℕ). one.bytes ++ (some ++ 10 ∷ [])) is.1) ∙ sym (ap (λ (s : PlainSection). longer s line) was));
}
file_line old new one next text line count offset (Err why) was now is counted name over =
    long_content old text line offset (nat_le count most_line_glyphs) why is (ap takes_content was) (λ e. ap (λ (s : PlainSection). has_room s && nat_le (length line) most_line_glyphs) was ∙ (ap (λ n. nat_le n most_line_glyphs) (sym counted) ∙ e)) over
