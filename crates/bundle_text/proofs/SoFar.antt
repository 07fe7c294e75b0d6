-- What was read, line by line.
use Rattle.std.proofs.Common.{◌≡◌, ◌⊎◌, ℕ, ◌+◌, ◌<◌, Bool, true, false, List, [], ◌∷◌, ◌++◌, length, Result, Ok, Err, MatchResult, refl, sym, ap, ◌∙◌, subst, arith, append-nil, append_assoc, length-append, ⊎_elim, inl, inr}
use Rattle.std.proofs.lemmas.Bool.{false≢true}
use Rattle.line_text.specs.Lines.{line_text, end_line, HasNoFeed}
use Rattle.line_text.proofs.Ascii.{end_utf8}
use Rattle.apl_arrays.specs.Glyph.{line_utf8}
use Rattle.bundle_text.specs.Breaks.{IsSound, AreSound, IsEnded, IsFirstLine, LineBreaks, BreaksBehind, Breaks, text_before}
use Rattle.bundle_text.specs.Rules.{PlainBundle, IsBundle}
use Rattle.bundle_text.specs.BundleLine.{PlainLine, end, line_glyphs}
use Rattle.bundle_text.specs.Draft.{PlainDraft, said, with_line, bundle_of, is_at_end, nothing_read}
use Rattle.bundle_text.specs.Bundle.{BundleText}
use Rattle.bundle_text.specs.Refused.{IsRefusal}
use Rattle.bundle_text.specs.Step.{IsAdded, IsLineBroken, IsReadTo, AddsText}
use Rattle.bundle_text.specs.declared.refused.BundleRule.{BundleRule}
use Rattle.bundle_text.specs.declared.refused.BundleRule.TheVariants.{End}
use Rattle.bundle_text.specs.declared.refused.BundleRefused.{BundleRefused}
use Rattle.bundle_text.specs.declared.refused.BundleRefused.TheVariants.{Malformed, WantOfMemory}
use Rattle.bundle_text.proofs.Kept.{said_is_bundle}
use Rattle.bundle_text.proofs.Pages.{text_of_said}
use Rattle.bundle_text.proofs.Texts.{same_line}

pub nothing_yet : (bytes : List ℕ) (draft : PlainDraft) → draft ≡ nothing_read → IsReadTo bytes bytes draft
nothing_yet bytes draft e = record { before = []; sound = tt; whole = refl; says = e }

-- what was read is a bundle so far
pub read_is_bundle : (bytes rest : List ℕ) (draft : PlainDraft) → IsReadTo bytes rest draft → IsBundle (bundle_of draft)
read_is_bundle bytes rest draft so_far = subst (λ d. IsBundle (bundle_of d)) (sym so_far.says) (said_is_bundle so_far.before so_far.sound)

-- one line more
pub read_more : (bytes rest line more : List ℕ) (draft next : PlainDraft) → IsReadTo bytes rest draft → rest ≡ line ++ 10 ∷ more → IsAdded draft line next → IsReadTo bytes more next
read_more bytes rest line more draft next so_far front added =
    let text = line_utf8 (line_glyphs added.line) in
    record {
      before = added.line ∷ so_far.before;
      sound = (subst (λ d. IsSound d added.line) so_far.says added.sound, so_far.sound);
      whole = so_far.whole ∙ (ap (λ (some : List ℕ). text_before so_far.before ++ some) (front ∙ ap (λ (some : List ℕ). some ++ 10 ∷ more) added.text.1 ∙ sym (append_assoc text (10 ∷ []) more)) ∙ sym (append_assoc (text_before so_far.before) (text ++ 10 ∷ []) more));
      says = added.more ∙ ap (λ d. with_line d added.line) so_far.says;
    }

-- the offset of what is left
stands_at : (bytes rest : List ℕ) (draft : PlainDraft) (offset : ℕ) (so_far : IsReadTo bytes rest draft) → length bytes ≡ offset + length rest → offset ≡ length (text_before so_far.before)
stands_at bytes rest draft offset so_far e =
    omega (arith, e, ap length so_far.whole, length-append (text_before so_far.before) rest)

-- a rule is broken behind what was read
breaks_behind : (bytes rest : List ℕ) (draft : PlainDraft) (offset place at : ℕ) (rule : BundleRule) → IsReadTo bytes rest draft → length bytes ≡ offset + length rest → place ≡ offset + at → BreaksBehind draft rest rule at → Breaks bytes place rule
breaks_behind bytes rest draft offset place at rule so_far e there broken = record {
  before = so_far.before;
  rest = rest;
  at = at;
  sound = so_far.sound;
  whole = so_far.whole;
  place = there ∙ ap (λ (n : ℕ). n + at) (stands_at bytes rest draft offset so_far e);
  broken = subst (λ d. BreaksBehind d rest rule at) so_far.says broken;
}

-- the line at the front breaks a rule
pub refused_here : (bytes rest line : List ℕ) (draft : PlainDraft) (fed : Bool) (offset place : ℕ) (rule : BundleRule) → IsReadTo bytes rest draft → length bytes ≡ offset + length rest → IsFirstLine rest line fed → IsLineBroken draft line fed offset place rule → Breaks bytes place rule
refused_here bytes rest line draft fed offset place rule so_far e first broken =
    breaks_behind bytes rest draft offset place broken.at rule so_far e broken.there (inl (record { line = line; fed = fed; first = first; broken = broken.broken }))

fed_first : (rest line more : List ℕ) → HasNoFeed line → rest ≡ line ++ 10 ∷ more → IsFirstLine rest line true
fed_first rest line more none e = record { no_feed = none; rest = more; whole = inl (refl, e) }

-- why a whole line is refused, told of the text
pub refused_line : (bytes rest line more : List ℕ) (draft : PlainDraft) (offset : ℕ) (why : BundleRefused) → IsReadTo bytes rest draft → length bytes ≡ offset + length rest → HasNoFeed line → rest ≡ line ++ 10 ∷ more
    → IsRefusal why (λ place rule. (fed : Bool) → IsEnded line fed → IsLineBroken draft line fed offset place rule) → IsRefusal why (Breaks bytes)
refused_line bytes rest line more draft offset WantOfMemory so_far e none front is = tt
refused_line bytes rest line more draft offset (Malformed place rule) so_far e none front is =
    refused_here bytes rest line draft true offset place rule so_far e (fed_first rest line more none front) (is true (inl refl))

-- why a last line is refused, told of the text
pub refused_last : (bytes rest : List ℕ) (draft : PlainDraft) (offset : ℕ) (why : BundleRefused) → IsReadTo bytes rest draft → length bytes ≡ offset + length rest → HasNoFeed rest → 0 < length rest → IsRefusal why (IsLineBroken draft rest false offset) → IsRefusal why (Breaks bytes)
refused_last bytes rest draft offset WantOfMemory so_far e none some is = tt
refused_last bytes rest draft offset (Malformed place rule) so_far e none some is =
    refused_here bytes rest rest draft false offset place rule so_far e (record { no_feed = none; rest = []; whole = inr (refl, refl, some) }) is

-- the end of the text

-- what is said where nothing is left, or where the last line lacks its line feed
pub record IsReadOut (bytes : List ℕ) (draft : PlainDraft) : Type 0 where
  pub before : List PlainLine
  pub sound : AreSound before
  pub says : draft ≡ said before
  pub whole : (bytes ≡ text_before before) ⊎ ((bytes ++ 10 ∷ [] ≡ text_before before) × (is_at_end draft.section ≡ true))

pub out_of_nothing : (bytes rest : List ℕ) (draft : PlainDraft) → IsReadTo bytes rest draft → length rest ≡ 0 → IsReadOut bytes draft
out_of_nothing bytes [] draft so_far none = record { before = so_far.before; sound = so_far.sound; says = so_far.says; whole = inl (so_far.whole ∙ append-nil (text_before so_far.before)) }
out_of_nothing bytes (x ∷ rest) draft so_far none = absurd (omega arith)

-- the end, which lacks its line feed
pub out_of_last : (bytes rest : List ℕ) (draft next : PlainDraft) → IsReadTo bytes rest draft → rest ≡ end_line → IsAdded draft rest next → IsReadOut bytes next
out_of_last bytes rest draft next so_far is added =
    let last : added.line ≡ end = same_line added.line end rest added.text (tt, is ∙ sym end_utf8) in
    record {
      before = added.line ∷ so_far.before;
      sound = (subst (λ d. IsSound d added.line) so_far.says added.sound, so_far.sound);
      says = added.more ∙ ap (λ d. with_line d added.line) so_far.says;
      whole = inr (ap (λ (some : List ℕ). some ++ 10 ∷ []) so_far.whole ∙ (append_assoc (text_before so_far.before) rest (10 ∷ []) ∙ ap (λ (some : List ℕ). text_before so_far.before ++ (some ++ 10 ∷ [])) added.text.1), ap (λ (d : PlainDraft). is_at_end d.section) (added.more ∙ ap (with_line draft) last));
    }

-- what is made of a draft: its bundle, where the end was read
abbrev pub Finishes : PlainDraft → ℕ → Result PlainBundle BundleRefused → Type 0
Finishes draft offset result =
    MatchResult result (λ bundle. (is_at_end draft.section ≡ true) × (bundle ≡ bundle_of draft)) (λ why. IsRefusal why (λ place rule. (place ≡ offset) × (rule ≡ End) × (is_at_end draft.section ≡ false)))

-- what is answered is the bundle of the bytes, or where they break a rule
abbrev pub Answers : List ℕ → Result PlainBundle BundleRefused → Type 0
Answers bytes result = MatchResult result (λ bundle. BundleText bytes bundle) (λ why. IsRefusal why (Breaks bytes))

-- the bundle, where the end was read; else it is missing
pub result_out : (bytes : List ℕ) (draft : PlainDraft) (offset : ℕ) (result : Result PlainBundle BundleRefused) → IsReadOut bytes draft → length bytes ≡ offset → Finishes draft offset result → Answers bytes result
result_out bytes draft offset (Ok bundle) out e is =
    let over : is_at_end (said out.before).section ≡ true = ap (λ (d : PlainDraft). is_at_end d.section) (sym out.says) ∙ is.0 in
    subst (BundleText bytes) (ap bundle_of (sym out.says) ∙ sym is.1) (text_of_said out.before out.sound over bytes (⊎_elim (λ x. inl x) (λ x. inr x.0) out.whole))
result_out bytes draft offset (Err WantOfMemory) out e is = tt
result_out bytes draft offset (Err (Malformed place rule)) out e is =
    ⊎_elim
    (λ whole. record {
      before = out.before;
      rest = [];
      at = 0;
      sound = out.sound;
      whole = whole ∙ sym (append-nil (text_before out.before));
      place = omega (arith, is.0, e, ap length whole);
      broken = inr (record { nothing = refl; no_end = ap (λ (d : PlainDraft). is_at_end d.section) (sym out.says) ∙ is.2; named = is.1; front = refl });
    })
    (λ x. absurd (false≢true (sym is.2 ∙ x.1)))
    out.whole

-- nothing is left
pub nothing_left : (bytes rest : List ℕ) (draft : PlainDraft) (offset : ℕ) (result : Result PlainBundle BundleRefused) → length rest ≡ 0 → IsReadTo bytes rest draft → length bytes ≡ offset + length rest → Finishes draft offset result → Answers bytes result
nothing_left bytes rest draft offset result none so_far e is = result_out bytes draft offset result (out_of_nothing bytes rest draft so_far none) (omega (arith, e, none)) is

-- the end is left, without its line feed
pub end_left : (bytes rest : List ℕ) (draft next : PlainDraft) (offset : ℕ) (result : Result PlainBundle BundleRefused) → IsReadTo bytes rest draft → rest ≡ end_line → IsAdded draft rest next → length bytes ≡ offset → Finishes next offset result → Answers bytes result
end_left bytes rest draft next offset result so_far is added e finishes = result_out bytes next offset result (out_of_last bytes rest draft next so_far is added) e finishes
