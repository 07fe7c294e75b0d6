-- Lines of a text, the first one first.
use Rattle.std.proofs.Common.{◌≡◌, ◌⊎◌, ℕ, ◌+◌, ◌<◌, Bool, true, false, List, [], ◌∷◌, ◌++◌, length, map, refl, sym, ap, ◌∙◌, subst, arith, append-nil, append_assoc, length-append, ⊎_elim, inl}
use Rattle.line_text.specs.Lines.{line_text}
use Rattle.line_text.proofs.SameLines.{same_first_line}
use Rattle.apl_arrays.specs.Glyph.{line_utf8}
use Rattle.bundle_text.specs.Breaks.{IsSound, AreSound, IsFirstLine, FirstBreaks, LacksEnd, LineBreaks, BreaksBehind, Breaks, text_before}
use Rattle.bundle_text.specs.BundleLine.{PlainLine, IsTextOf, line_glyphs}
use Rattle.bundle_text.specs.Draft.{PlainDraft, with_line, said, nothing_read}
use Rattle.bundle_text.specs.Bundle.{bytes_of_lines}
use Rattle.bundle_text.specs.declared.refused.BundleRule.{BundleRule}
use Rattle.bundle_text.proofs.Places.{first_line_is_one, sound_breaks_not, one_break_behind}
use Rattle.bundle_text.proofs.Texts.{glyphs_of_line, line_has_no_feed, same_line}

-- lines, the first one first, each of them sound behind those before it
abbrev pub SoundFrom : PlainDraft → List PlainLine → Type 0
SoundFrom draft [] = Unit {0}
SoundFrom draft (line ∷ lines) = IsSound draft line × SoundFrom (with_line draft line) lines

-- what is said behind them
abbrev pub after : PlainDraft → List PlainLine → PlainDraft
after draft [] = draft
after draft (line ∷ lines) = after (with_line draft line) lines

-- lines turned round, in front of others
abbrev pub forward : List PlainLine → List PlainLine → List PlainLine
forward [] lines = lines
forward (line ∷ before) lines = forward before (line ∷ lines)

pub forward_sound : (before lines : List PlainLine) → AreSound before → SoundFrom (said before) lines → SoundFrom nothing_read (forward before lines)
forward_sound [] lines sound more = more
forward_sound (line ∷ before) lines sound more = forward_sound before (line ∷ lines) sound.1 (sound.0, more)

pub after_forward : (before lines : List PlainLine) → after nothing_read (forward before lines) ≡ after (said before) lines
after_forward [] lines = refl
after_forward (line ∷ before) lines = after_forward before (line ∷ lines)

pub text_forward : (before lines : List PlainLine) → bytes_of_lines (forward before lines) ≡ text_before before ++ bytes_of_lines lines
text_forward [] lines = refl
text_forward (line ∷ before) lines =
    text_forward before (line ∷ lines) ∙ sym (append_assoc (text_before before) (line_text (line_glyphs line)) (bytes_of_lines lines))

pub front_text : (before : List PlainLine) → bytes_of_lines (forward before []) ≡ text_before before
front_text before = text_forward before [] ∙ append-nil (text_before before)

-- a sound line in front breaks nothing
pub sound_first : (draft : PlainDraft) (line : PlainLine) (more bytes : List ℕ) (rule : BundleRule) (at : ℕ) → IsSound draft line → bytes ≡ line_text (line_glyphs line) ++ more → BreaksBehind draft bytes rule at → ⊥
sound_first draft line more bytes rule at sound whole broken =
    let text = line_utf8 (line_glyphs line) in
    let cut : bytes ≡ text ++ 10 ∷ more = whole ∙ append_assoc text (10 ∷ []) more in
    let first : IsFirstLine bytes text true = record { no_feed = line_has_no_feed line sound.form; rest = more; whole = inl (refl, cut) } in
    ⊎_elim
    (λ x.
    let same = first_line_is_one bytes text x.line true x.fed first x.first in
    sound_breaks_not draft text line true rule at (sound.form, refl) (inl refl) sound (subst (λ fed. LineBreaks draft text fed rule at) (sym same.1) (subst (λ one. LineBreaks draft one x.fed rule at) (sym same.0) x.broken)))
    (λ x. omega (arith, ap length (sym cut ∙ x.nothing), length-append text (10 ∷ more)))
    broken

-- two walks over one text end at one place
pub one_walk : (draft : PlainDraft) (xs ys : List PlainLine) (rest left : List ℕ) (rule other : BundleRule) (at place : ℕ) → SoundFrom draft xs → SoundFrom draft ys → bytes_of_lines xs ++ rest ≡ bytes_of_lines ys ++ left → BreaksBehind (after draft xs) rest rule at → BreaksBehind (after draft ys) left other place
    → (rule ≡ other) × (length (bytes_of_lines xs) + at ≡ length (bytes_of_lines ys) + place)
one_walk draft [] [] rest left rule other at place a b e x y =
    let same = one_break_behind draft rest rule other at place x (subst (λ bytes. BreaksBehind draft bytes other place) (sym e) y) in
    (same.0, omega (arith, same.1))
one_walk draft [] (l ∷ ys) rest left rule other at place a b e x y =
    absurd (sound_first draft l (bytes_of_lines ys ++ left) rest rule at b.0 (e ∙ append_assoc (line_text (line_glyphs l)) (bytes_of_lines ys) left) x)
one_walk draft (l ∷ xs) [] rest left rule other at place a b e x y =
    absurd (sound_first draft l (bytes_of_lines xs ++ rest) left other place a.0 (sym e ∙ append_assoc (line_text (line_glyphs l)) (bytes_of_lines xs) rest) y)
one_walk draft (l ∷ xs) (m ∷ ys) rest left rule other at place a b e x y =
    let joined : line_text (line_glyphs l) ++ (bytes_of_lines xs ++ rest) ≡ line_text (line_glyphs m) ++ (bytes_of_lines ys ++ left) =
    sym (append_assoc (line_text (line_glyphs l)) (bytes_of_lines xs) rest) ∙ (e ∙ append_assoc (line_text (line_glyphs m)) (bytes_of_lines ys) left) in
    let cut = same_first_line (line_glyphs l) (line_glyphs m) (bytes_of_lines xs ++ rest) (bytes_of_lines ys ++ left) (glyphs_of_line l a.0.form) (glyphs_of_line m b.0.form) joined in
    let one : m ≡ l = same_line m l (line_utf8 (line_glyphs m)) (b.0.form, refl) (a.0.form, ap line_utf8 (sym cut.0)) in
    let others = one_walk (with_line draft l) xs ys rest left rule other at place a.1 (subst (λ some. SoundFrom (with_line draft some) ys) one b.1) cut.1 x (subst (λ some. BreaksBehind (after (with_line draft some) ys) left other place) one y) in
    (others.0, omega (arith, others.1, ap (λ (line : List ℕ). length (line_text line)) cut.0, length-append (line_text (line_glyphs l)) (bytes_of_lines xs), length-append (line_text (line_glyphs m)) (bytes_of_lines ys)))

-- a text breaks one rule at one place
pub breaks_once : (bytes : List ℕ) (offset place : ℕ) (rule other : BundleRule) → Breaks bytes offset rule → Breaks bytes place other → (offset ≡ place) × (rule ≡ other)
breaks_once bytes offset place rule other a b =
    let whole : bytes_of_lines (forward a.before []) ++ a.rest ≡ bytes_of_lines (forward b.before []) ++ b.rest =
    ap (λ (front : List ℕ). front ++ a.rest) (front_text a.before) ∙ (sym a.whole ∙ (b.whole ∙ ap (λ (front : List ℕ). front ++ b.rest) (sym (front_text b.before)))) in
    let walk = one_walk nothing_read (forward a.before []) (forward b.before []) a.rest b.rest rule other a.at b.at (forward_sound a.before [] a.sound tt) (forward_sound b.before [] b.sound tt) whole (subst (λ draft. BreaksBehind draft a.rest rule a.at) (sym (after_forward a.before [])) a.broken)
    (subst (λ draft. BreaksBehind draft b.rest other b.at) (sym (after_forward b.before [])) b.broken) in
    (a.place ∙ (ap (λ (n : ℕ). n + a.at) (sym (ap length (front_text a.before))) ∙ (walk.1 ∙ (ap (λ (n : ℕ). n + b.at) (ap length (front_text b.before)) ∙ sym b.place))), walk.0)
