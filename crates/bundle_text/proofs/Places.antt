-- A text breaks one rule at one place, and that of a bundle breaks nowhere.
use Rattle.std.proofs.Common.{◌≡◌, ◌≢◌, ◌⊎◌, ℕ, ◌+◌, ◌<◌, ◌≤◌, Bool, true, false, List, [], ◌∷◌, ◌++◌, length, map, refl, sym, ap, ◌∙◌, subst, arith, append-nil, append_assoc, length-append, ⊎_elim}
use Rattle.std.specs.List.{All}
use Rattle.std.proofs.lemmas.Bool.{false≢true}
use Rattle.std.proofs.lemmas.List.Elements.{All-head, All-tail}
use Rattle.apl_arrays.specs.Glyph.{IsGlyph, Spells, IsBadFrom, line_utf8}
use Rattle.apl_arrays.proofs.Spelling.{bad_nowhere, one_place}
use Rattle.line_text.specs.Lines.{end_line, line_text, HasNoFeed}
use Rattle.bundle_text.specs.Breaks.{IsSound, IsSpelled, IsEnded, IsBroken, IsMisfit, LineBreaks, IsFirstLine, FirstBreaks, LacksEnd, BreaksBehind}
use Rattle.bundle_text.specs.BundleLine.{PlainLine, IsBundleLine, IsTextOf, IsNoLine, line_glyphs}
use Rattle.bundle_text.specs.Draft.{PlainDraft}
use Rattle.bundle_text.specs.declared.refused.BundleRule.{BundleRule}
use Rattle.bundle_text.specs.declared.refused.BundleRule.TheVariants.{Glyph, Newline, Form, Place, Party, Limit, End}
use Rattle.bundle_text.proofs.Texts.{line_spells, same_line}

pub cut : (front other after rest : List ℕ) → HasNoFeed front → HasNoFeed other → front ++ 10 ∷ after ≡ other ++ 10 ∷ rest → (front ≡ other) × (after ≡ rest)
cut [] [] after rest a b e = (refl, cc)
cut [] (y ∷ other) after rest a b e = absurd (All-head (λ byte. byte ≢ 10) y other b cc)
cut (x ∷ front) [] after rest a b e = absurd (All-head (λ byte. byte ≢ 10) x front a cc)
cut (x ∷ front) (y ∷ other) after rest a b e =
    let head : x ≡ y = cc in
    let tails = cut front other after rest (All-tail (λ byte. byte ≢ 10) x front a) (All-tail (λ byte. byte ≢ 10) y other b) cc in
    (cc (head, tails.0), tails.1)

pub no_cut : (front after line : List ℕ) → HasNoFeed line → front ++ 10 ∷ after ≡ line → ⊥
no_cut [] after [] none e = absurd cc
no_cut [] after (y ∷ line) none e = All-head (λ byte. byte ≢ 10) y line none cc
no_cut (x ∷ front) after [] none e = absurd cc
no_cut (x ∷ front) after (y ∷ line) none e =
    let rest : front ++ 10 ∷ after ≡ line = cc in no_cut front after line (All-tail (λ byte. byte ≢ 10) y line none) rest

-- the line at the front is one
pub first_line_is_one : (bytes line other : List ℕ) (fed filled : Bool) → IsFirstLine bytes line fed → IsFirstLine bytes other filled → (line ≡ other) × (fed ≡ filled)
first_line_is_one bytes line other fed filled a b =
    ⊎_elim
    (λ x.
    ⊎_elim (λ y. ((cut line other a.rest b.rest a.no_feed b.no_feed (sym x.1 ∙ y.1)).0, x.0 ∙ sym y.0))
    (λ y. absurd (no_cut line a.rest other b.no_feed (sym x.1 ∙ y.1)))
    b.whole)
    (λ x.
    ⊎_elim (λ y. absurd (no_cut other b.rest line a.no_feed (sym y.1 ∙ x.1)))
    (λ y. (sym x.1 ∙ y.1, x.0 ∙ sym y.0))
    b.whole)
    a.whole

-- which rules a broken line keeps

abbrev IsLater : BundleRule → Type 0
IsLater Place = Unit {0}
IsLater Party = Unit {0}
IsLater Limit = Unit {0}
IsLater _ = ⊥

misfit_spelled : (draft : PlainDraft) (line : List ℕ) (rule : BundleRule) → IsMisfit draft line rule → IsSpelled line
misfit_spelled draft line rule m = (line_glyphs m.line, line_spells m.line line m.text)

-- behind the rule of glyphs a line is spelled
spelled : (draft : PlainDraft) (line : List ℕ) (fed : Bool) (rule : BundleRule) (at : ℕ) → LineBreaks draft line fed rule at → rule ≢ Glyph → IsSpelled line
spelled draft line fed Glyph at broken other = absurd (other refl)
spelled draft line fed Newline at broken other = broken.1
spelled draft line fed Form at broken other = broken.1
spelled draft line fed Place at broken other = misfit_spelled draft line Place broken.2
spelled draft line fed Party at broken other = misfit_spelled draft line Party broken.2
spelled draft line fed Limit at broken other = misfit_spelled draft line Limit broken.2
spelled draft line fed End at broken other = absurd broken

bad_and_spelled : (line : List ℕ) (at : ℕ) → IsBadFrom line at → IsSpelled line → ⊥
bad_and_spelled line at bad one = bad_nowhere line one.0 at one.1 bad

fed_and_not : (line : List ℕ) (fed : Bool) → IsEnded line fed → fed ≡ false → line ≢ end_line → ⊥
fed_and_not line fed ended none other = ⊎_elim (λ e. false≢true (sym none ∙ e)) (λ e. other e) ended

no_line_and_misfit : (draft : PlainDraft) (line : List ℕ) (rule : BundleRule) → IsNoLine line → IsMisfit draft line rule → ⊥
no_line_and_misfit draft line rule none m = none m.line m.text

-- two rules that one line breaks first are one
broken_once : (draft : PlainDraft) (line : PlainLine) (rule other : BundleRule) → IsBroken draft line rule → IsBroken draft line other → rule ≡ other
broken_once draft line Place Place a b = refl
broken_once draft line Place Party a b = absurd (false≢true (sym a ∙ b.0))
broken_once draft line Place Limit a b = absurd (false≢true (sym a ∙ b.0))
broken_once draft line Party Place a b = absurd (false≢true (sym b ∙ a.0))
broken_once draft line Party Party a b = refl
broken_once draft line Party Limit a b = absurd (false≢true (sym a.1 ∙ b.1))
broken_once draft line Limit Place a b = absurd (false≢true (sym b ∙ a.0))
broken_once draft line Limit Party a b = absurd (false≢true (sym b.1 ∙ a.1))
broken_once draft line Limit Limit a b = refl
broken_once draft line Glyph other a b = absurd a
broken_once draft line Newline other a b = absurd a
broken_once draft line Form other a b = absurd a
broken_once draft line End other a b = absurd a
broken_once draft line _ _ a b = absurd b

misfit_once : (draft : PlainDraft) (line : List ℕ) (rule other : BundleRule) → IsMisfit draft line rule → IsMisfit draft line other → rule ≡ other
misfit_once draft line rule other a b =
    broken_once draft a.line rule other a.broken (subst (λ one. IsBroken draft one other) (same_line b.line a.line line b.text a.text) b.broken)

-- a sound line breaks no rule
pub sound_breaks_not : (draft : PlainDraft) (line : List ℕ) (one : PlainLine) (fed : Bool) (rule : BundleRule) (at : ℕ) → IsTextOf one line → IsEnded line fed → IsSound draft one → LineBreaks draft line fed rule at → ⊥
sound_breaks_not draft line one fed Glyph at text ended sound broken =
    bad_and_spelled line at broken (line_glyphs one, line_spells one line text)
sound_breaks_not draft line one fed Newline at text ended sound broken = fed_and_not line fed ended broken.2 broken.3
sound_breaks_not draft line one fed Form at text ended sound broken = broken.3 one text
sound_breaks_not draft line one fed Place at text ended sound broken =
    let b = subst (λ some. IsBroken draft some Place) (same_line broken.2.line one line broken.2.text text) broken.2.broken in
    false≢true (sym b ∙ sound.place)
sound_breaks_not draft line one fed Party at text ended sound broken =
    let b = subst (λ some. IsBroken draft some Party) (same_line broken.2.line one line broken.2.text text) broken.2.broken in
    false≢true (sym b.1 ∙ sound.parties)
sound_breaks_not draft line one fed Limit at text ended sound broken =
    let b = subst (λ some. IsBroken draft some Limit) (same_line broken.2.line one line broken.2.text text) broken.2.broken in
    false≢true (sym b.2 ∙ sound.limits)
sound_breaks_not draft line one fed End at text ended sound broken = broken

-- one line breaks one rule first, at one byte
pub one_break : (draft : PlainDraft) (line : List ℕ) (fed : Bool) (rule other : BundleRule) (at place : ℕ) → LineBreaks draft line fed rule at → LineBreaks draft line fed other place → (rule ≡ other) × (at ≡ place)
one_break draft line fed Glyph Glyph at place x y = (refl, one_place line at place x y)
one_break draft line fed Glyph Newline at place x y = absurd (bad_and_spelled line at x y.1)
one_break draft line fed Glyph Form at place x y = absurd (bad_and_spelled line at x y.1)
one_break draft line fed Glyph Place at place x y = absurd (bad_and_spelled line at x (misfit_spelled draft line Place y.2))
one_break draft line fed Glyph Party at place x y = absurd (bad_and_spelled line at x (misfit_spelled draft line Party y.2))
one_break draft line fed Glyph Limit at place x y = absurd (bad_and_spelled line at x (misfit_spelled draft line Limit y.2))
one_break draft line fed Newline Glyph at place x y = absurd (bad_and_spelled line place y x.1)
one_break draft line fed Newline Newline at place x y = (refl, x.0 ∙ sym y.0)
one_break draft line fed Newline Form at place x y = absurd (fed_and_not line fed y.2 x.2 x.3)
one_break draft line fed Newline Place at place x y = absurd (fed_and_not line fed y.1 x.2 x.3)
one_break draft line fed Newline Party at place x y = absurd (fed_and_not line fed y.1 x.2 x.3)
one_break draft line fed Newline Limit at place x y = absurd (fed_and_not line fed y.1 x.2 x.3)
one_break draft line fed Form Glyph at place x y = absurd (bad_and_spelled line place y x.1)
one_break draft line fed Form Newline at place x y = absurd (fed_and_not line fed x.2 y.2 y.3)
one_break draft line fed Form Form at place x y = (refl, x.0 ∙ sym y.0)
one_break draft line fed Form Place at place x y = absurd (no_line_and_misfit draft line Place x.3 y.2)
one_break draft line fed Form Party at place x y = absurd (no_line_and_misfit draft line Party x.3 y.2)
one_break draft line fed Form Limit at place x y = absurd (no_line_and_misfit draft line Limit x.3 y.2)
one_break draft line fed Place Glyph at place x y = absurd (bad_and_spelled line place y (misfit_spelled draft line Place x.2))
one_break draft line fed Place Newline at place x y = absurd (fed_and_not line fed x.1 y.2 y.3)
one_break draft line fed Place Form at place x y = absurd (no_line_and_misfit draft line Place y.3 x.2)
one_break draft line fed Place Place at place x y = (refl, x.0 ∙ sym y.0)
one_break draft line fed Place Party at place x y = (misfit_once draft line Place Party x.2 y.2, x.0 ∙ sym y.0)
one_break draft line fed Place Limit at place x y = (misfit_once draft line Place Limit x.2 y.2, x.0 ∙ sym y.0)
one_break draft line fed Party Glyph at place x y = absurd (bad_and_spelled line place y (misfit_spelled draft line Party x.2))
one_break draft line fed Party Newline at place x y = absurd (fed_and_not line fed x.1 y.2 y.3)
one_break draft line fed Party Form at place x y = absurd (no_line_and_misfit draft line Party y.3 x.2)
one_break draft line fed Party Place at place x y = (misfit_once draft line Party Place x.2 y.2, x.0 ∙ sym y.0)
one_break draft line fed Party Party at place x y = (refl, x.0 ∙ sym y.0)
one_break draft line fed Party Limit at place x y = (misfit_once draft line Party Limit x.2 y.2, x.0 ∙ sym y.0)
one_break draft line fed Limit Glyph at place x y = absurd (bad_and_spelled line place y (misfit_spelled draft line Limit x.2))
one_break draft line fed Limit Newline at place x y = absurd (fed_and_not line fed x.1 y.2 y.3)
one_break draft line fed Limit Form at place x y = absurd (no_line_and_misfit draft line Limit y.3 x.2)
one_break draft line fed Limit Place at place x y = (misfit_once draft line Limit Place x.2 y.2, x.0 ∙ sym y.0)
one_break draft line fed Limit Party at place x y = (misfit_once draft line Limit Party x.2 y.2, x.0 ∙ sym y.0)
one_break draft line fed Limit Limit at place x y = (refl, x.0 ∙ sym y.0)
one_break draft line fed End other at place x y = absurd x
one_break draft line fed _ End at place x y = absurd y

pub nothing_first : (draft : PlainDraft) (bytes : List ℕ) (rule : BundleRule) (at : ℕ) → bytes ≡ [] → FirstBreaks draft bytes rule at → ⊥
nothing_first draft bytes rule at none b =
    ⊎_elim (λ x. omega (arith, ap length (sym x.1 ∙ none), length-append b.line (10 ∷ b.first.rest)))
    (λ x. omega (arith, x.2, ap length (sym x.1 ∙ none)))
    b.first.whole

-- one rule is broken behind what was said, at one byte
pub one_break_behind : (draft : PlainDraft) (bytes : List ℕ) (rule other : BundleRule) (at place : ℕ) → BreaksBehind draft bytes rule at → BreaksBehind draft bytes other place → (rule ≡ other) × (at ≡ place)
one_break_behind draft bytes rule other at place a b =
    ⊎_elim
    (λ x.
    ⊎_elim
    (λ y.
    let same = first_line_is_one bytes x.line y.line x.fed y.fed x.first y.first in
    one_break draft x.line x.fed rule other at place x.broken (subst (λ fed. LineBreaks draft x.line fed other place) (sym same.1) (subst (λ line. LineBreaks draft line y.fed other place) (sym same.0) y.broken)))
    (λ y. absurd (nothing_first draft bytes rule at y.nothing x))
    b)
    (λ x.
    ⊎_elim (λ y. absurd (nothing_first draft bytes other place x.nothing y)) (λ y. (x.named ∙ sym y.named, x.front ∙ sym y.front)) b)
    a
