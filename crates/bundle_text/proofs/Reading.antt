-- The text of a bundle breaks nowhere, and is that of one bundle.
use Rattle.std.proofs.Common.{◌≡◌, ◌⊎◌, ℕ, ◌+◌, ◌<◌, Bool, true, false, List, [], ◌∷◌, ◌++◌, length, map, Result, Ok, Err, MatchResult, refl, sym, ap, ◌∙◌, subst, arith, append-nil, append_assoc, length-append, ap₂, ⊎_elim, inl, inr}
use Rattle.std.specs.Prelude.{IfErr}
use Rattle.std.proofs.lemmas.Bool.{false≢true}
use Rattle.std.proofs.lemmas.List.{append_cancel_right}
use Rattle.line_text.specs.Lines.{line_text, end_line}
use Rattle.line_text.proofs.Ascii.{end_utf8}
use Rattle.line_text.proofs.SameLines.{same_first_line}
use Rattle.apl_arrays.specs.Glyph.{line_utf8}
use Rattle.bundle_text.specs.Breaks.{IsSound, IsFirstLine, LineBreaks, FirstBreaks, LacksEnd, BreaksBehind, Breaks}
use Rattle.bundle_text.specs.Rules.{PlainBundle, IsBundle}
use Rattle.bundle_text.specs.BundleLine.{PlainLine, input, user, order, file, clock, end, line_glyphs}
use Rattle.bundle_text.specs.Draft.{PlainDraft, PlainSection, start, of_user, turns, of_file, readings, ended, is_at_end, may_stand, with_line, nothing_read, bundle_of}
use Rattle.bundle_text.specs.Bundle.{lines_of, bundle_said_by, bytes_of_lines, BundleText, IsNoBundle}
use Rattle.bundle_text.specs.Refused.{IsReason, IsRefusal}
use Rattle.bundle_text.specs.declared.refused.BundleRefused.{BundleRefused}
use Rattle.bundle_text.specs.declared.refused.BundleRefused.TheVariants.{Malformed, WantOfMemory}
use Rattle.bundle_text.specs.declared.refused.BundleRule.{BundleRule}
use Rattle.bundle_text.proofs.Grammar.{page_reach}
use Rattle.bundle_text.proofs.Pages.{longer_open}
use Rattle.bundle_text.proofs.Places.{first_line_is_one, sound_breaks_not, nothing_first}
use Rattle.bundle_text.proofs.Texts.{glyphs_of_line, line_has_no_feed, same_line}
use Rattle.bundle_text.proofs.Walks.{SoundFrom, after, forward, forward_sound, after_forward, front_text, sound_first, breaks_once}

-- behind the end no line may stand
nothing_behind : (section : PlainSection) (line : PlainLine) → is_at_end section ≡ true → may_stand section line ≡ true → ⊥
nothing_behind start line over may = false≢true over
nothing_behind (of_user one) line over may = false≢true over
nothing_behind turns line over may = false≢true over
nothing_behind (of_file one) line over may = false≢true over
nothing_behind readings line over may = false≢true over
nothing_behind ended (input line) over may = false≢true may
nothing_behind ended (user number) over may = false≢true may
nothing_behind ended (order numbers) over may = false≢true may
nothing_behind ended (file name) over may = false≢true may
nothing_behind ended (clock numbers) over may = false≢true may
nothing_behind ended end over may = false≢true may

-- the first lines of two sound walks over one text
pub one_first : (draft : PlainDraft) (l m : PlainLine) (rest left : List ℕ) → IsSound draft l → IsSound draft m → line_text (line_glyphs l) ++ rest ≡ line_text (line_glyphs m) ++ left → (m ≡ l) × (rest ≡ left)
one_first draft l m rest left a b e =
    let cut = same_first_line (line_glyphs l) (line_glyphs m) rest left (glyphs_of_line l a.form) (glyphs_of_line m b.form) e in
    (same_line m l (line_utf8 (line_glyphs m)) (b.form, refl) (a.form, ap line_utf8 (sym cut.0)), cut.1)

-- two walks to an end over one text are one
pub same_walk : (draft : PlainDraft) (xs ys : List PlainLine) (rest left : List ℕ) → SoundFrom draft xs → SoundFrom draft ys → is_at_end (after draft xs).section ≡ true → is_at_end (after draft ys).section ≡ true → bytes_of_lines xs ++ rest ≡ bytes_of_lines ys ++ left → xs ≡ ys
same_walk draft [] [] rest left a b over done e = refl
same_walk draft [] (m ∷ ys) rest left a b over done e = absurd (nothing_behind draft.section m over b.0.place)
same_walk draft (l ∷ xs) [] rest left a b over done e = absurd (nothing_behind draft.section l done a.0.place)
same_walk draft (l ∷ xs) (m ∷ ys) rest left a b over done e =
    let one = one_first draft l m (bytes_of_lines xs ++ rest) (bytes_of_lines ys ++ left) a.0 b.0 (sym (append_assoc (line_text (line_glyphs l)) (bytes_of_lines xs) rest) ∙ (e ∙ append_assoc (line_text (line_glyphs m)) (bytes_of_lines ys) left)) in
    let others = same_walk (with_line draft l) xs ys rest left a.1 (subst (λ some. SoundFrom (with_line draft some) ys) one.0 b.1) over (subst (λ some. is_at_end (after (with_line draft some) ys).section ≡ true) one.0 done) one.1 in
    cc (one.0, others)

-- the line that ends is the end
last_is_end : (draft : PlainDraft) (line : PlainLine) → IsSound draft line → is_at_end (with_line draft line).section ≡ true → line ≡ end
last_is_end draft (input line) sound over = absurd (false≢true (sym (longer_open draft.section line sound.place) ∙ over))
last_is_end draft (user number) sound over = absurd (false≢true over)
last_is_end draft (order numbers) sound over = absurd (false≢true over)
last_is_end draft (file name) sound over = absurd (false≢true over)
last_is_end draft (clock numbers) sound over = absurd (false≢true over)
last_is_end draft end sound over = refl

-- the text of lines ends with a line feed
record EndsFed (lines : List PlainLine) : Type 0 where
  front : List ℕ
  whole : bytes_of_lines lines ≡ front ++ 10 ∷ []

ends_fed : (line : PlainLine) (lines : List PlainLine) → EndsFed (line ∷ lines)
ends_fed line [] = record { front = line_utf8 (line_glyphs line); whole = append-nil (line_text (line_glyphs line)) }
ends_fed line (next ∷ lines) =
    let rest = ends_fed next lines in
    record { front = line_text (line_glyphs line) ++ rest.front; whole = ap (λ (some : List ℕ). line_text (line_glyphs line) ++ some) rest.whole ∙ sym (append_assoc (line_text (line_glyphs line)) rest.front (10 ∷ [])) }

-- a sound end that lacks its line feed breaks nothing
end_alone : (draft : PlainDraft) (bytes : List ℕ) (rule : BundleRule) (at : ℕ) → IsSound draft end → bytes ≡ end_line → BreaksBehind draft bytes rule at → ⊥
end_alone draft bytes rule at sound whole broken =
    let text = line_utf8 (line_glyphs end) in
    let is : bytes ≡ text = whole ∙ sym end_utf8 in
    let first : IsFirstLine bytes text false = record { no_feed = line_has_no_feed end tt; rest = []; whole = inr (refl, is, omega (arith, ap length end_utf8)) } in
    ⊎_elim
    (λ x.
    let same = first_line_is_one bytes text x.line false x.fed first x.first in
    sound_breaks_not draft text end false rule at (tt, refl) (inr end_utf8) sound (subst (λ fed. LineBreaks draft text fed rule at) (sym same.1) (subst (λ one. LineBreaks draft one x.fed rule at) (sym same.0) x.broken)))
    (λ x. omega (arith, ap length (sym whole ∙ x.nothing)))
    broken

-- a walk to an end breaks nowhere

never_fed : (draft : PlainDraft) (xs ls : List PlainLine) (rest : List ℕ) (rule : BundleRule) (at : ℕ) → SoundFrom draft xs → SoundFrom draft ls → is_at_end (after draft ls).section ≡ true → bytes_of_lines xs ++ rest ≡ bytes_of_lines ls → BreaksBehind (after draft xs) rest rule at → ⊥
never_fed draft [] [] rest rule at a b over e broken =
    ⊎_elim (λ x. nothing_first draft rest rule at e x) (λ x. false≢true (sym x.no_end ∙ over)) broken
never_fed draft [] (l ∷ ls) rest rule at a b over e broken = sound_first draft l (bytes_of_lines ls) rest rule at b.0 e broken
never_fed draft (l ∷ xs) [] rest rule at a b over e broken =
    omega (arith, ap length e, length-append (line_text (line_glyphs l) ++ bytes_of_lines xs) rest, length-append (line_text (line_glyphs l)) (bytes_of_lines xs), length-append (line_utf8 (line_glyphs l)) (10 ∷ []))
never_fed draft (l ∷ xs) (m ∷ ls) rest rule at a b over e broken =
    let one = one_first draft l m (bytes_of_lines xs ++ rest) (bytes_of_lines ls) a.0 b.0 (sym (append_assoc (line_text (line_glyphs l)) (bytes_of_lines xs) rest) ∙ e) in
    never_fed (with_line draft l) xs ls rest rule at a.1 (subst (λ some. SoundFrom (with_line draft some) ls) one.0 b.1) (subst (λ some. is_at_end (after (with_line draft some) ls).section ≡ true) one.0 over) one.1 broken

never_bare : (draft : PlainDraft) (xs ls : List PlainLine) (rest : List ℕ) (rule : BundleRule) (at : ℕ) → SoundFrom draft xs → SoundFrom draft ls → is_at_end (after draft ls).section ≡ true → (bytes_of_lines xs ++ rest) ++ 10 ∷ [] ≡ bytes_of_lines ls → BreaksBehind (after draft xs) rest rule at → ⊥
never_bare draft [] [] rest rule at a b over e broken =
    omega (arith, ap length e, length-append rest (10 ∷ []))
never_bare draft [] (l ∷ []) rest rule at a b over e broken =
    let is = last_is_end draft l b.0 over in
    let text : rest ≡ line_utf8 (line_glyphs l) = append_cancel_right rest (line_utf8 (line_glyphs l)) (10 ∷ []) (e ∙ append-nil (line_text (line_glyphs l))) in
    end_alone draft rest rule at (subst (IsSound draft) is b.0) (text ∙ (ap (λ line. line_utf8 (line_glyphs line)) is ∙ end_utf8)) broken
never_bare draft [] (l ∷ m ∷ ls) rest rule at a b over e broken =
    let more = ends_fed m ls in
    let whole : rest ++ 10 ∷ [] ≡ (line_text (line_glyphs l) ++ more.front) ++ 10 ∷ [] = e ∙ (ap (λ (some : List ℕ). line_text (line_glyphs l) ++ some) more.whole ∙ sym (append_assoc (line_text (line_glyphs l)) more.front (10 ∷ []))) in
    sound_first draft l more.front rest rule at b.0 (append_cancel_right rest (line_text (line_glyphs l) ++ more.front) (10 ∷ []) whole) broken
never_bare draft (l ∷ xs) [] rest rule at a b over e broken =
    omega (arith, ap length e, length-append ((line_text (line_glyphs l) ++ bytes_of_lines xs) ++ rest) (10 ∷ []))
never_bare draft (l ∷ xs) (m ∷ ls) rest rule at a b over e broken =
    let regrouped : ((line_text (line_glyphs l) ++ bytes_of_lines xs) ++ rest) ++ 10 ∷ [] ≡ line_text (line_glyphs l) ++ ((bytes_of_lines xs ++ rest) ++ 10 ∷ []) =
    ap (λ (some : List ℕ). some ++ 10 ∷ []) (append_assoc (line_text (line_glyphs l)) (bytes_of_lines xs) rest) ∙ append_assoc (line_text (line_glyphs l)) (bytes_of_lines xs ++ rest) (10 ∷ []) in
    let one = one_first draft l m ((bytes_of_lines xs ++ rest) ++ 10 ∷ []) (bytes_of_lines ls) a.0 b.0 (sym regrouped ∙ e) in
    never_bare (with_line draft l) xs ls rest rule at a.1 (subst (λ some. SoundFrom (with_line draft some) ls) one.0 b.1) (subst (λ some. is_at_end (after (with_line draft some) ls).section ≡ true) one.0 over) one.1 broken

pub never : (bytes : List ℕ) (bundle : PlainBundle) (offset : ℕ) (rule : BundleRule) → BundleText bytes bundle → Breaks bytes offset rule → ⊥
never bytes bundle offset rule text broken =
    let reach = page_reach text.page (subst IsBundle (sym text.says) text.rules) text.forms text.short in
    let xs = forward broken.before [] in
    let sound = forward_sound broken.before [] broken.sound tt in
    let behind = subst (λ draft. BreaksBehind draft broken.rest rule broken.at) (sym (after_forward broken.before [])) broken.broken in
    let over : is_at_end (after nothing_read (lines_of text.page)).section ≡ true = ap (λ (draft : PlainDraft). is_at_end draft.section) reach.leads.there ∙ reach.section in
    let whole : bytes_of_lines xs ++ broken.rest ≡ bytes = ap (λ (front : List ℕ). front ++ broken.rest) (front_text broken.before) ∙ sym broken.whole in
    ⊎_elim (λ e. never_fed nothing_read xs (lines_of text.page) broken.rest rule broken.at sound reach.leads.sound over (whole ∙ e) behind)
    (λ e. never_bare nothing_read xs (lines_of text.page) broken.rest rule broken.at sound reach.leads.sound over (ap (λ (some : List ℕ). some ++ 10 ∷ []) whole ∙ e) behind)
    text.text

-- one bundle

-- what the lines of a bundle's text say, and that they are sound and end
record Telling (bytes : List ℕ) (bundle : PlainBundle) : Type 0 where
  lines : List PlainLine
  sound : SoundFrom nothing_read lines
  over : is_at_end (after nothing_read lines).section ≡ true
  says : bundle_of (after nothing_read lines) ≡ bundle
  text : (bytes ≡ bytes_of_lines lines) ⊎ (bytes ++ 10 ∷ [] ≡ bytes_of_lines lines)

told : (bytes : List ℕ) (bundle : PlainBundle) → BundleText bytes bundle → Telling bytes bundle
told bytes bundle text =
    let reach = page_reach text.page (subst IsBundle (sym text.says) text.rules) text.forms text.short in
    record {
      lines = lines_of text.page;
      sound = reach.leads.sound;
      over = ap (λ (draft : PlainDraft). is_at_end draft.section) reach.leads.there ∙ reach.section;
      says = ap bundle_of reach.leads.there ∙ (reach.says ∙ text.says);
      text = text.text;
    }

same_told : (bytes : List ℕ) (bundle other : PlainBundle) (a : Telling bytes bundle) (b : Telling bytes other) → a.lines ≡ b.lines → bundle ≡ other
same_told bytes bundle other a b e = sym a.says ∙ (ap (λ (lines : List PlainLine). bundle_of (after nothing_read lines)) e ∙ b.says)

with_nothing : (lines : List PlainLine) → bytes_of_lines lines ++ [] ≡ bytes_of_lines lines
with_nothing lines = append-nil (bytes_of_lines lines)

one_told : (bytes : List ℕ) (bundle other : PlainBundle) (a : Telling bytes bundle) (b : Telling bytes other) → a.lines ≡ b.lines
one_told bytes bundle other a b =
    ⊎_elim
    (λ x.
    ⊎_elim (λ y. same_walk nothing_read a.lines b.lines [] [] a.sound b.sound a.over b.over (with_nothing a.lines ∙ (sym x ∙ (y ∙ sym (with_nothing b.lines)))))
    (λ y. same_walk nothing_read a.lines b.lines (10 ∷ []) [] a.sound b.sound a.over b.over (ap (λ (some : List ℕ). some ++ 10 ∷ []) (sym x) ∙ (y ∙ sym (with_nothing b.lines))))
    b.text)
    (λ x.
    ⊎_elim (λ y. same_walk nothing_read a.lines b.lines [] (10 ∷ []) a.sound b.sound a.over b.over (with_nothing a.lines ∙ (sym x ∙ ap (λ (some : List ℕ). some ++ 10 ∷ []) y)))
    (λ y. same_walk nothing_read a.lines b.lines [] [] a.sound b.sound a.over b.over (with_nothing a.lines ∙ (sym x ∙ (y ∙ sym (with_nothing b.lines)))))
    b.text)
    a.text

pub one_bundle : (bytes : List ℕ) (bundle other : PlainBundle) → BundleText bytes bundle → BundleText bytes other → bundle ≡ other
one_bundle bytes bundle other a b =
    let one = told bytes bundle a in
    let another = told bytes other b in
    same_told bytes bundle other one another (one_told bytes bundle other one another)

-- what is read is all that can be

pub only_bundle : (bytes : List ℕ) (result : Result PlainBundle BundleRefused) → MatchResult result (λ bundle. BundleText bytes bundle) (λ why. IsRefusal why (Breaks bytes))
    → (bundle : PlainBundle) → BundleText bytes bundle → MatchResult result (λ read. read ≡ bundle) (λ why. why ≡ WantOfMemory)
only_bundle bytes (Ok read) is bundle text = one_bundle bytes read bundle is text
only_bundle bytes (Err WantOfMemory) is bundle text = refl
only_bundle bytes (Err (Malformed offset rule)) is bundle text = absurd (never bytes bundle offset rule text is)

pub only_breaks : (bytes : List ℕ) (result : Result PlainBundle BundleRefused) → MatchResult result (λ bundle. BundleText bytes bundle) (λ why. IsRefusal why (Breaks bytes))
    → (offset : ℕ) (rule : BundleRule) → Breaks bytes offset rule → MatchResult result (λ _. ⊥) (λ why. (why ≡ Malformed offset rule) ⊎ (why ≡ WantOfMemory))
only_breaks bytes (Ok read) is offset rule broken = never bytes read offset rule is broken
only_breaks bytes (Err WantOfMemory) is offset rule broken = inr refl
only_breaks bytes (Err (Malformed place other)) is offset rule broken =
    let same = breaks_once bytes place offset other rule is broken in
    inl (ap₂ (λ p r. Malformed p r) same.0 same.1)

pub no_bundle : (bytes : List ℕ) (result : Result PlainBundle BundleRefused) → MatchResult result (λ bundle. BundleText bytes bundle) (λ why. IsRefusal why (Breaks bytes))
    → IfErr result (λ why. IsReason why (IsNoBundle bytes))
no_bundle bytes (Ok read) is = tt
no_bundle bytes (Err WantOfMemory) is = tt
no_bundle bytes (Err (Malformed offset rule)) is = λ bundle text. never bytes bundle offset rule text is
