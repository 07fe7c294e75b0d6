-- Lines of a text, the first one first.
use Rattle.std.proofs.Common.{◌≡◌, ℕ, ◌+◌, ◌<◌, Bool, true, false, List, [], ◌∷◌, ◌++◌, Option, length, map, refl, sym, ap, ◌∙◌, subst, arith, append-nil, append_assoc, length-append}
use Rattle.std.proofs.lemmas.Bool.{false≢true}
use Rattle.line_text.specs.Lines.{line_text, lines_text}
use Rattle.line_text.proofs.SameLines.{same_first_line}
use Rattle.printed_text.specs.Departs.{DepartsAt, HasNextLine}
use Rattle.printed_text.specs.Draft.{PlainDraft, PlainSection, start, of_user, of_entries, ended, AreSound, IsSound, is_at_end, may_stand, nothing_read, said, text_before, with_line}
use Rattle.printed_text.specs.Line.{PlainLine, user, shown, journal, entry, end, line_glyphs}
use Rattle.printed_text.proofs.SameLines.{same_line}
use Rattle.printed_text.proofs.Printable.{line_is_of_glyphs}

-- the bytes of lines, each with its line feed
abbrev pub bytes_of : List PlainLine → List ℕ
bytes_of lines = lines_text (map line_glyphs lines)

module _ (users : Option (List ℕ)) where
  -- lines, the first one first, each of which may stand behind those before it
  abbrev pub SoundFrom : PlainDraft → List PlainLine → Type 0
  SoundFrom draft [] = Unit {0}
  SoundFrom draft (line ∷ lines) = IsSound users draft line × SoundFrom (with_line draft line) lines

-- what is said behind them
abbrev pub after : PlainDraft → List PlainLine → PlainDraft
after draft [] = draft
after draft (line ∷ lines) = after (with_line draft line) lines

-- lines turned round, in front of others
abbrev pub forward : List PlainLine → List PlainLine → List PlainLine
forward [] lines = lines
forward (line ∷ before) lines = forward before (line ∷ lines)

pub after_forward : (before lines : List PlainLine) → after nothing_read (forward before lines) ≡ after (said before) lines
after_forward [] lines = refl
after_forward (line ∷ before) lines = after_forward before (line ∷ lines)

text_forward : (before lines : List PlainLine) → bytes_of (forward before lines) ≡ text_before before ++ bytes_of lines
text_forward [] lines = refl
text_forward (line ∷ before) lines = text_forward before (line ∷ lines) ∙ sym (append_assoc (text_before before) (line_text (line_glyphs line)) (bytes_of lines))

pub front_text : (before : List PlainLine) → bytes_of (forward before []) ≡ text_before before
front_text before = text_forward before [] ∙ append-nil (text_before before)

-- behind the end no line may stand
nothing_behind : (users : Option (List ℕ)) (draft : PlainDraft) (section : PlainSection) (line : PlainLine) → draft.section ≡ section → is_at_end section ≡ true → may_stand users draft line ≡ true → ⊥
nothing_behind users draft start line is over may = false≢true over
nothing_behind users draft (of_user one) line is over may = false≢true over
nothing_behind users draft (of_entries entries) line is over may = false≢true over
nothing_behind users draft (ended entries) line is over may = false≢true (sym (none line) ∙ subst (λ (section : PlainSection). may_stand users (record draft { section = section }) line ≡ true) is may)
  where
    none : (line : PlainLine) → may_stand users (record draft { section = ended entries }) line ≡ false
    none (user number) = refl
    none (shown one) = refl
    none journal = refl
    none (entry place e) = refl
    none end = refl

pub none_goes_on : (users : Option (List ℕ)) (draft : PlainDraft) (bytes : List ℕ) → is_at_end draft.section ≡ true → HasNextLine users draft bytes → ⊥
none_goes_on users draft bytes over on = nothing_behind users draft draft.section on.line refl over on.sound.place

module _ (users : Option (List ℕ)) where
  pub forward_sound : (before lines : List PlainLine) → AreSound users before → SoundFrom users (said before) lines → SoundFrom users nothing_read (forward before lines)
  forward_sound [] lines sound more = more
  forward_sound (line ∷ before) lines sound more = forward_sound before (line ∷ lines) sound.1 (sound.0, more)

  first_goes_on : (draft : PlainDraft) (line : PlainLine) (lines : List PlainLine) (rest bytes : List ℕ) → IsSound users draft line → bytes ≡ bytes_of (line ∷ lines) ++ rest → HasNextLine users draft bytes
  first_goes_on draft line lines rest bytes sound e = record {
    line = line;
    behind = bytes_of lines ++ rest;
    sound = sound;
    whole = e ∙ append_assoc (line_text (line_glyphs line)) (bytes_of lines) rest;
  }

  -- two walks over one text that go on no further are one
  pub one_walk : (draft : PlainDraft) (xs ys : List PlainLine) (rest left : List ℕ) → SoundFrom users draft xs → SoundFrom users draft ys → bytes_of xs ++ rest ≡ bytes_of ys ++ left
      → (HasNextLine users (after draft xs) rest → ⊥) → (HasNextLine users (after draft ys) left → ⊥) → (xs ≡ ys) × (rest ≡ left)
  one_walk draft [] [] rest left a b e stops halts = (refl, e)
  one_walk draft [] (m ∷ ys) rest left a b e stops halts = absurd (stops (first_goes_on draft m ys left rest b.0 e))
  one_walk draft (l ∷ xs) [] rest left a b e stops halts = absurd (halts (first_goes_on draft l xs rest left a.0 (sym e)))
  one_walk draft (l ∷ xs) (m ∷ ys) rest left a b e stops halts =
      let joined : line_text (line_glyphs l) ++ (bytes_of xs ++ rest) ≡ line_text (line_glyphs m) ++ (bytes_of ys ++ left) =
      sym (append_assoc (line_text (line_glyphs l)) (bytes_of xs) rest) ∙ (e ∙ append_assoc (line_text (line_glyphs m)) (bytes_of ys) left) in
      let cut = same_first_line (line_glyphs l) (line_glyphs m) (bytes_of xs ++ rest) (bytes_of ys ++ left) (line_is_of_glyphs l a.0.form) (line_is_of_glyphs m b.0.form) joined in
      let one : m ≡ l = same_line m l b.0.form a.0.form (sym cut.0) in
      let others = one_walk (with_line draft l) xs ys rest left a.1 (subst (λ (some : PlainLine). SoundFrom users (with_line draft some) ys) one b.1) cut.1 stops
      (subst (λ (some : PlainLine). HasNextLine users (after (with_line draft some) ys) left → ⊥) one halts) in
      let heads : l ≡ m = sym one in
      let tails : xs ≡ ys = others.0 in
      (cc, others.1)

  -- a text departs at one place
  pub departs_once : (text : List ℕ) (at other : ℕ) → DepartsAt users text at → DepartsAt users text other → at ≡ other
  departs_once text at other a b =
      let whole : bytes_of (forward a.before []) ++ a.rest ≡ bytes_of (forward b.before []) ++ b.rest =
      ap (λ (front : List ℕ). front ++ a.rest) (front_text a.before) ∙ (sym a.whole ∙ (b.whole ∙ ap (λ (front : List ℕ). front ++ b.rest) (sym (front_text b.before)))) in
      let walk = one_walk nothing_read (forward a.before []) (forward b.before []) a.rest b.rest (forward_sound a.before [] a.sound tt) (forward_sound b.before [] b.sound tt) whole
      (subst (λ (draft : PlainDraft). HasNextLine users draft a.rest → ⊥) (sym (after_forward a.before [])) a.stops)
      (subst (λ (draft : PlainDraft). HasNextLine users draft b.rest → ⊥) (sym (after_forward b.before [])) b.stops) in
      a.place ∙ (sym (ap length (front_text a.before)) ∙ (ap (λ (lines : List PlainLine). length (bytes_of lines)) walk.0 ∙ (ap length (front_text b.before) ∙ sym b.place)))

  -- a text that is walked to the end departs nowhere
  pub ended_departs_not : (text : List ℕ) (lines : List PlainLine) (at : ℕ) → SoundFrom users nothing_read lines → is_at_end (after nothing_read lines).section ≡ true → text ≡ bytes_of lines → DepartsAt users text at → ⊥
  ended_departs_not text lines at sound over e d =
      let whole : bytes_of lines ++ [] ≡ bytes_of (forward d.before []) ++ d.rest =
      append-nil (bytes_of lines) ∙ (sym e ∙ (d.whole ∙ ap (λ (front : List ℕ). front ++ d.rest) (sym (front_text d.before)))) in
      let walk = one_walk nothing_read lines (forward d.before []) [] d.rest sound (forward_sound d.before [] d.sound tt) whole (λ on. none_goes_on users (after nothing_read lines) [] over on)
      (subst (λ (draft : PlainDraft). HasNextLine users draft d.rest → ⊥) (sym (after_forward d.before [])) d.stops) in
      let there : is_at_end (said d.before).section ≡ true =
      sym (ap (λ (draft : PlainDraft). is_at_end draft.section) (after_forward d.before [])) ∙ (sym (ap (λ (some : List PlainLine). is_at_end (after nothing_read some).section) walk.0) ∙ over) in
      d.wanting there (sym walk.1)
