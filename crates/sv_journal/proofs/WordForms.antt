-- Reading one of several words, none of which begins another one.
use Rattle.std.proofs.Common.{◌≡◌, ℕ, zero, suc, ◌+◌, ◌-◌, ◌<◌, ◌≤◌, max, Bool, true, false, cond, eqb, leb, List, [], ◌∷◌, ◌++◌, Some, Ok, Err, length, take, drop, ◌⊎◌, inl, inr, refl, sym, ap, ◌∙◌, subst, arith, length-drop}
use Rattle.std.proofs.lemmas.Bool.{cases_Bool}
use Rattle.std.proofs.lemmas.Bool.Decides.{nat_tests}
use Rattle.std.proofs.lemmas.List.{take-append-drop}
use Rattle.apl_arrays.specs.List.{first_of}
use Rattle.text_reader.specs.Reading.{Reader, Reading, ◌>>=◌, read_literal, shared_length}
use Rattle.text_reader.proofs.Readers.{SameFirst, Anything, Found, Stopped, Reads, IsReader, AreGlyphs}
use Rattle.sv_journal.specs.WordReading.{read_word}

-- one of these
abbrev pub Member : {W : Type 0} → W → List W → Type 0
Member w [] = ⊥
Member w (x ∷ xs) = (w ≡ x) ⊎ Member w xs

shared_by : (glyph first : ℕ) (text rest : List ℕ) (b : Bool) → eqb first glyph ≡ b → shared_length (glyph ∷ text) (first ∷ rest) ≡ cond b (1 + shared_length text rest) 0
shared_by glyph first text rest b e = ap (λ c. cond c (1 + shared_length text rest) 0) e

-- no more glyphs are shared than there are
shared_within : (text line : List ℕ) → (shared_length text line ≤ length text) × (shared_length text line ≤ length line)
shared_within [] line = (omega arith, omega arith)
shared_within (glyph ∷ text) [] = (omega arith, omega arith)
shared_within (glyph ∷ text) (first ∷ rest) =
    let inner = shared_within text rest in
    elim (cases_Bool (eqb first glyph)) [
      | inl h ↦ (omega (arith, inner.0, shared_by glyph first text rest true h), omega (arith, inner.1, shared_by glyph first text rest true h))
      | inr h ↦ (omega (arith, shared_by glyph first text rest false h), omega (arith, shared_by glyph first text rest false h))
    ]

-- a text begins as the line does, as far as glyphs are shared
shared_front : (n : ℕ) (text line : List ℕ) → n ≤ shared_length text line → text ≡ take n line ++ drop n text
shared_front zero text line h = refl
shared_front (suc n) [] line h = absurd (omega (arith, h))
shared_front (suc n) (glyph ∷ text) [] h = absurd (omega (arith, h))
shared_front (suc n) (glyph ∷ text) (first ∷ rest) h =
    elim (cases_Bool (eqb first glyph)) [
      | inl e ↦
          let same : glyph ≡ first = grind (arith, nat_tests, e) in
          let inner = shared_front n text rest (omega (arith, h, shared_by glyph first text rest true e)) in
          cc (same, inner)
      | inr e ↦ absurd (omega (arith, h, shared_by glyph first text rest false e))
    ]

-- behind the shared glyphs a text departs from the line
departs : (n : ℕ) (text line behind z : List ℕ) → shared_length text line ≤ n → shared_length text line < length text → n ≤ length line → text ++ behind ≡ take n line ++ z → SameFirst z (drop n line) → ⊥
departs n [] line behind z most less within e agree = omega (arith, less)
departs zero (glyph ∷ text) [] behind z most less within e agree = let none : ⊥ = cc (ap first_of e, agree) in none
departs (suc n) (glyph ∷ text) [] behind z most less within e agree = omega (arith, within)
departs zero (glyph ∷ text) (first ∷ rest) behind z most less within e agree =
    elim (cases_Bool (eqb first glyph)) [
      | inl h ↦ omega (arith, most, shared_by glyph first text rest true h)
      | inr h ↦
          let same : glyph ≡ first = cc (ap first_of e, agree) in
          grind (arith, nat_tests, h, same)
    ]
departs (suc n) (glyph ∷ text) (first ∷ rest) behind z most less within e agree =
    elim (cases_Bool (eqb first glyph)) [
      | inl h ↦
          let inner : text ++ behind ≡ take n rest ++ z = cc in
          departs n text rest behind z (omega (arith, most, shared_by glyph first text rest true h)) (omega (arith, less, shared_by glyph first text rest true h)) (omega (arith, within)) inner agree
      | inr h ↦
          let same : glyph ≡ first = cc in
          grind (arith, nat_tests, h, same)
    ]

-- a text that is shared whole stands at the front
record StandsThere (text line : List ℕ) : Type 0 where
  rest : List ℕ
  read : read_literal text line ≡ Ok rest
  whole : line ≡ text ++ rest

stands_there : (text line : List ℕ) → shared_length text line ≡ length text → StandsThere text line
stands_there [] line e = record { rest = line; read = refl; whole = refl }
stands_there (glyph ∷ text) [] e = absurd (omega (arith, e))
stands_there (glyph ∷ text) (first ∷ rest) e =
    elim (cases_Bool (eqb first glyph)) [
      | inl h ↦
          let same : first ≡ glyph = grind (arith, nat_tests, h) in
          let inner = stands_there text rest (omega (arith, e, shared_by glyph first text rest true h)) in
          record { rest = inner.rest; read = ap (λ b. cond b (read_literal text rest) (Err (length (first ∷ rest)))) h ∙ inner.read; whole = cc (same, inner.whole) }
      | inr h ↦ absurd (omega (arith, e, shared_by glyph first text rest false h))
    ]

-- no word begins another one
abbrev pub AreApart : {W : Type 0} → (W → List ℕ) → Type 0
AreApart {W} text = (v w : W) (behind z : List ℕ) → text v ++ behind ≡ text w ++ z → v ≡ w

-- a word that does not stand at the front, of which no more than these glyphs do
record IsPast {W : Type 0} (text : W → List ℕ) (shared : ℕ) (line : List ℕ) (w : W) : Type 0 where
  most : shared_length (text w) line ≤ shared
  less : shared_length (text w) line < length (text w)

word_found : {W : Type 0} (text : W → List ℕ) (all : List W) → AreApart text → (line : List ℕ) (word : W) → Member word all → StandsThere (text word) line → Reads text (λ w. Member w all) Anything SameFirst line (read_literal (text word) line >>= λ rest. Ok (word, rest))
word_found text all apart line word here h =
    subst (λ read. Reads text (λ w. Member w all) Anything SameFirst line (read >>= λ rest. Ok (word, rest))) (sym h.read)
    (record { fits = here; whole = h.whole; only = λ w behind z fit follow e agree. apart w word behind z e })

word_stopped : {W : Type 0} (text : W → List ℕ) (all : List W) (line : List ℕ) (shared : ℕ) (best : W) → Member best all → shared ≤ shared_length (text best) line → ((w : W) → Member w all → IsPast text shared line w) → Stopped text (λ w. Member w all) Anything line (length line - shared)
word_stopped text all line shared best here long past = record {
  part = take shared line;
  rest = drop shared line;
  whole = sym (take-append-drop shared line);
  left_is = sym (length-drop shared line);
  value = best;
  more = drop shared (text best);
  fits = here;
  goes_on = shared_front shared (text best) line long;
  none = λ w behind z fit follow e agree. departs shared (text w) line behind z (past w fit).most (past w fit).less (omega (arith, long, (shared_within (text best) line).1)) e agree;
}

-- the word of two that shares more
record Better {W : Type 0} (text : W → List ℕ) (all : List W) (line : List ℕ) (shared : ℕ) : Type 0 where
  word : W
  here : Member word all
  long : shared ≤ shared_length (text word) line

of_two : {W : Type 0} (text : W → List ℕ) (all : List W) (line : List ℕ) (shared : ℕ) (word best : W) → Member word all → Member best all → shared ≤ shared_length (text best) line → (b : Bool) → leb (shared_length (text word) line) shared ≡ b → Better text all line (max shared (shared_length (text word) line))
of_two text all line shared word best this here long true e =
    let less : shared_length (text word) line ≤ shared = grind (arith, nat_tests, e) in
    record { word = best; here = here; long = omega (arith, less, long) }
of_two text all line shared word best this here long false e =
    let more : shared < shared_length (text word) line = grind (arith, nat_tests, e) in
    record { word = word; here = this; long = omega (arith, more) }

word_reads : {W : Type 0} (text : W → List ℕ) (all : List W) → AreApart text → (line : List ℕ) (words : List W) (shared : ℕ) → ((w : W) → Member w words → Member w all) → ((w : W) → Member w all → Member w words ⊎ IsPast text shared line w) → (best : W) → Member best all → shared ≤ shared_length (text best) line → Reads text (λ w. Member w all) Anything SameFirst line (read_word text shared words line)
word_reads text all apart line [] shared among past best here long =
    word_stopped text all line shared best here long (λ w fit. elim (past w fit) [ inl none ↦ absurd none | inr p ↦ p ])
word_reads {W} text all apart line (word ∷ words) shared among past best here long =
    elim (cases_Bool (eqb (shared_length (text word) line) (length (text word)))) [
      | inl h ↦
          let same : shared_length (text word) line ≡ length (text word) = grind (arith, nat_tests, h) in
          subst (λ b. Reads text (λ w. Member w all) Anything SameFirst line (cond b (read_literal (text word) line >>= λ rest. Ok (word, rest)) (read_word text (max shared (shared_length (text word) line)) words line))) (sym h)
          (word_found text all apart line word (among word (inl refl)) (stands_there (text word) line same))
      | inr h ↦
          let count : ℕ = shared_length (text word) line in
          let fewer : count < length (text word) = let other : count ≡ length (text word) → ⊥ = λ e. grind (arith, nat_tests, h, e) in omega (arith, other, (shared_within (text word) line).0) in
          let next = of_two text all line shared word best (among word (inl refl)) here long (leb count shared) refl in
          subst (λ b. Reads text (λ w. Member w all) Anything SameFirst line (cond b (read_literal (text word) line >>= λ rest. Ok (word, rest)) (read_word text (max shared count) words line))) (sym h)
          (word_reads text all apart line words (max shared count) (λ w fit. among w (inr fit))
          (λ w fit. elim (past w fit) [
            | inl there ↦ elim there [
              | inl is ↦ inr (subst (IsPast text (max shared count) line) (sym is) (record { most = omega arith; less = fewer }))
              | inr more ↦ inl more
            ]
            | inr p ↦ inr (record { most = omega (arith, p.most); less = p.less })
          ])
          next.word next.here next.long)
    ]

-- one of the words is read
pub reads_word : {W : Type 0} (text : W → List ℕ) (all : List W) → AreApart text → (some : W) → Member some all → IsReader text (λ w. Member w all) Anything SameFirst (read_word text 0 all)
reads_word text all apart some here line a =
    word_reads text all apart line all 0 (λ w fit. fit) (λ w fit. inl fit) some here (omega arith)
