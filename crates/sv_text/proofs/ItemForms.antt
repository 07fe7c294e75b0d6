-- Reading the items of arrays.
use Rattle.std.proofs.Common.{◌≡◌, ℕ, ℤ, pos, negsuc, zero, suc, ◌+◌, ◌-◌, ◌^◌, Bool, true, false, cond, eqb, List, [], ◌∷◌, ◌++◌, Some, None, Ok, map, codes, ◌⊎◌, inl, inr, refl, sym, ap, ◌∙◌, subst, arith}
use Rattle.std.specs.Prelude.{neg_ℤ}
use Rattle.std.proofs.lemmas.Bool.{false≢true, cases_Bool}
use Rattle.std.proofs.lemmas.Bool.Decides.{nat_tests}
use Rattle.std.specs.Fmt.{decimal}
use Rattle.std.specs.List.{flat_map}
use Rattle.apl_arrays.specs.Glyph.{IsGlyph, is_digit, overbar, quote}
use Rattle.apl_arrays.specs.Run.{begins}
use Rattle.line_text.specs.Number.{number_text}
use Rattle.line_text.specs.Spaced.{spaced}
use Rattle.line_text.proofs.SameNumbers.{Fits64, begins_count}
use Rattle.line_text.proofs.Spaced.{spaced_is}
use Rattle.apl_arrays.specs.List.{first_of}
use Rattle.text_reader.specs.Reading.{Reading, ◌>>=◌, always, read_list, read_literal, read_behind}
use Rattle.text_reader.specs.NumberReading.{read_number}
use Rattle.sv_text.specs.ValueReading.{read_negative, read_positive, read_integer, read_next_integer, read_numbers, read_char, read_quoted}
use Rattle.sv_text.specs.ValueText.{char_text}
use Rattle.text_reader.proofs.ListForms.{AreSoMany, head_or, rest_of, copies, copies_fit, no_more, reads_list, list_of_first}
use Rattle.text_reader.proofs.NumberForms.{InRange, NoDigit, reads_number, begins_same}
use Rattle.text_reader.proofs.Readers.{SameFirst, Anything, Reads, IsReader, AreGlyphs, reformed, retexted, behind_glyph, after_text, then_read, made, widened, nothing_more, no_further}

-- numbers

abbrev pub Negative : ℤ → Type 0
Negative (pos n) = ⊥
Negative (negsuc n) = Fits64 (negsuc n)

abbrev pub Positive : ℤ → Type 0
Positive (pos n) = Fits64 (pos n)
Positive (negsuc n) = ⊥

magnitude : ℤ → ℕ
magnitude (pos n) = n
magnitude (negsuc n) = suc n

negated : ℕ → ℤ
negated m = neg_ℤ (pos m)

small_negative : (e : ℤ) → Negative e → InRange 1 (2 ^ 63) (magnitude e)
unfolding magnitude
small_negative (pos n) h = absurd h
small_negative (negsuc n) h = record { least = omega arith; most = omega (arith, h) }

negative_again : (e : ℤ) → Negative e → negated (magnitude e) ≡ e
unfolding magnitude negated
negative_again (pos n) h = absurd h
negative_again (negsuc n) h = refl

negative_there : (m : ℕ) → InRange 1 (2 ^ 63) m → Negative (negated m)
unfolding negated
negative_there zero h = absurd (omega (arith, h.least))
negative_there (suc m) h = omega (arith, h.most)

negative_back : (m : ℕ) → InRange 1 (2 ^ 63) m → magnitude (negated m) ≡ m
unfolding magnitude negated
negative_back zero h = absurd (omega (arith, h.least))
negative_back (suc m) h = refl

reads_negative : IsReader (λ e. decimal (magnitude e)) Negative NoDigit SameFirst read_negative
unfolding negated
reads_negative =
    made decimal (InRange 1 (2 ^ 63)) NoDigit SameFirst (read_number 1 (2 ^ 63)) negated magnitude Negative (reads_number 1 (2 ^ 63) (omega arith) (omega arith)) small_negative negative_again negative_there negative_back

small_positive : (e : ℤ) → Positive e → InRange 0 (2 ^ 63 - 1) (magnitude e)
unfolding magnitude
small_positive (pos n) h = record { least = omega arith; most = omega (arith, h) }
small_positive (negsuc n) h = absurd h

positive_again : (e : ℤ) → Positive e → pos (magnitude e) ≡ e
unfolding magnitude
positive_again (pos n) h = refl
positive_again (negsuc n) h = absurd h

positive_there : (m : ℕ) → InRange 0 (2 ^ 63 - 1) m → Positive (pos m)
positive_there m h = omega (arith, h.most)

positive_back : (m : ℕ) → InRange 0 (2 ^ 63 - 1) m → magnitude (pos m) ≡ m
unfolding magnitude
positive_back m h = refl

reads_positive : IsReader (λ e. decimal (magnitude e)) Positive NoDigit SameFirst read_positive
reads_positive =
    made decimal (InRange 0 (2 ^ 63 - 1)) NoDigit SameFirst (read_number 0 (2 ^ 63 - 1)) pos magnitude Positive (reads_number 0 (2 ^ 63 - 1) (omega arith) (omega arith)) small_positive positive_again positive_there positive_back

negative_text : (e : ℤ) → Negative e → overbar ∷ decimal (magnitude e) ≡ number_text e
unfolding magnitude
negative_text (pos n) h = absurd h
negative_text (negsuc n) h = refl

positive_text : (e : ℤ) → Positive e → decimal (magnitude e) ≡ number_text e
unfolding magnitude
positive_text (pos n) h = refl
positive_text (negsuc n) h = absurd h

negative_fits : (e : ℤ) → Negative e → Fits64 e
negative_fits (pos n) h = absurd h
negative_fits (negsuc n) h = h

positive_fits : (e : ℤ) → Positive e → Fits64 e
positive_fits (pos n) h = h
positive_fits (negsuc n) h = absurd h

-- a number that is not negative begins with a digit
starts_with_digit : (n : ℕ) (behind line : List ℕ) → Fits64 (pos n) → SameFirst (number_text (pos n) ++ behind) line → begins is_digit line ≡ true
starts_with_digit n behind line h e =
    sym (begins_same is_digit (number_text (pos n) ++ behind) line e) ∙ begins_count n behind (omega (arith, h))

negative_or_other : (rest : List ℕ) (e : ℤ) (behind : List ℕ) → Fits64 e → NoDigit behind → Negative e ⊎ (SameFirst (number_text e ++ behind) (overbar ∷ rest) → ⊥)
negative_or_other rest (pos n) behind h follow = inr (λ same. false≢true (starts_with_digit n behind (overbar ∷ rest) h same))
negative_or_other rest (negsuc n) behind h follow = inl h

positive_or_other : (line : List ℕ) → (first_of line ≡ Some overbar → ⊥) → (e : ℤ) (behind : List ℕ) → Fits64 e → NoDigit behind → Positive e ⊎ (SameFirst (number_text e ++ behind) line → ⊥)
positive_or_other line not (pos n) behind h follow = inl h
positive_or_other line not (negsuc n) behind h follow = inr (λ same. not (sym same))

negative_read : (rest : List ℕ) → AreGlyphs rest → Reads number_text Fits64 NoDigit SameFirst (overbar ∷ rest) (read_negative rest)
negative_read rest a =
    let one : IsReader (λ e. decimal (magnitude e)) Negative NoDigit SameFirst read_negative = reads_negative in
    let sign = behind_glyph overbar (λ e. decimal (magnitude e)) Negative NoDigit SameFirst rest (read_negative rest) (one rest a) in
    widened number_text Negative Fits64 NoDigit SameFirst no_further negative_fits (overbar ∷ rest) (negative_or_other rest) (read_negative rest)
    (retexted (λ e. overbar ∷ decimal (magnitude e)) number_text Negative NoDigit (overbar ∷ rest) (read_negative rest) negative_text sign)

positive_read : (line : List ℕ) → AreGlyphs line → (first_of line ≡ Some overbar → ⊥) → Reads number_text Fits64 NoDigit SameFirst line (read_positive line)
positive_read line a not =
    widened number_text Positive Fits64 NoDigit SameFirst no_further positive_fits line (positive_or_other line not) (read_positive line)
    (retexted (λ e. decimal (magnitude e)) number_text Positive NoDigit line (read_positive line) positive_text (reads_positive line a))

sign_read : (x : ℕ) (rest : List ℕ) → AreGlyphs (x ∷ rest) → (b : Bool) → eqb x overbar ≡ b → Reads number_text Fits64 NoDigit SameFirst (x ∷ rest) (cond b (read_negative rest) (read_positive (x ∷ rest)))
sign_read x rest a true h =
    let same : overbar ≡ x = grind (arith, nat_tests, h) in
    subst (λ g. Reads number_text Fits64 NoDigit SameFirst (g ∷ rest) (read_negative rest)) same (negative_read rest a.1)
sign_read x rest a false h =
    positive_read (x ∷ rest) a (λ e. let same : x ≡ overbar = cc in grind (arith, nat_tests, h, same))

pub reads_integer : IsReader number_text Fits64 NoDigit SameFirst read_integer
reads_integer [] a = positive_read [] a (λ e. let none : ⊥ = cc in none)
reads_integer (x ∷ rest) a = sign_read x rest a (eqb x overbar) refl

-- a number behind a blank
abbrev pub next_text : ℤ → List ℕ
next_text number = 32 ∷ number_text number

pub fits_nought : Fits64 (pos 0)
fits_nought = omega arith

reads_next_integer : IsReader next_text Fits64 NoDigit SameFirst read_next_integer
unfolding read_next_integer
reads_next_integer = after_text (codes " ") number_text Fits64 NoDigit SameFirst read_integer (pos 0) fits_nought reads_integer

-- so many numbers with one blank between each two

abbrev pub numbers_text : List ℤ → List ℕ
numbers_text list = spaced (map number_text list)

spaced_numbers : (n : ℕ) (e : List ℤ) → AreSoMany Fits64 (suc n) e → number_text (head_or (pos 0) e) ++ flat_map next_text (rest_of e) ≡ numbers_text e
unfolding head_or rest_of
spaced_numbers n [] h = absurd (omega (arith, h.many))
spaced_numbers n (x ∷ xs) h = sym (spaced_is number_text x xs)

pub reads_numbers : (n : ℕ) → IsReader numbers_text (AreSoMany Fits64 n) NoDigit SameFirst (read_numbers n)
unfolding read_numbers
reads_numbers zero line a = record {
  fits = record { each = tt; many = refl };
  whole = refl;
  only = λ w behind z fit follow e agree. no_more Fits64 w fit;
}
reads_numbers (suc n) line a =
    let others : IsReader (flat_map next_text) (AreSoMany Fits64 n) NoDigit SameFirst (read_list always read_next_integer n) =
    reads_list next_text Fits64 NoDigit NoDigit read_next_integer (pos 0) fits_nought reads_next_integer (λ x behind h. refl) (λ behind h. h) n in
    let both = list_of_first number_text next_text Fits64 NoDigit NoDigit read_integer (pos 0) fits_nought reads_integer (λ x behind h. refl) (λ behind h. h) n (read_list always read_next_integer n) others in
    reformed (λ e. number_text (head_or (pos 0) e) ++ flat_map next_text (rest_of e)) numbers_text (AreSoMany Fits64 (suc n)) (AreSoMany Fits64 (suc n)) NoDigit NoDigit SameFirst (λ line. read_integer line >>= λ found. read_behind (found.0 ∷ []) (read_list always read_next_integer n found.1)) (λ e h. h) (λ e h. h) (spaced_numbers n) (λ behind h. h) both line a

-- characters

char_first_by : (g : ℕ) (behind : List ℕ) (b : Bool) → eqb g quote ≡ b → first_of (cond b (quote ∷ quote ∷ []) (g ∷ []) ++ behind) ≡ Some g
char_first_by g behind true h = ap Some (let same : quote ≡ g = grind (arith, nat_tests, h) in same)
char_first_by g behind false h = refl

-- a character between quotes begins with itself
char_first : (g : ℕ) (behind : List ℕ) → first_of (char_text g ++ behind) ≡ Some g
char_first g behind = char_first_by g behind (eqb g quote) refl

other_text : (g : ℕ) → eqb g quote ≡ false → char_text g ≡ g ∷ []
other_text g h = ap (λ b. cond b (quote ∷ quote ∷ []) (g ∷ [])) h

pub blank_glyph : IsGlyph 32
blank_glyph = (omega arith, omega arith, λ same. omega arith)

quote_glyph : IsGlyph quote
quote_glyph = (omega arith, omega arith, λ same. omega arith)

IsQuote : ℕ → Type 0
IsQuote g = g ≡ quote

quote_text : (e : ℕ) → IsQuote e → quote ∷ quote ∷ [] ≡ char_text e
unfolding IsQuote
quote_text e h = ap char_text (sym h)

quote_fits : (e : ℕ) → IsQuote e → IsGlyph e
unfolding IsQuote
quote_fits e h = subst IsGlyph (sym h) quote_glyph

quote_or_other : (rest : List ℕ) (e : ℕ) (behind : List ℕ) → IsGlyph e → Anything behind → IsQuote e ⊎ (SameFirst (char_text e ++ behind) (quote ∷ rest) → ⊥)
unfolding IsQuote
quote_or_other rest e behind h follow =
    elim (cases_Bool (eqb e quote)) [
      | inl same ↦ inl (grind (arith, nat_tests, same))
      | inr other ↦ inr (λ first.
          let equal : e ≡ quote = cc (char_first e behind, first) in
          grind (arith, nat_tests, other, equal))
    ]

quote_reads : IsReader (λ e. quote ∷ []) IsQuote Anything SameFirst (λ line. read_literal (codes "'") line >>= λ rest. Ok (quote, rest))
unfolding IsQuote
quote_reads =
    after_text (codes "'") (λ e. []) IsQuote Anything SameFirst (λ rest. Ok (quote, rest)) quote refl (nothing_more quote IsQuote Anything SameFirst refl (λ e h. h))

quote_read : (rest : List ℕ) → AreGlyphs rest → Reads char_text IsGlyph Anything SameFirst (quote ∷ rest) (read_literal (codes "'") rest >>= λ behind. Ok (quote, behind))
quote_read rest a =
    let one : IsReader (λ e. quote ∷ []) IsQuote Anything SameFirst (λ line. read_literal (codes "'") line >>= λ behind. Ok (quote, behind)) = quote_reads in
    let two = behind_glyph quote (λ e. quote ∷ []) IsQuote Anything SameFirst rest (read_literal (codes "'") rest >>= λ behind. Ok (quote, behind)) (one rest a) in
    widened char_text IsQuote IsGlyph Anything SameFirst no_further quote_fits (quote ∷ rest) (quote_or_other rest) (read_literal (codes "'") rest >>= λ behind. Ok (quote, behind))
    (retexted (λ e. quote ∷ quote ∷ []) char_text IsQuote Anything (quote ∷ rest) (read_literal (codes "'") rest >>= λ behind. Ok (quote, behind)) quote_text two)

char_read : (x : ℕ) (rest : List ℕ) → AreGlyphs (x ∷ rest) → (b : Bool) → eqb x quote ≡ b → Reads char_text IsGlyph Anything SameFirst (x ∷ rest) (cond b (read_literal (codes "'") rest >>= λ behind. Ok (x, behind)) (Ok (x, rest)))
char_read x rest a true h =
    let same : quote ≡ x = grind (arith, nat_tests, h) in
    subst (λ g. Reads char_text IsGlyph Anything SameFirst (g ∷ rest) (read_literal (codes "'") rest >>= λ behind. Ok (g, behind))) same (quote_read rest a.1)
char_read x rest a false h = record {
  fits = a.0;
  whole = ap (λ t. t ++ rest) (sym (other_text x h));
  only = λ w behind z fit follow e agree.
      let firsts : Some w ≡ Some x = sym (char_first w behind) ∙ (ap first_of e ∙ char_first x z) in
      cc firsts;
}

pub reads_char : IsReader char_text IsGlyph Anything SameFirst read_char
unfolding read_char
reads_char [] a = record {
  part = [];
  rest = [];
  whole = refl;
  left_is = refl;
  value = 32;
  more = 32 ∷ [];
  fits = blank_glyph;
  goes_on = refl;
  none = λ w behind z fit follow e agree. let firsts : Some w ≡ None = sym (char_first w behind) ∙ (ap first_of e ∙ agree) in cc firsts;
}
reads_char (x ∷ rest) a = char_read x rest a (eqb x quote) refl

-- so many characters between quotes

abbrev pub chars_text : List ℕ → List ℕ
chars_text list = quote ∷ (flat_map char_text list ++ quote ∷ [])

closed : (n : ℕ) (v : List ℕ) → AreSoMany IsGlyph n v → IsReader (λ e. quote ∷ []) (λ e. (e ≡ v) × AreSoMany IsGlyph n e) Anything SameFirst (λ line. read_literal (codes "'") line >>= λ rest. Ok (v, rest))
closed n v fits =
    after_text (codes "'") (λ e. []) (λ e. (e ≡ v) × AreSoMany IsGlyph n e) Anything SameFirst (λ rest. Ok (v, rest)) v (refl, fits) (nothing_more v (λ e. (e ≡ v) × AreSoMany IsGlyph n e) Anything SameFirst (refl, fits) (λ e h. h.0))

pub reads_quoted : (n : ℕ) → IsReader chars_text (AreSoMany IsGlyph n) Anything SameFirst (read_quoted n)
unfolding read_quoted
reads_quoted n =
    let list : IsReader (flat_map char_text) (AreSoMany IsGlyph n) Anything SameFirst (read_list always read_char n) = reads_list char_text IsGlyph Anything Anything read_char 32 blank_glyph reads_char (λ x behind h. tt) (λ behind h. tt) n in
    let inner : IsReader (λ e. flat_map char_text e ++ quote ∷ []) (AreSoMany IsGlyph n) Anything SameFirst (λ line. read_list always read_char n line >>= λ found. (read_literal (codes "'") found.1 >>= λ rest. Ok (found.0, rest))) =
    then_read (flat_map char_text) (AreSoMany IsGlyph n) Anything (λ e. e) (λ e. quote ∷ []) (AreSoMany IsGlyph n) Anything SameFirst (read_list always read_char n) (λ v line. read_literal (codes "'") line >>= λ rest. Ok (v, rest)) no_further list (closed n) (λ e h. h) (λ e behind h follow. tt) (λ v h. (v, refl, h)) in
    after_text (codes "'") (λ e. flat_map char_text e ++ quote ∷ []) (AreSoMany IsGlyph n) Anything SameFirst (λ line. read_list always read_char n line >>= λ found. (read_literal (codes "'") found.1 >>= λ rest. Ok (found.0, rest))) (copies n 32) (copies_fit IsGlyph n 32 blank_glyph) inner
