-- A number is computed exactly where the grammar has one.
use Rattle.std.proofs.Common.{◌≡◌, ℕ, suc, ◌+◌, ◌^◌, ◌<◌, ℤ, pos, negsuc, Bool, true, false, cond, eqb, List, [], ◌∷◌, ◌++◌, Option, Some, None, length, take, drop, refl, sym, ap, subst, ◌∙◌, append_assoc, arith, w64}
use Rattle.std.specs.Prelude.{FitsSigned}
use Rattle.std.specs.List.{prefix_len, list_all, take_while}
use Rattle.std.specs.Str.Parse.{digits_value}
use Rattle.std.proofs.lemmas.Bool.{both_ways, false_from_ne_true, and_parts, ltb-true, lt-ltb, eqb-true, eqb-false, ne_eqb}
use Rattle.std.proofs.lemmas.Bool.Decides.{nat_tests}
use Rattle.std.proofs.lemmas.List.{length-append, nil_from_length}
use Rattle.apl_arrays.specs.Glyph as named
use Rattle.apl_arrays.specs.Glyph.{is_digit}
use Rattle.apl_arrays.specs.Number.{fits}
use Rattle.line_scanner.specs.Role.{is_overbar}
use Rattle.line_scanner.specs.Number.{signed, of_glyphs, found_after, signed_number, number}
use Rattle.apl_arrays.specs.Run.{begins}
use Rattle.line_scanner.specs.Grammar.{AreDigits, overbar_if, IsNumber, NumberFirst, BeginsNoToken, no_digit, out_of_range}
use Rattle.std.proofs.lemmas.Option.{same_Some}
use Rattle.line_scanner.proofs.Found.{behind_some, behind_none}
use Rattle.apl_arrays.proofs.Runs.{run_passes, run_stops, run_splits, take_run}

-- a number that passes the test fits, and the other way round
pub fits_from_test : (z : ℤ) → fits z ≡ true → FitsSigned w64 z
fits_from_test (pos n) e = record { sfits = ltb-true n (2 ^ 63) e }
fits_from_test (negsuc n) e = record { sfits = ltb-true n (2 ^ 63) e }

pub test_from_fits : (z : ℤ) → FitsSigned w64 z → fits z ≡ true
test_from_fits (pos n) f = lt-ltb n (2 ^ 63) f.sfits
test_from_fits (negsuc n) f = lt-ltb n (2 ^ 63) f.sfits

-- a number taken from the front of a line
pub record NumberTaken (line : List ℕ) (value : ℤ) (taken : ℕ) : Type 0 where
  pub number : List ℕ
  pub rest : List ℕ
  pub whole : line ≡ number ++ rest
  pub is_number : IsNumber number value
  pub ends : begins is_digit rest ≡ false
  pub len : taken ≡ length number
  pub some : 0 < taken

of_by : (len : ℕ) (z : ℤ) (found : ℤ × ℕ) (empty small : Bool) → cond empty None (of_glyphs len (cond small (Some z) None)) ≡ Some found → (empty ≡ false) × (small ≡ true) × (z ≡ found.0) × (len ≡ found.1)
of_by len z found true small e = absurd cc
of_by len z found false false e = absurd cc
of_by len z found false true e = (refl, refl, ap (λ (x : ℤ × ℕ). x.0) (same_Some (z, len) found e), ap (λ (x : ℤ × ℕ). x.1) (same_Some (z, len) found e))

-- the digits of a number behind its sign
taken_of : (negative : Bool) (xs : List ℕ) (found : ℤ × ℕ) → signed_number negative (take_while is_digit xs) ≡ Some found → NumberTaken (overbar_if negative ++ xs) found.0 (length (overbar_if negative) + found.1)
taken_of negative xs found e =
    let digits = take (prefix_len is_digit xs) xs in
    let value = signed negative (digits_value 10 digits) in
    let p = of_by (length digits) value found (eqb (length digits) 0) (fits value) e in
    let some : length digits ≡ 0 → ⊥ = eqb-false (length digits) 0 p.0 in
    record {
      number = overbar_if negative ++ digits;
      rest = drop (prefix_len is_digit xs) xs;
      whole = ap (λ (ys : List ℕ). overbar_if negative ++ ys) (run_splits is_digit xs) ∙ sym (append_assoc (overbar_if negative) digits (drop (prefix_len is_digit xs) xs));
      is_number = record {
        negative = negative;
        digits = digits;
        are_digits = record { some = omega (arith, some); all = run_passes is_digit xs };
        spelled = refl;
        is = sym p.2;
        fits = subst (λ (z : ℤ). FitsSigned w64 z) p.2 (fits_from_test value p.1);
      };
      ends = run_stops is_digit xs;
      len = omega (arith, p.3, length-append (overbar_if negative) digits);
      some = omega (arith, some, p.3);
    }

taken_same : (line same : List ℕ) (v w : ℤ) (m n : ℕ) → line ≡ same → v ≡ w → m ≡ n → NumberTaken line v m → NumberTaken same w n
taken_same line same v w m n e f g h = subst (λ (xs : List ℕ). NumberTaken xs w n) e (subst (λ (z : ℤ). NumberTaken line z n) f (subst (λ (k : ℕ). NumberTaken line v k) g h))

number_by : (first : ℕ) (rest : List ℕ) (found : ℤ × ℕ) (negative : Bool) → is_overbar first ≡ negative
    → cond negative (found_after 1 (signed_number true (take_while is_digit rest))) (signed_number false (take_while is_digit (first ∷ rest))) ≡ Some found → NumberTaken (first ∷ rest) found.0 found.1
number_by first rest found true is e =
    let inner = behind_some 1 (signed_number true (take_while is_digit rest)) found e in
    taken_same (named.overbar ∷ rest) (first ∷ rest) inner.0.0 found.0 (1 + inner.0.1) found.1 (ap (λ (g : ℕ). g ∷ rest) (sym (eqb-true first named.overbar is))) inner.2 inner.3 (taken_of true rest inner.0 inner.1)
number_by first rest found false is e =
    let taken = taken_of false (first ∷ rest) found e in
    let same : length (overbar_if false) + found.1 ≡ found.1 = omega arith in
    subst (NumberTaken (first ∷ rest) found.0) same taken

-- what is computed is a number
pub number_sound : (line : List ℕ) (found : ℤ × ℕ) → number line ≡ Some found → NumberTaken line found.0 found.1
unfolding number
number_sound [] found e = absurd cc
number_sound (first ∷ rest) found e = number_by first rest found (is_overbar first) refl e

-- the number of some digits, where it fits
number_of_is : (negative : Bool) (digits : List ℕ) → 0 < length digits → fits (signed negative (digits_value 10 digits)) ≡ true → signed_number negative digits ≡ Some (signed negative (digits_value 10 digits), length digits)
number_of_is negative digits some small =
    let nonempty : eqb (length digits) 0 ≡ false = ne_eqb (length digits) 0 (λ e. omega arith) in
    rw (nonempty, small) refl

digit_not_overbar : (g : ℕ) → is_digit g ≡ true → is_overbar g ≡ false
digit_not_overbar g e = grind (arith, nat_tests)

-- the number of a text that begins with these digits
number_at : (negative : Bool) (digits others : List ℕ) → AreDigits digits → begins is_digit others ≡ false → number (overbar_if negative ++ (digits ++ others)) ≡ found_after (length (overbar_if negative)) (signed_number negative digits)
unfolding number
number_at true digits others are ends = rw (take_run is_digit digits others are.all ends) refl
number_at false [] others are ends = absurd (omega (arith, are.some))
number_at false (digit ∷ digits) others are ends =
    let parts = and_parts (is_digit digit) (list_all is_digit digits) are.all in
    rw (digit_not_overbar digit parts.0, take_run is_digit (digit ∷ digits) others are.all ends) (behind_nothing (signed_number false (digit ∷ digits)))
  where
    behind_nothing : (found : Option (ℤ × ℕ)) → found ≡ found_after 0 found
    behind_nothing None = refl
    behind_nothing (Some found) = let same : found.1 ≡ 0 + found.1 = omega arith in ap (λ (n : ℕ). Some (found.0, n)) same

-- what the grammar has as a number is computed
pub number_complete : (line : List ℕ) (value : ℤ) (others : List ℕ) (h : NumberFirst line value others) → number line ≡ Some (value, length h.number)
number_complete line value others h =
    let n = h.is_number in
    let digits = n.digits in
    let split : line ≡ overbar_if n.negative ++ (digits ++ others) = h.whole ∙ ap (λ (xs : List ℕ). xs ++ others) n.spelled ∙ append_assoc (overbar_if n.negative) digits others in
    let small : fits (signed n.negative (digits_value 10 digits)) ≡ true = test_from_fits _ (subst (λ (z : ℤ). FitsSigned w64 z) n.is n.fits) in
    let len : length (overbar_if n.negative) + length digits ≡ length h.number = omega (arith, ap length n.spelled, length-append (overbar_if n.negative) digits) in
    ap number split ∙ number_at n.negative digits others n.are_digits h.ends ∙ ap (found_after (length (overbar_if n.negative))) (number_of_is n.negative digits n.are_digits.some small)
    ∙ ap (λ (z : ℤ). Some (z, length (overbar_if n.negative) + length digits)) (sym n.is) ∙ ap (λ (k : ℕ). Some (value, k)) len

-- ---- where no number is

too_large : (len : ℕ) (z : ℤ) (empty small : Bool) → empty ≡ false → cond empty None (of_glyphs len (cond small (Some z) None)) ≡ None → small ≡ false
too_large len z true small some e = absurd cc
too_large len z false true some e = absurd cc
too_large len z false false some e = refl

-- digits that are no number are out of range
out_by : (negative : Bool) (xs : List ℕ) → 0 < length (take_while is_digit xs) → signed_number negative (take_while is_digit xs) ≡ None → BeginsNoToken (overbar_if negative ++ xs)
out_by negative xs some e =
    let digits = take_while is_digit xs in
    let value = signed negative (digits_value 10 digits) in
    let nonempty : eqb (length digits) 0 ≡ false = ne_eqb (length digits) 0 (λ z. omega arith) in
    let wide : fits value ≡ false = too_large (length digits) value (eqb (length digits) 0) (fits value) nonempty e in
    out_of_range negative digits (drop (prefix_len is_digit xs) xs) (ap (λ (ys : List ℕ). overbar_if negative ++ ys) (run_splits is_digit xs)) (record { some = some; all = run_passes is_digit xs }) (run_stops is_digit xs)
    (λ small. both_ways (fits value) wide (test_from_fits value small))

no_run : (xs : List ℕ) → eqb (length (take_while is_digit xs)) 0 ≡ true → begins is_digit xs ≡ false
no_run xs e =
    let empty : take_while is_digit xs ≡ [] = nil_from_length (take_while is_digit xs) (eqb-true _ _ e) in
    let same : xs ≡ drop (prefix_len is_digit xs) xs = run_splits is_digit xs ∙ ap (λ (ys : List ℕ). ys ++ drop (prefix_len is_digit xs) xs) empty in
    ap (begins is_digit) same ∙ run_stops is_digit xs

overbar_by : (rest : List ℕ) (empty : Bool) → eqb (length (take_while is_digit rest)) 0 ≡ empty → signed_number true (take_while is_digit rest) ≡ None → BeginsNoToken (named.overbar ∷ rest)
overbar_by rest true is e = no_digit rest refl (no_run rest is)
overbar_by rest false is e = let some : length (take_while is_digit rest) ≡ 0 → ⊥ = eqb-false _ _ is in out_by true rest (omega (arith, some)) e

-- ¯ at which no number is computed begins none
pub overbar_malformed : (rest : List ℕ) → number (named.overbar ∷ rest) ≡ None → BeginsNoToken (named.overbar ∷ rest)
unfolding number
overbar_malformed rest e = overbar_by rest (eqb (length (take_while is_digit rest)) 0) refl (behind_none 1 (signed_number true (take_while is_digit rest)) e)

-- a digit at which no number is computed begins none
pub digit_malformed : (first : ℕ) (rest : List ℕ) → is_digit first ≡ true → number (first ∷ rest) ≡ None → BeginsNoToken (first ∷ rest)
unfolding number
digit_malformed first rest digit e =
    let not_overbar : is_overbar first ≡ false = digit_not_overbar first digit in
    let none : signed_number false (take_while is_digit (first ∷ rest)) ≡ None = rw not_overbar at e in
    out_by false (first ∷ rest) (first_counts first rest digit) none
  where
    first_counts : (first : ℕ) (rest : List ℕ) → is_digit first ≡ true → 0 < length (take_while is_digit (first ∷ rest))
    first_counts first rest digit = let k : 1 + prefix_len is_digit rest ≡ suc (prefix_len is_digit rest) = omega arith in rw (digit, k) (omega arith)

-- ¯ without a digit is no number
pub no_digit_no_number : (more : List ℕ) → begins is_digit more ≡ false → number (named.overbar ∷ more) ≡ None
unfolding number
no_digit_no_number more ends = let none : take (prefix_len is_digit more) more ≡ [] = take_run is_digit [] more refl ends in rw none refl

-- a number out of range is none
pub out_of_range_no_number : (negative : Bool) (digits more : List ℕ) → AreDigits digits → begins is_digit more ≡ false → (FitsSigned w64 (signed negative (digits_value 10 digits)) → ⊥) → number (overbar_if negative ++ (digits ++ more)) ≡ None
out_of_range_no_number negative digits more are ends wide =
    let value = signed negative (digits_value 10 digits) in
    let nonempty : eqb (length digits) 0 ≡ false = ne_eqb (length digits) 0 (λ z. omega (arith, are.some)) in
    let fails : fits value ≡ false = false_from_ne_true (fits value) (λ e. wide (fits_from_test value e)) in
    let none : signed_number negative digits ≡ None = rw (nonempty, fails) refl in
    number_at negative digits more are ends ∙ ap (found_after (length (overbar_if negative))) none
