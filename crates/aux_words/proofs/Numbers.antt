-- Numbers and their decimal digits.
use Rattle.std.proofs.Common.{◌≡◌, ◌≢◌, ◌∙◌, ℕ, zero, suc, ◌+◌, ◌-◌, ◌*◌, ◌/◌, ◌%◌, ◌<◌, ◌≤◌, Bool, true, false, cond, eqb, leb, List, [], ◌∷◌, ◌++◌, get_or, Option, Some, None, refl, sym, ap, arith, lit<, rules}
use Rattle.std.specs.Fmt.{decimal}
use Rattle.std.specs.List.{list_all}
use Rattle.std.proofs.lemmas.Bool.{and_from, eqb-false, leb-true, le-leb, ne_eqb}
use Rattle.std.proofs.lemmas.Bool.Decides.{nat_tests}
use Rattle.std.proofs.lemmas.Fmt.{decimal-digits_value, decimal_by_steps, decimal_digit, first_decimal}
use Rattle.std.proofs.lemmas.Str.Parse.{IsNumeralModel, numerals_by_fold}
use Rattle.apl_arrays.specs.Glyph.{digit_value, is_digit}
use Rattle.aux_words.specs.Number.{if_number, greatest_number, number_behind, number_of, with_digit}

-- the number that digits go on with, behind another
abbrev value_behind : ℕ → List ℕ → ℕ
value_behind number [] = number
value_behind number (glyph ∷ line) = value_behind (number * 10 + (glyph - 48)) line

abbrev AreDigits : List ℕ → Type 0
AreDigits line = list_all is_digit line ≡ true

numerals : IsNumeralModel AreDigits (value_behind 0)
numerals = numerals_by_fold AreDigits (search rules) value_behind (search rules)

-- what a number is made of
record Made (number : ℕ) (line : List ℕ) (found : ℕ) : Type 0 where
  digits : AreDigits line
  value : found ≡ value_behind number line
  most : number ≤ greatest_number → found ≤ greatest_number

made : (number : ℕ) (line : List ℕ) (found : ℕ) → number_behind number line ≡ Some found → Made number line found
made number [] found e =
    let same : number ≡ found = cc in
    record { digits = refl; value = sym same; most = λ small. omega (arith, same, small) }
made number (glyph ∷ line) found e = by (is_digit glyph) refl e (λ next. made (number * 10 + (glyph - 48)) line found next)
  where
    longer : ℕ
    longer = number * 10 + (glyph - 48)

    within : (b : Bool) → leb longer greatest_number ≡ b → is_digit glyph ≡ true → if_number (cond b (Some longer) None) (λ next. number_behind next line) ≡ Some found
        → (number_behind longer line ≡ Some found → Made longer line found) → Made number (glyph ∷ line) found
    within false past is e rest = absurd (cc)
    within true fits is e rest =
        let m = rest e in
        record {
          digits = and_from (is_digit glyph) (list_all is_digit line) is m.digits;
          value = m.value;
          most = λ small. m.most (leb-true longer greatest_number fits);
        }

    by : (b : Bool) → is_digit glyph ≡ b → if_number (with_digit number (cond b (Some (glyph - 48)) None)) (λ next. number_behind next line) ≡ Some found
        → (number_behind longer line ≡ Some found → Made longer line found) → Made number (glyph ∷ line) found
    by false is e rest = absurd (cc)
    by true is e rest = within (leb longer greatest_number) refl is e rest

-- a number that is read is written so
pub written : (line : List ℕ) (number : ℕ) → number_of line ≡ Some number → (0 < number) × (number ≤ greatest_number) × (line ≡ decimal number)
written [] number e = absurd (cc)
written (glyph ∷ line) number e = by (eqb glyph 48) refl e
  where
    some : (number : ℕ) → glyph ≢ 48 → glyph ∷ line ≡ decimal number → 0 < number
    some zero first same = absurd (first (cc (same ∙ decimal_digit 0 (lit< tt))))
    some (suc n) first same = omega arith

    by : (b : Bool) → eqb glyph 48 ≡ b → cond b None (number_behind 0 (glyph ∷ line)) ≡ Some number → (0 < number) × (number ≤ greatest_number) × (glyph ∷ line ≡ decimal number)
    by true zero_first e = absurd (cc)
    by false other e =
        let m = made 0 (glyph ∷ line) number e in
        let small : number ≤ greatest_number = m.most (omega arith) in
        let first : glyph ≢ 48 = eqb-false glyph 48 other in
        let back : decimal (value_behind 0 (glyph ∷ line)) ≡ glyph ∷ line = decimal-digits_value numerals (glyph ∷ line) m.digits (omega arith) (λ same. absurd (first same)) (omega (arith, small, m.value)) in
        let same : glyph ∷ line ≡ decimal number = sym back ∙ ap decimal (sym m.value) in
        (some number first same, small, same)

-- a number that goes on behind its digits
behind_more : (number : ℕ) (line more : List ℕ) (found : ℕ) → number_behind number line ≡ Some found → number_behind number (line ++ more) ≡ number_behind found more
behind_more number [] more found e = ap (λ n. number_behind n more) (let same : number ≡ found = cc in same)
behind_more number (glyph ∷ line) more found e = by (with_digit number (digit_value glyph)) e (λ n rest. behind_more n line more found rest)
  where
    by : (next : Option ℕ) → if_number next (λ n. number_behind n line) ≡ Some found
        → ((n : ℕ) → number_behind n line ≡ Some found → number_behind n (line ++ more) ≡ number_behind found more) → if_number next (λ n. number_behind n (line ++ more)) ≡ number_behind found more
    by None e rest = absurd (cc)
    by (Some n) e rest = rest n e

-- a digit more
one_more : (number digit : ℕ) → digit < 10 → number * 10 + digit ≤ greatest_number → number_behind number ((48 + digit) ∷ []) ≡ Some (number * 10 + digit)
one_more number digit small fits =
    let is : digit_value (48 + digit) ≡ Some digit = grind (arith, nat_tests) in
    ap (λ value. if_number (with_digit number value) Some) is
    ∙ ap (λ b. if_number (cond b (Some (number * 10 + digit)) None) Some) (le-leb (number * 10 + digit) greatest_number fits)

-- the decimal digits of a number are read as the number
digits_read : (number : ℕ) → number ≤ greatest_number → number_behind 0 (decimal number) ≡ Some number
digits_read number fits =
    decimal_by_steps (λ n digits. n ≤ greatest_number → number_behind 0 digits ≡ Some n)
    (λ n small within. one_more 0 n small (omega (arith, within)) ∙ ap Some (let same : 0 * 10 + n ≡ n = omega arith in same))
    (λ n digits large before within.
    behind_more 0 digits ((48 + n % 10) ∷ []) (n / 10) (before (omega arith))
    ∙ one_more (n / 10) (n % 10) (omega arith) (omega arith)
    ∙ ap Some (let whole : n / 10 * 10 + n % 10 ≡ n = omega arith in whole))
    number (omega (arith, fits)) fits

-- where no zero stands in front, all digits are looked at
no_zero_first : (line : List ℕ) → 48 < get_or line 0 0 → number_of line ≡ number_behind 0 line
no_zero_first [] above = absurd (omega (arith, above))
no_zero_first (glyph ∷ line) above =
    ap (λ b. cond b None (number_behind 0 (glyph ∷ line))) (ne_eqb glyph 48 (λ same. omega (arith, same, above)))

-- a number as it is written is read
pub read : (number : ℕ) → 0 < number → number ≤ greatest_number → number_of (decimal number) ≡ Some number
read number some fits =
    no_zero_first (decimal number) (first_decimal number some (omega (arith, fits))) ∙ digits_read number fits
