-- The decimal digits of a number.
use Rattle.std.proofs.Common.{◌≡◌, ℕ, ◌+◌, ◌%◌, ◌<◌, ◌≤◌, ◌^◌, Bool, true, ◌&&◌, List, [], ◌∷◌, ◌++◌, length, lit<, ap, ◌∙◌, arith}
use Rattle.std.proofs.lemmas.Bool.Decides.{nat_tests}
use Rattle.std.proofs.lemmas.Fmt.{decimal_by_steps, length-decimal-le}
use Rattle.std.proofs.lemmas.List.Folds.{list_all-append}
use Rattle.std.specs.Fmt.{decimal}
use Rattle.std.specs.List.{list_all}
use Rattle.apl_arrays.specs.Glyph.{is_digit}
use Rattle.line_text.specs.Spaced.{is_plain}

one_digit : (p : ℕ → Bool) → ((d : ℕ) → d < 10 → p (48 + d) ≡ true) → (n : ℕ) → n < 10 → list_all p ((48 + n) ∷ []) ≡ true
one_digit p all n small = ap (λ b. b && true) (all n small)

one_more_digit : (p : ℕ → Bool) → ((d : ℕ) → d < 10 → p (48 + d) ≡ true) → (n : ℕ) (ds : List ℕ) → 10 ≤ n → list_all p ds ≡ true → list_all p (ds ++ (48 + n % 10) ∷ []) ≡ true
one_more_digit p all n ds large e =
    list_all-append p ds ((48 + n % 10) ∷ []) ∙ (ap (λ b. b && (p (48 + n % 10) && true)) e ∙ ap (λ b. true && (b && true)) (all (n % 10) (omega arith)))

-- what each digit passes, each digit of a number does
pub digits_pass : (p : ℕ → Bool) → ((d : ℕ) → d < 10 → p (48 + d) ≡ true) → (n : ℕ) → n < 2 ^ 64 → list_all p (decimal n) ≡ true
digits_pass p all n fits =
    decimal_by_steps (λ _ ds. list_all p ds ≡ true) (one_digit p all) (one_more_digit p all) n fits

pub digits_are_digits : (n : ℕ) → n < 2 ^ 64 → list_all is_digit (decimal n) ≡ true
digits_are_digits = digits_pass is_digit (λ d small. grind (arith, nat_tests))

pub digits_are_plain : (n : ℕ) → n < 2 ^ 64 → list_all is_plain (decimal n) ≡ true
digits_are_plain = digits_pass is_plain (λ d small. grind (arith, nat_tests))

pub text_is_plain : (n : ℕ) (text : List ℕ) → text ≡ decimal n → n < 2 ^ 64 → list_all is_plain text ≡ true
text_is_plain n text e fits = ap (λ ds. list_all is_plain ds) e ∙ digits_are_plain n fits

-- 2 ^ 63 has 19 digits
pub digit_limit : (n : ℕ) → n ≤ 2 ^ 63 → length (decimal n) ≤ 19
digit_limit n small = length-decimal-le 19 n (lit< tt) (omega arith) (omega arith)

-- and 2 ^ 64 has 20
pub digit_limit_wide : (n : ℕ) → n < 2 ^ 64 → length (decimal n) ≤ 20
digit_limit_wide n small = length-decimal-le 20 n (lit< tt) (omega arith) (omega arith)
