-- Parties and readings among numbers that are kept.
use Rattle.std.proofs.Common.{◌≡◌, ◌≢◌, ◌⊎◌, ℕ, ℤ, pos, ◌+◌, ◌<◌, ◌≤◌, ◌^◌, min, Bool, true, false, ◌&&◌, ◌||◌, eqb, List, [], ◌∷◌, ◌++◌, length, map, refl, sym, ap, ap₂, ◌∙◌, arith, ⊎_elim, inl, inr}
use Rattle.std.specs.Prelude.{◌==◌}
use Rattle.std.specs.List.{All, list_all, list_any}
use Rattle.std.proofs.lemmas.Bool.{false≢true, eqb-true, cases_lt}
use Rattle.std.proofs.lemmas.Bool.Decides.{nat_tests}
use Rattle.std.proofs.lemmas.List.Elements.{All-nil, All-cons, All-head, All-tail}
use Rattle.std.proofs.lemmas.List.Folds.{list_all-map}
use Rattle.line_text.proofs.Spans.{both}
use Rattle.aux_parties.specs.Auxiliaries.{is_auxiliary}
use Rattle.aux_parties.proofs.TableLemmas.{auxiliaries_are_low}
use Rattle.bundle_text.specs.Rules.{IsUser, is_party}
use Rattle.bundle_text.specs.BundleLine.{IsReadingText}
use Rattle.bundle_text.specs.Heading.{kept_numbers}
use Rattle.bundle_text.specs.Limits.{greatest_reading}
use Rattle.text_reader.specs.Numeral.{capped, number_of_digits}
use Rattle.bundle_text.specs.User.{PlainUser}

-- a number that is no greater than one of 64 bits is kept as it is

capped_same : (n m : ℕ) → n ≤ m → m < 18446744073709551615 → capped n ≡ n
capped_same n m low small = omega arith

or_cases : (a b : Bool) → (a || b) ≡ true → (a ≡ true) ⊎ (b ≡ true)
or_cases true b e = inl refl
or_cases false b e = inr e

user_bound : (users : List PlainUser) (n : ℕ) → All IsUser users → list_any (λ user. user.number == n) users ≡ true → n ≤ 1999
user_bound [] n each e = absurd (false≢true e)
user_bound (one ∷ users) n each e =
    ⊎_elim (λ same. omega (arith, eqb-true one.number n same, (All-head IsUser one users each).number.1))
    (λ rest. user_bound users n (All-tail IsUser one users each) rest)
    (or_cases (one.number == n) (list_any (λ user. user.number == n) users) e)

pub party_bound : (users : List PlainUser) (n : ℕ) → All IsUser users → is_party users n ≡ true → n ≤ 1999
party_bound users n each e =
    ⊎_elim (λ auxiliary. let low = auxiliaries_are_low n auxiliary in omega (arith, low)) (λ user. user_bound users n each user) (or_cases (is_auxiliary n) (list_any (λ user. user.number == n) users) e)

pub parties_small : (users : List PlainUser) (numbers : List ℕ) → All IsUser users → list_all (is_party users) numbers ≡ true → All (λ n. n < 2 ^ 32) numbers
parties_small users [] each e = All-nil (λ n. n < 2 ^ 32)
parties_small users (n ∷ numbers) each e =
    let parts = both (is_party users n) (list_all (is_party users) numbers) e in
    All-cons (λ m. m < 2 ^ 32) n numbers (omega (arith, party_bound users n each parts.0)) (parties_small users numbers each parts.1)

-- whether a number is that of a party, is seen of what it is kept as

same_test : (b c : Bool) → (b ≡ true → c ≡ true) → (c ≡ true → b ≡ true) → b ≡ c
same_test true c f g = sym (f refl)
same_test false true f g = absurd (false≢true (g refl))
same_test false false f g = refl

pub party_capped : (users : List PlainUser) (n : ℕ) → All IsUser users → is_party users (capped n) ≡ is_party users n
party_capped users n each =
    same_test (is_party users (capped n)) (is_party users n)
    (λ e.
    let small = party_bound users (capped n) each e in
    let same : capped n ≡ n = omega arith in
    ap (is_party users) (sym same) ∙ e)
    (λ e.
    let small = party_bound users n each e in
    ap (is_party users) (capped_same n 1999 small (omega arith)) ∙ e)

pub parties_kept : (users : List PlainUser) (digits : List (List ℕ)) → All IsUser users → list_all (is_party users) (kept_numbers digits) ≡ list_all (λ d. is_party users (number_of_digits d)) digits
parties_kept users [] each = refl
parties_kept users (d ∷ digits) each =
    ap₂ (λ a b. a && b) (party_capped users (number_of_digits d) each) (parties_kept users digits each)

pub kept_parties : (users : List PlainUser) (digits : List (List ℕ)) → All IsUser users → list_all (λ d. is_party users (number_of_digits d)) digits ≡ true → kept_numbers digits ≡ map number_of_digits digits
kept_parties users [] each e = refl
kept_parties users (d ∷ digits) each e =
    let parts = both (is_party users (number_of_digits d)) (list_all (λ x. is_party users (number_of_digits x)) digits) e in
    ap₂ (λ n ns. n ∷ ns) (capped_same (number_of_digits d) 1999 (party_bound users (number_of_digits d) each parts.0) (omega arith)) (kept_parties users digits each parts.1)

-- readings

pub kept_readings : (digits : List (List ℕ)) → All IsReadingText digits → map pos (kept_numbers digits) ≡ map (λ d. pos (number_of_digits d)) digits
kept_readings [] each = refl
kept_readings (d ∷ digits) each =
    ap₂ (λ (z : ℤ) (zs : List ℤ). z ∷ zs) (ap pos (capped_same (number_of_digits d) greatest_reading (All-head IsReadingText d digits each).small (omega arith))) (kept_readings digits (All-tail IsReadingText d digits each))

pub readings_small : (digits : List (List ℕ)) → All IsReadingText digits → All (λ n. n ≤ greatest_reading) (kept_numbers digits)
readings_small [] each = All-nil (λ n. n ≤ greatest_reading)
readings_small (d ∷ digits) each =
    All-cons (λ n. n ≤ greatest_reading) (capped (number_of_digits d)) (kept_numbers digits) (omega (arith, (All-head IsReadingText d digits each).small)) (readings_small digits (All-tail IsReadingText d digits each))
