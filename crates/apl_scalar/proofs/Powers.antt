-- Powers whose exponent is 64 or more.
use Rattle.std.proofs.Common.{◌≡◌, ℕ, zero, suc, ◌%◌, ◌^◌, ◌<◌, ◌≤◌, ◌≢◌, true, false, ℤ, pos, negsuc, ◌≤ℤ◌, unsigned_abs, arith, ap}
use Rattle.std.proofs.Math.Nat.{mod-lt, pow-zero, pow-suc, pow-le-pow_left, pow-le-pow_right}
use Rattle.std.proofs.lemmas.Int.{ints, to_z-of_z}
use Rattle.std.proofs.lemmas.Bool.Decides.{nat_tests}
use Rattle.std.specs.Int.RustNames.{int_rem}
use Rattle.apl_arrays.specs.Number.{fits}
use Rattle.apl_scalar.specs.Table.{power, is_power}

one_pow : (n : ℕ) → 1 ^ n ≡ 1
one_pow zero = pow-zero 1
one_pow (suc n) = omega (arith, pow-suc 1 n, one_pow n)

zero_pow : (n : ℕ) → 0 < n → 0 ^ n ≡ 0
zero_pow zero h = absurd (omega arith)
zero_pow (suc n) h = omega (arith, pow-suc 0 n)

large_pow : (m n : ℕ) → 2 ≤ m → 64 ≤ n → 2 ^ 64 ≤ m ^ n
large_pow m n two many =
    let base : 2 ^ n ≤ m ^ n = pow-le-pow_left two n in
    let positive : 0 < 2 = omega arith in
    let exponent : 2 ^ 64 ≤ 2 ^ n = pow-le-pow_right positive many in
    omega arith

-- the exponent is not negative
pub is_power_from_64 : (a b : ℤ) → pos 64 ≤ℤ b → is_power a b ≡ true
is_power_from_64 a (pos n) h = grind (arith, ints, nat_tests)
is_power_from_64 a (negsuc n) h = absurd (omega (arith, ints))

pub power_of_0 : (b : ℤ) → pos 64 ≤ℤ b → power (pos 0) b ≡ pos 0
power_of_0 (pos n) h = ap pos (zero_pow n (omega (arith, ints)))
power_of_0 (negsuc n) h = absurd (omega (arith, ints))

pub power_of_1 : (b : ℤ) → pos 64 ≤ℤ b → power (pos 1) b ≡ pos 1
power_of_1 (pos n) h = ap pos (one_pow n)
power_of_1 (negsuc n) h = absurd (omega (arith, ints))

pub even_power_of_minus_1 : (b : ℤ) → pos 64 ≤ℤ b → int_rem b (pos 2) ≡ pos 0 → power (negsuc 0) b ≡ pos 1
even_power_of_minus_1 (pos n) h even = let e : n % 2 ≡ 0 = omega (arith, ints) in simp (one_pow, e)
even_power_of_minus_1 (negsuc n) h even = absurd (omega (arith, ints))

pub odd_power_of_minus_1 : (b : ℤ) → pos 64 ≤ℤ b → int_rem b (pos 2) ≢ pos 0 → power (negsuc 0) b ≡ negsuc 0
odd_power_of_minus_1 (pos n) h odd =
    let e : n % 2 ≡ 1 = by_rest (n % 2) (mod-lt n (omega arith)) (λ z. odd (ap pos z)) in simp (one_pow, e)
  where
    by_rest : (k : ℕ) → k < 2 → k ≢ 0 → k ≡ 1
    by_rest k below other = omega arith
odd_power_of_minus_1 (negsuc n) h odd = absurd (omega (arith, ints))

pub power_past : (a b : ℤ) → 2 ≤ unsigned_abs a → pos 64 ≤ℤ b → fits (power a b) ≡ false
power_past (pos m) (pos n) two h = grind (arith, ints, nat_tests, large_pow m n)
power_past (negsuc m) (pos n) two h = grind (arith, ints, nat_tests, large_pow (suc m) n)
power_past (pos m) (negsuc n) two h = absurd (omega (arith, ints))
power_past (negsuc m) (negsuc n) two h = absurd (omega (arith, ints))

pub ruleset high_powers = (ints, to_z-of_z, is_power_from_64, power_of_0, power_of_1, even_power_of_minus_1, odd_power_of_minus_1, power_past)
