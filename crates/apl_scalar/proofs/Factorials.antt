-- Factorials grow, and the last of 64 bits is that of 20.
use Rattle.std.proofs.Common.{◌≡◌, ℕ, zero, suc, ◌+◌, ◌-◌, ◌*◌, ◌^◌, ◌<◌, ◌≤◌, arith, add-one, zero-add}
use Rattle.std.proofs.lemmas.Int.{ints, to_z-of_z, to_z_pos}
use Rattle.std.proofs.lemmas.Bool.Decides.{nat_tests}
use Rattle.apl_scalar.specs.Counting.{factorial}

positive : (n : ℕ) → 0 < factorial n
positive zero = omega arith
positive (suc n) = omega (arith, positive n)

rises : (m d : ℕ) → factorial m ≤ factorial (d + m)
rises m zero = rw zero-add (omega arith)
rises m (suc d) =
    let e : suc d + m ≡ suc (d + m) = omega arith in
    rw e (omega (arith, rises m d))

pub small : (n : ℕ) → n ≤ 20 → factorial n < 2 ^ 63
small n h =
    let e : (20 - n) + n ≡ 20 = omega arith in
    let below : factorial n ≤ factorial 20 = rw e at (rises n (20 - n)) in
    omega arith

pub large : (n : ℕ) → 20 < n → 2 ^ 63 ≤ factorial n
large n h =
    let e : (n - 21) + 21 ≡ n = omega arith in
    let above : factorial 21 ≤ factorial n = rw e at (rises 21 (n - 21)) in
    omega arith

pub next : (n : ℕ) → factorial (n + 1) ≡ factorial n * (n + 1)
next n = rw add-one (omega arith)

pub grows : (product n : ℕ) → product ≡ factorial n → n < 20 → product * (n + 1) < 2 ^ 63
grows product n e h = rw (e, ← next n) (small (n + 1) (omega arith))

pub ruleset factorials = (grows, ints, nat_tests, to_z-of_z, to_z_pos, small, large, next)
