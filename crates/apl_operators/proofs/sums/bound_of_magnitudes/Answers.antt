use Rattle.std.proofs.Common.{◌≡◌, ◌+◌, ◌<◌, ◌≤◌, ℕ, ℤ, pos, Bool, true, false, List, length, nat_lt, get_or, unsigned_abs, refl, ap, ◌∙◌, arith}
use Rattle.std.specs.Int.Bits.{bit_or}
use Rattle.std.proofs.lemmas.Bool.Decides.{nat_tests}
use Rattle.std.proofs.lemmas.List.{get_or_default}
use Rattle.std.proofs.lemmas.Nat.{le_or_l, le_or_r}
use Rattle.apl_operators.proofs.sums.bound_of_magnitudes.Goals as goal

-- no number has a magnitude above the bits so far with its own
one_more : (list : List ℤ) (place bits magnitude : ℕ) (other : ℤ) → place < length list → ((k : ℕ) (d : ℤ) → k < place → unsigned_abs (get_or list k d) ≤ bits)
    → magnitude ≡ unsigned_abs (get_or list place other) → (k : ℕ) (d : ℤ) → k < place + 1 → unsigned_abs (get_or list k d) ≤ bit_or bits magnitude
one_more list place bits magnitude other inside so_far is k d below = by_test (nat_lt k place) refl
  where
    by_test : (b : Bool) → nat_lt k place ≡ b → unsigned_abs (get_or list k d) ≤ bit_or bits magnitude
    by_test true e =
        let before : k < place = grind (arith, nat_tests) in
        omega (arith, so_far k d before, le_or_l bits magnitude)
    by_test false e =
        let not_before : place ≤ k = grind (arith, nat_tests) in
        let same : k ≡ place = omega arith in
        let here : unsigned_abs (get_or list k d) ≡ unsigned_abs (get_or list place other) = ap (λ (n : ℕ). unsigned_abs (get_or list n d)) same ∙ ap unsigned_abs (get_or_default list place d other inside) in
        omega (arith, here, is, le_or_r bits magnitude)

pub loop-place-preserved : goal.loop-place-preserved
loop-place-preserved c =
    one_more c.args.list.now c.loop-place.place c.loop-place.bits c.magnitude_at-bits.result (pos 0) c.loop-place-test.true c.loop-place.invariant c.magnitude_at-bits.ensures
