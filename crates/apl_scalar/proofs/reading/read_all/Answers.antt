use Rattle.std.proofs.Common.{◌≡◌, ◌+◌, ◌<◌, ◌≤◌, ℕ, ℤ, pos, Bool, true, false, List, length, nat_lt, get_or, refl, sym, ap, subst, ◌∙◌, arith}
use Rattle.std.proofs.lemmas.Bool.Decides.{nat_tests}
use Rattle.std.proofs.lemmas.List.{get_or_default}
use Rattle.apl_arrays.specs.Number.{fits}
use Rattle.apl_scalar.proofs.reading.read_all.Goals as goal

one_more : (list : List ℤ) (place : ℕ) (number : ℤ) → place < length list → ((k : ℕ) (d : ℤ) → k < place → fits (get_or list k d) ≡ true)
    → number ≡ get_or list place (pos 0) → fits number ≡ true → (k : ℕ) (d : ℤ) → k < place + 1 → fits (get_or list k d) ≡ true
one_more list place number inside so_far is small k d below = by_test (nat_lt k place) refl
  where
    by_test : (b : Bool) → nat_lt k place ≡ b → fits (get_or list k d) ≡ true
    by_test true e = let before : k < place = grind (arith, nat_tests) in so_far k d before
    by_test false e =
        let not_before : place ≤ k = grind (arith, nat_tests) in
        let same : place ≡ k = omega arith in
        subst (λ (n : ℕ). fits (get_or list n d) ≡ true) same (ap fits (get_or_default list place d (pos 0) inside ∙ sym is) ∙ small)

pub loop-place-preserved : goal.loop-place-preserved
loop-place-preserved c =
    one_more c.args.list.now c.loop-place.place c.read-number.result c.loop-place-test.true c.loop-place.invariant c.read-number.ensures.value c.read-number.ensures.small
