-- Worked examples of the definitions, and what residue, exact quotient and ways mean.
use Rattle.std.proofs.Common.{◌≡◌, ◌≢◌, ◌∙◌, ap, ℕ, zero, suc, ◌+◌, ◌*◌, true, zero-add, ◌*ℤ◌, [], ◌∷◌, Some, None, Ok, Err, ℤ, pos, negsuc, ◌≤ℤ◌, ◌<ℤ◌, refl, arith}
use Rattle.std.proofs.Math.Nat.{mod-lt}
use Rattle.std.proofs.lemmas.Int.{ints, quot-rem}
use Rattle.std.proofs.lemmas.Bool.Decides.{Decides-int_eq}
use Rattle.std.specs.Int.RustNames.{int_rem}
use Rattle.apl_arrays.specs.declared.report.Report.TheVariants.{Rank, Length, Domain}
use Rattle.apl_verbs.specs.declared.verb.Monad.TheVariants.{Factorial, Not}
use Rattle.apl_verbs.specs.declared.verb.Dyad.TheVariants.{Plus, Divide, Power, Equal, NotEqual, Less}
use Rattle.apl_arrays.specs.Array.{PlainArray, numbers, chars}
use Rattle.apl_scalar.specs.Counting.{residue, factorial, ways}
use Rattle.apl_scalar.specs.Table.{monadic_item, dyadic_item, quotient, is_exact, least, greatest}
use Rattle.apl_scalar.specs.Scalar.{monadic_of, dyadic_of}
use Rattle.apl_scalar.proofs.Residues.{residue_pos_pos, residue_pos_neg}
use Rattle.apl_scalar.proofs.Ways.{absorbed}

-- ---- items

residue_of_signs : (residue (pos 3) (pos 7) ≡ pos 1) × (residue (negsuc 2) (pos 7) ≡ negsuc 1) × (residue (pos 3) (negsuc 6) ≡ pos 2)
    × (residue (negsuc 2) (negsuc 6) ≡ negsuc 0) × (residue (pos 0) (negsuc 6) ≡ negsuc 6)
residue_of_signs = (refl, refl, refl, refl, refl)

residue_is_from_0 : (a : ℕ) (b : ℤ) → pos 0 ≤ℤ residue (pos (suc a)) b
residue_is_from_0 a (pos n) = omega (arith, ints, residue_pos_pos a n)
residue_is_from_0 a (negsuc n) = omega (arith, ints, residue_pos_neg a n, mod-lt n {m = suc a} (omega arith))

residue_is_below : (a : ℕ) (b : ℤ) → residue (pos (suc a)) b <ℤ pos (suc a)
residue_is_below a (pos n) = omega (arith, ints, residue_pos_pos a n, mod-lt n {m = suc a} (omega arith))
residue_is_below a (negsuc n) = omega (arith, ints, residue_pos_neg a n)

factorial_edge : (monadic_item Factorial (pos 20) ≡ Some (pos 2432902008176640000)) × (monadic_item Factorial (pos 21) ≡ None)
    × (monadic_item Factorial (negsuc 0) ≡ None)
factorial_edge = (refl, refl, refl)

quotient_edges : (dyadic_item Divide (pos 0) (pos 0) ≡ Some (pos 1)) × (dyadic_item Divide (pos 7) (pos 2) ≡ None)
    × (dyadic_item Divide least (negsuc 0) ≡ None) × (dyadic_item Divide (pos 6) (negsuc 2) ≡ Some (negsuc 1))
quotient_edges = (refl, refl, refl, refl)

power_edges : (dyadic_item Power (pos 0) (pos 0) ≡ Some (pos 1)) × (dyadic_item Power (pos 2) (pos 62) ≡ Some (pos 4611686018427387904))
    × (dyadic_item Power (pos 2) (pos 63) ≡ None) × (dyadic_item Power (negsuc 1) (pos 63) ≡ Some least)
    × (dyadic_item Power (negsuc 1) (pos 64) ≡ None) × (dyadic_item Power (pos 2) (negsuc 0) ≡ None)
power_edges = (refl, refl, refl, refl, refl, refl)

sum_edges : (dyadic_item Plus greatest (pos 1) ≡ None) × (dyadic_item Plus greatest least ≡ Some (negsuc 0))
sum_edges = (refl, refl)

ways_of_four : (ways 0 4 ≡ 1) × (ways 1 4 ≡ 4) × (ways 2 4 ≡ 6) × (ways 3 4 ≡ 4) × (ways 4 4 ≡ 1) × (ways 5 4 ≡ 0)
ways_of_four = (refl, refl, refl, refl, refl, refl)

regrouped : (w s f l : ℕ) → w * ((s * f) * l) ≡ (w * s) * (f * l)
regrouped w s f l = omega arith

ways_by_factorials : (taken left : ℕ) → ways taken (taken + left) * (factorial taken * factorial left) ≡ factorial (taken + left)
ways_by_factorials zero left = rw zero-add (omega arith)
ways_by_factorials (suc k) left =
    let e : suc k + left ≡ suc (k + left) = omega arith in
    rw (e, regrouped (ways (suc k) (suc (k + left))) (suc k) (factorial k) (factorial left), absorbed k (k + left))
    (regrouped_back (ways k (k + left)) (suc (k + left)) (factorial k * factorial left) (factorial (k + left)) (ways_by_factorials k left))
  where
    regrouped_back : (w s p q : ℕ) → w * p ≡ q → (w * s) * p ≡ s * q
    regrouped_back w s p q e = let turned : (w * s) * p ≡ s * (w * p) = omega arith in turned ∙ ap (λ r. s * r) e

quotient_is_exact : (a b : ℤ) → is_exact a b ≡ true → b ≢ pos 0 → quotient a b *ℤ b ≡ a
quotient_is_exact a b exact nonzero = grind (arith, quot-rem a b, Decides-int_eq b (pos 0), Decides-int_eq (int_rem a b) (pos 0))

-- ---- arrays

vector_1_2 : PlainArray
vector_1_2 = record { shape = 2 ∷ []; items = numbers (pos 1 ∷ pos 2 ∷ []) }

vector_1_2_3 : PlainArray
vector_1_2_3 = record { shape = 3 ∷ []; items = numbers (pos 1 ∷ pos 2 ∷ pos 3 ∷ []) }

matrix : PlainArray
matrix = record { shape = 2 ∷ 2 ∷ []; items = numbers (pos 1 ∷ pos 1 ∷ pos 1 ∷ pos 1 ∷ []) }

lone : PlainArray
lone = record { shape = 1 ∷ 1 ∷ []; items = numbers (pos 5 ∷ []) }

letters : PlainArray
letters = record { shape = 2 ∷ []; items = chars (65 ∷ 66 ∷ []) }

no_letters : PlainArray
no_letters = record { shape = 0 ∷ []; items = chars [] }

unlike_shapes : (dyadic_of Plus vector_1_2 vector_1_2_3 ≡ Err Length) × (dyadic_of Plus matrix vector_1_2 ≡ Err Rank)
    × (dyadic_of Plus letters vector_1_2_3 ≡ Err Length) × (dyadic_of Plus letters matrix ≡ Err Rank)
unfolding vector_1_2 vector_1_2_3 matrix letters
unlike_shapes = (refl, refl, refl, refl)

extended : dyadic_of Plus lone vector_1_2 ≡ Ok (record { shape = 2 ∷ []; items = numbers (pos 6 ∷ pos 7 ∷ []) })
unfolding lone vector_1_2
extended = refl

characters : (dyadic_of Equal letters vector_1_2 ≡ Ok (record { shape = 2 ∷ []; items = numbers (pos 0 ∷ pos 0 ∷ []) }))
    × (dyadic_of Less letters letters ≡ Err Domain) × (monadic_of Not no_letters ≡ Err Domain)
    × (dyadic_of NotEqual no_letters lone ≡ Ok (record { shape = 0 ∷ []; items = numbers [] }))
unfolding letters vector_1_2 no_letters lone
characters = (refl, refl, refl, refl)
