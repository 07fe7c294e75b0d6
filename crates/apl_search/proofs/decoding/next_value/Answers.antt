use Rattle.std.proofs.Common.{◌≡◌, ◌≤◌, ◌^◌, ℤ, ◌*ℤ◌, unsigned_abs, FitsSigned, w64, arith}
use Rattle.std.proofs.Math.Nat.{mul-le-mul}
use Rattle.std.proofs.lemmas.Int.{ints, to_z-of_z, unsigned_abs-mul}
use Rattle.apl_search.proofs.decoding.next_value.Goals as goal

product_below : (a b x y z : ℤ) → FitsSigned w64 a → FitsSigned w64 b → x ≡ a → y ≡ b → z ≡ x *ℤ y → unsigned_abs z ≤ 2 ^ 126
product_below a b x y z fits_a fits_b is_x is_y e =
    let p : unsigned_abs a ≤ 2 ^ 63 = omega (arith, ints) in
    let q : unsigned_abs b ≤ 2 ^ 63 = omega (arith, ints) in
    rw (e, is_x, is_y, unsigned_abs-mul) (mul-le-mul p q)

pub overflow_add-result : goal.overflow_add-result
overflow_add-result c =
    let below = product_below c.args.value c.args.base _ _ c.widened_product.result c.ranges.value c.ranges.base (to_z-of_z w64 c.args.value c.ranges.value) (to_z-of_z w64 c.args.base c.ranges.base) c.widened_product.ensures in
    omega (arith, ints)
