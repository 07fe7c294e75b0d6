use mir.Syntax.{w128}
use Rattle.std.proofs.Common.{◌≡◌, ◌≤◌, ◌^◌, ℤ, ◌*ℤ◌, unsigned_abs, to_z, of_z, arith}
use Rattle.std.proofs.Math.Nat.{mul-le-mul}
use Rattle.std.proofs.lemmas.Int.{to_z-of_z, fits_signed_mul, unsigned_abs-mul}
use Rattle.apl_search.proofs.encoding.wide_product.Goals as goal

product_is : (a b x y : ℤ) → unsigned_abs a ≤ 2 ^ 63 → unsigned_abs b ≤ 2 ^ 63 → x ≡ a → y ≡ b → to_z w128 (of_z w128 (x *ℤ y)) ≡ a *ℤ b
product_is a b x y p q is_x is_y = rw (is_x, is_y) (to_z-of_z w128 (a *ℤ b) (fits_signed_mul w128 a b (2 ^ 63) (2 ^ 63) p q (omega arith)))

product_below : (a b z : ℤ) → unsigned_abs a ≤ 2 ^ 63 → unsigned_abs b ≤ 2 ^ 63 → z ≡ a *ℤ b → unsigned_abs z ≤ 2 ^ 126
product_below a b z p q e = rw (e, unsigned_abs-mul) (mul-le-mul p q)

pub returns-clause-value : goal.returns-clause-value
returns-clause-value c = product_is c.args.a c.args.b _ _ c.requires.a c.requires.b (to_z-of_z w128 c.args.a c.ranges.a) (to_z-of_z w128 c.args.b c.ranges.b)

pub returns-clause-bound : goal.returns-clause-bound
returns-clause-bound c =
    product_below c.args.a c.args.b _ c.requires.a c.requires.b
    (product_is c.args.a c.args.b _ _ c.requires.a c.requires.b (to_z-of_z w128 c.args.a c.ranges.a) (to_z-of_z w128 c.args.b c.ranges.b))
