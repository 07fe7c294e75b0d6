use mir.Syntax.{w64, w128}
use Rattle.std.proofs.Common.{◌≡◌, ◌≤◌, ◌^◌, ℤ, ◌-ℤ◌, ◌*ℤ◌, unsigned_abs, to_z, of_z, FitsSigned, subst, sym, ap, ◌∙◌, arith}
use Rattle.std.proofs.lemmas.Int.{ints, to_z-of_z}
use Rattle.apl_scalar.specs.Counting.{floor_quotient, residue}
use Rattle.apl_scalar.proofs.Quotients.{residue_is_left}
use Rattle.apl_search.proofs.DigitLemmas.{residue_bound}
use Rattle.apl_search.proofs.encoding.taken_off.Goals as goal

-- a base of 64 bits as a number of 128
wide : (base x : ℤ) → FitsSigned w64 base → x ≡ to_z w64 (of_z w64 base) → to_z w128 (of_z w128 x) ≡ base
wide base x small is = omega (arith, ints)

less_product : (base rest product : ℤ) → product ≡ base *ℤ floor_quotient base rest → rest -ℤ product ≡ residue base rest
less_product base rest product is =
    let all = residue_is_left base rest in
    omega (arith, ints)

taken : (base rest left product x y z : ℤ) → unsigned_abs rest ≤ 2 ^ 63 → unsigned_abs product ≤ 2 ^ 126 → product ≡ x *ℤ y → x ≡ base → y ≡ left → left ≡ floor_quotient z rest → z ≡ base
    → to_z w128 (of_z w128 (to_z w128 (of_z w128 rest) -ℤ to_z w128 (of_z w128 product))) ≡ residue base rest
taken base rest left product x y z of_rest of_product is_product is_x is_y is_left is_z =
    let difference : to_z w128 (of_z w128 (to_z w128 (of_z w128 rest) -ℤ to_z w128 (of_z w128 product))) ≡ rest -ℤ product = omega (arith, ints) in
    difference ∙ less_product base rest product (is_product ∙ ap (λ (l : ℤ). l *ℤ y) is_x ∙ ap (λ (l : ℤ). base *ℤ l) (is_y ∙ is_left ∙ ap (λ (b : ℤ). floor_quotient b rest) is_z))

pub returns-else-base-eq0-clause-digit : goal.returns-else-base-eq0-clause-digit
returns-else-base-eq0-clause-digit c =
    taken c.args.base c.args.rest c.floor_quotient-left.result c.wide_product.result _ _ _ c.requires c.wide_product.ensures.bound c.wide_product.ensures.value
    (wide c.args.base c.from-else-base-eq0.result c.ranges.base c.from-else-base-eq0.ensures) (to_z-of_z w128 c.floor_quotient-left.result (record { sfits = c.floor_quotient-left.type_inv }))
    (c.floor_quotient-left.ensures.value ∙ ap (λ (r : ℤ). floor_quotient (to_z w128 (of_z w128 c.from.result)) r) (to_z-of_z w128 c.args.rest c.ranges.rest))
    (wide c.args.base c.from.result c.ranges.base c.from.ensures)

pub returns-else-base-eq0-clause-digit_bound : goal.returns-else-base-eq0-clause-digit_bound
returns-else-base-eq0-clause-digit_bound c =
    subst (λ (z : ℤ). unsigned_abs z ≤ 2 ^ 63) (sym (returns-else-base-eq0-clause-digit c)) (residue_bound c.args.base c.args.rest (omega (arith, ints, c.ranges.base)) c.requires)
