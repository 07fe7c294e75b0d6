use mir.Syntax.{w64, w128}
use Rattle.std.proofs.Common.{◌≡◌, ◌+◌, ◌-◌, ◌*◌, ◌<◌, ◌≤◌, ◌^◌, ℕ, ℤ, pos, unsigned_abs, FitsSigned, to_z, of_z, length, drop, set, get_or, refl, sym, subst, ◌∙◌, arith, length-set}
use Rattle.std.proofs.lemmas.Int.{ints, to_z-of_z}
use Rattle.apl_search.specs.Encode.{AreFrom, rest_by_all}
use Rattle.apl_search.proofs.DigitLemmas.{before_kept, column_done, column_more, digit_here_fits, digit_read, left_read, wide}
use Rattle.apl_search.proofs.encoding.put_column.Goals as goal

cast : (z : ℤ) → FitsSigned w64 z → to_z w64 (of_z w64 (to_z w128 (of_z w128 z))) ≡ z
cast z small = omega (arith, ints)

fits_cast : (z : ℤ) → FitsSigned w64 z → FitsSigned w64 (to_z w128 (of_z w128 z))
fits_cast z small = omega (arith, ints)

pub overflow_cast-digits : goal.overflow_cast-digits
overflow_cast-digits c =
    let at = length c.args.bases.now - 1 - c.loop-done.done in
    let whole : at + 1 + c.loop-done.done ≡ length c.args.bases.now = omega arith in
    let inside : at < length c.args.bases.now = omega arith in
    let is = digit_read c.args.bases.now (get_or c.args.numbers.now c.args.column (pos 0)) at c.loop-done.done c.taken_off-digit.result.0 _ _ c.item_at-base.result _ whole
    c.taken_off-digit.ensures.digit (to_z-of_z w64 c.item_at-base.result (record { sfits = c.item_at-base.type_inv })) refl c.item_at-base.ensures c.loop-done.invariant.value in
    fits_cast c.taken_off-digit.result.0 (subst (λ (z : ℤ). FitsSigned w64 z) (sym is) (digit_here_fits c.args.bases.now c.args.numbers.now at c.args.column inside c.requires.column c.requires.all))

pub loop-done-preserved : goal.loop-done-preserved
loop-done-preserved c =
    let at = length c.args.bases.now - 1 - c.loop-done.done in
    let whole : at + 1 + c.loop-done.done ≡ length c.args.bases.now = omega arith in
    let inside : at < length c.args.bases.now = omega arith in
    let base = to_z-of_z w64 c.item_at-base.result (record { sfits = c.item_at-base.type_inv }) in
    let is = digit_read c.args.bases.now (get_or c.args.numbers.now c.args.column (pos 0)) at c.loop-done.done c.taken_off-digit.result.0 _ _ c.item_at-base.result _ whole
    c.taken_off-digit.ensures.digit base refl c.item_at-base.ensures c.loop-done.invariant.value in
    let left = left_read c.args.bases.now (get_or c.args.numbers.now c.args.column (pos 0)) at c.loop-done.done c.taken_off-digit.result.1 _ _ c.item_at-base.result _ whole
    c.taken_off-digit.ensures.left base refl c.item_at-base.ensures c.loop-done.invariant.value in
    let value = cast c.taken_off-digit.result.0 (subst (λ (z : ℤ). FitsSigned w64 z) (sym is) (digit_here_fits c.args.bases.now c.args.numbers.now at c.args.column inside c.requires.column c.requires.all)) in
    let kept = wide c.taken_off-digit.result.1 c.taken_off-digit.ensures.left_bound in
    let put : ℤ = to_z w64 (of_z w64 (to_z w128 (of_z w128 c.taken_off-digit.result.0))) in
    record {
      len = length-set c.loop-done.digits (at * length c.args.numbers.now + c.args.column) put ∙ c.loop-done.invariant.len;
      before = before_kept c.args.bases.now c.args.numbers.now c.loop-done.digits c.args.column at put c.requires.column c.loop-done.invariant.before;
      here = λ low e. subst (λ (k : ℕ). AreFrom c.args.bases.now c.args.numbers.now (set c.loop-done.digits (at * length c.args.numbers.now + c.args.column) put) c.args.column k) (let same : at ≡ low = omega arith in same)
          (column_more c.args.bases.now c.args.numbers.now c.loop-done.digits c.args.column at put c.requires.column inside c.loop-done.invariant.len (c.loop-done.invariant.here (at + 1) whole) (value ∙ is));
      value = λ low e. kept ∙ subst (λ (k : ℕ). c.taken_off-digit.result.1 ≡ rest_by_all (drop k c.args.bases.now) (get_or c.args.numbers.now c.args.column (pos 0))) (let same : at ≡ low = omega arith in same) left;
      bound = subst (λ (z : ℤ). unsigned_abs z ≤ 2 ^ 63) (sym kept) c.taken_off-digit.ensures.left_bound;
    }

pub returns-clause-items : goal.returns-clause-items
returns-clause-items c =
    column_done c.args.bases.now c.args.numbers.now c.loop-done.digits c.args.column c.loop-done.invariant.before
    (c.loop-done.invariant.here 0 (omega arith))
