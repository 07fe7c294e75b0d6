use mir.Syntax.{w64}
use Rattle.std.proofs.Common.{◌≡◌, ◌+◌, ◌-◌, ◌≤◌, ◌^◌, ℕ, ℤ, unsigned_abs, not, is_none, true, false, length, drop, refl, sym, ap, subst, ◌∙◌, arith}
use Rattle.std.proofs.lemmas.Int.{to_z-of_z}
use Rattle.apl_items.proofs.PlaceLemmas.{list_any-places}
use Rattle.apl_scalar.specs.Table.{item_where, least}
use Rattle.apl_search.specs.Encode.{digit_at, rest_by_all}
use Rattle.apl_search.proofs.DigitLemmas.{digit_read, left_read, none_lacks, none_of, one_more_fails, some_of, wide}
use Rattle.apl_search.proofs.encoding.least_lacks.Goals as goal

pub returns-then-is_none : goal.returns-then-is_none
returns-then-is_none c =
    let at = length c.args.bases.now - 1 - c.loop-done.done in
    let whole : at + 1 + c.loop-done.done ≡ length c.args.bases.now = omega arith in
    let is = digit_read c.args.bases.now least at c.loop-done.done c.taken_off-digit.result.0 _ _ c.item_at-base.result _ whole c.taken_off-digit.ensures.digit
    (to_z-of_z w64 c.item_at-base.result (record { sfits = c.item_at-base.type_inv })) refl c.item_at-base.ensures c.loop-done.invariant.value in
    let none : is_none c.small.result ≡ true = none_of c.small.result (c.is_none.ensures ∙ ap not c.if-is_none.true) in
    sym (list_any-places (λ (k : ℕ). is_none (item_where true (digit_at c.args.bases.now least k))) (length c.args.bases.now) at (omega arith)
    (ap (λ (z : ℤ). is_none (item_where true z)) (sym (wide c.taken_off-digit.result.0 c.taken_off-digit.ensures.digit_bound ∙ is)) ∙ ap (λ item. is_none item) (sym c.small.ensures) ∙ none))

pub loop-done-preserved : goal.loop-done-preserved
loop-done-preserved c =
    let at = length c.args.bases.now - 1 - c.loop-done.done in
    let whole : at + 1 + c.loop-done.done ≡ length c.args.bases.now = omega arith in
    let base = to_z-of_z w64 c.item_at-base.result (record { sfits = c.item_at-base.type_inv }) in
    let is = digit_read c.args.bases.now least at c.loop-done.done c.taken_off-digit.result.0 _ _ c.item_at-base.result _ whole c.taken_off-digit.ensures.digit
    base refl c.item_at-base.ensures c.loop-done.invariant.value in
    let left = left_read c.args.bases.now least at c.loop-done.done c.taken_off-digit.result.1 _ _ c.item_at-base.result _ whole c.taken_off-digit.ensures.left
    base refl c.item_at-base.ensures c.loop-done.invariant.value in
    let some : is_none c.small.result ≡ false = some_of c.small.result (c.is_none.ensures ∙ ap not c.if-is_none.false) in
    let kept = wide c.taken_off-digit.result.1 c.taken_off-digit.ensures.left_bound in
    record {
      none = one_more_fails (λ (k : ℕ). is_none (item_where true (digit_at c.args.bases.now least k))) (length c.args.bases.now) at c.loop-done.done whole c.loop-done.invariant.none
          (ap (λ (z : ℤ). is_none (item_where true z)) (sym (wide c.taken_off-digit.result.0 c.taken_off-digit.ensures.digit_bound ∙ is)) ∙ ap (λ item. is_none item) (sym c.small.ensures) ∙ some);
      value = λ low e. kept ∙ subst (λ (k : ℕ). c.taken_off-digit.result.1 ≡ rest_by_all (drop k c.args.bases.now) least) (let same : at ≡ low = omega arith in same) left;
      bound = subst (λ (z : ℤ). unsigned_abs z ≤ 2 ^ 63) (sym kept) c.taken_off-digit.ensures.left_bound;
    }

pub returns : goal.returns
returns c = none_lacks (length c.args.bases.now) (λ at. item_where true (digit_at c.args.bases.now least at)) (λ k below. c.loop-done.invariant.none k (omega arith) below)
