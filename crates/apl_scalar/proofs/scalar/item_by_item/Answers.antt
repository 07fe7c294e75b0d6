use Rattle.std.proofs.Common.{◌≡◌, ◌∙◌, ℕ, ℤ, IsOk, Err, sym, ap, subst}
use Rattle.std.proofs.lemmas.Result.{err_from_is_err_and}
use Rattle.apl_arrays.specs.Array.{PlainArray, PlainItems, element_count, item_count, seen_items}
use Rattle.apl_arrays.specs.List.{Listed}
use Rattle.apl_items.specs.Extension.{leader}
use Rattle.apl_items.specs.Places.{HasItems}
use Rattle.apl_items.proofs.RowLemmas.{weaker_want}
use Rattle.apl_scalar.specs.Scalar.{dyadic_at, dyadic_of}
use Rattle.apl_scalar.proofs.MemoryLemmas.{dyadic_gives, want_through}
use Rattle.apl_scalar.proofs.scalar.item_by_item.Goals as goal

pub returns-in_err-items-clause-memory : goal.returns-in_err-items-clause-memory
returns-in_err-items-clause-memory c =
    let p = err_from_is_err_and c.from_residual.result c.from_residual.ensures.1 in
    let same : p.0 ≡ c.in_err-items.field-0.0 = cc p.2 in
    let f = c.args.f in
    let a = c.args.a.now in
    let b = c.args.b.now in
    let count : ℕ = c.len.result in
    let left : PlainItems = seen_items c.items-2.result in
    let right : PlainItems = seen_items c.items-3.result in
    let whole : count ≡ element_count (leader a b).shape =
    c.len.ensures ∙ ap item_count c.items.ensures.value ∙ sym c.items.ensures.array.whole ∙ ap (λ (x : PlainArray). element_count x.shape) c.leader-shaped.ensures in
    let gives : HasItems count (dyadic_at f left right) → IsOk (dyadic_of f a b) =
    λ has. dyadic_gives f a b count c.requires.rank c.requires.shape c.requires.kind whole
    (subst (λ (i : PlainItems). HasItems count (dyadic_at f a.items i)) c.items-3.ensures.value (subst (λ (i : PlainItems). HasItems count (dyadic_at f i right)) c.items-2.ensures.value has)) in
    want_through (Listed ℤ) c.from_residual.result c.in_err-items.field-0.0 p.0 (IsOk (dyadic_of f a b)) p.1 same
    (weaker_want {T = Listed ℤ} (Err c.in_err-items.field-0.0) (HasItems count (dyadic_at f left right)) (IsOk (dyadic_of f a b)) gives c.in_err-items.ensures.memory)
