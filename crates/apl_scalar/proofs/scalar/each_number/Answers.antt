use Rattle.std.proofs.Common.{◌≡◌, ◌∙◌, ℕ, ℤ, IsOk, Err, sym, ap, subst}
use Rattle.std.proofs.lemmas.Result.{err_from_is_err_and}
use Rattle.apl_arrays.specs.Array.{PlainItems, element_count, item_count, numbers_in, seen_items}
use Rattle.apl_arrays.specs.List.{Listed}
use Rattle.apl_items.specs.Places.{HasItems}
use Rattle.apl_items.proofs.RowLemmas.{weaker_want}
use Rattle.apl_scalar.specs.Scalar.{monadic_at, monadic_of}
use Rattle.apl_scalar.proofs.MemoryLemmas.{monadic_gives, want_through}
use Rattle.apl_scalar.proofs.scalar.each_number.Goals as goal

pub returns-in_err-items-clause-memory : goal.returns-in_err-items-clause-memory
returns-in_err-items-clause-memory c =
    let p = err_from_is_err_and c.from_residual.result c.from_residual.ensures.1 in
    let same : p.0 ≡ c.in_err-items.field-0.0 = cc p.2 in
    let f = c.args.f in
    let b = c.args.b.now in
    let count : ℕ = c.len.result in
    let whole : count ≡ element_count b.shape = c.len.ensures ∙ ap item_count c.items.ensures.value ∙ sym c.items.ensures.array.whole in
    let gives : HasItems count (monadic_at f (numbers_in (seen_items c.items-2.result))) → IsOk (monadic_of f b) =
    λ has. monadic_gives f b count c.requires whole (subst (λ (i : PlainItems). HasItems count (monadic_at f (numbers_in i))) c.items-2.ensures.value has) in
    want_through (Listed ℤ) c.from_residual.result c.in_err-items.field-0.0 p.0 (IsOk (monadic_of f b)) p.1 same
    (weaker_want {T = Listed ℤ} (Err c.in_err-items.field-0.0) (HasItems count (monadic_at f (numbers_in (seen_items c.items-2.result)))) (IsOk (monadic_of f b)) gives c.in_err-items.ensures.memory)
