use Rattle.std.proofs.Common.{◌≡◌, ℤ, List, sym, ap, subst}
use Rattle.apl_arrays.specs.declared.items.ItemsRef.{ItemsRef}
use Rattle.apl_arrays.specs.Array.{numbers_in, seen_items}
use Rattle.apl_items.specs.Places.{HasItems, OnWantOfMemory}
use Rattle.apl_scalar.specs.Scalar.{monadic_at}
use Rattle.apl_scalar.proofs.scalar.own_items.Goals as goal

pub returns-clause-memory : goal.returns-clause-memory
returns-clause-memory c =
    let is : c.in-Numbers.b.now ≡ numbers_in (seen_items c.args.b) = sym (ap (λ (i : ItemsRef). numbers_in (seen_items i)) c.in-Numbers.is) in
    subst (λ (list : List ℤ). OnWantOfMemory c.monadic_items.result (HasItems c.args.count (monadic_at c.args.f list))) is c.monadic_items.ensures.memory
