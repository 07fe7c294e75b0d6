use Rattle.std.proofs.Common.{length, sym, subst}
use Rattle.apl_verbs.specs.declared.verb.Dyad.{Dyad}
use Rattle.apl_items.specs.Places.{HasItems, OnWantOfMemory}
use Rattle.apl_scalar.specs.Table.{dyadic_item}
use Rattle.apl_operators.specs.Running.{front_at}
use Rattle.apl_operators.proofs.scanning.fronts.Goals as goal

pub returns-then-are_small-clause-memory : goal.returns-then-are_small-clause-memory
returns-then-are_small-clause-memory c =
    subst (λ (f : Dyad). OnWantOfMemory c.small_sums.result (HasItems (length c.args.list.now) (front_at (dyadic_item f) c.args.list.now c.args.split))) (sym c.in-Plus.is) c.small_sums.ensures.memory
