use Rattle.std.proofs.Common.{length, refl}
use Rattle.apl_verbs.specs.declared.verb.Dyad.TheVariants.{Plus}
use Rattle.apl_items.specs.Places.{HasItems}
use Rattle.apl_scalar.specs.Table.{dyadic_item}
use Rattle.apl_selection.proofs.WantLemmas.{on_want}
use Rattle.apl_operators.specs.Running.{front_at, wrapped_sum}
use Rattle.apl_operators.proofs.SmallLemmas.{small_fronts_exist, small_fronts_run}
use Rattle.apl_operators.proofs.WeightLemmas.{some_along}
use Rattle.apl_operators.proofs.sums.small_sums.Goals as goal

pub returns-in-Some-clause-made : goal.returns-in-Some-clause-made
returns-in-Some-clause-made c =
    c.in-Some.ensures.made wrapped_sum (front_at (dyadic_item Plus) c.args.list.now c.args.split) (λ a b answer told. told)
    (small_fronts_run c.args.list.now c.args.split c.requires.whole (some_along c.args.split c.requires.some) c.requires.small)

pub returns-in-None-clause-made : goal.returns-in-None-clause-made
returns-in-None-clause-made c = (
  refl,
  c.in-None.ensures.none refl wrapped_sum (front_at (dyadic_item Plus) c.args.list.now c.args.split) (λ a b answer told. told)
      (small_fronts_run c.args.list.now c.args.split c.requires.whole (some_along c.args.split c.requires.some) c.requires.small),
)

pub returns-in_err-room-clause-memory : goal.returns-in_err-room-clause-memory
returns-in_err-room-clause-memory c =
    on_want c.from_residual.result (HasItems (length c.args.list.now) (front_at (dyadic_item Plus) c.args.list.now c.args.split)) (small_fronts_exist c.args.list.now c.args.split c.requires.whole c.requires.small)
