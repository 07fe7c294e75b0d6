use Rattle.std.proofs.Common.{refl}
use Rattle.apl_scalar.specs.Table.{dyadic_item}
use Rattle.apl_operators.specs.Running.{front_at}
use Rattle.apl_operators.proofs.scanning.one_pass_by.Goals as goal

pub returns-in-Some-clause-made : goal.returns-in-Some-clause-made
returns-in-Some-clause-made g c = c.in-Some.ensures.made (dyadic_item c.args.f) (front_at (dyadic_item c.args.f) c.args.list.now c.args.split) c.requires.rule c.requires.runs

pub returns-in-Ok-clause-made : goal.returns-in-Ok-clause-made
returns-in-Ok-clause-made g c = (refl, c.in-None.ensures.none refl (dyadic_item c.args.f) (front_at (dyadic_item c.args.f) c.args.list.now c.args.split) c.requires.rule c.requires.runs)
