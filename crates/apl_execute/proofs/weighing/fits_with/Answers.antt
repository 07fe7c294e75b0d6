use Rattle.std.proofs.Common.{arith}
use Rattle.apl_execute.proofs.Weights.{gone_within}
use Rattle.apl_execute.proofs.weighing.fits_with.Goals as goal

pub overflow_sub-result : goal.overflow_sub-result
overflow_sub-result c = omega (arith, gone_within c.args.into.now c.args.from.now c.args.names.now c.weight.ensures.rules, c.weight.ensures.value, c.weight_of_copied-goes.ensures)
