use Rattle.std.proofs.Common.{◌≤◌, ◌/◌, arith}
use Rattle.std.proofs.lemmas.Bool.Decides.{nat_tests}
use Rattle.apl_operators.proofs.SmallLemmas.{small_by_quotient}
use Rattle.apl_operators.proofs.sums.are_small.Goals as goal

pub returns : goal.returns
returns c e =
    let below : c.bound_of_magnitudes.result ≤ 9223372036854775807 / c.args.count = grind (arith, nat_tests) in
    small_by_quotient c.args.list.now c.bound_of_magnitudes.result c.args.count c.bound_of_magnitudes.ensures below
