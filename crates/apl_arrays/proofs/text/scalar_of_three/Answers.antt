use Rattle.std.proofs.Common.{arith}
use Rattle.apl_arrays.proofs.Scalars.{large_from_three}
use Rattle.apl_arrays.proofs.text.scalar_of_three.Goals as goal

pub returns-then-scalar-lt2048 : goal.returns-then-scalar-lt2048
returns-then-scalar-lt2048 c scalar large small e =
    omega (arith, large_from_three scalar c.args.first c.args.second c.args.third large small e)
