use Rattle.std.proofs.Common.{arith}
use Rattle.std.proofs.lemmas.Nat.{mul-lt}
use Rattle.apl_selection.proofs.strides.scaled.Goals as goal

pub overflow_mul-result : goal.overflow_mul-result
overflow_mul-result c = let bound = mul-lt c.args.places c.args.stride 65536 65536 c.requires (omega arith) in omega arith

pub returns-clause-small : goal.returns-clause-small
returns-clause-small c = mul-lt c.args.places c.args.stride 65536 65536 c.requires (omega arith)
