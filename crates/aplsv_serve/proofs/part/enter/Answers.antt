use Rattle.std.proofs.Common.{subst}
use Rattle.sv_core.specs.Core.{PlainCore}
use Rattle.party_turns.specs.Entering.{IsOneIf}
use Rattle.aplsv_serve.proofs.part.enter.Goals as goal

pub returns-in-Err-clause-one : goal.returns-in-Err-clause-one
returns-in-Err-clause-one g c = subst (λ (core : PlainCore). IsOneIf c.give_up.result.is_entered c.args.user.now.session.user core c.give_up.new.core) c.in-Err.ensures.err c.give_up.ensures.one
