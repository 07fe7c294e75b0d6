use Rattle.std.proofs.Common.{subst}
use Rattle.std.specs.Prelude.{Err}
use Rattle.apl_meaning.specs.Sharing.{offers}
use Rattle.apl_statements.specs.Interpreter.{PlainInterpreter}
use Rattle.apl_statements.specs.Sound.{plain_interpreter}
use Rattle.apl_acts.specs.Asking.{Asks}
use Rattle.apl_acts.proofs.RowTests.{not_offered}
use Rattle.apl_acts.proofs.sharing.offer.Goals as goal

pub returns-in-Err-clause-asks : goal.returns-in-Err-clause-asks
returns-in-Err-clause-asks c =
    subst (λ (x : PlainInterpreter). Asks x (offers c.args.p.now c.args.n.now) (Err c.why_not_offered.result)) c.interpreter.view_is
    (not_offered (plain_interpreter c.interpreter.inside) c.args.p.now c.args.n.now c.why_not_offered.result c.why_not_offered.ensures.report c.why_not_offered.ensures.none)
