use Rattle.std.proofs.Common.{sym, subst}
use Rattle.std.specs.Option.{option_copied}
use Rattle.apl_arrays.specs.declared.system.SystemName.{SystemName}
use Rattle.apl_meaning.specs.Queries.{system_outcome}
use Rattle.apl_acts.specs.Asking.{Asks}
use Rattle.apl_acts.proofs.sharing.asked_by.Goals as goal

pub returns-in-Svo-clause-asks : goal.returns-in-Svo-clause-asks
returns-in-Svo-clause-asks c = subst (λ (name : SystemName). Asks c.args.interpreter.now (system_outcome name (option_copied c.args.left) c.args.right.now) c.offer_or_ask.result) (sym c.in-Svo.is) c.offer_or_ask.ensures.asks

pub returns-in-Svc-clause-asks : goal.returns-in-Svc-clause-asks
returns-in-Svc-clause-asks c = subst (λ (name : SystemName). Asks c.args.interpreter.now (system_outcome name (option_copied c.args.left) c.args.right.now) c.control_or_ask.result) (sym c.in-Svc.is) c.control_or_ask.ensures.asks

pub returns-in-Svq-clause-may : goal.returns-in-Svq-clause-may
returns-in-Svq-clause-may c = c.query.ensures.may c.args.interpreter.now.workspace

pub returns-in-Svq-clause-asks : goal.returns-in-Svq-clause-asks
returns-in-Svq-clause-asks c =
    subst (λ (name : SystemName). Asks c.args.interpreter.now (system_outcome name (option_copied c.args.left) c.args.right.now) c.query.result) (sym c.in-Svq.is) (c.query.ensures.asks c.args.interpreter.now)
