use Rattle.apl_execute.proofs.Mentions.{copied_are_unshared}
use Rattle.apl_execute.proofs.merging.copied.Goals as goal

pub returns-in_err-push-clause-unshared : goal.returns-in_err-push-clause-unshared
returns-in_err-push-clause-unshared c = copied_are_unshared c.args.into.now c.args.from.now c.args.asked.now

pub returns-clause-unshared : goal.returns-clause-unshared
returns-clause-unshared c = copied_are_unshared c.args.into.now c.args.from.now c.args.asked.now
