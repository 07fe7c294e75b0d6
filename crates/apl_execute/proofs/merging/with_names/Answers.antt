use Rattle.apl_execute.proofs.Copies.{may_come}
use Rattle.apl_execute.proofs.merging.with_names.Goals as goal

pub put_all-requires-clause-may : goal.put_all-requires-clause-may
put_all-requires-clause-may c = may_come c.args.into.now c.in_ok-workspace.workspace c.args.names.now c.in_ok-workspace.ensures.rules c.in_ok-workspace.ensures.value c.requires.differ
