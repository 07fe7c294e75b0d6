use Rattle.std.proofs.Common.{Some}
use Rattle.apl_io.proofs.Entries.{shelf_changed}
use Rattle.apl_io.proofs.memory_shelf.put.Goals as goal

pub returns-clause-ok : goal.returns-clause-ok
returns-clause-ok c = shelf_changed _ _ _ (Some c.args.bytes) c.in_ok-insert.ensures.updates.0
