use Rattle.std.proofs.Common.{None, Some, refl}
use Rattle.apl_io.proofs.Entries.{shelf_changed, removed}
use Rattle.apl_io.proofs.memory_shelf.take.Goals as goal

pub returns-in-Some-clause-answered : goal.returns-in-Some-clause-answered
returns-in-Some-clause-answered c =
    removed c.args.key c.args.kept.now.entries (Some c.in-Some.bytes) c.is_some.result c.in-Some.ensures.value c.is_some.ensures

pub returns-in-Some-clause-entries : goal.returns-in-Some-clause-entries
returns-in-Some-clause-entries c = shelf_changed _ _ _ None c.remove.ensures.updates.0

pub returns-in-None-clause-answered : goal.returns-in-None-clause-answered
returns-in-None-clause-answered c = removed c.args.key c.args.kept.now.entries None _ c.in-None.ensures.value refl

pub returns-in-None-clause-entries : goal.returns-in-None-clause-entries
returns-in-None-clause-entries c = shelf_changed _ _ _ None c.remove.ensures.updates.0
