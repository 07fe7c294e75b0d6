use Rattle.std.proofs.Common.{◌<◌, ◌∙◌, arith, length, vec_len}
use Rattle.task_workers.proofs.Working.{all_named, all_returned, as_many_vectors, stand_dealt, stand_gathered}
use Rattle.task_workers.proofs.workers.work_in.Goals as goal

pub work_together-requires-clause-stand : goal.work_together-requires-clause-stand
work_together-requires-clause-stand g c κs within =
    stand_dealt (g.T.Task.stands c.args.hall.now) c.args.tasks.items c.args.room.loads.items c.deal-loads.result.items (vec_len c.args.room.loads) c.requires.loads.1 c.deal-loads.ensures c.requires.stand

pub work_together-requires-clause-returned : goal.work_together-requires-clause-returned
work_together-requires-clause-returned g c κs within =
    let some : 0 < length c.args.room.loads.items = omega (arith, c.requires.loads.0, c.args.room.loads.ok.0) in
    let many = as_many_vectors c.args.tasks.items c.args.room.loads.items c.deal-loads.result.items some c.deal-loads.ensures in
    (c.requires.returned.0, omega (arith, many, c.deal-loads.result.ok.0, c.args.room.loads.ok.0, c.requires.returned.1))

pub returns-in-Ok-clause-stand : goal.returns-in-Ok-clause-stand
returns-in-Ok-clause-stand g c = stand_gathered (g.T.Task.stands c.args.hall.now) c.len-count.result c.in-Ok.loads.items c.gather.result.items c.gather.ensures c.in-Ok.ensures.stand

pub returns-in-Ok-clause-names : goal.returns-in-Ok-clause-names
returns-in-Ok-clause-names g c =
    let some : 0 < length c.args.room.loads.items = omega (arith, c.requires.loads.0, c.args.room.loads.ok.0) in
    all_named g.T.Task.name c.args.tasks.items c.gather.result.items c.args.room.loads.items c.deal-loads.result.items c.in-Ok.loads.items c.len-count.result some (c.len-count.ensures ∙ c.args.tasks.ok.0) c.deal-loads.ensures c.in-Ok.ensures.names c.gather.ensures

pub returns-in-Err-clause-err : goal.returns-in-Err-clause-err
returns-in-Err-clause-err g c =
    let some : 0 < length c.args.room.loads.items = omega (arith, c.requires.loads.0, c.args.room.loads.ok.0) in
    all_returned c.args.tasks.items c.gather-in-Err.result.items c.args.room.loads.items c.deal-loads.result c.in-Err.loads c.len-count.result some (c.len-count.ensures ∙ c.args.tasks.ok.0) c.deal-loads.ensures c.in-Err.ensures.err c.gather-in-Err.ensures
