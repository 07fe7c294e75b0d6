use Rattle.std.proofs.Common.{◌-◌, arith, vec_len}
use Rattle.task_workers.proofs.Loads.{none_gathered, one_gathered}
use Rattle.task_workers.proofs.dealing.gather_one.Goals as goal

pub returns-in_err-task-clause-none : goal.returns-in_err-task-clause-none
returns-in_err-task-clause-none g c =
    let load = c.in_ok-load.load in
    λ is. none_gathered c.args.loads.now.items c.pop.new.self.items load c.in_ok-load.ensures.items (omega (arith, load.ok.0, c.in_err-task.ensures.cases.0))

pub returns-clause-some : goal.returns-clause-some
returns-clause-some g c =
    let rest = c.pop.new.self in
    let row = c.push_reserved.new.self in
    one_gathered c.args.loads.now.items rest.items row.items c.rotate_right.new.self.items c.in_ok-load.load c.pop-2.new.self c.in_ok-task.task (vec_len row - 1) c.in_ok-load.ensures.items c.in_ok-task.ensures.items c.push_reserved.ensures.items
    (omega (arith, rest.ok.0, c.push_reserved.ensures.len)) c.rotate_right.ensures.items
