use Rattle.std.proofs.Common.{All, arith, length, ℕ, subst, sym, vec_len}
use Rattle.std.proofs.lemmas.Iterator.Adapters.{YieldsList-from_vec}
use Rattle.std.proofs.lemmas.Iterator.Consumers.{YieldsList-turn}
use Rattle.std.proofs.lemmas.List.{length_push}
use Rattle.task_workers.specs.Dealing.{HasRoom}
use Rattle.task_workers.proofs.Loads.{last_dealt}
use Rattle.task_workers.proofs.dealing.deal.Goals as goal

pub deal_one-requires-clause-room : goal.deal_one-requires-clause-room
deal_one-requires-clause-room g c =
    let road = YieldsList-from_vec {s = c.into_iter-task-iterator.result} c.args.tasks.items (cc) (cc) in
    let place = YieldsList-turn road c.loop-task.yielded c.loop-task.task-iterator c.loop-task.yielded_by c.next.result c.next.new.self c.in-Some.task c.in-Some.is c.next.ensures.steps in
    (length c.loop-task.yielded, vec_len c.args.tasks, omega (arith, place.0, c.args.tasks.ok.0), c.loop-task.invariant.room)

pub loop-task-preserved : goal.loop-task-preserved
loop-task-preserved g c =
    let loop = c.loop-task in
    let more = length_push loop.yielded c.in-Some.task in
    record {
      lists = last_dealt loop.yielded c.in-Some.task c.args.loads.items loop.loads.items c.deal_one.new.loads.items c.deal_one.ensures.lists loop.invariant.lists;
      some = omega (arith, loop.invariant.some, c.deal_one.ensures.count);
      room = subst (λ (n : ℕ). All (HasRoom n (vec_len c.args.tasks)) c.deal_one.new.loads.items) (sym more) (c.deal_one.ensures.room (length loop.yielded) (vec_len c.args.tasks) loop.invariant.room);
    }
