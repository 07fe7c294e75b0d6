use Rattle.std.proofs.Common.{arith}
use Rattle.task_workers.specs.Dealing.{HasRoom}
use Rattle.task_workers.proofs.Changing.{holds_more}
use Rattle.task_workers.proofs.Loads.{one_empty}
use Rattle.task_workers.proofs.dealing.empty_lists.Goals as goal

pub loop-preserved : goal.loop-preserved
loop-preserved g c =
    let loop = c.loop in
    let load = c.in_ok-with_capacity.field-0 in
    record {
      empty = one_empty loop.counter loop.loads.items c.push_reserved.new.self.items load loop.invariant.empty c.in_ok-with_capacity.ensures.items c.push_reserved.ensures.items;
      room = holds_more (HasRoom 0 c.args.tasks) loop.loads.items c.push_reserved.new.self.items load c.push_reserved.ensures.items loop.invariant.room (record { few = omega (arith, c.in_ok-with_capacity.ensures.len); room = c.in_ok-with_capacity.ensures.capacity });
      count = omega (arith, loop.invariant.count, c.push_reserved.ensures.len);
      places = omega (arith, loop.invariant.places, c.push_reserved.ensures.capacity);
    }
