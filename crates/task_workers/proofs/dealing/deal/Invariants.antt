use Rattle.std.proofs.Common.{◌≡◌, ◌<◌, All, length, vec_len}
use Rattle.task_workers.specs.Dealing.{HasRoom, dealt, lists_of}
use Rattle.task_workers.proofs.dealing.deal.Given as goal

abbrev pub invariant-loop-task : goal.invariant-loop-task
invariant-loop-task g l = record {
  lists : lists_of l.loads.items ≡ dealt l.yielded (lists_of l.fn.loads.items);
  some : 0 < vec_len l.loads;
  room : All (HasRoom (length l.yielded) (vec_len l.fn.tasks)) l.loads.items;
}
