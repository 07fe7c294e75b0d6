use Rattle.std.proofs.Common.{◌≡◌, ◌≤◌, [], All, replicate, vec_capacity, vec_len}
use Rattle.task_workers.specs.Dealing.{HasRoom, lists_of}
use Rattle.task_workers.proofs.dealing.empty_lists.Given as goal

abbrev pub invariant-loop : goal.invariant-loop
invariant-loop g l = record {
  empty : lists_of l.loads.items ≡ replicate l.counter [];
  room : All (HasRoom 0 l.tasks) l.loads.items;
  count : vec_len l.loads ≡ l.counter;
  places : l.fn.workers ≤ vec_capacity l.loads;
}
