use Rattle.std.proofs.Common.{◌≡◌, All, map}
use Rattle.task_workers.proofs.rounds.take_round.Given as goal

abbrev pub invariant-loop-index : goal.invariant-loop-index
invariant-loop-index g l = record {
  stand : All (g.T.Task.stands l.hall) l.tasks;
  names : map g.T.Task.name l.tasks ≡ map g.T.Task.name l.fn.tasks;
}
