use Rattle.std.proofs.Common.{◌≡◌, ◌≤◌, All, length, map, vec_len}
use Rattle.std.specs.Prelude.{vec_capacity}
use Rattle.task_workers.specs.Posts.{names_at}
use Rattle.task_workers.proofs.workers.return_all.Given as goal

abbrev pub invariant-loop-post : goal.invariant-loop-post
invariant-loop-post g l = record {
  stand : All (λ load. All (g.T.Task.stands l.hall) load.items) l.returned.items;
  names : map (λ load. map g.T.Task.name load.items) l.returned.items ≡ map (names_at g.T.Task.name) l.yielded;
  count : vec_len l.returned ≡ length l.yielded;
  places : vec_len l.fn.posts ≤ vec_capacity l.returned;
}
