use Rattle.std.proofs.Common.{◌≡◌, ◌≤◌, All, length, map, vec_len}
use Rattle.std.specs.Prelude.{vec_capacity}
use Rattle.task_workers.specs.Posts.{IsPostIn, names_at}
use Rattle.task_workers.proofs.workers.post_all.Given as goal

abbrev pub invariant-loop-load : goal.invariant-loop-load
invariant-loop-load g l = record {
  posts : All (IsPostIn g.T.Task.stands l.hall) l.posts.items;
  names : map (names_at g.T.Task.name) l.posts.items ≡ map (λ load. map g.T.Task.name load.items) l.yielded;
  count : vec_len l.posts ≡ length l.yielded;
  places : vec_len l.fn.loads ≤ vec_capacity l.posts;
}
