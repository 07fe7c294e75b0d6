use Rattle.std.proofs.Common.{◌≡◌, ◌+◌, ◌≤◌, ◌++◌, List, length, map, take, vec_len}
use Rattle.std.specs.Prelude.{vec_capacity}
use Rattle.aplsv_serve.specs.declared.party_task.PartyTask.TheVariants as variant
use Rattle.aplsv_serve.specs.declared.user_task.UserTask.{UserTask}
use Rattle.aplsv_serve.proofs.ending.take_users_apart.Given as goal

abbrev pub invariant-loop-task : goal.invariant-loop-task
invariant-loop-task g l = record {
  users : (list : List (UserTask g.row.K.Denot)) → l.fn.tasks.items ≡ map (λ user. variant.User user) list → l.users.items ≡ l.fn.users.items ++ map (λ user. user.user) (take (length l.yielded) list);
  seats : (list : List (UserTask g.row.K.Denot)) → l.fn.tasks.items ≡ map (λ user. variant.User user) list → l.seats.items ≡ l.fn.seats.items ++ map (λ user. user.seat) (take (length l.yielded) list);
  users_count : vec_len l.users ≡ vec_len l.fn.users + length l.yielded;
  users_room : vec_len l.fn.users + vec_len l.fn.tasks ≤ vec_capacity l.users;
  seats_count : vec_len l.seats ≡ vec_len l.fn.seats + length l.yielded;
  seats_room : vec_len l.fn.seats + vec_len l.fn.tasks ≤ vec_capacity l.seats;
}
