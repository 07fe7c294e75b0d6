use Rattle.std.proofs.Common.{◌≡◌, ◌+◌, ◌≤◌, length, vec_len}
use Rattle.std.specs.Prelude.{vec_capacity}
use Rattle.aplsv_serve.specs.Starts.{AreSeatedBehind}
use Rattle.aplsv_serve.proofs.start.seat_users.Given as goal

abbrev pub invariant-loop-user : goal.invariant-loop-user
invariant-loop-user g l = record {
  made : AreSeatedBehind l.fn.tasks.items l.yielded l.seats.items l.fn.seats.items l.tasks.items;
  count : vec_len l.tasks ≡ vec_len l.fn.tasks + length l.yielded;
  left : vec_len l.seats + length l.yielded ≡ vec_len l.fn.users;
  places : vec_len l.fn.tasks + vec_len l.fn.users ≤ vec_capacity l.tasks;
}
