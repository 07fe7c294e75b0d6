use Rattle.std.proofs.Common.{◌≡◌, vec_len}
use Rattle.thread_cases.proofs.runs.shelves.Given as goal

abbrev pub invariant-loop-made : goal.invariant-loop-made
invariant-loop-made l = vec_len l.shelves ≡ l._made
