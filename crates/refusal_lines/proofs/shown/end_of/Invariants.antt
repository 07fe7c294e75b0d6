use Rattle.std.proofs.Common.{◌≤◌, ◌<◌, ◌+◌, length}
use Rattle.refusal_lines.proofs.shown.end_of.Given as goal

abbrev pub invariant-loop : goal.invariant-loop
invariant-loop l = record { behind : l.at ≤ l.end; within : l.end < length l.line; few : l.end ≤ l.at + 48 }
