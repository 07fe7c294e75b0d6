use Rattle.std.proofs.Common.{◌≤◌, ◌+◌}
use Rattle.refusal_lines.proofs.shown.begin_of.Given as goal

abbrev pub invariant-loop : goal.invariant-loop
invariant-loop l = record { within : l.begin ≤ l.at; few : l.at ≤ l.begin + 96 }
