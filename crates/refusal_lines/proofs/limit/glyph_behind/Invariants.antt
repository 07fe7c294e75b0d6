use Rattle.std.proofs.Common.{◌≤◌, length}
use Rattle.refusal_lines.proofs.limit.glyph_behind.Given as goal

abbrev pub invariant-loop : goal.invariant-loop
invariant-loop l = length l.rest ≤ length l.text
