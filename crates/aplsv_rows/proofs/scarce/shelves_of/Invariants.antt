use Rattle.std.proofs.Common.{◌≡◌, vec_len}
use Rattle.aplsv_rows.proofs.scarce.shelves_of.Given as goal

abbrev pub invariant-loop-made : goal.invariant-loop-made
invariant-loop-made l = vec_len l.shelves ≡ l.made
