use Rattle.std.proofs.Common.{◌≡◌, ◌*◌, length}
use Rattle.apl_search.specs.Encode.{AreBefore}
use Rattle.apl_search.proofs.encoding.digits.Given as goal

-- the digits of the numbers so far stand
abbrev pub invariant-loop-column : goal.invariant-loop-column
invariant-loop-column l = record {
  len : length l.digits.items ≡ length l.bases * length l.numbers;
  items : AreBefore l.bases l.numbers l.digits.items l.column;
}
