use Rattle.std.proofs.Common.{◌≡◌, ◌+◌, ◌*◌, ◌≤◌, ◌^◌, ℕ, length, drop, get_or, pos, unsigned_abs}
use Rattle.apl_search.specs.Encode.{AreBefore, AreFrom, rest_by_all}
use Rattle.apl_search.proofs.encoding.put_column.Given as goal

-- the digits of the numbers before stand, and those of this one at the last bases, and what these leave is known
abbrev pub invariant-loop-done : goal.invariant-loop-done
invariant-loop-done l = record {
  len : length l.digits ≡ length l.bases * length l.numbers;
  before : AreBefore l.bases l.numbers l.digits l.column;
  here : (low : ℕ) → low + l.done ≡ length l.bases → AreFrom l.bases l.numbers l.digits l.column low;
  value : (low : ℕ) → low + l.done ≡ length l.bases → l.rest ≡ rest_by_all (drop low l.bases) (get_or l.numbers l.column (pos 0));
  bound : unsigned_abs l.rest ≤ 2 ^ 63;
}
