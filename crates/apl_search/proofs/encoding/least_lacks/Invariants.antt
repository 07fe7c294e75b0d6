use Rattle.std.proofs.Common.{◌≡◌, ◌+◌, ◌<◌, ◌≤◌, ◌^◌, ℕ, false, true, length, drop, is_none, unsigned_abs}
use Rattle.apl_scalar.specs.Table.{item_where, least}
use Rattle.apl_search.specs.Encode.{digit_at, rest_by_all}
use Rattle.apl_search.proofs.encoding.least_lacks.Given as goal

-- no digit at the last bases leaves 64 bits, and what these leave of the least number is known
abbrev pub invariant-loop-done : goal.invariant-loop-done
invariant-loop-done l = record {
  none : (at : ℕ) → length l.bases ≤ at + l.done → at < length l.bases → is_none (item_where true (digit_at l.bases least at)) ≡ false;
  value : (low : ℕ) → low + l.done ≡ length l.bases → l.rest ≡ rest_by_all (drop low l.bases) least;
  bound : unsigned_abs l.rest ≤ 2 ^ 63;
}
