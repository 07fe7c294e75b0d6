use Rattle.std.proofs.Common.{◌≡◌, ℕ, ◌+◌, ◌<◌, ◌≤◌, get_or, vec_len, vec_capacity}
use Rattle.turn_cases.proofs.turns.numbers.Given as goal

abbrev pub invariant-loop-number : goal.invariant-loop-number
invariant-loop-number l = (vec_len l.numbers ≡ l.number) × (l.count ≤ vec_capacity l.numbers) × ((k d : ℕ) → k < l.number → get_or l.numbers.items k d ≡ k + 1)
