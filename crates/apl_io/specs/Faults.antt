-- Counts of faults.
use Rattle.std.specs.Prelude.{ℕ, ◌+◌, ◌-◌, ◌^◌, ◌≤◌, min}

-- one more, but never past the greatest u64
abbrev pub one_more : ℕ → ℕ
one_more count = min (count + 1) (2 ^ 64 - 1)

-- the count went up, or has no higher number to go to
abbrev pub Rose : ℕ → ℕ → Type 0
Rose before now = one_more before ≤ now
