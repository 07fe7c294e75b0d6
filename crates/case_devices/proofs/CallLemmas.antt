-- Numbers of calls that ascend.
use Rattle.std.proofs.Common.{ℕ, zero, suc, ◌<◌, [], ◌∷◌, arith}
use Rattle.std.specs.List.Sorted.{IsStrictlyIncreasing}

pub two_ascend : (a b : ℕ) → a < b → IsStrictlyIncreasing (a ∷ b ∷ [])
two_ascend a b first zero within = first
two_ascend a b first (suc k) within = absurd (omega (arith, within))

pub three_ascend : (a b c : ℕ) → a < b → b < c → IsStrictlyIncreasing (a ∷ b ∷ c ∷ [])
three_ascend a b c first second zero within = first
three_ascend a b c first second (suc zero) within = second
three_ascend a b c first second (suc (suc k)) within = absurd (omega (arith, within))
