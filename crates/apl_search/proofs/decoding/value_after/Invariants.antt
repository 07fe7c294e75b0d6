use Rattle.std.proofs.Common.{◌≡◌}
use Rattle.apl_search.specs.Decode.{value_after}
use Rattle.apl_search.proofs.decoding.value_after.Given as goal

-- the value of the digits so far
abbrev pub invariant-loop-place : goal.invariant-loop-place
invariant-loop-place l = l.value ≡ value_after l.bases l.digits l.place
