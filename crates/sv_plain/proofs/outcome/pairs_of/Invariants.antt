use Rattle.std.proofs.Common.{◌≡◌, map, take}
use Rattle.sv_plain.proofs.outcome.pairs_of.Given as goal

-- the pairs so far
abbrev pub invariant-loop-one : goal.invariant-loop-one
invariant-loop-one l = l.pairs.items ≡ map (λ one. one.pair) (take l.one-index l.made)
