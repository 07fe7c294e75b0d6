use Rattle.std.proofs.Common.{◌≡◌, ◌++◌, drop, take}
use Rattle.std.specs.Prelude.{map}
use Rattle.apl_values.specs.Values.{settled}
use Rattle.apl_values.proofs.values.settle.Given as goal

-- the values so far are settled, and the others as before
abbrev pub invariant-loop-value : goal.invariant-loop-value
invariant-loop-value l = l.value-items ≡ map (settled l.workspace) (take l.value-index l.fn.values.items) ++ drop l.value-index l.fn.values.items
