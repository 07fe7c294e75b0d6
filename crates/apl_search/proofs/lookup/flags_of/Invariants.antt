use Rattle.std.proofs.Common.{◌≡◌, ◌++◌, drop, map, pos, take}
use Rattle.std.specs.Prelude.{int_le}
use Rattle.apl_scalar.specs.Table.{truth}
use Rattle.apl_search.proofs.lookup.flags_of.Given as goal

-- the memberships so far, and the other places as they were
abbrev pub invariant-loop-flag : goal.invariant-loop-flag
invariant-loop-flag l = l.flag-items ≡ map (λ place. truth (int_le place (pos l.count))) (take l.flag-index l.initial.flag-items) ++ drop l.flag-index l.initial.flag-items
