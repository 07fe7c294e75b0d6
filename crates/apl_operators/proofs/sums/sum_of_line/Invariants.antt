use Rattle.std.proofs.Common.{◌≡◌, ◌-◌, Some}
use Rattle.apl_verbs.specs.declared.verb.Dyad.TheVariants.{Plus}
use Rattle.apl_scalar.specs.Table.{dyadic_item}
use Rattle.operator_rules.specs.Reduction.{front_of_line}
use Rattle.apl_operators.proofs.sums.sum_of_line.Given as goal

-- the sum of the numbers so far
abbrev pub invariant-loop-along : goal.invariant-loop-along
invariant-loop-along l = Some l.sum ≡ front_of_line (dyadic_item Plus) l.list l.fn.split l.outer 0 (l.along - 1)
