use Rattle.std.proofs.Common.{◌≡◌, ◌++◌, drop}
use Rattle.sv_rules.specs.Coupling.{recoupled}
use Rattle.sv_plain.proofs.couplings.recoupled.Given as goal

-- the pairs so far, and those that the rest makes
abbrev pub invariant-loop-offer : goal.invariant-loop-offer
invariant-loop-offer l =
    l.made.items ++ recoupled l.at l.offers l.coupled.items (drop l.offer-index l.reopened) ≡ recoupled l.at l.offers l.initial.coupled.items l.reopened
