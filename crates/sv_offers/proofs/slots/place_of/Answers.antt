use Rattle.std.proofs.Common.{ap, arith, ltb, rules}
use Rattle.std.proofs.lemmas.Bool.{ltb-true}
use Rattle.std.proofs.lemmas.List.Sorted.{IsPartitionPoint-from_clause, IsPartitionedBy-ltb}
use Rattle.sv_offers.specs.declared.slots.Slot.{Slot}
use Rattle.sv_offers.proofs.slots.place_of.Goals as goal

pub loop-at-init : goal.loop-at-init
loop-at-init c = λ k other before same.
    let at = c.args.slot.now.at in
    let slots = c.args.slots.now in
    let point =
    IsPartitionPoint-from_clause (λ (slot : Slot). ltb slot.at at) slots c.partition_point-first.result c.partition_point-first.ensures.partitioned
    (IsPartitionedBy-ltb (λ (slot : Slot). slot.at) slots at c.requires.by_making) (λ a r f q. search rules) in
    let lower = ltb-true _ _ (point.0 k other (omega arith) before) in
    let is = ap (λ (slot : Slot). slot.at) same in
    omega (arith, lower, is)
