use Rattle.std.proofs.Common.{◌-◌, ◌∙◌, ap, arith, subst, sym, vec_len}
use Rattle.std.proofs.lemmas.List.Sorted.{IsNonDecreasingBy-take}
use Rattle.sv_offers.proofs.SlotLemmas.{popped}
use Rattle.sv_offers.specs.Slots.{SlotsByMaking, ends_empty}
use Rattle.sv_offers.specs.declared.slots.Slot.{Slot}
use Rattle.sv_offers.proofs.slots.trim.Goals as goal

pub loop-slots-preserved : goal.loop-slots-preserved
loop-slots-preserved c =
    let slots = c.loop-slots.slots in
    let ends = ap ends_empty (sym c.deref.ensures.value) ∙ sym c.ends_empty.ensures ∙ c.loop-slots-test.true in
    record {
      items = popped slots.items c.pop.new.self.items c.pop.result c.pop.ensures.items ends ∙ c.loop-slots.invariant.items;
      by_making = subst SlotsByMaking (sym c.pop.ensures.rest)
          (IsNonDecreasingBy-take (λ (slot : Slot). slot.at) (vec_len slots - 1) slots.items c.loop-slots.invariant.by_making);
      len = omega (arith, c.pop.ensures.len, c.loop-slots.invariant.len);
      capacity = c.pop.ensures.capacity ∙ c.loop-slots.invariant.capacity;
    }
