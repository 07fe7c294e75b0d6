use Rattle.std.proofs.Common.{◌∙◌, ap, subst, sym, rules}
use Rattle.std.specs.Prelude.{is_some}
use Rattle.std.proofs.lemmas.Fn.{filter_same}
use Rattle.std.proofs.lemmas.List.Kept.{IsNonDecreasingBy-filter}
use Rattle.sv_offers.proofs.SlotLemmas.{tidied}
use Rattle.sv_offers.specs.Slots.{SlotsByMaking, couplings_in}
use Rattle.sv_offers.specs.declared.slots.Slot.{Slot}
use Rattle.sv_offers.proofs.slots.tidy.Goals as goal

pub returns-then-len-most-clause-items : goal.returns-then-len-most-clause-items
returns-then-len-most-clause-items c =
    ap couplings_in (filter_same _ (λ (s : Slot). is_some s.pair) _ (λ x b f k. search rules) c.args.slots.now.items c.retain.new.self.items c.retain.ensures.filtered)
    ∙ tidied c.args.slots.now.items

pub returns-then-len-most-clause-by_making : goal.returns-then-len-most-clause-by_making
returns-then-len-most-clause-by_making c =
    subst SlotsByMaking
    (sym (filter_same _ (λ (s : Slot). is_some s.pair) _ (λ x b f k. search rules) c.args.slots.now.items c.retain.new.self.items c.retain.ensures.filtered))
    (IsNonDecreasingBy-filter (λ (s : Slot). s.at) (λ s. is_some s.pair) c.args.slots.now.items c.requires)
