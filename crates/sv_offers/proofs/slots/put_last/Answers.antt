use Rattle.std.proofs.Common.{◌≤◌, ◌++◌, ◌∷◌, [], List, ◌∙◌, ap, arith, subst, sym}
use Rattle.std.specs.Prelude.{All}
use Rattle.std.proofs.lemmas.List.Elements.{filter_map-append}
use Rattle.std.proofs.lemmas.List.Sorted.{IsNonDecreasingBy-push}
use Rattle.sv_offers.proofs.SlotLemmas.{last_earlier}
use Rattle.sv_offers.specs.Slots.{SlotsByMaking, coupling_in, couplings_in}
use Rattle.sv_offers.specs.declared.slots.Slot.{Slot}
use Rattle.sv_rules.specs.declared.coupling.Made.{Made}
use Rattle.sv_offers.proofs.slots.put_last.Goals as goal

pub returns-clause-items : goal.returns-clause-items
returns-clause-items c =
    let slots = c.trim.new.slots.items in
    ap couplings_in c.push_reserved.ensures.items ∙ filter_map-append coupling_in slots (c.slot_of.result ∷ [])
    ∙ ap (λ (slot : Slot). couplings_in slots ++ couplings_in (slot ∷ [])) c.slot_of.ensures
    ∙ ap (λ (made : List Made). made ++ c.args.made.now ∷ []) c.trim.ensures.items

pub returns-clause-by_making : goal.returns-clause-by_making
returns-clause-by_making c =
    let slots = c.trim.new.slots.items in
    let at = c.args.made.now.at in
    let earlier = subst (λ (made : List Made). All (λ m. m.at ≤ at) made) (sym c.trim.ensures.items) c.requires.later in
    subst SlotsByMaking (sym c.push_reserved.ensures.items)
    (IsNonDecreasingBy-push (λ (slot : Slot). slot.at) slots c.slot_of.result c.trim.ensures.by_making
    (λ d some. omega (arith, last_earlier slots at d c.trim.ensures.last earlier some, ap (λ (slot : Slot). slot.at) c.slot_of.ensures)))
