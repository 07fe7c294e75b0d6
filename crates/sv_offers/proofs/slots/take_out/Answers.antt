use Rattle.std.proofs.Common.{◌<◌, ◌∙◌, ap, get_or, length, subst, sym, List, None}
use Rattle.std.specs.Prelude.{Contains}
use Rattle.sv_rules.specs.Coupling.{has_place}
use Rattle.sv_offers.proofs.SlotLemmas.{slot_there, still_by_making, taken_out}
use Rattle.sv_offers.specs.Slots.{slot_of}
use Rattle.sv_offers.specs.declared.slots.Slot.{Slot}
use Rattle.sv_offers.proofs.slots.take_out.Goals as goal

pub place_of-at-requires-clause-there : goal.place_of-at-requires-clause-there
place_of-at-requires-clause-there c =
    subst (λ (ss : List Slot). Contains ss c.slot_of.result) (sym c.deref.ensures.value)
    (subst (λ (s : Slot). Contains c.args.slots.now.items s) (sym c.slot_of.ensures) (slot_there c.args.slots.now.items c.args.made.now c.requires.there))

pub returns-clause-items : goal.returns-clause-items
returns-clause-items c =
    let slots = c.args.slots.now.items in
    let made = c.args.made.now in
    let at = c.place_of-at.result in
    let within = subst (λ (ss : List Slot). at < length ss) c.deref.ensures.value c.place_of-at.ensures.within in
    let here = ap (λ (ss : List Slot). get_or ss at (slot_of made)) (sym c.deref.ensures.value) ∙ c.place_of-at.ensures.here (slot_of made) ∙ c.slot_of.ensures in
    taken_out (has_place c.args.place) slots at c.index_mut.result.now.at (slot_of made) made within here c.requires.here (c.requires.once c.args.place)

pub returns-clause-by_making : goal.returns-clause-by_making
returns-clause-by_making c =
    let slots = c.args.slots.now.items in
    let at = c.place_of-at.result in
    let within = subst (λ (ss : List Slot). at < length ss) c.deref.ensures.value c.place_of-at.ensures.within in
    let here = λ (d : Slot). ap (λ (ss : List Slot). get_or ss at d) (sym c.deref.ensures.value) ∙ c.place_of-at.ensures.here d in
    let gone : Slot = record { at = c.index_mut.result.now.at; pair = None } in
    still_by_making slots at gone within (λ d. ap (λ (s : Slot). s.at) (c.index_mut.ensures.value ∙ here c.index_mut.result.now ∙ sym (here d))) c.requires.by_making
