use Rattle.std.proofs.Common.{◌∙◌, ap, sym, ℕ, List, true, false, map, Some, None, ◌++◌, ◌∷◌, []}
use Rattle.std.specs.Prelude.{filter}
use Rattle.sv_offers.proofs.AscendLemmas.{list_before, looked_at, none_next}
use Rattle.sv_offers.proofs.SenderLemmas.{has_party, lowest_open}
use Rattle.sv_offers.specs.Table.{is_open_to}
use Rattle.sv_rules.specs.Questions.{ascending}
use Rattle.sv_rules.specs.declared.standing.Standing.{Standing}
use Rattle.sv_offers.proofs.listing.parties_to.Goals as goal

-- before the first party none is listed
pub loop-from-init : goal.loop-from-init
loop-from-init c =
    c.new-list.ensures ∙ ap ascending (sym (list_before (map (λ (o : Standing). o.party) (filter (is_open_to c.args.coupled.now.items c.args.party) c.args.offers.now))))

-- the next party is listed where it has an open offer
pub loop-from-preserved-in_ok-push : goal.loop-from-preserved-in_ok-push
loop-from-preserved-in_ok-push c =
    let offers = c.args.offers.now in
    let coupled = c.args.coupled.now.items in
    let from = c.in-Some.from in
    let parties = map (λ (o : Standing). o.party) (filter (is_open_to coupled c.args.party) offers) in
    c.in_ok-push.ensures.ok ∙ ap (λ (ns : List ℕ). ns ++ from ∷ []) c.loop-from.invariant
    ∙ sym (looked_at c.loop-from.last from parties true c.in-Some.ensures.above
    (lowest_open offers coupled c.args.party c.loop-from.last (Some from) c.in-Some.ensures.lowest) (sym (has_party offers coupled c.args.party from) ∙ sym c.has_open.ensures ∙ c.if-has_open.true))

pub loop-from-preserved : goal.loop-from-preserved
loop-from-preserved c =
    let offers = c.args.offers.now in
    let coupled = c.args.coupled.now.items in
    let from = c.in-Some.from in
    let parties = map (λ (o : Standing). o.party) (filter (is_open_to coupled c.args.party) offers) in
    c.loop-from.invariant
    ∙ sym (looked_at c.loop-from.last from parties false c.in-Some.ensures.above
    (lowest_open offers coupled c.args.party c.loop-from.last (Some from) c.in-Some.ensures.lowest) (sym (has_party offers coupled c.args.party from) ∙ sym c.has_open.ensures ∙ c.if-has_open.false))

-- where none comes next all are listed
pub returns : goal.returns
returns c =
    let offers = c.args.offers.now in
    let coupled = c.args.coupled.now.items in
    let parties = map (λ (o : Standing). o.party) (filter (is_open_to coupled c.args.party) offers) in
    c.loop-from.invariant ∙ ap ascending (none_next c.loop-from.last parties (lowest_open offers coupled c.args.party c.loop-from.last None c.in_default.ensures.lowest))
