use Rattle.std.proofs.Common.{◌≡◌, ap, sym, ◌∙◌, subst, ◌++◌, List}
use Rattle.sv_events.specs.declared.entry.Pair.{Pair}
use Rattle.sv_rules.specs.declared.standing.Standing.{Standing}
use Rattle.sv_offers.specs.Table.{pairs_made}
use Rattle.sv_core.specs.Updating.{Closes}
use Rattle.sv_core.proofs.CellPlaces.{clears_all}
use Rattle.sv_core.proofs.EndingLemmas.{closes_own}
use Rattle.sv_core.proofs.TogetherLemmas.{ending_fits, ending_pairs, ending_table, ends_all, next_above, ready_to_couple}
use Rattle.sv_core.proofs.updating.end_together.Goals.{After-as_slice}
use Rattle.sv_core.proofs.updating.end_together.Goals as goal

pub part_all-requires-clause-table : goal.part_all-requires-clause-table
part_all-requires-clause-table c = ending_table c.args.offers.now c.args.cells.now c.args.at c.args.party c.args.ending c.requires.ready

pub part_all-requires-clause-fit : goal.part_all-requires-clause-fit
part_all-requires-clause-fit c = ending_fits c.args.offers.now c.args.cells.now c.args.at c.args.party c.args.ending c.requires.ready

pub end-requires-clause-next : goal.end-requires-clause-next
end-requires-clause-next c =
    let ready = c.requires.ready in
    let is = ready.3 in
    next_above ready.0 ready.1 (is.legal).1 c.args.offers.now is.stand is.couple c.args.at is.place

-- the pairs that are made
pairs_are : (c : After-as_slice) → c.as_slice.result.now ≡ pairs_made c.args.at c.args.offers.now c.args.party c.args.ending
pairs_are c =
    c.as_slice.ensures ∙ c.end.ensures.made
    ∙ ap (λ (xs : List Pair). xs ++ pairs_made c.args.at c.args.offers.now c.args.party c.args.ending) c.requires.none

-- the cells of the other offers stay
keeps : (c : After-as_slice) → Closes c.args.offers.now.offers c.args.party c.args.ending c.part_all.new.cells c.close_all.new.cells
keeps c =
    closes_own c.args.offers.now.offers c.args.party c.args.ending c.part_all.new.cells c.close_all.new.cells
    (subst (λ (os : List Standing). Closes os c.args.party c.args.ending c.part_all.new.cells c.close_all.new.cells) c.of.ensures c.close_all.ensures)

pub couple_all-requires : goal.couple_all-requires
couple_all-requires c =
    let ready = c.requires.ready in
    ready_to_couple c.args.offers.now c.args.cells.now c.part_all.new.cells c.close_all.new.cells c.args.at c.args.party c.args.ending ready.0 ready.1 ready.2 ready.3 c.part_all.ensures.parts (keeps c)
    c.as_slice.result.now (ending_pairs c.args.offers.now c.args.cells.now c.args.at c.args.party c.args.ending ready.0 ready.1 ready.2 ready.3 ∙ sym (pairs_are c))

pub returns-clause-cells : goal.returns-clause-cells
returns-clause-cells c =
    let d = (goal.at.returns-clause-cells c).After-as_slice in
    ends_all c.args.offers.now c.args.cells.now c.part_all.new.cells c.close_all.new.cells c.couple_all.new.cells c.args.at c.args.party c.args.ending c.as_slice.result.now
    c.part_all.ensures.parts (keeps d) c.couple_all.ensures.couples (pairs_are d)

pub returns-clause-others : goal.returns-clause-others
returns-clause-others c =
    let d = (goal.at.returns-clause-others c).After-as_slice in
    clears_all c.args.offers.now c.args.cells.now c.part_all.new.cells c.close_all.new.cells c.couple_all.new.cells c.args.at c.args.party c.args.ending
    c.part_all.ensures.no_more (keeps d) c.couple_all.ensures.no_more
