use Rattle.std.proofs.Common.{take}
use Rattle.sv_core.specs.Updating.{AddsNone, PartsAll}
use Rattle.sv_core.proofs.EndingLemmas.{own_of}
use Rattle.sv_core.proofs.updating.part_all.Given as goal

-- the couplings that the offers gone over end are no more, and no cell has come
abbrev pub invariant-loop-offer : goal.invariant-loop-offer
invariant-loop-offer l = record {
  parts : PartsAll l.offers.offers l.offers.coupled l.party l.ending (take l.offer-index (own_of l.party l.offers.offers)) l.initial.cells l.cells;
  no_more : AddsNone l.initial.cells l.cells;
}
