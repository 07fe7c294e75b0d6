use Rattle.std.proofs.Common.{take}
use Rattle.sv_core.specs.Updating.{AddsNone, CouplesAll}
use Rattle.sv_core.proofs.updating.couple_all.Given as goal

-- the pairs gone over are coupled, and no cell has come
abbrev pub invariant-loop-pair : goal.invariant-loop-pair
invariant-loop-pair l = record {
  couples : CouplesAll l.made l.initial.cells l.cells (take l.pair-index l.made);
  no_more : AddsNone l.initial.cells l.cells;
}
