use Rattle.std.proofs.Common.{take}
use Rattle.sv_core.specs.Updating.{Closes}
use Rattle.sv_core.proofs.updating.close_all.Given as goal

abbrev pub invariant-loop-offer : goal.invariant-loop-offer
invariant-loop-offer l = Closes (take l.offer-index l.offers) l.party l.ending l.initial.cells l.cells
