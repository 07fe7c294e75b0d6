use Rattle.std.proofs.Common.{◌≡◌, None, take}
use Rattle.std.specs.Prelude.{find}
use Rattle.sv_core.specs.Due.{is_due_on}
use Rattle.sv_core.proofs.processor.Core.first_due.Given as goal

-- none so far is it
abbrev pub invariant-loop-offer : goal.invariant-loop-offer
invariant-loop-offer l = find (is_due_on l.self.journal l.due) (take l.offer-index l.offers) ≡ None
