use Rattle.sv_access.proofs.CaseLemmas.{AreFilledBelow}
use Rattle.sv_access.proofs.cases.Cases+192.kept.Given as goal

abbrev pub invariant-loop-place : goal.invariant-loop-place
invariant-loop-place l = AreFilledBelow l.controls l.accesses l.case-items l.place
