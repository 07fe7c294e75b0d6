use Rattle.std.proofs.Common.{◌≡◌, take}
use Rattle.sv_core.specs.Core.{PlainCore}
use Rattle.sv_rules.specs.Journal.{journal_of}
use Rattle.run_judging.proofs.judging.first_illegal.Given as goal

-- the processor has the entries so far
abbrev pub invariant-loop-i : goal.invariant-loop-i
invariant-loop-i l = l.core ≡ (let core : PlainCore = record { users = l.users; journal = journal_of (take l.i l.entries) } in core)
