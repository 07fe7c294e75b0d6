use Rattle.std.proofs.Common.{take}
use Rattle.sv_rules.specs.Journal.{journal_of}
use Rattle.sv_rules.specs.Legal.{IsLegal}
use Rattle.sv_plain.proofs.legal.is_legal.Given as goal

-- the entries so far are legal
abbrev pub invariant-loop-i : goal.invariant-loop-i
invariant-loop-i l = IsLegal l.users (journal_of (take l.i l.entries))
