use Rattle.std.proofs.Common.{◌≡◌, take}
use Rattle.sv_rules.specs.Coupling.{made_in}
use Rattle.sv_rules.specs.Journal.{journal_of}
use Rattle.sv_plain.proofs.couplings.pairs_made.Given as goal

-- the pairs of the entries so far
abbrev pub invariant-loop-i : goal.invariant-loop-i
invariant-loop-i l = l.made.items ≡ made_in (journal_of (take l.i l.entries))
