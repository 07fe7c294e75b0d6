use Rattle.std.proofs.Common.{◌≡◌, take}
use Rattle.sv_rules.specs.Journal.{journal_of}
use Rattle.sv_rules.specs.Standing.{standing}
use Rattle.sv_plain.proofs.offers.standing_offers.Given as goal

-- the offers of the entries so far
abbrev pub invariant-loop-i : goal.invariant-loop-i
invariant-loop-i l = l.offers.items ≡ standing (journal_of (take l.i l.entries))
