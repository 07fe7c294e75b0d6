use Rattle.std.proofs.Common.{◌≡◌, ◌++◌, take}
use Rattle.sv_offer_laws.specs.LegalLaws.{made_at}
use Rattle.sv_plain.proofs.couplings.push_made.Given as goal

-- the pairs so far were added
abbrev pub invariant-loop-pair : goal.invariant-loop-pair
invariant-loop-pair l = l.made.items ≡ l.initial.made.items ++ made_at l.at (take l.pair-index l.pairs)
