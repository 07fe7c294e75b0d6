use Rattle.std.proofs.Common.{◌≡◌, ◌++◌, take}
use Rattle.std.specs.Prelude.{filter}
use Rattle.sv_offer_laws.specs.LegalLaws.{made_at}
use Rattle.sv_rules.specs.Coupling.{has_place}
use Rattle.run_reasons.proofs.walk.add_pairs.Given as goal

-- those of the pairs so far were added
abbrev pub invariant-loop-pair : goal.invariant-loop-pair
invariant-loop-pair l = l.pairs.items ≡ l.fn.pairs.items ++ filter (has_place l.place) (made_at l.at (take l.pair-index l.entry.made.items))
