use Rattle.std.proofs.Common.{◌≡◌, ◌+◌, ◌-◌, ◌^◌, ℕ, Option, Some, None, map}
use Rattle.std.specs.Prelude.{filter}
use Rattle.sv_offers.proofs.AscendLemmas.{upto_last}
use Rattle.sv_offers.specs.Table.{is_open_to}
use Rattle.sv_rules.specs.Questions.{ascending}
use Rattle.sv_offers.proofs.listing.parties_to.Given as goal

-- the parties up to the last one that was looked at
abbrev pub invariant-loop-from : goal.invariant-loop-from
invariant-loop-from l = l.list.items ≡ ascending (upto_last l.last (map (λ offer. offer.party) (filter (is_open_to l.coupled.items l.party) l.offers)))

-- how many parties may be above the last one
abbrev above : Option ℕ → ℕ
above None = 2 ^ 32 + 1
above (Some last) = 2 ^ 32 - last

abbrev pub decreases-loop-from : goal.decreases-loop-from
decreases-loop-from l = above l.last
