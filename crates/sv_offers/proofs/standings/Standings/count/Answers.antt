use Rattle.std.proofs.Common.{ap, ◌∙◌, eqb, length}
use Rattle.std.proofs.lemmas.List.Sums.{length-filter}
use Rattle.sv_rules.specs.declared.standing.Standing.{Standing}
use Rattle.sv_offers.proofs.standings.Standings.count.Goals as goal

pub returns : goal.returns
returns c = ap length c.of.ensures ∙ length-filter (λ (offer : Standing). eqb offer.party c.args.party) c.args.self.now
