use Rattle.std.proofs.Common.{find, ap, ◌∙◌, eqb, List, rules, tests}
use Rattle.std.proofs.lemmas.Iterator.{YieldsList-from_slice}
use Rattle.std.proofs.lemmas.Iterator.Search.{find_from_yields_List}
use Rattle.sv_offers.proofs.FilterLemmas.{found_among}
use Rattle.sv_offers.proofs.MatchLemmas.{match_is_of_party}
use Rattle.sv_rules.specs.Coupling.{is_open_match}
use Rattle.sv_rules.specs.declared.standing.Standing.{Standing}
use Rattle.sv_offers.proofs.matching.match_of_party.Goals as goal

pub returns : goal.returns
returns c =
    let matches : Standing → _ = is_open_match c.args.coupled.now.items c.args.offer.now in
    c.copied.ensures
    ∙ find_from_yields_List matches _ _ c.find.result c.find.ensures.ran (YieldsList-from_slice c.of.result.now cc) (λ x b q k. search (rules, tests))
    ∙ ap (λ (among : List Standing). find matches among) c.of.ensures
    ∙ found_among matches (λ other. eqb other.party c.args.offer.now.to) (λ other. match_is_of_party c.args.coupled.now.items c.args.offer.now other c.requires) c.args.offers.now
