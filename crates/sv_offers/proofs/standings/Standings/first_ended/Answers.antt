use Rattle.std.proofs.Common.{ap, ◌∙◌, find, List, rules, tests}
use Rattle.std.proofs.lemmas.Iterator.{YieldsList-from_slice}
use Rattle.std.proofs.lemmas.Iterator.Search.{find_from_yields_List}
use Rattle.sv_rules.specs.Standing.{is_ended}
use Rattle.sv_rules.specs.declared.standing.Standing.{Standing}
use Rattle.sv_offers.proofs.FilterLemmas.{found_among}
use Rattle.sv_offers.proofs.PartyListLemmas.{ended_by_own, of_party}
use Rattle.sv_offers.proofs.standings.Standings.first_ended.Goals as goal

pub returns : goal.returns
returns c =
    let party = c.args.party in
    let ending = c.args.ending.now in
    c.copied.ensures ∙ find_from_yields_List (is_ended party ending) _ _ c.find.result c.find.ensures.ran (YieldsList-from_slice c.of.result.now cc) (λ x b q k. search (rules, tests))
    ∙ ap (λ (offers : List Standing). find (is_ended party ending) offers) c.of.ensures
    ∙ found_among (is_ended party ending) (of_party party) (ended_by_own party ending) c.args.self.now
