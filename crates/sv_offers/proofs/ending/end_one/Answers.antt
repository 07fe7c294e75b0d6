use Rattle.std.proofs.Common.{◌<◌, ◌∙◌, ap, eqb, not, subst, sym, List}
use Rattle.std.proofs.lemmas.List.Kept.{AllPairs-filter}
use Rattle.sv_rules.specs.declared.standing.Standing.{Standing}
use Rattle.sv_offers.proofs.EndLemmas.{free_first}
use Rattle.sv_offers.specs.Places.{ByPlace, set_free, with_free}
use Rattle.sv_offers.proofs.ending.end_one.Goals as goal

pub part-requires-clause-by_place : goal.part-requires-clause-by_place
part-requires-clause-by_place c =
    subst ByPlace (sym c.remove.ensures)
    (AllPairs-filter (λ (one other : Standing). one.place < other.place) (λ o. not (eqb o.place c.args.offer.now.place)) c.args.offers.now c.requires.by_place)

pub returns-in-Some-clause-reopened : goal.returns-in-Some-clause-reopened
returns-in-Some-clause-reopened c =
    let place = c.args.offer.now.place in
    c.put_in.ensures.items
    ∙ ap (with_free c.args.reopened.now.items)
    (c.in-Some.ensures.free ∙ ap (λ (os : List Standing). set_free os c.args.coupled.now.items place c.args.party c.args.ending.now) c.remove.ensures
    ∙ free_first c.args.offers.now c.args.coupled.now.items c.args.offer.now c.args.party c.args.ending.now c.requires.by_place c.requires.there c.requires.ends)

pub returns-in_default-clause-reopened : goal.returns-in_default-clause-reopened
returns-in_default-clause-reopened c =
    let place = c.args.offer.now.place in
    ap (with_free c.args.reopened.now.items)
    (sym c.in_default.is ∙ c.part.ensures.free ∙ ap (λ (os : List Standing). set_free os c.args.coupled.now.items place c.args.party c.args.ending.now) c.remove.ensures
    ∙ free_first c.args.offers.now c.args.coupled.now.items c.args.offer.now c.args.party c.args.ending.now c.requires.by_place c.requires.there c.requires.ends)
