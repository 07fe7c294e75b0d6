use Rattle.std.proofs.Common.{◌<◌, ◌∙◌, ap, length, not, refl, subst, sym, arith}
use Rattle.std.proofs.lemmas.List.Kept.{AllPairs-filter}
use Rattle.sv_offer_laws.proofs.Members.{find_passed}
use Rattle.sv_rules.specs.Standing.{is_ended, without_ended}
use Rattle.sv_rules.specs.declared.standing.Standing.{Standing}
use Rattle.sv_offers.proofs.EndLemmas.{EndedSoFar, all_ended, ended_as, is_reopened, none_ended, one_ended, still_once}
use Rattle.sv_offers.proofs.PlaceLemmas.{one_fewer, one_more_at_most}
use Rattle.sv_offers.specs.Places.{ByPlace, set_free}
use Rattle.sv_offers.proofs.ending.end_all.Goals as goal

pub loop-offer-init : goal.loop-offer-init
loop-offer-init c =
    let offers = c.args.offers.now in
    let coupled = c.args.coupled.now.items in
    record {
      ended = subst (EndedSoFar offers coupled c.args.party c.args.ending.now offers coupled) (sym c.requires.none)
          (none_ended offers coupled c.args.party c.args.ending.now c.requires.by_place c.requires.stand);
      few = omega (arith, ap length c.requires.none);
      capacity = omega arith;
      room = refl;
    }

pub end_one-requires-clause-there : goal.end_one-requires-clause-there
end_one-requires-clause-there c = (find_passed (is_ended c.args.party c.args.ending.now) c.loop-offer.offers c.in-Some.offer (sym c.in-Some.ensures)).1

pub end_one-requires-clause-ends : goal.end_one-requires-clause-ends
end_one-requires-clause-ends c = (find_passed (is_ended c.args.party c.args.ending.now) c.loop-offer.offers c.in-Some.offer (sym c.in-Some.ensures)).0

pub end_one-requires-clause-once : goal.end_one-requires-clause-once
end_one-requires-clause-once c =
    still_once c.loop-offer.offers c.args.coupled.now.items c.loop-offer.coupled.items c.requires.once c.loop-offer.invariant.ended.coupled_still

pub end_one-requires-clause-noted : goal.end_one-requires-clause-noted
end_one-requires-clause-noted c =
    let party = c.args.party in
    let ending = c.args.ending.now in
    subst ByPlace (sym c.loop-offer.invariant.ended.freed)
    (AllPairs-filter (λ (one other : Standing). one.place < other.place) (is_reopened c.args.coupled.now.items c.loop-offer.coupled.items) (without_ended c.args.offers.now party ending)
    (AllPairs-filter (λ (one other : Standing). one.place < other.place) (λ o. not (is_ended party ending o)) c.args.offers.now c.requires.by_place))

pub loop-offer-smaller : goal.loop-offer-smaller
loop-offer-smaller c =
    let there = (find_passed (is_ended c.args.party c.args.ending.now) c.loop-offer.offers c.in-Some.offer (sym c.in-Some.ensures)).1 in
    omega (arith, ap length c.end_one.ensures.offers, one_fewer c.loop-offer.offers c.in-Some.offer c.loop-offer.invariant.ended.by_place there)

pub loop-offer-preserved : goal.loop-offer-preserved
loop-offer-preserved c =
    let offers = c.args.offers.now in
    let coupled = c.args.coupled.now.items in
    let party = c.args.party in
    let ending = c.args.ending.now in
    let offer = c.in-Some.offer in
    let there = (find_passed (is_ended party ending) c.loop-offer.offers offer (sym c.in-Some.ensures)).1 in
    let free = set_free c.loop-offer.offers c.loop-offer.coupled.items offer.place party ending in
    let more = one_ended offers coupled party ending c.loop-offer.offers c.loop-offer.coupled.items c.loop-offer.reopened.items offer c.requires.once c.loop-offer.invariant.ended (sym c.in-Some.ensures) in
    record {
      ended =
          ended_as offers coupled party ending _ c.end_one.new.offers _ c.end_one.new.coupled.items _ c.end_one.new.reopened.items c.end_one.ensures.offers c.end_one.ensures.coupled c.end_one.ensures.reopened more;
      few =
          omega (arith, ap length c.end_one.ensures.reopened, ap length c.end_one.ensures.offers, one_more_at_most c.loop-offer.reopened.items free, one_fewer c.loop-offer.offers offer c.loop-offer.invariant.ended.by_place there, c.loop-offer.invariant.few);
      capacity = omega (arith, c.end_one.ensures.capacity, c.loop-offer.invariant.capacity);
      room = c.end_one.ensures.room ∙ c.loop-offer.invariant.room;
    }

pub returns-clause-offers : goal.returns-clause-offers
returns-clause-offers c =
    (all_ended c.args.offers.now c.args.coupled.now.items c.args.party c.args.ending.now c.loop-offer.offers c.loop-offer.coupled.items c.loop-offer.reopened.items c.loop-offer.invariant.ended (sym c.first_ended.ensures ∙ c.in_default.is)).0

pub returns-clause-coupled : goal.returns-clause-coupled
returns-clause-coupled c =
    (all_ended c.args.offers.now c.args.coupled.now.items c.args.party c.args.ending.now c.loop-offer.offers c.loop-offer.coupled.items c.loop-offer.reopened.items c.loop-offer.invariant.ended (sym c.first_ended.ensures ∙ c.in_default.is)).1

pub returns-clause-reopened : goal.returns-clause-reopened
returns-clause-reopened c =
    (all_ended c.args.offers.now c.args.coupled.now.items c.args.party c.args.ending.now c.loop-offer.offers c.loop-offer.coupled.items c.loop-offer.reopened.items c.loop-offer.invariant.ended (sym c.first_ended.ensures ∙ c.in_default.is)).2
