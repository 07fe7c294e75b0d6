use Rattle.std.proofs.Common.{ap, sym, ◌∙◌, ◌<◌, eqb, not, subst}
use Rattle.std.specs.Prelude.{All}
use Rattle.std.specs.Map.{values_of}
use Rattle.std.proofs.lemmas.List.Kept.{AllPairs-filter}
use Rattle.sv_offers.proofs.OrderLemmas.{Under, goes_from, still_under}
use Rattle.sv_offers.specs.Places.{ByPlace, without_place}
use Rattle.sv_rules.specs.declared.standing.Standing.{Standing}
use Rattle.sv_offers.proofs.placed.PlacedOffers.remove.Goals as goal

pub invariant_of-self : goal.invariant_of-self
invariant_of-self c =
    let entries = c.self.inside.offers.entries in
    let left = ap values_of c.remove.ensures.entries ∙ goes_from entries c.args.place c.self.invariant.under c.self.invariant.by_place in
    record {
      under = subst (All Under) (sym c.remove.ensures.entries) (still_under _ entries c.self.invariant.under);
      by_place = subst ByPlace (sym left)
          (AllPairs-filter (λ (one other : Standing). one.place < other.place) (λ o. not (eqb o.place c.args.place)) (values_of entries) c.self.invariant.by_place);
    }

pub returns : goal.returns
returns c =
    ap values_of c.remove.ensures.entries
    ∙ goes_from c.self.inside.offers.entries c.args.place c.self.invariant.under c.self.invariant.by_place
    ∙ ap (λ offers. without_place offers c.args.place) c.self.view_is
