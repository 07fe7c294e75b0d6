use Rattle.std.proofs.Common.{ap, refl, sym, ◌∙◌, ◌<◌, ◌++◌, ◌∷◌, [], subst}
use Rattle.std.specs.Prelude.{All}
use Rattle.std.specs.Map.{values_of}
use Rattle.std.proofs.lemmas.List.Elements.{All-push}
use Rattle.std.proofs.lemmas.List.Quantifiers.{all_pairs_push}
use Rattle.sv_offers.proofs.OrderLemmas.{Under, goes_last, last_value}
use Rattle.sv_offers.specs.Places.{ByPlace}
use Rattle.sv_rules.specs.declared.standing.Standing.{Standing}
use Rattle.sv_offers.proofs.placed.PlacedOffers.add.Goals as goal

pub invariant_of-self-2 : goal.invariant_of-self-2
invariant_of-self-2 c =
    let entries = c.self.inside.offers.entries in
    let new = c.args.new.now in
    let above = subst (All (λ (o : Standing). o.place < new.place)) (sym c.self.view_is) c.requires in
    let is = c.in_ok-insert.ensures.entries ∙ goes_last entries new c.self.invariant.under above in
    record {
      under = subst (All Under) (sym is) (All-push Under entries (new.place, new) c.self.invariant.under refl);
      by_place = subst ByPlace (sym (ap values_of is ∙ last_value entries new))
          (all_pairs_push (λ (one other : Standing). one.place < other.place) (values_of entries) new c.self.invariant.by_place above);
    }

pub returns-clause-ok : goal.returns-clause-ok
returns-clause-ok c =
    let entries = c.self.inside.offers.entries in
    let new = c.args.new.now in
    let above = subst (All (λ (o : Standing). o.place < new.place)) (sym c.self.view_is) c.requires in
    ap values_of (c.in_ok-insert.ensures.entries ∙ goes_last entries new c.self.invariant.under above) ∙ last_value entries new
    ∙ ap (λ offers. offers ++ new ∷ []) c.self.view_is
