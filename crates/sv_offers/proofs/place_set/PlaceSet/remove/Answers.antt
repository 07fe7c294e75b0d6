use Rattle.std.proofs.Common.{ap, sym, ◌∙◌, ◌<◌, ℕ, List, eqb, not, subst}
use Rattle.std.specs.Prelude.{AllPairs}
use Rattle.std.proofs.lemmas.List.Kept.{AllPairs-filter}
use Rattle.sv_offers.proofs.SetLemmas.{place_goes}
use Rattle.sv_offers.specs.Addressed.{other_places}
use Rattle.sv_offers.proofs.place_set.PlaceSet.remove.Goals as goal

pub invariant_of-self : goal.invariant_of-self
invariant_of-self c =
    let places = c.self.inside.places.keys in
    subst (AllPairs (λ (one other : ℕ). one < other)) (sym (c.remove.ensures.keys ∙ place_goes places c.args.place c.self.invariant))
    (AllPairs-filter (λ (one other : ℕ). one < other) (λ p. not (eqb p c.args.place)) places c.self.invariant)

pub returns : goal.returns
returns c = c.remove.ensures.keys ∙ place_goes c.self.inside.places.keys c.args.place c.self.invariant ∙ ap (λ (ps : List ℕ). other_places ps c.args.place) c.self.view_is
