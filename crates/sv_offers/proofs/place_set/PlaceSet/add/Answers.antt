use Rattle.std.proofs.Common.{ap, sym, ◌∙◌, ◌<◌, ◌++◌, ◌∷◌, [], ℕ, List, subst}
use Rattle.std.specs.Prelude.{All, AllPairs}
use Rattle.std.proofs.lemmas.List.Quantifiers.{all_pairs_push}
use Rattle.sv_offers.proofs.SetLemmas.{place_goes_last}
use Rattle.sv_offers.proofs.place_set.PlaceSet.add.Goals as goal

pub invariant_of-self-2 : goal.invariant_of-self-2
invariant_of-self-2 c =
    let places = c.self.inside.places.keys in
    let above = subst (All (λ (p : ℕ). p < c.args.place)) (sym c.self.view_is) c.requires in
    subst (AllPairs (λ (one other : ℕ). one < other)) (sym (c.in_ok-insert.ensures.keys ∙ place_goes_last places c.args.place above))
    (all_pairs_push (λ (one other : ℕ). one < other) places c.args.place c.self.invariant above)

pub returns-clause-ok : goal.returns-clause-ok
returns-clause-ok c =
    let above = subst (All (λ (p : ℕ). p < c.args.place)) (sym c.self.view_is) c.requires in
    c.in_ok-insert.ensures.keys ∙ place_goes_last c.self.inside.places.keys c.args.place above ∙ ap (λ (ps : List ℕ). ps ++ c.args.place ∷ []) c.self.view_is
