use Rattle.std.proofs.Common.{◌≡◌, ◌∙◌, ap, sym, ℕ, List, [], Option}
use Rattle.std.specs.HashMap.{get}
use Rattle.std.specs.Option.{unwrap_or}
use Rattle.sv_offers.specs.Addressed.{same_list}
use Rattle.sv_offers.specs.declared.place_set.PlaceSet.{PlaceSet}
use Rattle.sv_offers.proofs.AddressedLemmas.{list_is, no_places, none_taken}
use Rattle.sv_offers.proofs.addressed.Addressed.close.Goals as goal

pub returns-then-len-eq0-clause-same : goal.returns-then-len-eq0-clause-same
returns-then-len-eq0-clause-same c =
    let found : (ℕ × Option (List ℕ)) → Option PlaceSet = get same_list c.args.self.now.lists in
    let empty : unwrap_or (found c.args.key.now) [] ≡ [] =
    ap (λ (list : Option PlaceSet). unwrap_or list []) (sym c.in-Some.ensures.value) ∙ no_places c.in-Some.list.now (sym c.len.ensures ∙ c.if-len-eq0.true) in
    λ party name.
    ap (λ (list : Option PlaceSet). unwrap_or list []) (c.remove.ensures.updates.0 (party, name))
    ∙ none_taken (same_list c.args.key.now (party, name)) (found (party, name)) (λ here. ap (λ key. unwrap_or (found key) []) (sym (list_is c.args.key.now (party, name) here)) ∙ empty)
