use Rattle.std.proofs.Common.{◌≡◌, ◌∙◌, ap, sym, ℕ, List, [], Option, false, rules, tests}
use Rattle.std.specs.HashMap.{get}
use Rattle.std.specs.Option.{is_some, unwrap_or}
use Rattle.sv_offers.specs.Addressed.{same_list}
use Rattle.sv_offers.proofs.AddressedLemmas.{list_is, none_added}
use Rattle.sv_offers.proofs.FindingLemmas.{none_from_test}
use Rattle.sv_offers.specs.declared.place_set.PlaceSet.{PlaceSet}
use Rattle.sv_offers.proofs.addressed.Addressed.open.Goals as goal

pub returns-in_ok-insert-clause-same : goal.returns-in_ok-insert-clause-same
returns-in_ok-insert-clause-same c =
    let found : (ℕ × Option (List ℕ)) → Option PlaceSet = get same_list c.args.self.now.lists in
    let none : is_some (found c.args.key) ≡ false = search (rules, tests) in
    λ party name.
    ap (λ (list : Option PlaceSet). unwrap_or list []) (c.in_ok-insert.ensures.updates.0 (party, name))
    ∙ none_added (same_list c.args.key (party, name)) c.new.result (found (party, name)) c.new.ensures (λ here. ap found (sym (list_is c.args.key (party, name) here)) ∙ none_from_test (found c.args.key) none)
