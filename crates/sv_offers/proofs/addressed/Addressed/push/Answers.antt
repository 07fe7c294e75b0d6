use Rattle.std.proofs.Common.{◌≡◌, ◌∙◌, ap, sym, ℕ, List, Option, Some}
use Rattle.std.specs.HashMap.{get}
use Rattle.std.proofs.lemmas.Result.{on_err_weaker}
use Rattle.sv_offers.specs.Addressed.{same_list}
use Rattle.sv_offers.specs.declared.place_set.PlaceSet.{PlaceSet}
use Rattle.sv_offers.proofs.AddressedLemmas.{kept_there, list_is}
use Rattle.sv_offers.proofs.addressed.Addressed.push.Goals as goal

pub returns-clause-err : goal.returns-clause-err
returns-clause-err c =
    let found : (ℕ × Option (List ℕ)) → Option PlaceSet = get same_list c.args.self.now.lists in
    let here : found c.args.key.now ≡ Some c.in-Some.list.now = sym c.in-Some.ensures.value in
    on_err_weaker c.add.result
    (λ same list.
    ((c.get_mut.follows.holds c.add.new.self).3 c.requires.there).0 list
    ∙ kept_there (same_list c.args.key.now list) c.add.new.self (found list) (λ is. ap found (sym (list_is c.args.key.now list is)) ∙ here ∙ ap Some (sym same)))
    c.add.ensures.err
