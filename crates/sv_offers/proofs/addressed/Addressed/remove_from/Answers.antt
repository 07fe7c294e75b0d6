use Rattle.std.proofs.Common.{◌∙◌, ap, [], Option, refl}
use Rattle.std.specs.HashMap.{get}
use Rattle.std.specs.Option.{unwrap_or}
use Rattle.sv_offers.specs.Addressed.{same_list, other_places}
use Rattle.sv_offers.specs.declared.place_set.PlaceSet.{PlaceSet}
use Rattle.sv_offers.proofs.AddressedLemmas.{changed_or_none}
use Rattle.sv_offers.proofs.addressed.Addressed.remove_from.Goals as goal

pub returns : goal.returns
returns c = λ party name.
    c.close.ensures.same party name ∙ ap (λ (list : Option PlaceSet). unwrap_or list []) (c.take_out.ensures (party, name))
    ∙ changed_or_none (same_list (c.args.offer.now.to, c.args.surrogate) (party, name)) (λ places. other_places places c.args.offer.now.place) (get same_list c.args.self.now.lists (party, name)) refl
