use Rattle.std.proofs.Common.{◌∙◌, ◌<◌, ◌≤◌, ◌++◌, ◌∷◌, [], ap, length, length-append, subst, sym, List, arith}
use Rattle.std.specs.Prelude.{All, option_map, option_to_list}
use Rattle.std.proofs.lemmas.List.Elements.{All-weaker}
use Rattle.sv_rules.specs.Coupling.{open_match, pair_of}
use Rattle.sv_rules.specs.declared.coupling.Made.{Made}
use Rattle.sv_rules.specs.declared.standing.Standing.{Standing}
use Rattle.sv_offers.specs.Places.{FitTogether, IsNext}
use Rattle.sv_offers.specs.Table.{PlainOffers}
use Rattle.sv_offers.proofs.FitLemmas.{fit_after_offer}
use Rattle.sv_offers.proofs.TableLemmas.{added_table}
use Rattle.sv_offers.proofs.table.Offers.add.Goals as goal

pub add-requires : goal.add-requires
add-requires c = (subst (λ (v : PlainOffers). IsNext v c.args.new.now.place) (sym c.self.view_is) c.requires).above

pub join-requires-clause-later : goal.join-requires-clause-later
join-requires-clause-later c =
    let at = c.args.new.now.place in
    let later = (subst (λ (v : PlainOffers). IsNext v at) (sym c.self.view_is) c.requires).later in
    subst (λ (made : List Made). All (λ m. m.at ≤ at) made) (sym c.reserve.ensures.items)
    (All-weaker (λ (made : Made). made.at < at) (λ m. m.at ≤ at) (λ m h. omega arith) c.self.inside.coupled.items later)

pub invariant_of-self-2 : goal.invariant_of-self-2
invariant_of-self-2 c =
    let new = c.args.new.now in
    let table : PlainOffers = record { offers = c.self.inside.offers; coupled = c.self.inside.coupled.items } in
    let match = c.open_match-other.ensures ∙ ap (λ (ms : List Made). open_match table.offers ms new) c.reserve.ensures.items in
    let pairs = c.join.ensures.items
    ∙ ap (λ (ms : List Made). ms ++ option_to_list (option_map (λ (match : Standing). let m : Made = record { pair = pair_of match new; at = new.place } in m) c.open_match-other.result)) c.reserve.ensures.items in
    let after = added_table table new c.add.new.self c.join.new.coupled.items c.open_match-other.result c.in_ok-add.ensures.ok match pairs in
    let next = subst (λ (v : PlainOffers). IsNext v new.place) (sym c.self.view_is) c.requires in
    let grown = ap length c.in_ok-add.ensures.ok in
    let one = length-append table.offers (new ∷ []) in
    record {
      fit = subst FitTogether (sym after) (fit_after_offer table new c.self.invariant.fit next);
      note_room = omega (arith, grown, one, c.len-count.ensures, c.in_ok-reserve-2.ensures.ok);
      pair_room = omega (arith, grown, one, c.len-count.ensures, c.in_ok-reserve.ensures.room, c.join.ensures.room);
    }
