use Rattle.std.proofs.Common.{◌∙◌, ◌<◌, ◌≤◌, ◌++◌, ap, sym, subst, List, length, map, arith}
use Rattle.std.specs.Prelude.{All}
use Rattle.std.proofs.lemmas.List.Elements.{All-filter, All-weaker}
use Rattle.sv_rules.specs.declared.coupling.Made.{Made}
use Rattle.sv_rules.specs.Coupling.{both_stand, reopened_by_ending}
use Rattle.sv_rules.specs.Standing.{without_ended}
use Rattle.sv_offers.specs.Places.{FitTogether}
use Rattle.sv_offers.specs.Table.{PlainOffers, after_ending, pairs_made}
use Rattle.sv_offers.proofs.FitLemmas.{fit_after_ending}
use Rattle.sv_offers.proofs.TableLemmas.{ended_table, recoupled_is_made}
use Rattle.sv_offers.proofs.table.Offers.end.Goals as goal

pub recouple-requires-clause-room : goal.recouple-requires-clause-room
recouple-requires-clause-room c =
    omega (arith, ap length c.deref.ensures.value, c.end_all.ensures.few, c.end_all.ensures.room, c.self.invariant.pair_room)

pub recouple-requires-clause-pairs : goal.recouple-requires-clause-pairs
recouple-requires-clause-pairs c =
    let reopened = ap (λ (v : PlainOffers). length (reopened_by_ending v.offers v.coupled c.args.party c.args.ending)) c.self.view_is in
    omega (arith, ap length (c.deref.ensures.value ∙ c.end_all.ensures.reopened), reopened, c.requires.room)

pub recouple-requires-clause-later : goal.recouple-requires-clause-later
recouple-requires-clause-later c =
    let coupled = c.self.inside.coupled.items in
    let earlier = subst (λ (v : PlainOffers). All (λ made. made.at < c.args.at) v.coupled) (sym c.self.view_is) c.requires.next.later in
    let left = without_ended c.self.inside.offers c.args.party c.args.ending in
    subst (λ (made : List Made). All (λ m. m.at ≤ c.args.at) made) (sym c.end_all.ensures.coupled)
    (All-filter (λ (made : Made). both_stand left made.pair) (λ m. m.at ≤ c.args.at) coupled
    (All-weaker (λ (made : Made). made.at < c.args.at) (λ m. m.at ≤ c.args.at) (λ m h. omega arith) coupled earlier))

pub returns-clause-table : goal.returns-clause-table
returns-clause-table c =
    let table : PlainOffers = record { offers = c.self.inside.offers; coupled = c.self.inside.coupled.items } in
    ended_table c.args.at table c.args.party c.args.ending c.end_all.new.offers c.deref.result.now c.end_all.new.coupled.items c.recouple.new.coupled.items c.end_all.ensures.offers
    c.end_all.ensures.coupled (c.deref.ensures.value ∙ c.end_all.ensures.reopened) c.recouple.ensures.items
    ∙ ap (λ (v : PlainOffers). after_ending c.args.at v c.args.party c.args.ending) c.self.view_is

pub returns-clause-made : goal.returns-clause-made
returns-clause-made c =
    let made =
    recoupled_is_made c.args.at c.self.inside.offers c.self.inside.coupled.items c.args.party c.args.ending c.end_all.new.offers c.deref.result.now c.end_all.new.coupled.items
    c.end_all.ensures.offers c.end_all.ensures.coupled (c.deref.ensures.value ∙ c.end_all.ensures.reopened) in
    c.recouple.ensures.made ∙ ap (λ (xs : List Made). c.args.made.now.items ++ map (λ made. made.pair) xs) made
    ∙ ap (λ (v : PlainOffers). c.args.made.now.items ++ pairs_made c.args.at v c.args.party c.args.ending) c.self.view_is

pub invariant_of-self : goal.invariant_of-self
invariant_of-self c =
    let table : PlainOffers = record { offers = c.self.inside.offers; coupled = c.self.inside.coupled.items } in
    let after =
    ended_table c.args.at table c.args.party c.args.ending c.end_all.new.offers c.deref.result.now c.end_all.new.coupled.items c.recouple.new.coupled.items c.end_all.ensures.offers
    c.end_all.ensures.coupled (c.deref.ensures.value ∙ c.end_all.ensures.reopened) c.recouple.ensures.items in
    record {
      fit = subst FitTogether (sym after) (fit_after_ending c.args.at table c.args.party c.args.ending c.self.invariant.fit);
      note_room = omega (arith, c.self.invariant.note_room, c.clear.ensures.capacity, c.end_all.ensures.capacity, c.end_all.ensures.few);
      pair_room =
          omega (arith, ap length c.deref.ensures.value, c.self.invariant.pair_room, c.end_all.ensures.room, c.end_all.ensures.few, c.recouple.ensures.room);
    }
