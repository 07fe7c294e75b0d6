use Rattle.std.proofs.Common.{ap, sym, ◌∙◌, Option, None, cond, find, subst, arith}
use Rattle.std.specs.Prelude.{Contains}
use Rattle.apl_arrays.specs.List.{Listed}
use Rattle.sv_rules.specs.Coupling.{has_place}
use Rattle.sv_rules.specs.declared.coupling.Made.{Made}
use Rattle.sv_offer_laws.proofs.Members.{filter_past_none, find_passed}
use Rattle.sv_offers.proofs.EndLemmas.{found_without}
use Rattle.sv_offers.specs.Places.{AreOnce}
use Rattle.sv_offers.specs.Slots.{couplings_in}
use Rattle.sv_offers.proofs.couplings.Couplings.part.Goals as goal

pub returns-in_err-made-clause-items : goal.returns-in_err-made-clause-items
returns-in_err-made-clause-items c = sym (filter_past_none (has_place c.args.place) c.args.self.now.items (sym c.in_err-made.ensures))

pub take_out-requires-clause-once : goal.take_out-requires-clause-once
take_out-requires-clause-once c = subst (λ (v : Listed Made). AreOnce v.items) (sym c.self.view_is) c.requires

pub take_out-requires-clause-there : goal.take_out-requires-clause-there
take_out-requires-clause-there c =
    subst (λ (v : Listed Made). Contains v.items c.in_ok-made.made) (sym c.self.view_is)
    (find_passed (has_place c.args.place) c.args.self.now.items c.in_ok-made.made (sym c.in_ok-made.ensures)).1

pub take_out-requires-clause-here : goal.take_out-requires-clause-here
take_out-requires-clause-here c = (find_passed (has_place c.args.place) c.args.self.now.items c.in_ok-made.made (sym c.in_ok-made.ensures)).0

pub invariant_of-self : goal.invariant_of-self
invariant_of-self c =
    let place = c.args.place in
    let made = c.in_ok-made.made in
    let coupled = couplings_in c.self.inside.made.items in
    let once = subst (λ (v : Listed Made). AreOnce v.items) (sym c.self.view_is) c.requires in
    let found = ap (λ (v : Listed Made). find (has_place place) v.items) c.self.view_is ∙ sym c.in_ok-made.ensures in
    record {
      finds = λ at.
          c.forget_mates.ensures.finds at ∙ ap (λ (o : Option Made). cond (has_place at made) None o) (c.self.invariant.finds at)
          ∙ found_without coupled place made once found at ∙ ap (find (has_place at)) (sym c.take_out.ensures.items);
      by_making = c.take_out.ensures.by_making;
      list_room = omega (arith, c.self.invariant.list_room, c.take_out.ensures.len, c.take_out.ensures.capacity);
      map_room = omega (arith, c.self.invariant.map_room, c.forget_mates.ensures.room);
    }
