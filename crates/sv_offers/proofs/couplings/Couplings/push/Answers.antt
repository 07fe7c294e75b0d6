use Rattle.std.proofs.Common.{ap, sym, ◌∙◌, Option, Some, None, cond, find, [], ◌∷◌, arith}
use Rattle.std.specs.Option.{option_or}
use Rattle.std.proofs.lemmas.List.Folds.{find-append}
use Rattle.apl_arrays.specs.List.{Listed}
use Rattle.sv_offers.specs.Slots.{couplings_in}
use Rattle.sv_rules.specs.Coupling.{has_place}
use Rattle.sv_rules.specs.declared.coupling.Made.{Made}
use Rattle.sv_offers.proofs.couplings.Couplings.push.Goals as goal

pub invariant_of-self : goal.invariant_of-self
invariant_of-self c =
    let room = ap (λ (v : Listed Made). v.room) c.self.view_is in
    record {
      finds = λ place.
          c.note_mates.ensures.finds place
          ∙ ap (λ (o : Option Made). option_or o (cond (has_place place c.args.made) (Some c.args.made) None)) (c.self.invariant.finds place)
          ∙ sym (find-append (has_place place) (couplings_in c.self.inside.made.items) (c.args.made ∷ [])) ∙ ap (find (has_place place)) (sym c.put_last.ensures.items);
      by_making = c.put_last.ensures.by_making;
      list_room = omega (arith, room, c.requires.room, c.self.invariant.list_room, c.put_last.ensures.len, c.put_last.ensures.capacity);
      map_room = omega (arith, room, c.requires.room, c.self.invariant.map_room, c.note_mates.ensures.room);
    }
