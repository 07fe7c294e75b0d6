use Rattle.std.proofs.Common.{◌+◌, ◌<◌, ◌≡◌, ◌≤◌, ap, length, refl, rules, subst, vec_len, ◌∙◌, arith, drop-set-lt}
use Rattle.std.proofs.lemmas.Grind.{drop_more_same}
use Rattle.std.specs.Prelude.{option_map}
use Rattle.apl_io.specs.Content.{placed}
use Rattle.aplsv_top.proofs.Placing.{one_more_changed}
use Rattle.aplsv_top.proofs.Placed.{none_fell_set, none_fell_yet}
use Rattle.aplsv_top.proofs.shelf_places.place_shelves.Goals as goal

pub loop-at-init : goal.loop-at-init
loop-at-init g c = record { tell = refl; counted = none_fell_yet g.K.Shelf.faults c.args.shelves.now.items; others = refl; many = refl }

pub loop-at-preserved : goal.loop-at-preserved
loop-at-preserved g c =
    let wide : vec_len c.loop-at.shelves ≡ length c.loop-at.shelves.items = search rules in
    let first : vec_len c.args.shelves.now ≡ length c.args.shelves.now.items = search rules in
    let few : c.loop-at.at < length c.loop-at.shelves.items = omega (arith, c.requires, c.loop-at.invariant.many) in
    let all : length c.loop-at.shelves.items ≡ length c.args.shelves.now.items = omega (arith, c.loop-at.invariant.many) in
    record {
      tell =
          one_more_changed g.K.Shelf.told (option_map (placed c.args.place.now)) c.loop-at.shelves.items c.args.shelves.now.items c.loop-at.at c.set_place.new.self c.index_mut.result.now few all c.loop-at.invariant.tell c.loop-at.invariant.others
          (c.in_ok-set_place.ensures.ok ∙ ap (λ k. option_map (placed c.args.place.now) (g.K.Shelf.told k)) c.index_mut.ensures.value);
      counted =
          none_fell_set g.K.Shelf.faults c.args.shelves.now.items c.loop-at.shelves.items c.loop-at.at c.set_place.new.self c.index_mut.result.now c.loop-at.invariant.counted
          (subst (λ k. g.K.Shelf.faults k ≤ g.K.Shelf.faults c.set_place.new.self) c.index_mut.ensures.value c.in_ok-set_place.ensures.counted);
      others =
          drop-set-lt (c.loop-at.at + 1) c.loop-at.shelves.items c.loop-at.at c.set_place.new.self (omega arith)
          ∙ drop_more_same c.loop-at.shelves.items c.args.shelves.now.items c.loop-at.at c.loop-at.invariant.others;
      many = c.loop-at.invariant.many;
    }
