use Rattle.std.proofs.Common.{◌+◌, ℕ, Option, Some, length, refl, arith}
use Rattle.apl_items.specs.Extension.{place_in}
use Rattle.apl_items.proofs.AlongLemmas.{one_item_more}
use Rattle.apl_selection.proofs.catenation.push_each.Goals as goal

pub loop-place-preserved : goal.loop-place-preserved
loop-place-preserved g c =
    let source : ℕ → Option ℕ = λ place. Some (place_in (length c.args.list.now) (c.args.start + place)) in
    record {
      whole = omega (arith, c.push_reserved.ensures.len, c.loop-place.invariant.whole);
      room = omega (arith, c.push_reserved.ensures.capacity, c.loop-place.invariant.room);
      items = one_item_more c.args.fill c.args.list.now source c.loop-place.place c.args.made.now.items c.loop-place.made.items _ (source c.loop-place.place) c.item_in.result c.loop-place.invariant.items refl
          c.item_in.ensures c.push_reserved.ensures.items;
    }
