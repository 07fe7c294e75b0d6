use Rattle.std.proofs.Common.{◌*◌, ◌/◌, ◌%◌, ◌∙◌, arith}
use Rattle.std.proofs.Math.Nat.{mul_assoc}
use Rattle.apl_items.specs.Along.{source_along, source_in_row}
use Rattle.apl_items.proofs.AlongLemmas.{one_row_more, room_for_row, row_of_places}
use Rattle.apl_items.proofs.along.push_rows.Goals as goal

pub push_row-requires-clause-room : goal.push_row-requires-clause-room
push_row-requires-clause-room g c =
    let split = c.args.split in
    let grouped = mul_assoc split.outer split.along split.inner in
    room_for_row split.outer (split.along * split.inner) c.loop-outer.outer _ _ _ (omega arith) (omega (arith, grouped, c.requires.room, c.loop-outer.invariant.room)) c.loop-outer.invariant.whole

pub loop-outer-preserved : goal.loop-outer-preserved
loop-outer-preserved g c =
    let split = c.args.split in
    let long = g.R.Along.length c.args.rule.now in
    let from = g.R.Along.from c.args.rule.now in
    record {
      whole = omega (arith, c.push_row.ensures.len, c.loop-outer.invariant.whole);
      room = c.push_row.ensures.room ∙ c.loop-outer.invariant.room;
      items = one_row_more c.args.fill c.args.list.now (source_along split long from) (λ place. source_in_row split long from c.loop-outer.outer (place / split.inner) (place % split.inner))
          c.loop-outer.outer (split.along * split.inner) c.args.made.now.items c.loop-outer.made.items _ (row_of_places split long from c.loop-outer.outer) c.loop-outer.invariant.items c.push_row.ensures.items;
    }
