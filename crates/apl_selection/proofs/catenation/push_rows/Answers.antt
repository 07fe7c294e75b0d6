use Rattle.std.proofs.Common.{arith, vec_len, vec_capacity}
use Rattle.apl_selection.proofs.JoinRowLemmas.{one_join_more, parts_of_row, parts_small, room_for_parts}
use Rattle.apl_selection.proofs.catenation.push_rows.Goals as goal

pub push_part-requires-clause-room : goal.push_part-requires-clause-room
push_part-requires-clause-room g c =
    let split = c.args.split in
    let room = room_for_parts split.outer split.along split.inner c.loop-outer.outer (vec_len c.args.made.now) (vec_len c.loop-outer.made) (vec_capacity c.loop-outer.made) c.args.spans.0 c.args.spans.1 (omega arith) c.requires.long
    (omega (arith, c.requires.room, c.loop-outer.invariant.room)) c.loop-outer.invariant.whole in
    omega (arith, room)

pub push_part-requires-clause-small : goal.push_part-requires-clause-small
push_part-requires-clause-small g c = (parts_small c.args.split.outer c.args.split.along c.args.spans.0 c.args.spans.1 c.args.split.inner c.requires.long c.requires.small).0

pub push_part-requires-in-loop-outer-clause-room : goal.push_part-requires-in-loop-outer-clause-room
push_part-requires-in-loop-outer-clause-room g c =
    let split = c.args.split in
    let room = room_for_parts split.outer split.along split.inner c.loop-outer.outer (vec_len c.args.made.now) (vec_len c.loop-outer.made) (vec_capacity c.loop-outer.made) c.args.spans.0 c.args.spans.1 (omega arith) c.requires.long
    (omega (arith, c.requires.room, c.loop-outer.invariant.room)) c.loop-outer.invariant.whole in
    omega (arith, room, c.push_part.ensures.len, c.push_part.ensures.room)

pub push_part-requires-in-loop-outer-clause-small : goal.push_part-requires-in-loop-outer-clause-small
push_part-requires-in-loop-outer-clause-small g c = (parts_small c.args.split.outer c.args.split.along c.args.spans.0 c.args.spans.1 c.args.split.inner c.requires.long c.requires.small).1

pub loop-outer-preserved : goal.loop-outer-preserved
loop-outer-preserved g c =
    let split = c.args.split in
    let row = parts_of_row split.along c.args.spans.0 c.args.spans.1 split.inner c.requires.long in
    record {
      whole = omega (arith, row, c.push_part-in-loop-outer.ensures.len, c.push_part.ensures.len, c.loop-outer.invariant.whole);
      room = omega (arith, c.push_part-in-loop-outer.ensures.room, c.push_part.ensures.room, c.loop-outer.invariant.room);
      items = one_join_more c.args.fill c.args.a.now c.args.b.now split c.args.spans.0 c.args.spans.1 c.loop-outer.outer c.args.made.now.items c.loop-outer.made.items c.push_part.new.made.items
          c.push_part-in-loop-outer.new.made.items c.requires.long (omega arith) c.requires.a_reaches c.requires.b_reaches c.loop-outer.invariant.items c.push_part.ensures.items c.push_part-in-loop-outer.ensures.items;
    }
