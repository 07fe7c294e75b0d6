use Rattle.std.proofs.Common.{◌≡◌, ◌<◌, length, ap, ◌∙◌, arith}
use Rattle.apl_items.specs.Axes.{added, offset_at}
use Rattle.apl_items.specs.Shapes.{coordinates_of}
use Rattle.apl_items.proofs.AxisLemmas.{items_of_last, last_count, last_within, items_of_row, items_of_all_rows, count_of_all_rows, row_within, row_has_room, row_is_bound, rest_no_longer, first_no_longer}
use Rattle.apl_items.proofs.axes.+push_axes.Goals as goal

pub push_axes-requires : goal.push_axes-requires
push_axes-requires g t c κs within =
    let offset = g.X.Axes.offset c.args.axes.now in
    let shape_is = c.in-Some.ensures.cases in
    let beyond_is : c.together-beyond.result ≡ added c.args.base (offset c.args.axis c.loop-along.along) = c.together-beyond.ensures ∙ ap (added c.args.base) c.offset.ensures.value in
    let smaller : length c.in-Some.rest.now < t = omega (arith, c.decreases) in (
      smaller,
      (
        within.0,
        (
          within.1,
          (
            row_has_room c.args.shape.now c.in-Some.first.now c.in-Some.rest.now c.loop-along.along _ _ _ shape_is.0 (omega arith) (omega arith) c.loop-along.invariant.whole,
            (
              rest_no_longer c.args.shape.now c.in-Some.first.now c.in-Some.rest.now c.args.axis (g.X.Axes.length_of c.args.axes.now) shape_is.0 c.requires.lengths,
              (
                row_is_bound c.args.base c.offset.result c.together-beyond.result (length c.in-Some.rest.now) _ c.offset.ensures.small c.together-beyond.ensures (λ from at. let bound = c.requires.bound from at in omega arith),
                (
                  omega arith,
                  row_within offset c.args.axis c.args.base c.together-beyond.result c.args.shape.now c.in-Some.first.now c.in-Some.rest.now c.loop-along.along (length c.args.list.now) shape_is.0 (omega arith) beyond_is c.requires.within,
                ),
              ),
            ),
          ),
        ),
      ),
    )

pub offset-requires : goal.offset-requires
offset-requires g t c = first_no_longer c.args.shape.now c.in-Some.first.now c.in-Some.rest.now c.args.axis c.loop-along.along (g.X.Axes.length_of c.args.axes.now) c.in-Some.ensures.cases.0 c.requires.lengths (omega arith)

pub loop-along-preserved : goal.loop-along-preserved
loop-along-preserved g t c =
    let offset = g.X.Axes.offset c.args.axes.now in
    let shape_is = c.in-Some.ensures.cases in
    let beyond_is : c.together-beyond.result ≡ added c.args.base (offset c.args.axis c.loop-along.along) = c.together-beyond.ensures ∙ ap (added c.args.base) c.offset.ensures.value in
    record {
      whole = omega (arith, c.push_axes.ensures.len, c.loop-along.invariant.whole);
      room = c.push_axes.ensures.room ∙ c.loop-along.invariant.room;
      items = items_of_row c.args.fill c.args.list.now offset c.args.axis c.args.base c.together-beyond.result c.args.shape.now c.in-Some.first.now c.in-Some.rest.now c.loop-along.along
          c.args.made.now.items c.loop-along.made.items c.push_axes.new.made.items shape_is.0 beyond_is c.loop-along.invariant.items c.push_axes.ensures.items;
    }

pub returns-after-loop-along-clause-items : goal.returns-after-loop-along-clause-items
returns-after-loop-along-clause-items g t c =
    items_of_all_rows c.args.fill c.args.list.now (λ place. added c.args.base (offset_at (g.X.Axes.offset c.args.axes.now) c.args.axis (coordinates_of c.args.shape.now place)))
    c.args.shape.now c.in-Some.first.now c.in-Some.rest.now c.loop-along.along c.args.made.now.items c.loop-along.made.items c.in-Some.ensures.cases.0 (omega arith) c.loop-along.invariant.items

pub returns-after-loop-along-clause-len : goal.returns-after-loop-along-clause-len
returns-after-loop-along-clause-len g t c =
    count_of_all_rows c.args.shape.now c.in-Some.first.now c.in-Some.rest.now c.loop-along.along _ _ c.in-Some.ensures.cases.0 (omega arith) c.loop-along.invariant.whole

pub push_last-requires-clause-room : goal.push_last-requires-clause-room
push_last-requires-clause-room g t c =
    let none : length c.in-Some.rest.now ≡ 0 = grind (arith, c.if-is_empty.ensures) in
    let count = last_count c.args.shape.now c.in-Some.first.now c.in-Some.rest.now c.in-Some.ensures.cases.0 none in omega (arith, count, c.requires.room)

pub push_last-requires-clause-within : goal.push_last-requires-clause-within
push_last-requires-clause-within g t c =
    let none : length c.in-Some.rest.now ≡ 0 = grind (arith, c.if-is_empty.ensures) in
    last_within (g.X.Axes.offset c.args.axes.now) c.args.axis c.args.base c.args.shape.now c.in-Some.first.now c.in-Some.rest.now (length c.args.list.now) c.in-Some.ensures.cases.0 none c.requires.within

pub returns-then-is_empty-clause-items : goal.returns-then-is_empty-clause-items
returns-then-is_empty-clause-items g t c =
    let none : length c.in-Some.rest.now ≡ 0 = grind (arith, c.if-is_empty.ensures) in
    items_of_last c.args.fill c.args.list.now (g.X.Axes.offset c.args.axes.now) c.args.axis c.args.base c.args.shape.now c.in-Some.first.now c.in-Some.rest.now c.args.made.now.items c.push_last.new.made.items
    c.in-Some.ensures.cases.0 none c.push_last.ensures.items

pub returns-then-is_empty-clause-len : goal.returns-then-is_empty-clause-len
returns-then-is_empty-clause-len g t c =
    let none : length c.in-Some.rest.now ≡ 0 = grind (arith, c.if-is_empty.ensures) in
    let count = last_count c.args.shape.now c.in-Some.first.now c.in-Some.rest.now c.in-Some.ensures.cases.0 none in omega (arith, count, c.push_last.ensures.len)
