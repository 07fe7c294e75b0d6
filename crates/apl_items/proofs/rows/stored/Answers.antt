use Rattle.std.proofs.Common.{◌+◌, ◌*◌, ◌∙◌, Some, None, arith}
use Rattle.apl_items.specs.Places.{AtPlace}
use Rattle.apl_items.proofs.RowLemmas.{at_place, each_more, place_below}
use Rattle.apl_items.proofs.rows.stored.Goals as goal
use Rattle.apl_items.proofs.rows.stored.Given as given

pub returns-in-None-clause-none : goal.returns-in-None-clause-none
returns-in-None-clause-none g c = λ e. (
  c.loop-row.row * c.args.columns + c.loop-column.column,
  place_below c.args.rows c.args.columns c.loop-row.row c.loop-column.column (omega arith) (omega arith),
  at_place (given.F-post g c.args.rule.now) c.args.columns c.loop-row.row c.loop-column.column None (omega arith) c.in-None.ensures,
)

pub loop-column-preserved : goal.loop-column-preserved
loop-column-preserved g c = record {
  whole = omega (arith, c.push_reserved.ensures.len, c.loop-column.invariant.whole);
  room = c.push_reserved.ensures.capacity ∙ c.loop-column.invariant.room;
  each = each_more (AtPlace (given.F-post g c.args.rule.now) c.args.columns) (c.loop-row.row * c.args.columns + c.loop-column.column) (c.loop-row.row * c.args.columns + (c.loop-column.column + 1)) c.loop-column.items.items
      c.push_reserved.new.self.items c.in-Some.item (omega (arith, c.loop-column.invariant.whole, c.loop-column.items.ok)) (omega arith) c.push_reserved.ensures.items c.loop-column.invariant.each
      (at_place (given.F-post g c.args.rule.now) c.args.columns c.loop-row.row c.loop-column.column (Some c.in-Some.item) (omega arith) c.in-Some.ensures);
}
