use Rattle.std.proofs.Common.{◌+◌, ◌*◌, arith}
use Rattle.apl_items.specs.Places.{AtPlace}
use Rattle.apl_items.proofs.RowLemmas.{at_place, gives_more, is_no_item, place_below}
use Rattle.apl_items.proofs.rows.lacks_by_rows.Goals as goal
use Rattle.apl_items.proofs.rows.lacks_by_rows.Given as given

pub returns-then-is_none-clause-some : goal.returns-then-is_none-clause-some
returns-then-is_none-clause-some g c = λ e. (
  c.loop-row.row * c.args.columns + c.loop-column.column,
  place_below c.args.rows c.args.columns c.loop-row.row c.loop-column.column (omega arith) (omega arith),
  is_no_item (AtPlace (given.F-post g c.args.rule.now) c.args.columns) (c.loop-row.row * c.args.columns + c.loop-column.column) c.rule.result c.if-is_none.ensures
      (at_place (given.F-post g c.args.rule.now) c.args.columns c.loop-row.row c.loop-column.column c.rule.result (omega arith) c.rule.ensures),
)

pub loop-column-preserved : goal.loop-column-preserved
loop-column-preserved g c =
    gives_more (AtPlace (given.F-post g c.args.rule.now) c.args.columns) (c.loop-row.row * c.args.columns + c.loop-column.column) (c.loop-row.row * c.args.columns + (c.loop-column.column + 1)) c.rule.result (omega arith) c.if-is_none.ensures
    c.loop-column.invariant (at_place (given.F-post g c.args.rule.now) c.args.columns c.loop-row.row c.loop-column.column c.rule.result (omega arith) c.rule.ensures)
