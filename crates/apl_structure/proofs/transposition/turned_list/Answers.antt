use Rattle.std.proofs.Common.{◌≡◌, ◌+◌, ◌*◌, ℕ, ap, ◌∙◌, arith}
use Rattle.apl_items.specs.Moves.{moved_list}
use Rattle.apl_items.proofs.RowLemmas.{place_below}
use Rattle.apl_structure.specs.Transposition.{turned_place}
use Rattle.apl_structure.proofs.MatrixLemmas.{one_turned_more}
use Rattle.apl_structure.proofs.transposition.turned_list.Goals as goal

pub loop-row-preserved : goal.loop-row-preserved
loop-row-preserved g c =
    let row = c.loop-row.row in
    let column = c.loop-column.column in
    let inside = place_below c.args.rows c.args.columns row column c.loop-row-test.true c.loop-column-test.true in
    record {
      whole = omega (arith, c.push_reserved.ensures.len, c.loop-row.invariant.whole);
      room = c.push_reserved.ensures.capacity ∙ c.loop-row.invariant.room;
      items = c.push_reserved.ensures.items ∙ one_turned_more c.args.fill c.args.list.now c.args.rows c.args.columns column row c.index-list-from.result c.loop-row.made.items c.loop-row-test.true (omega arith) c.index-list-from.is c.loop-row.invariant.items;
    }

pub loop-column-preserved : goal.loop-column-preserved
loop-column-preserved g c =
    let row = c.loop-row.row in
    let column = c.loop-column.column in
    let all : column * c.args.rows + row ≡ (column + 1) * c.args.rows = omega arith in
    record {
      whole = c.loop-row.invariant.whole ∙ all;
      room = c.loop-row.invariant.room;
      items = c.loop-row.invariant.items ∙ ap (λ (n : ℕ). moved_list c.args.fill c.args.list.now n (turned_place c.args.rows c.args.columns)) all;
    }
