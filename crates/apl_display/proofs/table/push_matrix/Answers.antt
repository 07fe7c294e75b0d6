use Rattle.std.proofs.Common.{◌+◌, ◌*◌, rules}
use Rattle.apl_arrays.specs.Array.{seen_items}
use Rattle.apl_display.specs.Matrices.{row_line}
use Rattle.apl_display.proofs.GroupLemmas.{one_line_more}
use Rattle.apl_display.proofs.table.push_matrix.Goals as goal

pub loop-row-preserved : goal.loop-row-preserved
loop-row-preserved c =
    let table = c.args.table.now in
    one_line_more (λ row. row_line (seen_items table.items) table.extent (c.args.matrix * table.extent.rows + row)) c.loop-row.row c.args.lines.now.items c.loop-row.lines.items c.push.new.self.items c.in_ok-row_line.field-0.items c.loop-row.invariant (search rules) (search rules)
