use Rattle.std.proofs.Common.{[], ◌∷◌, rules}
use Rattle.apl_arrays.specs.Array.{seen_items}
use Rattle.apl_display.specs.Matrices.{matrix_lines}
use Rattle.apl_display.proofs.GroupLemmas.{one_group_more}
use Rattle.apl_display.proofs.table.matrices_lines.Goals as goal

pub loop-matrix-preserved : goal.loop-matrix-preserved
loop-matrix-preserved c =
    let table = c.args.table.now in
    one_group_more ([] ∷ []) (matrix_lines (seen_items table.items) table.extent) c.loop-matrix.matrix c.loop-matrix.lines.items c.push_empty_line.new.lines.items c.push_matrix.new.lines.items c.loop-matrix.invariant (search rules) (search rules)
