use Rattle.std.proofs.Common.{◌++◌, ◌∙◌, pos, get_or, ap, arith, rules, w64}
use Rattle.std.proofs.lemmas.Int.{to_z-of_z}
use Rattle.std.specs.Int.RustNames.{FitsSigned}
use Rattle.apl_display.proofs.RowLemmas.{one_cell_more, all_cells}
use Rattle.apl_display.proofs.row.push_row.Goals as goal

pub loop-column-preserved : goal.loop-column-preserved
loop-column-preserved c =
    let fits : FitsSigned w64 (get_or c.args.row.now c.loop-column.column (pos 0)) = search rules in
    let added = c.in_ok-push_aligned.ensures {u = tt} in
    one_cell_more c.args.widths.now c.args.row.now c.loop-column.column c.args.line.now.items c.loop-column.line.items c.push_gap.new.line.items c.push_aligned.new.line.items c.requires (omega arith) c.loop-column.invariant (search rules) (simp to_z-of_z at added)

pub returns : goal.returns
returns c = c.loop-column.invariant ∙ ap (λ end. c.args.line.now.items ++ end) (all_cells c.args.widths.now c.args.row.now c.loop-column.column c.requires (omega arith))
