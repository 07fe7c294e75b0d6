use Rattle.std.proofs.Common.{◌≡◌, ◌∙◌, ap, length, drop, arith, replicate, rules}
use Rattle.std.proofs.lemmas.List.{take_at}
use Rattle.apl_display.proofs.WidthLemmas.{no_row, one_row_more, length_of_widths}
use Rattle.apl_display.proofs.widths.column_widths.Goals as goal

pub loop-row-init : goal.loop-row-init
loop-row-init c =
    let zeros : c.in_ok-widths.widths.items ≡ replicate c.args.columns 0 = search rules in
    zeros ∙ no_row c.args.numbers.now c.args.columns

pub loop-row-preserved : goal.loop-row-preserved
loop-row-preserved c =
    let before : length c.loop-row.widths.items ≡ c.args.columns = ap length c.loop-row.invariant ∙ length_of_widths c.args.numbers.now c.args.columns c.loop-row.row in
    let lent : length c.deref_mut.result.now ≡ c.args.columns = ap length c.deref_mut.ensures.value ∙ before in
    let after : length c.widen.new.widths ≡ c.args.columns = omega arith in
    take_at c.widen.new.widths (drop (length c.widen.new.widths) c.loop-row.widths.items) c.loop-row.widths.len (omega arith)
    ∙ one_row_more c.args.numbers.now c.row_of.result.now c.args.columns c.args.rows c.loop-row.row c.loop-row.widths.items c.deref_mut.result.now c.widen.new.widths
    c.requires (omega arith) c.row_of.ensures.value c.loop-row.invariant c.deref_mut.ensures.value after c.widen.ensures
