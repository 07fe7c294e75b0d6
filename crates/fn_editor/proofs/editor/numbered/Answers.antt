use Rattle.std.proofs.Common.{◌∙◌}
use Rattle.fn_editor.proofs.Numbered.{next_whole, numbered_on}
use Rattle.fn_editor.proofs.editor.numbered.Goals as goal

pub loop-line-preserved : goal.loop-line-preserved
loop-line-preserved c = record {
  lines = numbered_on _ _ _ _ c.args.lines.now c.loop-line.line-index c.line-item.result c.loop-line-test.true c.line-item.is c.loop-line.invariant.lines c.loop-line.invariant.number (c.in_ok-of.ensures ∙ c.as_slice.ensures) c.in_ok-put_line.ensures.ok;
  number = next_whole _ _ _ c.loop-line.invariant.number c.next-number.ensures;
}
