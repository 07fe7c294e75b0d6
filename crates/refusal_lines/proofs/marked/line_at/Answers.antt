use Rattle.refusal_lines.proofs.MarkLaws.{none_read, one_line_read}
use Rattle.refusal_lines.proofs.marked.line_at.Goals as goal

pub loop-line-init : goal.loop-line-init
loop-line-init c = none_read c.args.bytes.now c.args.offset

pub loop-line-preserved : goal.loop-line-preserved
loop-line-preserved c =
    one_line_read c.args.bytes.now c.loop-line.rest.now c.in-Some.line.now c.in-Some.after.now c.args.offset c.loop-line.invariant c.in-Some.ensures.0 c.if-at-line.false
