use Rattle.std.proofs.Common.{◌++◌, ap, ◌∙◌, arith}
use Rattle.std.specs.Fmt.{decimal}
use Rattle.line_text.proofs.Spaced.{spaced_after}
use Rattle.line_text.proofs.text.add_counts.Goals as goal

pub returns-clause-text : goal.returns-clause-text
returns-clause-text c =
    spaced_after decimal c.in-Some.first.now c.in-Some.others.now c.args.counts.now c.loop-count.count-index c.args.line.now.items c.add_count.new.line.items c.loop-count.line.items c.in-Some.ensures.cases.0 (c.in_ok-add_count.ensures.text ∙ ap (λ n. c.args.line.now.items ++ decimal n) c.from.ensures) (omega arith) c.loop-count.invariant
