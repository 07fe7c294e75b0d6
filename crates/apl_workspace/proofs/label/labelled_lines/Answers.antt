use Rattle.std.proofs.Common.{ℕ, ◌+◌, List, Option, ap, ◌∙◌, arith}
use Rattle.apl_workspace.specs.Label.{label_of, with_label}
use Rattle.apl_workspace.proofs.Labelled.{labels_on}
use Rattle.apl_workspace.proofs.label.labelled_lines.Goals as goal

pub loop-line-preserved : goal.loop-line-preserved
loop-line-preserved c =
    let number = c.loop-line.number + 1 in
    record {
      labels = labels_on c.args.lines.now c.loop-line.line-index number c.line-item.result c.loop-line.labels.items c.add_line.new.labels.items c.loop-line-test.true c.line-item.is (omega arith)
          (c.in_ok-add_line.ensures ∙ ap (λ (label : Option (List ℕ)). with_label c.loop-line.labels.items label number) (c.label_of.ensures ∙ ap label_of c.as_slice.ensures)) c.loop-line.invariant.labels;
      number = omega arith;
    }
