use Rattle.std.proofs.Common.{◌≡◌, ◌∙◌, List, ap, arith}
use Rattle.std.specs.Option.{option_copied}
use Rattle.apl_workspace.specs.declared.args.Args.{Args}
use Rattle.apl_workspace.specs.declared.label.LabelledLine.{LabelledLine}
use Rattle.apl_workspace.specs.Frame.{argument_weight}
use Rattle.apl_workspace.specs.Function.{PlainFunction}
use Rattle.apl_workspace.specs.Header.{PlainHeader}
use Rattle.apl_workspace.proofs.FrameWeight.{frame_weighs}
use Rattle.apl_workspace.proofs.frame.frame_weight.Goals as goal

pub returns-clause-value : goal.returns-clause-value
returns-clause-value c =
    let function : PlainFunction = c.args.function.now in
    let labels : List LabelledLine = c.labels-labels.result.now in
    let args : Args = record { left = option_copied c.args.left; right = option_copied c.args.right } in
    let header : c.header-header.result.now ≡ function.header = c.header-header.ensures in
    let left : c.argument_weight-left.result ≡ argument_weight labels function.header.left args.left =
    c.argument_weight-left.ensures.value ∙ ap (λ (h : PlainHeader). argument_weight labels h.left args.left) (c.header.view_is ∙ header) in
    let right : c.argument_weight.result ≡ argument_weight labels function.header.right args.right =
    c.argument_weight.ensures.value ∙ ap (λ (h : PlainHeader). argument_weight labels h.right args.right) (c.header.view_is ∙ header) in
    omega (arith, left, right, frame_weighs function args labels c.labels-labels.ensures c.requires)
