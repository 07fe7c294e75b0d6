use Rattle.std.proofs.Common.{◌≡◌, ap, subst, ◌∙◌}
use Rattle.std.specs.Prelude.{Some, slice_get}
use Rattle.line_trees.specs.Nodes.{plain_node}
use Rattle.line_trees.specs.declared.tree.Node.TheVariants as coded
use Rattle.apl_values.specs.Parts.{IsPart, plain_part}
use Rattle.apl_statements.specs.declared.evaluation.Evaluation.{Evaluation}
use Rattle.apl_statements.specs.Holding.{parts_of}
use Rattle.apl_machine.proofs.NextHeld.{constant_next, name_next}
use Rattle.apl_machine.proofs.StepParts.{read_next, read_part, read_sound}
use Rattle.apl_machine.proofs.stepping.next_held.Goals as goal

pub returns-in-Constant : goal.returns-in-Constant
returns-in-Constant c =
    let e : Evaluation = c.args.e.now in
    let here : slice_get (parts_of e) e.at ≡ Some c.index.result.now = read_part e c.deref.result.now c.index.result.now c.deref.ensures c.index.ensures c.requires.next in
    constant_next c.args.interpreter.now e c.in-Constant.field-0 (here ∙ ap (λ part. Some part) c.in-Constant.is) c.if-e.false (subst IsPart c.in-Constant.is (read_sound e c.index.result.now here c.requires.sound.reading.parts))

pub returns-in-Value : goal.returns-in-Value
returns-in-Value c =
    let e : Evaluation = c.args.e.now in
    let here : slice_get (parts_of e) e.at ≡ Some c.index.result.now = read_part e c.deref.result.now c.index.result.now c.deref.ensures c.index.ensures c.requires.next in
    name_next c.args.interpreter.now e c.in-Value.name c.held_of.result (read_next e c.index.result.now (plain_node (coded.Value c.in-Value.name)) here (ap plain_part c.in-Other.is ∙ ap plain_node c.in-Value.is)) c.if-e.false c.held_of.ensures
