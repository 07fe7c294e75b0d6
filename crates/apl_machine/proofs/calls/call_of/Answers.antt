use Rattle.std.proofs.Common.{◌≡◌, ap}
use Rattle.std.specs.Prelude.{Some, slice_get}
use Rattle.line_trees.specs.Nodes.{plain_node}
use Rattle.apl_values.specs.Parts.{plain_part}
use Rattle.apl_statements.specs.declared.evaluation.Evaluation.{Evaluation}
use Rattle.apl_statements.specs.Holding.{parts_of}
use Rattle.apl_machine.proofs.CallsNext.{next_calls}
use Rattle.apl_machine.proofs.StepParts.{read_next, read_part}
use Rattle.apl_machine.proofs.calls.call_of.Goals as goal

pub returns-in-Other : goal.returns-in-Other
returns-in-Other c =
    let e : Evaluation = c.args.e.now in
    let here : slice_get (parts_of e) e.at ≡ Some c.index.result.now = read_part e c.deref.result.now c.index.result.now c.deref.ensures c.index.ensures c.requires in
    next_calls e (plain_node c.in-Other.node) c.call_in.result (read_next e c.index.result.now (plain_node c.in-Other.node) here (ap plain_part c.in-Other.is)) c.if-e.false c.call_in.ensures
