use Rattle.std.proofs.Common.{false}
use Rattle.line_trees.specs.declared.tree.Fun.TheVariants as fun
use Rattle.apl_meaning.specs.Meaning.{ran}
use Rattle.apl_meaning.specs.Nodes.{apply_step}
use Rattle.apl_statements.specs.declared.evaluation.Evaluation.{Evaluation}
use Rattle.apl_statements.specs.Interpreter.{PlainInterpreter}
use Rattle.apl_statements.specs.Moves.{if_there, part_takes}
use Rattle.apl_statements.proofs.Same.{comes_as}
use Rattle.apl_calls.specs.WentOn.{gone_on}
use Rattle.apl_machine.proofs.CallsNext.{called_next}
use Rattle.apl_machine.proofs.StepParts.{passed, to_come}
use Rattle.apl_machine.proofs.calls.call_next.Goals as goal

pub returns-clause-comes : goal.returns-clause-comes
returns-clause-comes c =
    let m : PlainInterpreter = c.args.interpreter.now in
    let e : Evaluation = c.args.e.now in
    comes_as m c.perform_call.new.interpreter (to_come m e) (part_takes m (passed e) (apply_step ran (fun.Defined c.args.name) (if_there c.args.has_left) (if_there false))) 0 (gone_on c.perform_call.new.e c.perform_call.result)
    (called_next m e c.args.name c.args.has_left c.requires.calls) c.perform_call.ensures.comes
