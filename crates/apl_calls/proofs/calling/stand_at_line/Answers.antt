use Rattle.std.proofs.Common.{sym, subst}
use Rattle.std.specs.Prelude.{IsSome}
use Rattle.apl_statements.specs.Evaluating.{line_of_innermost}
use Rattle.apl_statements.specs.Interpreter.{PlainInterpreter}
use Rattle.apl_calls.proofs.Innermost.{stands_soundly}
use Rattle.apl_calls.proofs.calling.stand_at_line.Goals as goal

pub invariant_of-interpreter : goal.invariant_of-interpreter
invariant_of-interpreter c =
    stands_soundly c.interpreter.inside.workspace c.interpreter.inside.input.items c.args.number c.interpreter.inside.callers.items c.stand_at.new.callers.items c.stand_at.ensures
    (subst (λ (m : PlainInterpreter). IsSome (line_of_innermost m.stack c.args.number)) (sym c.interpreter.view_is) c.requires) c.interpreter.invariant
