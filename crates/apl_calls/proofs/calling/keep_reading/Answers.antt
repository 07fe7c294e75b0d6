use Rattle.std.proofs.Common.{◌-◌, List, [], refl, sym, subst}
use Rattle.std.specs.Prelude.{IsSome, reverse, unwrap_or}
use Rattle.std.specs.Arc.{arc_value}
use Rattle.apl_workspace.specs.Workspace.{PlainWorkspace}
use Rattle.apl_values.specs.Parts.{IsReadFrom}
use Rattle.apl_statements.specs.declared.waiting.Waiting.{Waiting}
use Rattle.apl_statements.specs.Evaluating.{line_of_innermost}
use Rattle.apl_statements.specs.Interpreter.{PlainInterpreter}
use Rattle.apl_statements.specs.Sound.{AreUnderWay}
use Rattle.apl_calls.specs.Waitings.{IsKeepingAt}
use Rattle.apl_calls.proofs.Innermost.{keeps_soundly}
use Rattle.apl_calls.proofs.calling.keep_reading.Goals as goal

pub invariant_of-interpreter : goal.invariant_of-interpreter
invariant_of-interpreter c =
    let w : PlainWorkspace = c.interpreter.inside.workspace in
    let keeps : IsKeepingAt (c.args.number - 1) (arc_value c.args.reading) c.interpreter.inside.callers.items c.keep_in.new.callers.items = c.keep_in.ensures in
    subst (λ (list : List Waiting). AreUnderWay w (reverse list)) (sym keeps.is)
    (keeps_soundly w c.interpreter.inside.input.items c.interpreter.inside.callers.items keeps.others keeps.waiting keeps.keeping c.args.number (c.args.number - 1) (arc_value c.args.reading) keeps.was keeps.same keeps.kept refl
    (subst (λ (m : PlainInterpreter). IsSome (line_of_innermost m.stack c.args.number)) (sym c.interpreter.view_is) c.requires.there)
    (subst (λ (m : PlainInterpreter). IsReadFrom m.workspace (unwrap_or (line_of_innermost m.stack c.args.number) []) (arc_value c.args.reading)) (sym c.interpreter.view_is) c.requires.read)
    c.interpreter.invariant)
