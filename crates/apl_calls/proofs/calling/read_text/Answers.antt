use Rattle.std.proofs.Common.{[], List, ℕ, subst}
use Rattle.std.specs.Prelude.{Option, IfErr, unwrap_or}
use Rattle.apl_meaning.specs.Reading.{read_with}
use Rattle.apl_values.specs.Parts.{IsNotRead}
use Rattle.apl_statements.specs.Evaluating.{line_of_innermost}
use Rattle.apl_statements.specs.Interpreter.{PlainInterpreter}
use Rattle.apl_calls.proofs.calling.read_text.Goals as goal

pub returns-clause-refused : goal.returns-clause-refused
returns-clause-refused c =
    let m : PlainInterpreter = c.args.interpreter.now in
    subst (λ (x : PlainInterpreter). IfErr c.read.result (IsNotRead (read_with x.workspace (unwrap_or (line_of_innermost m.stack c.args.number) [])))) c.interpreter.view_is
    (subst (λ (line : Option (List ℕ)). IfErr c.read.result (IsNotRead (read_with c.interpreter.inside.workspace (unwrap_or line [])))) c.in-Some.ensures c.read.ensures.refused)
