-- A statement in whose place it goes on.
use Rattle.std.specs.Prelude.{Result, Ok, Err}
use Rattle.apl_arrays.specs.declared.report.Fail.{Fail}
use Rattle.apl_statements.specs.declared.evaluation.Evaluation.{Evaluation}
use Rattle.apl_statements.specs.declared.flow.Flow.{Flow}
use Rattle.apl_statements.specs.declared.flow.Flow.TheVariants as flow

-- what goes on in the place of a statement, as a flow; or what ended the line
abbrev pub gone_on : {T : Type 0} → Evaluation → Result T Fail → Result Flow Fail
gone_on e (Ok value) = Ok (flow.Evaluates e)
gone_on e (Err why) = Err why
