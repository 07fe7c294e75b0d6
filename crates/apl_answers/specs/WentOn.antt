-- A statement that goes on where it stands.
use Rattle.std.specs.Prelude.{Result, Ok, Err}
use Rattle.apl_arrays.specs.declared.report.Fail.{Fail}
use Rattle.apl_statements.specs.declared.evaluation.Evaluation.{Evaluation}
use Rattle.apl_statements.specs.declared.flow.Flow.{Flow}
use Rattle.apl_statements.specs.declared.flow.Flow.TheVariants as flow

-- a statement that went on, as a flow; or what ended it
abbrev pub went_on : {T : Type 0} → Evaluation → Result T Fail → Result Flow Fail
went_on e (Ok value) = Ok (flow.Evaluates e)
went_on e (Err why) = Err why
