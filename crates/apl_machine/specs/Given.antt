-- What a part gives a statement.
use Rattle.std.specs.Prelude.{ℕ, Some, Result, Ok, Err}
use Rattle.apl_arrays.specs.Array.{PlainArray}
use Rattle.apl_arrays.specs.declared.report.Fail.{Fail}
use Rattle.apl_arrays.specs.declared.report.Fail.TheVariants as fail
use Rattle.apl_meaning.specs.State.{gives, refuses}
use Rattle.apl_statements.specs.declared.evaluation.Evaluation.{Evaluation}
use Rattle.apl_statements.specs.Interpreter.{PlainInterpreter}
use Rattle.apl_statements.specs.Moves.{Coming, Moves, part_gives}

-- a part comes to an array, which the statement gets behind its values, or to a report that ends the line; where memory ran out nothing is said
abbrev pub ComesToGive : PlainInterpreter → Coming → ℕ → Evaluation → Result PlainArray Fail → Type 0
ComesToGive m coming counted under (Ok array) = Moves m coming counted m (part_gives m under (λ s. gives (Some array) s))
ComesToGive m coming counted under (Err (fail.Report report)) = Moves m coming counted m (λ s. refuses report s)
ComesToGive m coming counted under (Err fail.WantOfMemory) = Unit {0}
