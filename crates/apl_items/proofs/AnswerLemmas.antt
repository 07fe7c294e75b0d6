-- What a call answers where its memory suffices.
use Rattle.std.proofs.Common.{Result, Ok, Err}
use Rattle.apl_arrays.specs.declared.report.Fail.{Fail}
use Rattle.apl_arrays.specs.declared.report.Fail.TheVariants as fail
use Rattle.apl_arrays.specs.Array.{PlainArray}
use Rattle.apl_items.specs.Answers.{ArrayResult, Answers, AnswersFirst}

-- a call that runs out of memory only where there is no report gives its answer or runs out of memory
pub answers_at_all : (result : Result PlainArray Fail) (answer : ArrayResult) → AnswersFirst result answer → Answers result answer
answers_at_all (Ok array) answer h = h
answers_at_all (Err (fail.Report report)) answer h = h
answers_at_all (Err fail.WantOfMemory) answer h = tt
