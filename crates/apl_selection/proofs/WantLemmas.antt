-- What holds of a call holds of it where it ran out of memory.
use Rattle.std.proofs.Common.{◌≡◌, Result, Ok, Err, IsOk, refl, sym, subst}
use Rattle.apl_arrays.specs.declared.report.Fail.{Fail}
use Rattle.apl_arrays.specs.declared.report.Fail.TheVariants as fail
use Rattle.apl_arrays.specs.Array.{PlainArray}
use Rattle.apl_items.specs.Answers.{ArrayResult, AnswersFirst}
use Rattle.apl_items.specs.Places.{OnWantOfMemory}

pub on_want : {T : Type 0} (result : Result T Fail) (p : Type 0) → p → OnWantOfMemory result p
on_want (Ok value) p h = tt
on_want (Err (fail.Report report)) p h = tt
on_want (Err fail.WantOfMemory) p h = h

-- a call that tells its report first ran out of memory only where there is none
pub first_on_want : (result : Result PlainArray Fail) (answer : ArrayResult) → AnswersFirst result answer → OnWantOfMemory result (IsOk answer)
first_on_want (Ok array) answer h = tt
first_on_want (Err (fail.Report report)) answer h = tt
first_on_want (Err fail.WantOfMemory) answer h = h

-- want of memory that is handed on, where there is no report
pub wanting_after : (result : Result PlainArray Fail) (other : Fail) (answer : ArrayResult) → result ≡ Err other → other ≡ fail.WantOfMemory → IsOk answer → AnswersFirst result answer
wanting_after result other answer is same fine =
    subst (λ (r : Result PlainArray Fail). AnswersFirst r answer) (sym is) (subst (λ (w : Fail). AnswersFirst (Err w) answer) (sym same) fine)

-- an answer that is an array has no report
pub array_is_ok : (answer : ArrayResult) (made : PlainArray) → answer ≡ Ok made → IsOk answer
array_is_ok answer made is = rw is refl
