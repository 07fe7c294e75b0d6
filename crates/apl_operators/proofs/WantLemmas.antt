-- A function that wants memory only where nothing is wrong has an array.
use Rattle.std.proofs.Common.{◌≡◌, ◌≤◌, ℕ, Bool, true, false, nat_lt, Option, Some, None, IsOk, Result, refl, arith}
use Rattle.std.proofs.lemmas.Bool.Decides.{nat_tests}
use Rattle.apl_arrays.specs.declared.report.Fail.{Fail}
use Rattle.apl_arrays.specs.declared.report.Report.{Report}
use Rattle.apl_arrays.specs.Array.{PlainArray}
use Rattle.apl_items.specs.Answers.{Faults, answer_of, first_report, no_faults, unless}
use Rattle.apl_items.specs.Places.{OnWantOfMemory}
use Rattle.apl_items.proofs.RowLemmas.{weaker_want}

unless_none : (report : Option Report) (array : PlainArray) → report ≡ None → IsOk (unless report array)
unless_none None array e = refl
unless_none (Some report) array e = absurd (cc)

-- nothing is wrong
pub on_no_faults : (result : Result PlainArray Fail) (faults : Faults) (array : PlainArray) → OnWantOfMemory result (first_report faults ≡ None) → OnWantOfMemory result (IsOk (answer_of faults array))
on_no_faults result faults array h = weaker_want result (first_report faults ≡ None) (IsOk (answer_of faults array)) (unless_none (first_report faults) array) h

lone_index : (lacks : Bool) (array : PlainArray) → lacks ≡ false → IsOk (answer_of (record no_faults { bad_index = lacks }) array)
lone_index true array e = absurd (cc)
lone_index false array e = refl

-- the axis is there, where nothing else may be wrong
pub on_axis_there : (result : Result PlainArray Fail) (lacks : Bool) (array : PlainArray) → OnWantOfMemory result (lacks ≡ false) → OnWantOfMemory result (IsOk (answer_of (record no_faults { bad_index = lacks }) array))
on_axis_there result lacks array h = weaker_want result (lacks ≡ false) (IsOk (answer_of (record no_faults { bad_index = lacks }) array)) (lone_index lacks array) h

lone_rank : (many : Bool) (array : PlainArray) → many ≡ false → IsOk (answer_of (record no_faults { bad_rank = many }) array)
lone_rank true array e = absurd (cc)
lone_rank false array e = refl

not_many : (n : ℕ) → n ≤ 1 → nat_lt 1 n ≡ false
not_many n few = grind (arith, nat_tests)

-- there is one axis at most, where nothing else may be wrong
pub on_one_axis : (result : Result PlainArray Fail) (axes : ℕ) (array : PlainArray) → OnWantOfMemory result (axes ≤ 1) → OnWantOfMemory result (IsOk (answer_of (record no_faults { bad_rank = nat_lt 1 axes }) array))
on_one_axis result axes array h =
    weaker_want result (axes ≤ 1) (IsOk (answer_of (record no_faults { bad_rank = nat_lt 1 axes }) array)) (λ few. lone_rank (nat_lt 1 axes) array (not_many axes few)) h
