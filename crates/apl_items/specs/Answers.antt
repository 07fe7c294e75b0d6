use Rattle.std.specs.Prelude.{◌≡◌, ⊤, ℕ, Bool, true, false, List, Option, Some, None, Result, Ok, Err, IsOk, if◌then◌else◌}
use Rattle.apl_arrays.specs.declared.array.ShapeFault.{ShapeFault}
use Rattle.apl_arrays.specs.declared.array.ShapeFault.TheVariants as fault
use Rattle.apl_arrays.specs.declared.report.Fail.{Fail}
use Rattle.apl_arrays.specs.declared.report.Fail.TheVariants as fail
use Rattle.apl_arrays.specs.declared.report.Report.{Report}
use Rattle.apl_arrays.specs.declared.report.Report.TheVariants.{Rank, Length, Domain, Index, WsFull}
use Rattle.apl_arrays.specs.Array.{PlainArray}
use Rattle.apl_arrays.specs.Shape.{shape_fault}

-- what a call gives: an array, or the report that refuses it
abbrev pub ArrayResult : Type 0
ArrayResult = Result PlainArray Report

-- what is wrong with the arguments of a call, each kind of fault by itself
pub record Faults : Type 0 where
  pub bad_rank : Bool
  pub bad_length : Bool
  pub bad_domain : Bool
  pub bad_index : Bool
  pub too_large : Bool

-- nothing is wrong
abbrev pub no_faults : Faults
no_faults = record { bad_rank = false; bad_length = false; bad_domain = false; bad_index = false; too_large = false }

-- what is wrong with a shape that passes the limits: too many axes are RANK, else it is too large
abbrev pub faults_of_fault : Option ShapeFault → Faults
faults_of_fault None = no_faults
faults_of_fault (Some fault.Rank) = record no_faults { bad_rank = true }
faults_of_fault (Some fault.Size) = record no_faults { too_large = true }

-- what is wrong with a result of this shape
abbrev pub shape_faults : List ℕ → Faults
shape_faults shape = faults_of_fault (shape_fault shape)

-- of several faults the first is reported: RANK, LENGTH, DOMAIN, INDEX, WS FULL
abbrev pub first_report : Faults → Option Report
first_report faults =
    if faults.bad_rank then Some Rank else if faults.bad_length then Some Length else if faults.bad_domain then Some Domain
    else if faults.bad_index then Some Index else if faults.too_large then Some WsFull else None

-- the report, where there is one, else the array
abbrev pub unless : Option Report → PlainArray → ArrayResult
unless None array = Ok array
unless (Some report) array = Err report

-- the answer of a call that has this array where nothing is wrong
abbrev pub answer_of : Faults → PlainArray → ArrayResult
answer_of faults array = unless (first_report faults) array

-- a call gave this answer, or memory ran out
abbrev pub Answers : Result PlainArray Fail → ArrayResult → Type 0
Answers (Ok array) answer = answer ≡ Ok array
Answers (Err (fail.Report report)) answer = answer ≡ Err report
Answers (Err fail.WantOfMemory) answer = ⊤

-- a call gave this answer, and memory ran out only where there is no report
abbrev pub AnswersFirst : Result PlainArray Fail → ArrayResult → Type 0
AnswersFirst (Ok array) answer = answer ≡ Ok array
AnswersFirst (Err (fail.Report report)) answer = answer ≡ Err report
AnswersFirst (Err fail.WantOfMemory) answer = IsOk answer
