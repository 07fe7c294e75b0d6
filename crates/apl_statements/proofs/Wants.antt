-- Where memory ran out no report was due.
use Rattle.std.proofs.Common.{◌≡◌, Bool, true, false, List, [], ◌∷◌, ◌++◌, refl, sym, subst}
use Rattle.std.specs.Prelude.{ℕ, ℤ, Result, Err}
use Rattle.apl_arrays.specs.Array.{PlainArray}
use Rattle.apl_arrays.specs.declared.report.Fail.{Fail}
use Rattle.apl_items.specs.Places.{OnWantOfMemory}
use Rattle.sv_events.specs.Answer.{PlainAnswer}
use Rattle.sv_events.specs.Row.{answer_row}
use Rattle.apl_meaning.specs.State.{State, Outcome, gives, refuses, asks, and_then}
use Rattle.apl_meaning.specs.Answers.{report_of_kind, answer_taken_from, unless_ended}
use Rattle.apl_meaning.specs.Expressions.{Found, valued}
use Rattle.apl_values.specs.Pending.{PlainActPurpose, act_for_purpose, act_asked_for, brought, in_rows}
use Rattle.apl_values.specs.Rows.{PlainNameRow, asks_act, rest_of_rows, row_zeros}
use Rattle.apl_statements.specs.Wants.{IsNoReport}
use Rattle.apl_statements.proofs.Opened.{rows_open, rows_tell_zeros}

-- what a `?` hands out is why a call failed
pub want_exit : {T : Type 0} (r : Result T Fail) (y why : Fail) (fact : Type 0) → r ≡ Err y → y ≡ why → OnWantOfMemory {T = T} (Err why) fact → OnWantOfMemory r fact
want_exit {T} r y why fact exit same holds =
    subst (λ (x : Result T Fail). OnWantOfMemory x fact) (sym exit) (subst (λ (f : Fail). OnWantOfMemory {T = T} (Err f) fact) (sym same) holds)

-- an array as what was found
pub valued_no_report : (o : Outcome PlainArray) → IsNoReport o → IsNoReport (valued o)
valued_no_report (gives value s) free = tt
valued_no_report (refuses report s) free = free
valued_no_report (asks act s) free = tt

-- an act to which no answer is left is asked
pub asked_no_report : (for_this : PlainActPurpose) (s : State) → s.answers ≡ [] → IsNoReport (act_asked_for for_this s)
asked_no_report for_this s none =
    subst (λ (answers : List PlainAnswer). IsNoReport (and_then (and_then (answer_taken_from answers (act_for_purpose for_this s.workspace) s) (λ answer t. unless_ended (report_of_kind (answer_row answer).row.kind) answer t)) (λ answer t. brought for_this answer t)))
    (sym none) tt

first_row_no_report : (numbers : List ℤ) (row : PlainNameRow) (rows : List PlainNameRow) (shape : List ℕ) (s : State) (acts : Bool) → s.answers ≡ [] → asks_act s.workspace row ≡ acts
    → IsNoReport (rest_of_rows (numbers ++ row_zeros row.1) rows shape s) → IsNoReport (rest_of_rows numbers (row ∷ rows) shape s)
first_row_no_report numbers row rows shape s true none is others =
    subst (λ (o : Outcome Found). IsNoReport o) (sym (rows_open row.1 row.0 numbers rows shape s is)) (asked_no_report (in_rows numbers (row ∷ rows) shape) s none)
first_row_no_report numbers row rows shape s false none is others = subst (λ (o : Outcome Found). IsNoReport o) (sym (rows_tell_zeros row.1 row.0 numbers rows shape s is)) others

-- rows tell zeros, or ask an act
pub rows_no_report : (numbers : List ℤ) (rows : List PlainNameRow) (shape : List ℕ) (s : State) → s.answers ≡ [] → IsNoReport (rest_of_rows numbers rows shape s)
rows_no_report numbers [] shape s none = tt
rows_no_report numbers (row ∷ rows) shape s none =
    first_row_no_report numbers row rows shape s (asks_act s.workspace row) none refl (rows_no_report (numbers ++ row_zeros row.1) rows shape s none)
