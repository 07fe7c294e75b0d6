use Rattle.std.proofs.Common.{◌≡◌, refl, ◌∙◌, ap, sym, ℕ, ◌+◌, ◌/◌, ◌%◌, ◌<◌, ◌≤◌, Bool, true, false, ◌&&◌, cond, List, [], ◌∷◌, map, get_or, length, arith}
use Rattle.std.proofs.Math.ListN.{set, length-set}
use Rattle.std.proofs.lemmas.List.Edits.{fill_by_more}
use Rattle.std.proofs.lemmas.List.FromFn.{fill_by_all}
use Rattle.std.proofs.lemmas.List.Elements.{All-map}
use Rattle.std.proofs.lemmas.List.Sums.{sum_by-append, sum_by-cons}
use Rattle.std.proofs.lemmas.List.{get_or_default}
use Rattle.std.specs.Prelude.{count_by, All}
use Rattle.std.specs.List.{flat_map, range_with_len}
use Rattle.sv_access.specs.declared.access.Side.{Side}
use Rattle.sv_access.specs.declared.access.Side.TheVariants.{A, B}
use Rattle.sv_access.specs.declared.access.Kind.{Kind}
use Rattle.sv_access.specs.declared.access.Kind.TheVariants.{Set, Use}
use Rattle.sv_access.specs.declared.cases.Case.{Case}
use Rattle.sv_access.specs.declared.control.Control.{Control}
use Rattle.sv_access.specs.declared.state.AccessState.{AccessState}
use Rattle.sv_access.specs.declared.state.AccessState.TheVariants.{Quiet, UnseenA, UnseenB}
use Rattle.sv_access.specs.Access.{same_side, same_kind}
use Rattle.sv_access.specs.Control.{four_elements, same_control}
use Rattle.sv_access.specs.State.{same_state}
use Rattle.sv_access.specs.Table.{verdict_of}
use Rattle.sv_access.specs.Cases.{case_of, is_case_of, HasEachCaseOnce}

-- the line on a control and an access, as the code pairs them
abbrev pub case_on : Control → AccessState × Side × Kind → Case
case_on control access = case_of control access.0 access.1 access.2

-- stands for a line where there is none
abbrev pub no_case : Case
no_case = case_of (four_elements false false false false) Quiet A Set

-- the line at a place: each control in turn with the twelve accesses in turn
abbrev pub case_at : List Control → List (AccessState × Side × Kind) → ℕ → Case
case_at controls accesses place =
    case_on (get_or controls (place / 12) (four_elements false false false false)) (get_or accesses (place % 12) (Quiet, A, Set))

-- of 192 places, those below this one have their lines
pub record AreFilledBelow (controls : List Control) (accesses : List (AccessState × Side × Kind)) (cases : List Case) (place : ℕ) : Type 0 where
  pub room : length cases ≡ 192
  pub lines : (k : ℕ) → k < place → get_or cases k no_case ≡ case_at controls accesses k

-- one line more is filled in, from whatever a read past the end would give
pub filled_more : {controls : List Control} {accesses : List (AccessState × Side × Kind)} {cases : List Case} {place : ℕ} {case : Case}
    (control : Control) (access : AccessState × Side × Kind) →
    place < 192 →
    length controls ≡ 16 →
    length accesses ≡ 12 →
    case ≡ case_on (get_or controls (place / 12) control) (get_or accesses (place % 12) access) →
    AreFilledBelow controls accesses cases place →
    AreFilledBelow controls accesses (set cases place case) (place + 1)
filled_more {controls} {accesses} {cases} {place} {case} control access within rows columns is before = record {
  room = length-set cases place case ∙ before.room;
  lines = rw same (fill_by_more (case_at controls accesses) cases place no_case (omega arith) before.lines);
}
  where
    same : case ≡ case_at controls accesses place
    same = is ∙ cc (get_or_default controls (place / 12) control (four_elements false false false false) (omega arith), get_or_default accesses (place % 12) access (Quiet, A, Set) (omega arith))

-- the sixteen controls, in the code's order
abbrev pub every_control : List Control
every_control =
    four_elements false false false false ∷ four_elements false true false false ∷ four_elements true false false false ∷ four_elements true true false false ∷
    four_elements false false false true ∷ four_elements false true false true ∷ four_elements true false false true ∷ four_elements true true false true ∷
    four_elements false false true false ∷ four_elements false true true false ∷ four_elements true false true false ∷ four_elements true true true false ∷
    four_elements false false true true ∷ four_elements false true true true ∷ four_elements true false true true ∷ four_elements true true true true ∷
    []

-- the twelve accesses in a state, in the code's order
abbrev pub every_access : List (AccessState × Side × Kind)
every_access =
    (Quiet, A, Set) ∷ (Quiet, B, Set) ∷ (Quiet, A, Use) ∷ (Quiet, B, Use) ∷
    (UnseenA, A, Set) ∷ (UnseenA, B, Set) ∷ (UnseenA, A, Use) ∷ (UnseenA, B, Use) ∷
    (UnseenB, A, Set) ∷ (UnseenB, B, Set) ∷ (UnseenB, A, Use) ∷ (UnseenB, B, Use) ∷
    []

-- the lines of one control
abbrev pub row : Control → List Case
row control = map (case_on control) every_access

-- the whole table
abbrev pub table : List Case
table = flat_map row every_control

-- where all places have their lines, the list is the table
pub filled_is_table : {cases : List Case} {place : ℕ} → 192 ≤ place → AreFilledBelow every_control every_access cases place → cases ≡ table
filled_is_table {cases} {place} all filled =
    fill_by_all (case_at every_control every_access) cases 192 no_case filled.room (λ k below. filled.lines k (omega arith))

-- each line of the table has its verdict
pub table_verdicts : All (λ case. case.verdict ≡ verdict_of case.control case.state case.side case.kind) table
table_verdicts =
    All-map (λ case. case.verdict ≡ verdict_of case.control case.state case.side case.kind)
    (case_at every_control every_access) (range_with_len 0 192) (λ k d below. refl)

-- an access is once in the row of its control, and in no other
row_has : (same : Bool) (state : AccessState) (side : Side) (kind : Kind) →
    count_by (λ access. same && same_state state access.0 && same_side side access.1 && same_kind kind access.2) every_access ≡ cond same 1 0
row_has false state side kind = refl
row_has true Quiet A Set = refl
row_has true Quiet B Set = refl
row_has true Quiet A Use = refl
row_has true Quiet B Use = refl
row_has true UnseenA A Set = refl
row_has true UnseenA B Set = refl
row_has true UnseenA A Use = refl
row_has true UnseenA B Use = refl
row_has true UnseenB A Set = refl
row_has true UnseenB B Set = refl
row_has true UnseenB A Use = refl
row_has true UnseenB B Use = refl

-- an access is in the rows of these controls as often as its control is among them
rows_have : (control : Control) (state : AccessState) (side : Side) (kind : Kind) (controls : List Control) →
    count_by (is_case_of control state side kind) (flat_map row controls) ≡ count_by (same_control control) controls
rows_have control state side kind [] = refl
rows_have control state side kind (first ∷ controls) =
    sum_by-append (λ case. cond (is_case_of control state side kind case) 1 0) (row first) (flat_map row controls)
    ∙ ap (λ n. n + count_by (is_case_of control state side kind) (flat_map row controls)) (row_has (same_control control first) state side kind)
    ∙ ap (λ n. cond (same_control control first) 1 0 + n) (rows_have control state side kind controls)
    ∙ sym (sum_by-cons (λ other. cond (same_control control other) 1 0) first controls)

-- each control of four elements is among the sixteen once
control_is_once : (first second third fourth : Bool) → count_by (same_control (four_elements first second third fourth)) every_control ≡ 1
control_is_once false false false false = refl
control_is_once false false false true = refl
control_is_once false false true false = refl
control_is_once false false true true = refl
control_is_once false true false false = refl
control_is_once false true false true = refl
control_is_once false true true false = refl
control_is_once false true true true = refl
control_is_once true false false false = refl
control_is_once true false false true = refl
control_is_once true false true false = refl
control_is_once true false true true = refl
control_is_once true true false false = refl
control_is_once true true false true = refl
control_is_once true true true false = refl
control_is_once true true true true = refl

-- the table has each case once
pub table_has_each_once : HasEachCaseOnce table
table_has_each_once first second third fourth state side kind =
    rows_have (four_elements first second third fourth) state side kind every_control ∙ control_is_once first second third fourth
