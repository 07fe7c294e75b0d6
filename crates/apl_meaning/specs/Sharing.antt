-- The shared variable functions, row by row: what is wrong before the first act, and what is done.
use Rattle.std.specs.Prelude.{◌+◌, ◌*◌, ◌||◌, ◌&&◌, ◌==◌, ℕ, ℤ, Bool, not, List, [], ◌∷◌, Option, Some, None, length, map, nat_lt, unsigned_abs, if◌then◌else◌}
use Rattle.std.specs.Cmp.Lexicographic.{pointwise}
use Rattle.std.specs.Int.{is_negative}
use Rattle.std.specs.List.{list_any, zip}
use Rattle.apl_arrays.specs.Array.{PlainArray, is_chars, item_count, number_array, numbers_in}
use Rattle.apl_arrays.specs.declared.report.Report.{Report}
use Rattle.apl_items.specs.Answers.{Faults, first_report}
use Rattle.apl_items.specs.Extension.{is_single, number_at}
use Rattle.apl_items.specs.Places.{places}
use Rattle.apl_arrays.specs.Number.{is_one}
use Rattle.apl_scalar.specs.Table.{is_truth}
use Rattle.apl_workspace.specs.Meaning.{is_function_meaning}
use Rattle.apl_workspace.specs.Workspace.{PlainWorkspace, global_in, is_addressee, is_local}
use Rattle.sv_access.specs.Control.{four_elements}
use Rattle.sv_access.specs.declared.control.Control.{Control}
use Rattle.apl_meaning.specs.State.{State, Outcome, gives, refuses, and_then}
use Rattle.apl_meaning.specs.Naming.{Naming, naming_faults, namings_of, result_shape, naming_count}
use Rattle.apl_meaning.specs.Deeds.{Deed, offer, ask_degree, set_control, ask_control, ask_state, retract, done_for_all}

-- nothing is done where something is wrong
abbrev pub unless_wrong : {T : Type 0} → Option Report → (State → Outcome T) → State → Outcome T
unless_wrong None next s = next s
unless_wrong (Some report) next s = refuses report s

-- all rows are tested, and then done; where a row's result has this shape, the result is the list of the rows' results
abbrev pub rows_outcome : Faults → PlainArray → List ℕ → List Deed → State → Outcome PlainArray
rows_outcome faults n each deeds s =
    unless_wrong (first_report faults) (λ s. and_then (done_for_all (zip (namings_of n) deeds) s) (λ numbers s. gives (number_array (result_shape n each) numbers) s)) s

-- the same is done for each row
abbrev pub for_each_row : PlainArray → Deed → List Deed
for_each_row n deed = map (λ row. deed) (places (naming_count n))

-- a function that does the same for each row, by a degree or by four elements
abbrev pub plain_rows : PlainArray → List ℕ → Deed → State → Outcome PlainArray
plain_rows n each deed s = rows_outcome (naming_faults n each) n each (for_each_row n deed) s

-- ---- P ⎕SVO N

-- a number is no party that an offer may be made to
abbrev pub is_no_addressee : ℤ → Bool
is_no_addressee number = is_negative number || not (is_addressee (unsigned_abs number))

-- a local name cannot be offered: a frame has it, or it is a function
abbrev pub cannot_be_offered : PlainWorkspace → Naming → Bool
cannot_be_offered w names = is_local w names.local || is_function_meaning (global_in w names.local)

-- what is wrong with P, of which there is one for all rows or one for each, or with N
abbrev pub offer_faults : PlainWorkspace → PlainArray → PlainArray → Faults
offer_faults w p n = record (naming_faults n []) {
  bad_rank = (naming_faults n []).bad_rank || nat_lt 1 (length p.shape);
  bad_length = not (is_single p) && not (item_count p.items == naming_count n);
  bad_domain = (naming_faults n []).bad_domain || is_chars p.items || list_any is_no_addressee (numbers_in p.items) || list_any (cannot_be_offered w) (namings_of n);
}

-- the party of a row
abbrev pub addressee_at : PlainArray → ℕ → ℕ
addressee_at p row = unsigned_abs (number_at (numbers_in p.items) row)

-- P ⎕SVO N: each row's local name is offered, and the result is the degree
abbrev pub offers : PlainArray → PlainArray → State → Outcome PlainArray
offers p n s = rows_outcome (offer_faults s.workspace p n) n [] (map (λ row. offer (addressee_at p row)) (places (naming_count n))) s

-- ---- C ⎕SVC N

-- four elements for all rows
abbrev pub is_one_control : PlainArray → Bool
is_one_control c = item_count c.items == 4

-- one element, four, or a matrix of four for each row
abbrev pub are_controls : PlainArray → PlainArray → Bool
are_controls c n = is_single c || is_one_control c || pointwise ◌==◌ c.shape (naming_count n ∷ 4 ∷ [])

-- what is wrong with C or with N
abbrev pub control_faults : PlainArray → PlainArray → Faults
control_faults c n = record (naming_faults n (4 ∷ [])) {
  bad_rank = (naming_faults n (4 ∷ [])).bad_rank || (not (are_controls c n) && nat_lt 2 (length c.shape));
  bad_length = not (are_controls c n);
  bad_domain = (naming_faults n (4 ∷ [])).bad_domain || is_chars c.items || list_any (λ number. not (is_truth number)) (numbers_in c.items);
}

-- an element of the control of a row
abbrev pub element_at : PlainArray → ℕ → ℕ → Bool
element_at c row element = is_one (number_at (numbers_in c.items) (if is_one_control c then element else row * 4 + element))

-- the control of a row
abbrev pub control_at : PlainArray → ℕ → Control
control_at c row = four_elements (element_at c row 0) (element_at c row 1) (element_at c row 2) (element_at c row 3)

-- C ⎕SVC N: each row's control is set, and the result is the one in force
abbrev pub controls : PlainArray → PlainArray → State → Outcome PlainArray
controls c n s = rows_outcome (control_faults c n) n (4 ∷ []) (map (λ row. set_control (control_at c row)) (places (naming_count n))) s

-- ---- ⎕SVO N, ⎕SVC N, ⎕SVR N and ⎕SVS N

-- ⎕SVO N: the degrees
abbrev pub degrees : PlainArray → State → Outcome PlainArray
degrees n s = plain_rows n [] ask_degree s

-- ⎕SVC N: the controls in force
abbrev pub controls_in_force : PlainArray → State → Outcome PlainArray
controls_in_force n s = plain_rows n (4 ∷ []) ask_control s

-- ⎕SVR N: the offers are taken back, and the result is the degrees before
abbrev pub retractions : PlainArray → State → Outcome PlainArray
retractions n s = plain_rows n [] retract s

-- ⎕SVS N: the access states
abbrev pub states : PlainArray → State → Outcome PlainArray
states n s = plain_rows n (4 ∷ []) ask_state s
