-- References, assignments and shared variable functions are steady.
use Rattle.std.proofs.Common.{◌≡◌, ℕ, ◌+◌, Bool, true, false, List, [], ◌∷◌, ◌++◌, refl, arith}
use Rattle.std.specs.Prelude.{ℤ, pos, ◌==◌, map, Option, Some, None, Result, Ok, Err, unsigned_abs, unwrap_or}
use Rattle.apl_arrays.specs.Array.{PlainArray, item_count, numbers_in, scalar}
use Rattle.apl_arrays.specs.declared.report.Report.{Report}
use Rattle.apl_arrays.specs.declared.report.Report.TheVariants.{Syntax, Value}
use Rattle.apl_verbs.specs.declared.verb.Verb.{Verb}
use Rattle.apl_items.specs.Answers.{Faults, first_report}
use Rattle.apl_items.specs.Extension.{number_at}
use Rattle.apl_items.specs.Places.{places}
use Rattle.apl_selection.specs.Assignment.{assign_of}
use Rattle.apl_workspace.specs.Workspace.{assigned, look, marked, unmarked, with_global}
use Rattle.apl_workspace.specs.declared.meaning.Meaning.{Meaning}
use Rattle.apl_workspace.specs.declared.meaning.Meaning.TheVariants as meaning
use Rattle.apl_arrays.specs.declared.system.SystemName.{SystemName}
use Rattle.apl_arrays.specs.declared.system.SystemName.TheVariants.{Svo, Svc, Svr, Svq, Svs}
use Rattle.sv_events.specs.Answer.{PlainAnswer}
use Rattle.sv_events.specs.Fits.{ends_all}
use Rattle.sv_events.specs.Row.{act_row, answer_row}
use Rattle.sv_events.specs.declared.event.Act.{Act}
use Rattle.sv_events.specs.declared.event.Act.TheVariants as act
use Rattle.apl_meaning.specs.State.{State, Outcome, outcome_of}
use Rattle.apl_meaning.specs.Answers.{got, set_of, use_of, with_copy}
use Rattle.apl_meaning.specs.Variables.{assignment, assignment_by, items_assignment, reference, reference_by, target_by}
use Rattle.operator_rules.specs.Apply.{applied}
use Rattle.apl_meaning.specs.Verbs.{application, may_be_applied}
use Rattle.apl_meaning.specs.Naming.{Naming, naming_faults, naming_count}
use Rattle.apl_meaning.specs.Deeds.{Deed, offer, ask_degree, set_control, ask_control, ask_state, retract, degree_in, vector_in, asked_and_told, offering, retraction, where_shared, if_shared, done_for, done_for_all}
use Rattle.apl_meaning.specs.Sharing.{addressee_at, control_at, control_faults, for_each_row, offer_faults, rows_outcome, unless_wrong}
use Rattle.apl_meaning.specs.Queries.{list_outcome, name_matrix, party_vector, query_by, query_faults, system_outcome}
use Rattle.apl_meaning.proofs.Steady.{IsSteady, as_before, quiet, given, refused, resulting, changed, by_bool, by_workspace, weighed, both, answered}

-- ---- names

copied : (name : List ℕ) (value : PlainArray) → IsSteady (with_copy name value)
copied name value = weighed (λ w. with_global w name (meaning.Shared (Some value)))

taken_over : (name : List ℕ) (value : Option PlainArray) → IsSteady (got name value)
taken_over name None = refused Value
taken_over name (Some value) = both (copied name value) (λ _. given value)

used : (name : List ℕ) → IsSteady (use_of name)
used name = both (answered (act.Use name) refl) (λ answer. taken_over name (answer_row answer).value)

set : (name : List ℕ) (value : PlainArray) → IsSteady (set_of name value)
set name value = both (answered (act.Set name value) refl) (λ _. copied name value)

pub referred_by : (m : Meaning) (name : List ℕ) → IsSteady (reference_by m name)
referred_by meaning.Nothing name = refused Value
referred_by (meaning.Value value) name = given value
referred_by (meaning.Function function) name = refused Syntax
referred_by (meaning.Label line) name = given (scalar (pos line))
referred_by (meaning.Shared copy) name = used name

pub referred : (name : List ℕ) → IsSteady (reference name)
referred name = by_workspace (λ w. referred_by (look w name) name)

pub assigned_by : (m : Meaning) (name : List ℕ) (value : PlainArray) → IsSteady (assignment_by m name value)
assigned_by meaning.Nothing name value = weighed (λ w. assigned w name value)
assigned_by (meaning.Value old) name value = weighed (λ w. assigned w name value)
assigned_by (meaning.Function function) name value = refused Syntax
assigned_by (meaning.Label line) name value = refused Syntax
assigned_by (meaning.Shared copy) name value = set name value

pub assigns : (name : List ℕ) (value : PlainArray) → IsSteady (assignment name value)
assigns name value = by_workspace (λ w. assigned_by (look w name) name value)

pub targeted_by : (m : Meaning) (name : List ℕ) → IsSteady (target_by m name)
targeted_by meaning.Nothing name = refused Value
targeted_by (meaning.Value value) name = given value
targeted_by (meaning.Function function) name = refused Syntax
targeted_by (meaning.Label line) name = refused Syntax
targeted_by (meaning.Shared copy) name = used name

pub assigns_items : (name : List ℕ) (subs : List (Option PlainArray)) (value : PlainArray) → IsSteady (items_assignment name subs value)
assigns_items name subs value =
    both (by_workspace (λ w. targeted_by (look w name) name)) (λ old. both (resulting (assign_of old subs value)) (λ new. assigns name new))

-- ---- functions

pub applies : (f : Verb) (left : Option PlainArray) (right : PlainArray) (axis : Option ℤ) → IsSteady (application f left right axis)
applies f left right axis = by_bool (may_be_applied f left axis) (counted (applied f left right axis)) (refused Syntax)
  where
    counted : (r : Result PlainArray Report) → IsSteady (λ (s : State). outcome_of r (record s { applications = s.applications + 1 }))
    counted (Ok value) = quiet (λ s. tt) (λ s more. refl) (λ s. as_before s (record s { applications = s.applications + 1 }) refl refl (omega arith) (omega arith)) (λ s. refl) (λ s. refl)
    counted (Err report) = quiet (λ s. tt) (λ s more. refl) (λ s. as_before s (record s { applications = s.applications + 1 }) refl refl (omega arith) (omega arith)) (λ s. refl) (λ s. refl)

-- ---- rows

questioned : (told : PlainAnswer → List ℤ) (asked : Act) → ends_all (act_row asked).row.ends ≡ false → IsSteady (asked_and_told told asked)
questioned told asked stays = both (answered asked stays) (λ answer. given (told answer))

offered : (to : ℕ) (names : Naming) (value : Option PlainArray) → IsSteady (offering to names value)
offered to names value =
    both (answered (act.Offer to names.local names.surrogate value) refl) (λ answer.
    changed (degree_in answer) (λ w. marked w (record { local = names.local; surrogate = names.surrogate; to = to }) value))

retracted : (name : List ℕ) → IsSteady (retraction name)
retracted name = both (answered (act.Retract name) refl) (λ answer. changed (degree_in answer) (λ w. unmarked w name (answer_row answer).value))

shared_by : (b : Bool) (none : List ℤ) (next : State → Outcome (List ℤ)) → IsSteady next → IsSteady (where_shared b none next)
shared_by true none next h = h
shared_by false none next h = given none

if_it_is : (name : List ℕ) (none : List ℤ) (next : State → Outcome (List ℤ)) → IsSteady next → IsSteady (if_shared name none next)
if_it_is name none next h = by_workspace (λ w. shared_by _ none next h)

pub does : (deed : Deed) (names : Naming) → IsSteady (done_for deed names)
does (offer to) names = by_workspace (λ w. offered to names _)
does ask_degree names = if_it_is names.local _ _ (questioned degree_in (act.AskDegree names.local) refl)
does (set_control control) names = if_it_is names.local _ _ (questioned vector_in (act.SetControl names.local control) refl)
does ask_control names = if_it_is names.local _ _ (questioned vector_in (act.AskControl names.local) refl)
does ask_state names = if_it_is names.local _ _ (questioned vector_in (act.AskState names.local) refl)
does retract names = if_it_is names.local _ _ (retracted names.local)

does_all : (rows : List (Naming × Deed)) → IsSteady (done_for_all rows)
does_all [] = given []
does_all (row ∷ rows) = both (does row.1 row.0) (λ numbers. both (does_all rows) (λ others. given (numbers ++ others)))

right : {T : Type 0} (wrong : Option Report) (next : State → Outcome T) → IsSteady next → IsSteady (unless_wrong wrong next)
right None next h = h
right (Some report) next h = refused report

all_rows : (faults : Faults) (n : PlainArray) (each : List ℕ) (deeds : List Deed) → IsSteady (rows_outcome faults n each deeds)
all_rows faults n each deeds = right _ _ (both (does_all _) (λ numbers. given _))

-- ---- queries

pub listed : (array : PlainArray) → IsSteady (list_outcome array)
listed array = resulting _

asked_by : (b : Bool) (array : PlainArray) → IsSteady (query_by b array)
asked_by true array = both (answered act.AskParties refl) (λ answer. listed (party_vector (unwrap_or (answer_row answer).parties [])))
asked_by false array = both (answered (act.AskNames (unsigned_abs (number_at (numbers_in array.items) 0))) refl) (λ answer. listed (name_matrix (unwrap_or (answer_row answer).names [])))

pub systematic : (f : SystemName) (left : Option PlainArray) (argument : PlainArray) → IsSteady (system_outcome f left argument)
systematic Svo None n = all_rows (naming_faults n []) n [] (for_each_row n ask_degree)
systematic Svo (Some p) n = by_workspace (λ w. all_rows (offer_faults w p n) n [] (map (λ row. offer (addressee_at p row)) (places (naming_count n))))
systematic Svc None n = all_rows (naming_faults n (4 ∷ [])) n (4 ∷ []) (for_each_row n ask_control)
systematic Svc (Some c) n = all_rows (control_faults c n) n (4 ∷ []) (map (λ row. set_control (control_at c row)) (places (naming_count n)))
systematic Svr left n = all_rows (naming_faults n []) n [] (for_each_row n retract)
systematic Svq left b = right (first_report (query_faults b)) (query_by (item_count b.items == 0) b) (asked_by (item_count b.items == 0) b)
systematic Svs left n = all_rows (naming_faults n (4 ∷ [])) n (4 ∷ []) (for_each_row n ask_state)
