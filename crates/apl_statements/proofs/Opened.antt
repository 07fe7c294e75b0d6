-- A part that asks an act leaves the act open, with what its answer is for.
use Rattle.std.proofs.Common.{◌≡◌, ℕ, Bool, true, false, List, [], ◌∷◌, ◌++◌, refl, sym, ap, ◌∙◌, append_assoc}
use Rattle.std.specs.Prelude.{ℤ, pos, Option, Some, None, unwrap_or}
use Rattle.std.proofs.lemmas.Bool.{false≢true}
use Rattle.apl_arrays.specs.Array.{PlainArray, number_array}
use Rattle.apl_arrays.specs.declared.report.Report.{Report}
use Rattle.apl_selection.specs.Assignment.{assign_of}
use Rattle.apl_workspace.specs.Workspace.{PlainWorkspace, global_in, is_shared, look, marked, unmarked}
use Rattle.apl_workspace.specs.declared.meaning.Meaning.{Meaning}
use Rattle.apl_workspace.specs.declared.meaning.Meaning.TheVariants as meaning
use Rattle.sv_events.specs.Answer.{PlainAnswer}
use Rattle.sv_events.specs.Row.{answer_row}
use Rattle.sv_events.specs.declared.event.Act.{Act}
use Rattle.sv_events.specs.declared.event.Act.TheVariants as act
use Rattle.apl_meaning.specs.State.{State, Outcome, gives, and_then, outcome_of}
use Rattle.apl_meaning.specs.Answers.{answered_act, got, report_of_kind, answer_taken_from, unless_ended, with_copy}
use Rattle.apl_meaning.specs.Variables.{assignment, assignment_by, items_assignment, reference, reference_by, target_by}
use Rattle.apl_meaning.specs.Naming.{Naming}
use Rattle.apl_meaning.specs.Deeds.{Deed, offer, ask_degree, set_control, ask_control, ask_state, retract, degree_in, vector_in, value_of, zeros, asked_and_told, retraction, where_shared, done_for_all}
use Rattle.apl_meaning.specs.Queries.{list_outcome, name_matrix, names_told, parties_told, party_vector}
use Rattle.apl_meaning.specs.Expressions.{Found, valued}
use Rattle.apl_values.specs.Rows.{PlainNameRow, asks_act, rest_of_rows, row_done, row_zeros}
use Rattle.apl_values.specs.Pending.{act_asked_for, assigned_giving, in_rows, names_asked, parties_asked, refers, replaced, replaces, sets}
use Rattle.apl_statements.proofs.Steps.{grouped, then_same}

-- a reference to a shared name
pub reference_opens : (name : List ℕ) (copy : Option PlainArray) (s : State) → look s.workspace name ≡ meaning.Shared copy → valued (reference name s) ≡ act_asked_for (refers name) s
reference_opens name copy s is =
    ap (λ (m : Meaning). valued (reference_by m name s)) is
    ∙ grouped (answered_act (act.Use name) s) (λ answer t. got name (answer_row answer).value t) (λ v t. gives (Some v) t)

-- an assignment to a shared name
pub set_opens : (name : List ℕ) (value other : PlainArray) (copy : Option PlainArray) (s : State) → look s.workspace name ≡ meaning.Shared copy → assigned_giving name value other s ≡ act_asked_for (sets name value other) s
set_opens name value other copy s is =
    ap (λ (m : Meaning). and_then (assignment_by m name value s) (λ _ t. gives (Some other) t)) is
    ∙ grouped (answered_act (act.Set name value) s) (λ _ t. with_copy name value t) (λ _ t. gives (Some other) t)

-- an assignment to items of a shared name: the name is used first
pub use_opens : (name : List ℕ) (subs : List (Option PlainArray)) (right : PlainArray) (copy : Option PlainArray) (s : State) → look s.workspace name ≡ meaning.Shared copy
    → and_then (items_assignment name subs right s) (λ _ t. gives (Some right) t) ≡ act_asked_for (replaces name subs right) s
use_opens name subs right copy s is =
    let give : Unit {0} → State → Outcome Found = λ _ t. gives (Some right) t in
    let replace : PlainArray → State → Outcome (Unit {0}) = λ old t. and_then (outcome_of (assign_of old subs right) t) (λ new u. assignment name new u) in
    let obtain : PlainAnswer → State → Outcome PlainArray = λ answer t. got name (answer_row answer).value t in
    ap (λ (m : Meaning). and_then (and_then (target_by m name s) replace) give) is
    ∙ grouped (and_then (answered_act (act.Use name) s) obtain) replace give
    ∙ grouped (answered_act (act.Use name) s) obtain (λ old t. and_then (replace old t) give)
    ∙ then_same (answered_act (act.Use name) s) (λ a t. and_then (obtain a t) (λ old u. and_then (replace old u) give)) (λ a t. and_then (obtain a t) (λ old u. replaced name subs right old u)) (λ a t.
    then_same (obtain a t) (λ old u. and_then (replace old u) give) (λ old u. replaced name subs right old u) (λ old u.
    grouped (outcome_of (assign_of old subs right) u) (λ new v. assignment name new v) give))

-- a query for parties, and one for names
pub parties_open : (s : State) → valued (parties_told s) ≡ act_asked_for parties_asked s
parties_open s = grouped (answered_act act.AskParties s) (λ answer t. list_outcome (party_vector (unwrap_or (answer_row answer).parties [])) t) (λ v t. gives (Some v) t)

pub names_open : (party : ℕ) (s : State) → valued (names_told party s) ≡ act_asked_for (names_asked party) s
names_open party s = grouped (answered_act (act.AskNames party) s) (λ answer t. list_outcome (name_matrix (unwrap_or (answer_row answer).names [])) t) (λ v t. gives (Some v) t)

-- ---- what an act leaves as it was

after_ended : {B : Type 0} (r : Option Report) (answer : PlainAnswer) (t : State) (f g : PlainAnswer → State → Outcome B) → f answer t ≡ g answer t → and_then (unless_ended r answer t) f ≡ and_then (unless_ended r answer t) g
after_ended None answer t f g e = e
after_ended (Some r) answer t f g e = refl

after_taken : {B : Type 0} (answers : List PlainAnswer) (asked : Act) (s : State) (f g : PlainAnswer → State → Outcome B) → ((answer : PlainAnswer) (t : State) → t.workspace ≡ s.workspace → f answer t ≡ g answer t)
    → and_then (and_then (answer_taken_from answers asked s) (λ answer t. unless_ended (report_of_kind (answer_row answer).row.kind) answer t)) f
    ≡ and_then (and_then (answer_taken_from answers asked s) (λ answer t. unless_ended (report_of_kind (answer_row answer).row.kind) answer t)) g
after_taken [] asked s f g h = refl
after_taken (answer ∷ answers) asked s f g h =
    let t : State = record s { asked = s.asked ++ asked ∷ []; answers = answers } in
    after_ended (report_of_kind (answer_row answer).row.kind) answer t f g (h answer t refl)

-- an act leaves the workspace as it was
pub after_answer : {B : Type 0} (asked : Act) (s : State) (f g : PlainAnswer → State → Outcome B) → ((answer : PlainAnswer) (t : State) → t.workspace ≡ s.workspace → f answer t ≡ g answer t)
    → and_then (answered_act asked s) f ≡ and_then (answered_act asked s) g
after_answer asked s f g h = after_taken s.answers asked s f g h

-- ---- rows of names

-- a row without an act adds its numbers
pub row_added : (numbers own : List ℤ) (rows : List PlainNameRow) (shape : List ℕ) (s : State)
    → and_then (and_then (gives own s) (λ first t. and_then (done_for_all rows t) (λ others u. gives (first ++ others) u))) (λ others t. gives (Some (number_array shape (numbers ++ others))) t) ≡ rest_of_rows (numbers ++ own) rows shape s
row_added numbers own rows shape s =
    grouped (done_for_all rows s) (λ others u. gives (own ++ others) u) (λ others t. gives (Some (number_array shape (numbers ++ others))) t)
    ∙ then_same (done_for_all rows s) (λ others t. gives (Some (number_array shape (numbers ++ (own ++ others)))) t) (λ others t. gives (Some (number_array shape (numbers ++ own ++ others))) t) (λ others t.
    ap (λ (list : List ℤ). gives (Some (number_array shape list)) t) (sym (append_assoc numbers own others)))

-- a row with an act: its numbers, and then the rows that are left
row_opens : (numbers : List ℤ) (rows : List PlainNameRow) (shape : List ℕ) (asked : Outcome PlainAnswer) (tells : PlainAnswer → List ℤ) (does : PlainAnswer → State → State)
    → and_then (and_then (and_then asked (λ answer t. gives (tells answer) (does answer t))) (λ first t. and_then (done_for_all rows t) (λ others u. gives (first ++ others) u))) (λ others t. gives (Some (number_array shape (numbers ++ others))) t)
    ≡ and_then asked (λ answer t. rest_of_rows (numbers ++ tells answer) rows shape (does answer t))
row_opens numbers rows shape asked tells does =
    let rest : List ℤ → State → Outcome (List ℤ) = λ first t. and_then (done_for_all rows t) (λ others u. gives (first ++ others) u) in
    let give : List ℤ → State → Outcome Found = λ others t. gives (Some (number_array shape (numbers ++ others))) t in
    ap (λ (o : Outcome (List ℤ)). and_then o give) (grouped asked (λ answer t. gives (tells answer) (does answer t)) rest)
    ∙ grouped asked (λ answer t. rest (tells answer) (does answer t)) give
    ∙ then_same asked (λ answer t. and_then (rest (tells answer) (does answer t)) give) (λ answer t. rest_of_rows (numbers ++ tells answer) rows shape (does answer t)) (λ answer t.
    row_added numbers (tells answer) rows shape (does answer t))

-- what is still to come of rows where this is what the first of them does
abbrev first_row : List ℤ → List PlainNameRow → List ℕ → Outcome (List ℤ) → Outcome Found
first_row numbers rows shape first =
    and_then (and_then first (λ first t. and_then (done_for_all rows t) (λ others u. gives (first ++ others) u))) (λ others t. gives (Some (number_array shape (numbers ++ others))) t)

where_it_is : (numbers : List ℤ) (rows : List PlainNameRow) (shape : List ℕ) (none : List ℤ) (next : State → Outcome (List ℤ)) (s : State) (b : Bool) → b ≡ true
    → first_row numbers rows shape (where_shared b none next s) ≡ first_row numbers rows shape (next s)
where_it_is numbers rows shape none next s true e = refl
where_it_is numbers rows shape none next s false e = absurd (false≢true e)

where_it_is_not : (numbers : List ℤ) (rows : List PlainNameRow) (shape : List ℕ) (none : List ℤ) (next : State → Outcome (List ℤ)) (s : State) (b : Bool) → b ≡ false
    → first_row numbers rows shape (where_shared b none next s) ≡ rest_of_rows (numbers ++ none) rows shape s
where_it_is_not numbers rows shape none next s true e = absurd (false≢true (sym e))
where_it_is_not numbers rows shape none next s false e = row_added numbers none rows shape s

-- a row that asks an act leaves it open
abbrev pub RowOpens : Deed → Type 0
RowOpens deed =
    (names : Naming) (numbers : List ℤ) (rows : List PlainNameRow) (shape : List ℕ) (s : State) → asks_act s.workspace (names, deed) ≡ true
    → rest_of_rows numbers ((names, deed) ∷ rows) shape s ≡ act_asked_for (in_rows numbers ((names, deed) ∷ rows) shape) s

pub rows_open : (deed : Deed) → RowOpens deed
rows_open (offer to) names numbers rows shape s is =
    let value = value_of (global_in s.workspace names.local) in
    let asked : Act = act.Offer to names.local names.surrogate value in
    row_opens numbers rows shape (answered_act asked s) degree_in (λ answer t. record t { workspace = marked t.workspace (record { local = names.local; surrogate = names.surrogate; to = to }) value })
    ∙ after_answer asked s (λ answer t. rest_of_rows (numbers ++ degree_in answer) rows shape (record t { workspace = marked t.workspace (record { local = names.local; surrogate = names.surrogate; to = to }) value }))
    (λ answer t. rest_of_rows (numbers ++ degree_in answer) rows shape (record t { workspace = row_done (offer to) names answer t.workspace })) (λ answer t same.
    ap (λ (w : PlainWorkspace). rest_of_rows (numbers ++ degree_in answer) rows shape (record t { workspace = marked t.workspace (record { local = names.local; surrogate = names.surrogate; to = to }) (value_of (global_in w names.local)) })) (sym same))
rows_open ask_degree names numbers rows shape s is =
    where_it_is numbers rows shape (pos 0 ∷ []) (asked_and_told degree_in (act.AskDegree names.local)) s (is_shared s.workspace names.local) is ∙ row_opens numbers rows shape (answered_act (act.AskDegree names.local) s) degree_in (λ answer t. t)
rows_open (set_control control) names numbers rows shape s is =
    where_it_is numbers rows shape zeros (asked_and_told vector_in (act.SetControl names.local control)) s (is_shared s.workspace names.local) is ∙ row_opens numbers rows shape (answered_act (act.SetControl names.local control) s) vector_in (λ answer t. t)
rows_open ask_control names numbers rows shape s is =
    where_it_is numbers rows shape zeros (asked_and_told vector_in (act.AskControl names.local)) s (is_shared s.workspace names.local) is ∙ row_opens numbers rows shape (answered_act (act.AskControl names.local) s) vector_in (λ answer t. t)
rows_open ask_state names numbers rows shape s is =
    where_it_is numbers rows shape zeros (asked_and_told vector_in (act.AskState names.local)) s (is_shared s.workspace names.local) is ∙ row_opens numbers rows shape (answered_act (act.AskState names.local) s) vector_in (λ answer t. t)
rows_open retract names numbers rows shape s is =
    where_it_is numbers rows shape (pos 0 ∷ []) (retraction names.local) s (is_shared s.workspace names.local) is
    ∙ row_opens numbers rows shape (answered_act (act.Retract names.local) s) degree_in (λ answer t. record t { workspace = unmarked t.workspace names.local (answer_row answer).value })

-- a row that asks none tells zeros
abbrev pub RowTellsZeros : Deed → Type 0
RowTellsZeros deed =
    (names : Naming) (numbers : List ℤ) (rows : List PlainNameRow) (shape : List ℕ) (s : State) → asks_act s.workspace (names, deed) ≡ false
    → rest_of_rows numbers ((names, deed) ∷ rows) shape s ≡ rest_of_rows (numbers ++ row_zeros deed) rows shape s

pub rows_tell_zeros : (deed : Deed) → RowTellsZeros deed
rows_tell_zeros (offer to) names numbers rows shape s is = absurd (false≢true (sym is))
rows_tell_zeros ask_degree names numbers rows shape s is = where_it_is_not numbers rows shape (pos 0 ∷ []) (asked_and_told degree_in (act.AskDegree names.local)) s (is_shared s.workspace names.local) is
rows_tell_zeros (set_control control) names numbers rows shape s is = where_it_is_not numbers rows shape zeros (asked_and_told vector_in (act.SetControl names.local control)) s (is_shared s.workspace names.local) is
rows_tell_zeros ask_control names numbers rows shape s is = where_it_is_not numbers rows shape zeros (asked_and_told vector_in (act.AskControl names.local)) s (is_shared s.workspace names.local) is
rows_tell_zeros ask_state names numbers rows shape s is = where_it_is_not numbers rows shape zeros (asked_and_told vector_in (act.AskState names.local)) s (is_shared s.workspace names.local) is
rows_tell_zeros retract names numbers rows shape s is = where_it_is_not numbers rows shape (pos 0 ∷ []) (retraction names.local) s (is_shared s.workspace names.local) is
