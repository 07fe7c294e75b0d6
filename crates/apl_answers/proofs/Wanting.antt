-- Where memory ran out for an assignment no report was due that comes without it.
use Rattle.std.proofs.Common.{◌≡◌, ◌≤◌, ◌<◌, Bool, true, false, cond, if◌then◌else◌, List, [], ◌∷◌, ◌++◌, refl, sym, ap, subst, ◌∙◌, arith}
use Rattle.std.specs.Prelude.{ℕ, Option, Some, None, Result, Ok, Err, IfErr, IsOk, nat_le}
use Rattle.apl_arrays.specs.Array.{PlainArray}
use Rattle.apl_arrays.specs.declared.report.Fail.{Fail}
use Rattle.apl_arrays.specs.declared.report.Fail.TheVariants as fail
use Rattle.apl_arrays.specs.declared.report.Report.{Report}
use Rattle.apl_arrays.specs.declared.report.Report.TheVariants.{Syntax, WsFull}
use Rattle.apl_items.specs.Answers.{first_report, unless}
use Rattle.apl_items.specs.Places.{OnWantOfMemory}
use Rattle.apl_selection.specs.Assignment.{assign_faults, assign_of, overlaid_array}
use Rattle.apl_workspace.specs.Limits.{most_weight}
use Rattle.apl_workspace.specs.Meaning.{is_shared_meaning}
use Rattle.apl_workspace.specs.Workspace.{IsNotAssigned, IsTooHeavy, PlainWorkspace, assigned, is_assignable, look, workspace_weight}
use Rattle.apl_workspace.specs.declared.meaning.Meaning.{Meaning}
use Rattle.apl_workspace.specs.declared.meaning.Meaning.TheVariants as meaning
use Rattle.std.proofs.lemmas.Bool.{false≢true, le-leb}
use Rattle.std.proofs.lemmas.Bool.Decides.{nat_tests}
use Rattle.sv_events.specs.Answer.{PlainAnswer}
use Rattle.apl_meaning.specs.Deeds.{Deed, offer, ask_degree, set_control, ask_control, ask_state, retract}
use Rattle.apl_meaning.specs.Naming.{Naming}
use Rattle.sv_events.specs.Row.{answer_row}
use Rattle.sv_events.specs.declared.event.Act.TheVariants as act
use Rattle.apl_meaning.specs.Answers.{answer_taken_from, report_of_kind, unless_ended, with_copy}
use Rattle.apl_meaning.specs.Expressions.{Found}
use Rattle.apl_meaning.specs.Nodes.{assign_step, leaving_values}
use Rattle.apl_meaning.specs.State.{State, Outcome, Effect, and_then, gives, refuses, asks, with_workspace}
use Rattle.apl_meaning.specs.Variables.{assignment, assignment_by}
use Rattle.apl_values.specs.Rows.{PlainNameRow, deed_act, rows_act}
use Rattle.apl_values.specs.declared.values.StackValue.{StackValue}
use Rattle.apl_values.specs.Values.{stack_value}
use Rattle.apl_statements.specs.declared.evaluation.Evaluation.{Evaluation}
use Rattle.apl_statements.specs.declared.flow.Flow.{Flow}
use Rattle.apl_statements.specs.Holding.{parts_of, stack_values}
use Rattle.apl_statements.specs.Interpreter.{PlainInterpreter, state_at}
use Rattle.apl_statements.specs.Moves.{Does}
use Rattle.apl_statements.specs.Wants.{CopyFits, IsNoReport, NoReportIsDue}
use Rattle.apl_statements.proofs.Held.{taken_one}

-- a name for whose value there is no memory takes one
pub assigned_want : {T : Type 0} (r : Result T Fail) (there takes : Bool) (w : PlainWorkspace) → IfErr r (IsNotAssigned there takes w) → OnWantOfMemory r (takes ≡ true)
assigned_want (Ok done) there takes w refused = tt
assigned_want (Err (fail.Report report)) there takes w refused = tt
assigned_want (Err fail.WantOfMemory) there takes w refused = refused.0

-- a shared name takes a value
pub shared_takes : (m : Meaning) → is_shared_meaning m ≡ true → is_assignable m ≡ true
shared_takes meaning.Nothing shared = refl
shared_takes (meaning.Value value) shared = refl
shared_takes (meaning.Function function) shared = absurd (false≢true shared)
shared_takes (meaning.Label line) shared = absurd (false≢true shared)
shared_takes (meaning.Shared copy) shared = refl

-- and so does a name that got one
pub given_takes : (m n : PlainInterpreter) (name : List ℕ) (value : PlainArray) (seen : Meaning) → look m.workspace name ≡ seen → Does m (assignment name value) n → is_assignable seen ≡ true
given_takes m n name value meaning.Nothing is done = refl
given_takes m n name value (meaning.Value old) is done = refl
given_takes m n name value (meaning.Function function) is done =
    let s : State = state_at m [] 0 [] [] in
    absurd (subst (λ (o : Outcome (Unit {0})). IsNoReport o) (sym (ap (λ (x : Meaning). assignment_by x name value s) (sym is) ∙ done.same [] 0 [] [])) (tt {0}))
given_takes m n name value (meaning.Label line) is done =
    let s : State = state_at m [] 0 [] [] in
    absurd (subst (λ (o : Outcome (Unit {0})). IsNoReport o) (sym (ap (λ (x : Meaning). assignment_by x name value s) (sym is) ∙ done.same [] 0 [] [])) (tt {0}))
given_takes m n name value (meaning.Shared copy) is done = refl

-- an array where there is no report
pub unless_none : (report : Option Report) (array : PlainArray) → report ≡ None → IsOk (unless report array)
unless_none None array none = refl
unless_none (Some report) array none = absurd (let no : Some report ≡ None = none in cc)

-- items that are replaced are there
pub items_there : (why : Fail) (old : PlainArray) (subs : List (Option PlainArray)) (right : PlainArray) → OnWantOfMemory {T = PlainArray} (Err why) (first_report (assign_faults old subs right) ≡ None)
    → OnWantOfMemory {T = Flow} (Err why) (IsOk (assign_of old subs right))
items_there (fail.Report report) old subs right none = tt
items_there fail.WantOfMemory old subs right none = unless_none (first_report (assign_faults old subs right)) (overlaid_array old subs right) none

-- a value for which there is no memory would fit
pub assigned_room : {T : Type 0} (r : Result T Fail) (there takes : Bool) (w : PlainWorkspace) → IfErr r (IsNotAssigned there takes w) → OnWantOfMemory r (workspace_weight w ≤ most_weight)
assigned_room (Ok done) there takes w refused = tt
assigned_room (Err (fail.Report report)) there takes w refused = tt
assigned_room (Err fail.WantOfMemory) there takes w refused = refused.2

within : (a b : ℕ) → nat_le a b ≡ true → a ≤ b
within a b e = grind (arith, nat_tests)

above : (a b : ℕ) → nat_le a b ≡ false → b < a
above a b e = grind (arith, nat_tests)

-- why a value was not taken, by whether it would fit
pub taken_where : (takes : Bool) (w : PlainWorkspace) (fits : Bool) → takes ≡ true → fits ≡ nat_le (workspace_weight w) most_weight → IsNotAssigned false takes w (cond fits fail.WantOfMemory (fail.Report WsFull))
taken_where true w true takes is = (refl, refl, within (workspace_weight w) most_weight (sym is))
taken_where true w false takes is = (refl, above (workspace_weight w) most_weight (sym is))
taken_where false w fits takes is = absurd (false≢true takes)

pub takes_none : (takes : Bool) (w : PlainWorkspace) → takes ≡ false → IsNotAssigned false takes w (fail.Report Syntax)
takes_none false w takes = refl
takes_none true w takes = absurd (false≢true (sym takes))

-- a renewal that takes no memory is never refused for want of it
pub renewed_room : {T : Type 0} (r : Result T Fail) (w : PlainWorkspace) (fact : Type 0) → IfErr r (IsTooHeavy w) → OnWantOfMemory r fact
renewed_room (Ok done) w fact heavy = tt
renewed_room (Err (fail.Report report)) w fact heavy = tt
renewed_room (Err fail.WantOfMemory) w fact heavy = absurd (cc (heavy.0))

-- a copy for which there is no memory would fit, by whether it would
pub kept_room : (T : Type 0) (w : PlainWorkspace) (fits : Bool) → fits ≡ nat_le (workspace_weight w) most_weight → OnWantOfMemory {T = T} (Err (cond fits fail.WantOfMemory (fail.Report WsFull))) (workspace_weight w ≤ most_weight)
kept_room T w true is = within (workspace_weight w) most_weight (sym is)
kept_room T w false is = tt

-- a copy that would not fit is too heavy
pub kept_heavy : (w : PlainWorkspace) → false ≡ nat_le (workspace_weight w) most_weight → IsTooHeavy w (fail.Report WsFull)
kept_heavy w is = (refl, above (workspace_weight w) most_weight (sym is))

deed_brings_no_copy : (w : PlainWorkspace) (deed : Deed) (names : Naming) (answer : PlainAnswer) → CopyFits w (deed_act deed names w) answer
deed_brings_no_copy w (offer to) names answer = tt
deed_brings_no_copy w ask_degree names answer = tt
deed_brings_no_copy w (set_control control) names answer = tt
deed_brings_no_copy w ask_control names answer = tt
deed_brings_no_copy w ask_state names answer = tt
deed_brings_no_copy w retract names answer = tt

-- the answer of a row brings no own copy
pub row_brings_no_copy : (w : PlainWorkspace) (rows : List PlainNameRow) (answer : PlainAnswer) → CopyFits w (rows_act rows w) answer
row_brings_no_copy w [] answer = tt
row_brings_no_copy w (row ∷ rows) answer = deed_brings_no_copy w row.1 row.0 answer

-- a name for which a value could not be copied takes one
pub not_copied_takes : (T : Type 0) (why : Fail) (seen : Meaning) (w : PlainWorkspace) (shared : Bool) → is_shared_meaning seen ≡ shared → (shared ≡ false → IsNotAssigned false (is_assignable seen) w why)
    → OnWantOfMemory {T = T} (Err why) (is_assignable seen ≡ true)
not_copied_takes T (fail.Report report) seen w shared is other = tt
not_copied_takes T fail.WantOfMemory seen w true is other = shared_takes seen is
not_copied_takes T fail.WantOfMemory seen w false is other = (other refl).0

-- and the value would fit
pub not_copied_fits : (T : Type 0) (why : Fail) (takes : Bool) (w : PlainWorkspace) → IsNotAssigned false takes w why → OnWantOfMemory {T = T} (Err why) (workspace_weight w ≤ most_weight)
not_copied_fits T (fail.Report report) takes w refused = tt
not_copied_fits T fail.WantOfMemory takes w refused = refused.2

-- ---- a name is assigned

-- a name is assigned, and the value is given
abbrev gives_assigned : List ℕ → PlainArray → Effect → Outcome Found
gives_assigned name value effect = and_then effect (λ _ t. gives (Some value) t)

weighs_little : (name : List ℕ) (value : PlainArray) (s : State) → workspace_weight (assigned s.workspace name value) ≤ most_weight → IsNoReport (gives_assigned name value (with_workspace (assigned s.workspace name value) s))
weighs_little name value s fits =
    let w : PlainWorkspace = assigned s.workspace name value in
    subst (λ (b : Bool). IsNoReport (gives_assigned name value (if b then gives tt (record s { workspace = w }) else refuses WsFull s))) (sym (le-leb (workspace_weight w) most_weight fits)) tt

takes_it : (seen : Meaning) (name : List ℕ) (value : PlainArray) (s : State) → s.answers ≡ [] → is_assignable seen ≡ true → (is_shared_meaning seen ≡ false → workspace_weight (assigned s.workspace name value) ≤ most_weight)
    → IsNoReport (gives_assigned name value (assignment_by seen name value s))
takes_it meaning.Nothing name value s none may fits = weighs_little name value s (fits refl)
takes_it (meaning.Value old) name value s none may fits = weighs_little name value s (fits refl)
takes_it (meaning.Function function) name value s none may fits = absurd (false≢true may)
takes_it (meaning.Label line) name value s none may fits = absurd (false≢true may)
takes_it (meaning.Shared copy) name value s none may fits =
    subst (λ (answers : List PlainAnswer). IsNoReport (gives_assigned name value
    (and_then (and_then (answer_taken_from answers (act.Set name value) s) (λ answer t. unless_ended (report_of_kind (answer_row answer).row.kind) answer t)) (λ _ t. with_copy name value t)))) (sym none) tt

-- what is found, before the values behind it
found_free : (values : List PlainArray) (o : Outcome Found) → IsNoReport o → IsNoReport (leaving_values values o)
found_free values (gives found s) free = tt
found_free values (refuses report s) free = free
found_free values (asks asked s) free = tt

-- where memory ran out for an assignment of the newest value, no report of it was due
pub assign_wants : {T : Type 0} (r : Result T Fail) (m : PlainInterpreter) (e after : Evaluation) (name : List ℕ) (h : StackValue) (value : PlainArray) → after ≡ record e { values = after.values } → e.values.items ≡ after.values.items ++ h ∷ []
    → value ≡ stack_value m.workspace (parts_of after) h → OnWantOfMemory r (is_assignable (look m.workspace name) ≡ true) → (is_shared_meaning (look m.workspace name) ≡ false → OnWantOfMemory r (workspace_weight (assigned m.workspace name value) ≤ most_weight))
    → OnWantOfMemory r (NoReportIsDue m (assign_step name (stack_values m.workspace e)))
assign_wants (Ok done) m e after name h value same items is may fits = tt
assign_wants (Err (fail.Report report)) m e after name h value same items is may fits = tt
assign_wants (Err fail.WantOfMemory) m e after name h value same items is may fits = λ asked count taken.
    let s : State = state_at m asked count taken [] in
    let w : PlainWorkspace = m.workspace in
    let first : PlainArray = stack_value w (parts_of e) h in
    let own : value ≡ first = is ∙ ap (λ (x : Evaluation). stack_value w (parts_of x) h) same in
    subst (λ (values : List PlainArray). IsNoReport (assign_step name values s)) (sym (taken_one w e after h same items))
    (found_free (stack_values w after) (gives_assigned name first (assignment name first s))
    (takes_it (look w name) name first s refl may (λ apart. subst (λ (x : PlainArray). workspace_weight (assigned w name x) ≤ most_weight) own (fits apart))))

-- why a call failed, whatever it was to give
pub want_as : (S T : Type 0) (why : Fail) (fact : Type 0) → OnWantOfMemory {T = S} (Err why) fact → OnWantOfMemory {T = T} (Err why) fact
want_as S T (fail.Report report) fact holds = tt
want_as S T fail.WantOfMemory fact holds = holds
