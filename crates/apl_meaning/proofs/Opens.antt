-- Where no name is shared, the first act of a line is an offer or a query.
use Rattle.std.proofs.Common.{◌≡◌, ℕ, zero, suc, ◌+◌, Bool, true, false, List, [], ◌∷◌, ◌++◌, inl, inr, refl, sym, subst, ◌∙◌, length}
use Rattle.std.specs.Prelude.{ℤ, pos, Option, Some, None, Result, Ok, Err, map, nat_le, unsigned_abs, unwrap_or, ◌==◌}
use Rattle.std.proofs.lemmas.Bool.{false≢true}
use Rattle.apl_arrays.specs.Array.{PlainArray, item_count, numbers_in, scalar}
use Rattle.apl_arrays.specs.declared.report.Report.{Report}
use Rattle.apl_arrays.specs.declared.report.Report.TheVariants.{Interrupt, Syntax, Value, WsFull}
use Rattle.apl_verbs.specs.declared.verb.Verb.{Verb}
use Rattle.apl_display.specs.Display.{display_lines}
use Rattle.apl_execute.specs.Text.{text_of}
use Rattle.apl_items.specs.Answers.{Faults, answer_of, first_report, shape_faults}
use Rattle.apl_items.specs.Extension.{number_at}
use Rattle.apl_items.specs.Places.{places}
use Rattle.apl_selection.specs.Assignment.{assign_of}
use Rattle.apl_selection.specs.Indexing.{selection_of}
use Rattle.apl_workspace.specs.Function.{PlainFunction}
use Rattle.apl_workspace.specs.Limits.{most_depth, most_printed}
use Rattle.apl_workspace.specs.Meaning.{is_shared_meaning}
use Rattle.apl_workspace.specs.Workspace.{PlainWorkspace, assigned, global_in, is_shared, look, marked, with_frame, with_printed}
use Rattle.apl_workspace.specs.declared.args.Args.{Args}
use Rattle.apl_workspace.specs.declared.meaning.Meaning.{Meaning}
use Rattle.apl_workspace.specs.declared.meaning.Meaning.TheVariants as meaning
use Rattle.apl_arrays.specs.declared.system.SystemName.{SystemName}
use Rattle.apl_arrays.specs.declared.system.SystemName.TheVariants.{Svo, Svc, Svr, Svq, Svs}
use Rattle.line_trees.specs.declared.tree.Fun.{Fun}
use Rattle.line_trees.specs.declared.tree.Fun.TheVariants as fun
use Rattle.line_trees.specs.Trees.{Expr, constant, value, niladic, paren, indexed, monadic, monadic_along, dyadic, dyadic_along, assign, assign_at, Subscripts, no_more, omitted, given as given_subscript, Statement, nothing, branch, whole, execute, LineTree}
use Rattle.sv_events.specs.Answer.{PlainAnswer}
use Rattle.sv_events.specs.Row.{answer_row}
use Rattle.sv_events.specs.declared.event.Act.{Act}
use Rattle.sv_events.specs.declared.event.Act.TheVariants as act
use Rattle.apl_meaning.specs.State.{State, Outcome, gives, refuses, asks, and_then, state_of, outcome_of, with_workspace}
use Rattle.apl_meaning.specs.Variables.{assignment, assignment_by, items_assignment, reference, reference_by, target_by}
use Rattle.operator_rules.specs.Apply.{applied}
use Rattle.apl_meaning.specs.Verbs.{application, may_be_applied, named_axis}
use Rattle.apl_meaning.specs.Naming.{Naming, naming_count, naming_faults}
use Rattle.apl_meaning.specs.Deeds.{Deed, offer, ask_degree, set_control, ask_control, ask_state, retract, degree_in, vector_in, value_of, zeros, asked_and_told, retraction, where_shared, if_shared, done_for, done_for_all}
use Rattle.apl_meaning.specs.Sharing.{addressee_at, control_at, control_faults, for_each_row, offer_faults, rows_outcome, unless_wrong}
use Rattle.apl_meaning.specs.Queries.{name_matrix, party_vector, query_by, query_faults, system_outcome}
use Rattle.apl_meaning.specs.Tasks.{Next, goes_on, Place, immediate, in_function, Task, lines_from, text_at, Run, begun, begun_by, following, line_numbered}
use Rattle.apl_meaning.specs.Calls.{entering, leaving, call, call_by, called, takes}
use Rattle.apl_meaning.specs.Expressions.{Found, constant_array, needed, needed_value, valued, performed, performed_along, evaluated, evaluated_subscripts}
use Rattle.apl_meaning.specs.Printing.{function_line_shown, line_printed, lines_printed}
use Rattle.apl_meaning.specs.Reading.{Read, read_with}
use Rattle.apl_meaning.specs.Statements.{branch_to, is_misplaced, is_silent, line_by, line_outcome, place_of_text, read_outcome, shown, statement_outcome, text_outcome}
use Rattle.apl_meaning.specs.Meaning.{closed, function_line, mean, run_below, standing_at, start_of}
use Rattle.apl_meaning.specs.Laws.{BeginsWithOpening, SharesNothing, waiting_act}
use Rattle.apl_meaning.proofs.Steady.{by_bool, by_here, by_workspace, changed, refused, shown_at}
use Rattle.apl_meaning.proofs.Names.{applies, assigned_by, does, listed, referred_by, targeted_by}
use Rattle.apl_meaning.proofs.Trees.{enters, leaves}
use Rattle.apl_meaning.proofs.Lines.{begins, printing}
use Rattle.apl_meaning.proofs.Opening.{AskedOpening, IsGood, Opens, OpensFirst, assigned_unshared, entered_unshared, good_both, good_by_workspace, good_given, good_opening, good_refused, good_resulting, left_unshared, look_unshared, moved, not_shared, opens_by_bool, opens_given, opens_refused, opens_weighed}

-- ---- names

opens_reference : (m : Meaning) (name : List ℕ) → is_shared_meaning m ≡ false → Opens (reference_by m name)
opens_reference meaning.Nothing name e = opens_refused PlainArray Value
opens_reference (meaning.Value v) name e = opens_given v
opens_reference (meaning.Function function) name e = opens_refused PlainArray Syntax
opens_reference (meaning.Label line) name e = opens_given (scalar (pos line))
opens_reference (meaning.Shared copy) name e = absurd (false≢true (sym e))

good_reference : (name : List ℕ) → IsGood (reference name)
good_reference name = good_by_workspace (λ w. referred_by (look w name) name) (λ w h. opens_reference (look w name) name (look_unshared w name h))

opens_assignment : (m : Meaning) (name : List ℕ) (v : PlainArray) → is_shared_meaning m ≡ false → Opens (assignment_by m name v)
opens_assignment meaning.Nothing name v e = opens_weighed (λ w. assigned w name v) (λ w h. assigned_unshared w name v h)
opens_assignment (meaning.Value old) name v e = opens_weighed (λ w. assigned w name v) (λ w h. assigned_unshared w name v h)
opens_assignment (meaning.Function function) name v e = opens_refused (Unit {0}) Syntax
opens_assignment (meaning.Label line) name v e = opens_refused (Unit {0}) Syntax
opens_assignment (meaning.Shared copy) name v e = absurd (false≢true (sym e))

good_assignment : (name : List ℕ) (v : PlainArray) → IsGood (assignment name v)
good_assignment name v = good_by_workspace (λ w. assigned_by (look w name) name v) (λ w h. opens_assignment (look w name) name v (look_unshared w name h))

opens_target : (m : Meaning) (name : List ℕ) → is_shared_meaning m ≡ false → Opens (target_by m name)
opens_target meaning.Nothing name e = opens_refused PlainArray Value
opens_target (meaning.Value v) name e = opens_given v
opens_target (meaning.Function function) name e = opens_refused PlainArray Syntax
opens_target (meaning.Label line) name e = opens_refused PlainArray Syntax
opens_target (meaning.Shared copy) name e = absurd (false≢true (sym e))

good_items : (name : List ℕ) (subs : List (Option PlainArray)) (v : PlainArray) → IsGood (items_assignment name subs v)
good_items name subs v =
    good_both (good_by_workspace (λ w. targeted_by (look w name) name) (λ w h. opens_target (look w name) name (look_unshared w name h))) (λ old.
    good_both (good_resulting (assign_of old subs v)) (λ new. good_assignment name new))

opens_application : (r : Result PlainArray Report) → Opens (λ (s : State). outcome_of r (record s { applications = s.applications + 1 }))
opens_application (Ok v) s h = inl (refl, h)
opens_application (Err report) s h = inl refl

good_application : (f : Verb) (left : Option PlainArray) (right : PlainArray) (axis : Option ℤ) → IsGood (application f left right axis)
good_application f left right axis = record {
  steady = applies f left right axis;
  opens =
      opens_by_bool (may_be_applied f left axis) (λ s. outcome_of (applied f left right axis) (record s { applications = s.applications + 1 })) (λ s. refuses Syntax s)
      (opens_application (applied f left right axis)) (opens_refused PlainArray Syntax);
}

-- ---- rows

opens_where : (b : Bool) → b ≡ false → (none : List ℤ) (next : State → Outcome (List ℤ)) → Opens (where_shared b none next)
opens_where true e none next = absurd (false≢true (sym e))
opens_where false e none next = opens_given none

opens_if_shared : (name : List ℕ) (none : List ℤ) (next : State → Outcome (List ℤ)) → Opens (if_shared name none next)
opens_if_shared name none next s h = opens_where (is_shared s.workspace name) (not_shared s.workspace name h) none next s h

opens_deed : (deed : Deed) (names : Naming) → Opens (done_for deed names)
opens_deed (offer to) names s h =
    (good_opening (act.Offer to names.local names.surrogate (value_of (global_in s.workspace names.local))) tt (λ answer.
    changed (degree_in answer) (λ w. marked w (record { local = names.local; surrogate = names.surrogate; to = to }) (value_of (global_in s.workspace names.local))))).opens s h
opens_deed ask_degree names s h = opens_if_shared names.local (pos 0 ∷ []) (asked_and_told degree_in (act.AskDegree names.local)) s h
opens_deed (set_control control) names s h = opens_if_shared names.local zeros (asked_and_told vector_in (act.SetControl names.local control)) s h
opens_deed ask_control names s h = opens_if_shared names.local zeros (asked_and_told vector_in (act.AskControl names.local)) s h
opens_deed ask_state names s h = opens_if_shared names.local zeros (asked_and_told vector_in (act.AskState names.local)) s h
opens_deed retract names s h = opens_if_shared names.local (pos 0 ∷ []) (retraction names.local) s h

good_deed : (deed : Deed) (names : Naming) → IsGood (done_for deed names)
good_deed deed names = record { steady = does deed names; opens = opens_deed deed names }

good_deeds : (rows : List (Naming × Deed)) → IsGood (done_for_all rows)
good_deeds [] = good_given []
good_deeds (row ∷ rows) = good_both (good_deed row.1 row.0) (λ numbers. good_both (good_deeds rows) (λ others. good_given (numbers ++ others)))

good_right : {T : Type 0} (wrong : Option Report) (next : State → Outcome T) → IsGood next → IsGood (unless_wrong wrong next)
good_right None next h = h
good_right (Some report) next h = good_refused report

good_rows : (faults : Faults) (n : PlainArray) (each : List ℕ) (deeds : List Deed) → IsGood (rows_outcome faults n each deeds)
good_rows faults n each deeds = good_right _ _ (good_both (good_deeds _) (λ numbers. good_given _))

good_query : (b : Bool) (array : PlainArray) → IsGood (query_by b array)
good_query true array = good_opening act.AskParties tt (λ answer. listed (party_vector (unwrap_or (answer_row answer).parties [])))
good_query false array = good_opening (act.AskNames (unsigned_abs (number_at (numbers_in array.items) 0))) tt (λ answer. listed (name_matrix (unwrap_or (answer_row answer).names [])))

opens_offers : (p n : PlainArray) → Opens (system_outcome Svo (Some p) n)
opens_offers p n s h = (good_rows (offer_faults s.workspace p n) n [] (map (λ row. offer (addressee_at p row)) (places (naming_count n)))).opens s h

good_offers : (p n : PlainArray) → IsGood (system_outcome Svo (Some p) n)
good_offers p n = record {
  steady = by_workspace (λ w. (good_rows (offer_faults w p n) n [] (map (λ row. offer (addressee_at p row)) (places (naming_count n)))).steady);
  opens = opens_offers p n;
}

good_system : (f : SystemName) (left : Option PlainArray) (argument : PlainArray) → IsGood (system_outcome f left argument)
good_system Svo None n = good_rows (naming_faults n []) n [] (for_each_row n ask_degree)
good_system Svo (Some p) n = good_offers p n
good_system Svc None n = good_rows (naming_faults n (4 ∷ [])) n (4 ∷ []) (for_each_row n ask_control)
good_system Svc (Some c) n = good_rows (control_faults c n) n (4 ∷ []) (map (λ row. set_control (control_at c row)) (places (naming_count n)))
good_system Svr left n = good_rows (naming_faults n []) n [] (for_each_row n retract)
good_system Svq left b = good_right (first_report (query_faults b)) (query_by (item_count b.items == 0) b) (good_query (item_count b.items == 0) b)
good_system Svs left n = good_rows (naming_faults n (4 ∷ [])) n (4 ∷ []) (for_each_row n ask_state)

-- ---- calls

-- whatever is begun is good
abbrev pub IsGoodRun : Run → Type 0
IsGoodRun run = (task : Task) → IsGood (run task)

opens_entering : (name : List ℕ) (args : Args) → Opens (entering name args)
opens_entering name args s h =
    opens_by_bool {T = Unit {0}} (nat_le most_depth (length s.workspace.frames)) (λ t. refuses WsFull t) (λ t. with_workspace (with_frame t.workspace name args) t) (opens_refused (Unit {0}) WsFull) (opens_weighed (λ w. with_frame w name args) (λ w k. entered_unshared w name args k)) s h

good_entering : (name : List ℕ) (args : Args) → IsGood (entering name args)
good_entering name args = record { steady = enters name args; opens = opens_entering name args }

good_leaving : (function : PlainFunction) (caller : List ℕ) → IsGood (leaving function caller)
good_leaving function caller = record { steady = leaves function caller; opens = λ s h. inl (refl, left_unshared s.workspace h) }

good_call_from : (run : Run) → IsGoodRun run → (function : PlainFunction) (name : List ℕ) (args : Args) (here : List ℕ) → IsGood (λ (s : State). and_then (entering name args s) (λ _ t. and_then (run (lines_from function 1) t) (λ _ t. leaving function here t)))
good_call_from run h function name args here = good_both (good_entering name args) (λ _. good_both (h (lines_from function 1)) (λ _. good_leaving function here))

good_call_by : (run : Run) → IsGoodRun run → (m : Meaning) (name : List ℕ) (args : Args) → IsGood (call_by run m name args)
good_call_by run h meaning.Nothing name args = good_refused Syntax
good_call_by run h (meaning.Value v) name args = good_refused Syntax
good_call_by run h (meaning.Function function) name args = record {
  steady = by_bool (takes function.header args) (by_here (λ here. (good_call_from run h function name args here).steady)) (refused Syntax);
  opens =
      opens_by_bool (takes function.header args) (λ s. called run function name args s) (λ s. refuses Syntax s)
      (λ s none. (good_call_from run h function name args s.here).opens s none) (opens_refused (Option PlainArray) Syntax);
}
good_call_by run h (meaning.Label line) name args = good_refused Syntax
good_call_by run h (meaning.Shared copy) name args = good_refused Syntax

good_call : (run : Run) → IsGoodRun run → (name : List ℕ) (args : Args) → IsGood (call run name args)
good_call run h name args = good_by_workspace (λ w. (good_call_by run h (look w name) name args).steady) (λ w none. (good_call_by run h (look w name) name args).opens)

-- ---- expressions

good_needed_value : (found : Found) → IsGood (needed_value found)
good_needed_value None = good_refused Value
good_needed_value (Some v) = good_given v

good_needed : {f : State → Outcome Found} → IsGood f → IsGood (λ (s : State). needed (f s))
good_needed h = good_both h good_needed_value

good_valued : {f : State → Outcome PlainArray} → IsGood f → IsGood (λ (s : State). valued (f s))
good_valued h = good_both h (λ v. good_given (Some v))

good_performed : (run : Run) → IsGoodRun run → (f : Fun) (left : Found) (right : PlainArray) (axis : Option ℤ) → IsGood (performed run f left right axis)
good_performed run h (fun.Verb f) left right axis = good_valued (good_application f left right axis)
good_performed run h (fun.Defined name) left right axis = good_call run h name (record { left = left; right = Some right })
good_performed run h (fun.System name) left right axis = good_valued (good_system name left right)

good_along : (run : Run) → IsGoodRun run → (f : Fun) (left : Found) (axis right : PlainArray) → IsGood (performed_along run f left axis right)
good_along run h f left axis right = good_both (good_resulting (named_axis axis)) (λ k. good_performed run h f left right (Some k))

mutual
  good_expression : (run : Run) → IsGoodRun run → (e : Expr) → IsGood (evaluated run e)
  good_expression run h (constant items) = good_valued (good_resulting (answer_of (shape_faults (constant_array items).shape) (constant_array items)))
  good_expression run h (value name) = good_valued (good_reference name)
  good_expression run h (niladic name) = good_call run h name (record { left = None; right = None })
  good_expression run h (paren e) = good_expression run h e
  good_expression run h (indexed e subs) =
      good_both (good_subscripts run h subs) (λ subs. good_both (good_needed (good_expression run h e)) (λ array. good_valued (good_resulting (selection_of array subs))))
  good_expression run h (monadic f right) = good_both (good_needed (good_expression run h right)) (λ right. good_performed run h f None right None)
  good_expression run h (monadic_along f axis right) =
      good_both (good_needed (good_expression run h right)) (λ right. good_both (good_needed (good_expression run h axis)) (λ axis. good_along run h f None axis right))
  good_expression run h (dyadic f left right) =
      good_both (good_needed (good_expression run h right)) (λ right. good_both (good_needed (good_expression run h left)) (λ left. good_performed run h f (Some left) right None))
  good_expression run h (dyadic_along f left axis right) =
      good_both (good_needed (good_expression run h right)) (λ right.
      good_both (good_needed (good_expression run h axis)) (λ axis. good_both (good_needed (good_expression run h left)) (λ left. good_along run h f (Some left) axis right)))
  good_expression run h (assign name right) = good_both (good_needed (good_expression run h right)) (λ right. good_both (good_assignment name right) (λ _. good_given (Some right)))
  good_expression run h (assign_at name subs right) =
      good_both (good_needed (good_expression run h right)) (λ right.
      good_both (good_subscripts run h subs) (λ subs. good_both (good_items name subs right) (λ _. good_given (Some right))))

  good_subscripts : (run : Run) → IsGoodRun run → (subs : Subscripts) → IsGood (evaluated_subscripts run subs)
  good_subscripts run h no_more = good_given []
  good_subscripts run h (omitted more) = good_both (good_subscripts run h more) (λ others. good_given (None ∷ others))
  good_subscripts run h (given_subscript e more) =
      good_both (good_subscripts run h more) (λ others. good_both (good_needed (good_expression run h e)) (λ sub. good_given (Some sub ∷ others)))

-- ---- statements

opens_line : (line : List ℕ) → Opens (line_printed line)
opens_line line s h =
    opens_by_bool {T = Unit {0}} (nat_le (s.workspace.printed + length line) most_printed) (λ t. gives tt (record t { printed = t.printed ++ line ∷ []; workspace = with_printed s.workspace (length line) })) (λ t. refuses Interrupt t)
    (λ t k. inl (refl, record { globals = h.globals; frames = h.frames })) (opens_refused (Unit {0}) Interrupt) s h

good_line : (line : List ℕ) → IsGood (line_printed line)
good_line line =
    record { steady = by_workspace (λ w. by_bool (nat_le (w.printed + length line) most_printed) (printing line w) (refused Interrupt)); opens = opens_line line }

good_lines : (lines : List (List ℕ)) → IsGood (lines_printed lines)
good_lines [] = good_given {T = Unit {0}} tt
good_lines (line ∷ lines) = good_both (good_line line) (λ _. good_lines lines)

good_shown : (silent : Bool) (found : Found) → IsGood (shown silent found)
good_shown true found = good_given {T = Unit {0}} tt
good_shown false None = good_given {T = Unit {0}} tt
good_shown false (Some v) = good_lines (display_lines v)

good_statement : (run : Run) → IsGoodRun run → (place : Place) (statement : Statement) → IsGood (statement_outcome run place statement)
good_statement run h place nothing = good_given goes_on
good_statement run h place (branch e) = good_both (good_needed (good_expression run h e)) (λ target. good_resulting (branch_to target))
good_statement run h place (whole e) = good_both (good_expression run h e) (λ found. good_both (good_shown (is_silent e) found) (λ _. good_given goes_on))
good_statement run h place (execute e) =
    good_both (good_needed (good_expression run h e)) (λ v. good_both (good_resulting (text_of v)) (λ text. h (text_at (place_of_text place) text)))

good_line_by : (b : Bool) (run : Run) → IsGoodRun run → (place : Place) (line : LineTree) → IsGood (line_by b run place line)
good_line_by true run h place line = good_refused Syntax
good_line_by false run h place line = good_statement run h place line.statement

good_tree : (run : Run) → IsGoodRun run → (place : Place) (line : LineTree) → IsGood (line_outcome run place line)
good_tree run h place line = good_line_by (is_misplaced place line) run h place line

good_read : (run : Run) → IsGoodRun run → (place : Place) (read : Read) → IsGood (read_outcome run place read)
good_read run h place (Ok line) = good_tree run h place line
good_read run h place (Err report) = good_refused report

good_text : (run : Run) → IsGoodRun run → (place : Place) (text : List ℕ) → IsGood (text_outcome run place text)
good_text run h place text = good_by_workspace (λ w. (good_read run h place (read_with w text)).steady) (λ w none. (good_read run h place (read_with w text)).opens)

-- ---- what is begun

opens_begun : {T : Type 0} (n : ℕ) (next : State → Outcome T) → Opens next → Opens (begun_by n next)
opens_begun {T} zero next h s none = opens_refused T Interrupt s none
opens_begun {T} (suc left) next h s none = moved s (record s { statements = left }) refl (next (record s { statements = left })) (h (record s { statements = left }) none)

good_begun : {T : Type 0} (next : State → Outcome T) → IsGood next → IsGood (begun next)
good_begun next h = record { steady = begins next h.steady; opens = λ s none. opens_begun s.statements next h.opens s none }

good_function_line : (run : Run) → IsGoodRun run → (function : PlainFunction) (number : ℕ) (line : Option (List ℕ)) → IsGood (function_line run function number line)
good_function_line run h function number None = good_given goes_on
good_function_line run h function number (Some line) =
    let shown_line = function_line_shown function.header.name number line in
    let first = good_begun (text_outcome run in_function line) (good_text run h in_function line) in
    let there : IsGood (λ (s : State). begun (text_outcome run in_function line) (standing_at shown_line s)) = record {
      steady = shown_at shown_line first.steady;
      opens = λ s none. moved s (standing_at shown_line s) refl (begun (text_outcome run in_function line) (standing_at shown_line s)) (first.opens (standing_at shown_line s) none);
    } in
    good_both there (λ next. h (lines_from function (following number next)))

good_run : (most : ℕ) → IsGoodRun (run_below most)
unfolding run_below
good_run zero task = good_refused Interrupt
good_run (suc most) (lines_from function number) = good_function_line (run_below most) (good_run most) function number (line_numbered function.lines number)
good_run (suc most) (text_at place text) = good_begun (text_outcome (run_below most) place text) (good_text (run_below most) (good_run most) place text)

-- ---- a line

no_act : (acts : List Act) (waiting : Option Act) → acts ≡ [] → BeginsWithOpening [] waiting → BeginsWithOpening acts waiting
no_act acts waiting e h = subst (λ (list : List Act). BeginsWithOpening list waiting) (sym e) h

first_act : (acts : List Act) (waiting : Option Act) (s t : State) → s.asked ≡ [] → t.asked ≡ acts → AskedOpening s t → BeginsWithOpening acts waiting
first_act acts waiting s t e d a =
    subst (λ (list : List Act). BeginsWithOpening list waiting) (sym a.asked ∙ d) (subst (λ (before : List Act). BeginsWithOpening (before ++ a.first ∷ a.acts) waiting) (sym e) a.opening)

begins_with : (s : State) (o : Outcome Next) → s.asked ≡ [] → OpensFirst s o → BeginsWithOpening (state_of (closed o)).asked (waiting_act (closed o))
begins_with s (gives next t) e k = elim k [ inl h ↦ no_act t.asked None (h.0 ∙ e) tt | inr a ↦ first_act t.asked None s t e refl a ]
begins_with s (refuses report t) e k = elim k [ inl h ↦ no_act t.asked None (h ∙ e) tt | inr a ↦ first_act t.asked None s t e refl a ]
begins_with s (asks waiting t) e k = elim k [ inl h ↦ no_act t.asked (Some waiting) (h.0 ∙ e) h.1 | inr a ↦ first_act t.asked (Some waiting) s t e refl a ]

pub opening_line : (tree : LineTree) (line : List ℕ) (w : PlainWorkspace) (answers : List PlainAnswer) (left : ℕ) → SharesNothing w → BeginsWithOpening (state_of (mean tree line w answers left)).asked (waiting_act (mean tree line w answers left))
opening_line tree line w answers left none =
    let h = good_begun (line_outcome (run_below left) immediate tree) (good_tree (run_below left) (good_run left) immediate tree) in
    begins_with (start_of line w answers left) (begun (line_outcome (run_below left) immediate tree) (start_of line w answers left)) refl (h.opens (start_of line w answers left) none)
