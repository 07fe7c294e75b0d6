-- What an answer brings that does not end the line, and the answer of a row with the rows that follow.
use Rattle.std.proofs.Common.{◌≡◌, ℕ, true, List, ◌∷◌, drop, refl, sym, ap, subst, ◌∙◌}
use Rattle.std.specs.Prelude.{ℤ, Option, Some, Result, map}
use Rattle.apl_arrays.specs.Array.{PlainArray}
use Rattle.apl_arrays.specs.declared.report.Fail.{Fail}
use Rattle.apl_workspace.specs.Workspace.{IsWorkspace, PlainWorkspace, global_in}
use Rattle.apl_meaning.specs.Answers.{got, with_copy}
use Rattle.apl_meaning.specs.Deeds.{Deed, offer, ask_degree, set_control, ask_control, ask_state, retract, value_of}
use Rattle.apl_meaning.specs.Expressions.{Found}
use Rattle.apl_meaning.specs.Naming.{Naming}
use Rattle.apl_meaning.specs.State.{State, Outcome, Effect, gives, and_then}
use Rattle.apl_meaning.specs.Tasks.{Next}
use Rattle.sv_events.specs.Answer.{PlainAnswer}
use Rattle.sv_events.specs.Row.{answer_row}
use Rattle.apl_values.specs.declared.rows.Rows.{Rows}
use Rattle.apl_values.specs.Pending.{brought, replaced, replaces}
use Rattle.apl_values.specs.Rows.{HasTold, MayBeDone, PlainNameRow, asks_act, rest_of_rows, row_done, row_numbers, rows_brought, rows_left}
use Rattle.apl_values.specs.Values.{settled}
use Rattle.apl_statements.specs.declared.evaluation.Evaluation.{Evaluation}
use Rattle.apl_statements.specs.declared.flow.Flow.{Flow}
use Rattle.apl_statements.specs.Evaluating.{caller_of}
use Rattle.apl_statements.specs.Interpreter.{PlainInterpreter, here, state_at}
use Rattle.apl_statements.specs.Moves.{Coming, Comes, Does, Moves, part_gives}
use Rattle.apl_statements.specs.Stack.{PlainCaller, carried_on}
use Rattle.apl_statements.specs.Holding.{IsWithValues}
use Rattle.apl_statements.proofs.Kept.{KeepsFunctions}
use Rattle.apl_statements.proofs.Moving.{comes_after}
use Rattle.apl_statements.proofs.Renewing.{on, settled_caller}
use Rattle.apl_statements.proofs.Same.{SameAt, moves_to}
use Rattle.apl_statements.proofs.Steps.{grouped}
use Rattle.apl_answers.proofs.Brings.{done_then}
use Rattle.apl_answers.proofs.Granted.{marked_keeps}
use Rattle.apl_answers.proofs.Shares.{unmarked_keeps_functions}

-- a part was done on another workspace, and the statement goes on to a third
pub goes_far : (m n o : PlainInterpreter) (v : PlainWorkspace) (e after : Evaluation) (part : State → Effect) (rest : State → Outcome Found) (r : Result Flow Fail)
    → n ≡ on m v → Does m part n → IsWithValues e (map (settled m.workspace) e.values.items) after → Comes n (part_gives n after rest) 0 o r → Comes m (part_gives m e (λ s. and_then (part s) (λ _ t. rest t))) 0 o r
goes_far m n o v e after part rest r is does with comes =
    let coming : Coming = part_gives m e (λ s. and_then (part s) (λ _ t. rest t)) in
    comes_after m n o coming (part_gives n after rest) 0 r
    (subst (λ (x : PlainInterpreter). Moves m coming 0 x (part_gives x after rest)) (sym is)
    (done_then m v e after part rest (subst (λ (x : PlainInterpreter). Does m part x) is does) (settled_caller m.workspace v (here m) e after with))) comes

-- the value whose items are replaced was got
pub items_got : (m : PlainInterpreter) (e : Evaluation) (name : List ℕ) (subs : List (Option PlainArray)) (right value : PlainArray) (answer : PlainAnswer) → (answer_row answer).value ≡ Some value
    → SameAt m (part_gives m e (brought (replaces name subs right) answer)) (part_gives m e (λ s. and_then (with_copy name value s) (λ _ t. replaced name subs right value t)))
items_got m e name subs right value answer is asked count taken further =
    let s : State = state_at m asked count taken further in
    let onto : Outcome Found → Outcome Next = λ o. carried_on o (caller_of m.workspace (here m) e) m.stack in
    ap (λ (found : Option PlainArray). onto (and_then (got name found s) (λ old t. replaced name subs right old t))) is
    ∙ ap onto (grouped (with_copy name value s) (λ _ t. gives value t) (λ old t. replaced name subs right old t))

-- ---- rows

-- a row was answered, and the rows that follow go on
pub row_goes_on : (m n o : PlainInterpreter) (e after : Evaluation) (rows told : Rows) (row : PlainNameRow) (answer : PlainAnswer) (r : Result Flow Fail) → rows_left rows ≡ row ∷ drop 1 (rows_left rows)
    → IsWithValues e (map (settled m.workspace) e.values.items) after → HasTold rows (row_numbers row.1 answer) told → n ≡ on m (row_done row.1 row.0 answer m.workspace)
    → Comes n (part_gives n after (rest_of_rows told.numbers.items (rows_left told) told.shape.items)) 0 o r → Comes m (part_gives m e (rows_brought rows.numbers.items (rows_left rows) rows.shape.items answer)) 0 o r
row_goes_on m n o e after rows told row answer r left with has is comes =
    let v : PlainWorkspace = row_done row.1 row.0 answer m.workspace in
    let others : List PlainNameRow = drop 1 (rows_left rows) in
    let coming : Coming = part_gives m e (rows_brought rows.numbers.items (rows_left rows) rows.shape.items answer) in
    let rest : State → Outcome Found = rest_of_rows told.numbers.items (rows_left told) told.shape.items in
    comes_after m n o coming (part_gives n after rest) 0 r
    (subst (λ (x : PlainInterpreter). Moves m coming 0 x (part_gives x after rest)) (sym is)
    (moves_to m (on m v) coming (part_gives (on m v) after rest) (λ asked count taken further.
    let t : State = state_at (on m v) asked count taken further in
    let under : PlainCaller = caller_of m.workspace (here m) e in
    ap (λ (list : List PlainNameRow). carried_on (rows_brought rows.numbers.items list rows.shape.items answer (state_at m asked count taken further)) under m.stack) left
    ∙ ap (λ (numbers : List ℤ). carried_on (rest_of_rows numbers others rows.shape.items t) under m.stack) (sym has.numbers)
    ∙ ap (λ (list : List PlainNameRow). carried_on (rest_of_rows told.numbers.items list rows.shape.items t) under m.stack) (sym has.rows)
    ∙ ap (λ (shape : List ℕ). carried_on (rest_of_rows told.numbers.items (rows_left told) shape t) under m.stack) (sym has.shape)
    ∙ ap (λ (c : PlainCaller). carried_on (rest t) c m.stack) (sym (settled_caller m.workspace v (here m) e after with))))) comes

keeps_itself : (w : PlainWorkspace) → KeepsFunctions w w
keeps_itself w = record { functions = λ name. refl; classes = λ n. refl; depth = refl; names = λ n name. refl }

-- what the answer of a row does keeps the functions of the workspace
pub row_keeps : (w : PlainWorkspace) (deed : Deed) (names : Naming) (answer : PlainAnswer) → IsWorkspace w → MayBeDone w deed names → asks_act w (names, deed) ≡ true → KeepsFunctions w (row_done deed names answer w)
row_keeps w (offer to) names answer rules may acts = marked_keeps w (record { local = names.local; surrogate = names.surrogate; to = to }) (value_of (global_in w names.local)) rules may.1
row_keeps w ask_degree names answer rules may acts = keeps_itself w
row_keeps w (set_control control) names answer rules may acts = keeps_itself w
row_keeps w ask_control names answer rules may acts = keeps_itself w
row_keeps w ask_state names answer rules may acts = keeps_itself w
row_keeps w retract names answer rules may acts = unmarked_keeps_functions w names.local (answer_row answer).value rules acts
