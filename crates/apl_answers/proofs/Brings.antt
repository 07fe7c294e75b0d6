-- What an answer brings, and what an assignment does: the workspace changes, and the statement goes on.
use Rattle.std.proofs.Common.{◌≡◌, ℕ, ◌≤◌, Bool, true, false, List, refl, sym, ap, ◌∙◌}
use Rattle.std.specs.Prelude.{◌&&◌, Option, Some, None, Err, IfSome, cond, not, is_some}
use Rattle.std.proofs.lemmas.Bool.{false≢true}
use Rattle.apl_arrays.specs.Array.{PlainArray}
use Rattle.apl_arrays.specs.declared.report.Report.{Report}
use Rattle.apl_arrays.specs.declared.report.Fail.{Fail}
use Rattle.apl_arrays.specs.declared.report.Fail.TheVariants as fail
use Rattle.apl_workspace.specs.Limits.{most_weight}
use Rattle.apl_workspace.specs.Meaning.{IsLocal, is_shared_meaning, meaning_in}
use Rattle.apl_workspace.specs.Workspace.{IsNotAssigned, IsWorkspace, PlainWorkspace, assigned, innermost, is_assignable, is_local, look, seen_by, with_global, workspace_weight}
use Rattle.apl_workspace.specs.declared.meaning.Meaning.{Meaning}
use Rattle.apl_workspace.specs.declared.meaning.Meaning.TheVariants as meaning
use Rattle.apl_workspace.proofs.Looks.{look_assigned, look_with}
use Rattle.apl_workspace.proofs.NameLaw.{own_name}
use Rattle.apl_meaning.specs.State.{State, Outcome, Effect, gives, refuses, and_then}
use Rattle.apl_meaning.specs.Tasks.{Next}
use Rattle.apl_meaning.specs.Expressions.{Found}
use Rattle.apl_meaning.specs.Variables.{assignment, assignment_by}
use Rattle.apl_values.specs.Pending.{assigned_giving}
use Rattle.apl_values.proofs.Locals.{frames_are_local}
use Rattle.apl_statements.specs.declared.evaluation.Evaluation.{Evaluation}
use Rattle.apl_statements.specs.Evaluating.{caller_of}
use Rattle.apl_statements.specs.Interpreter.{PlainInterpreter, here, state_at}
use Rattle.apl_statements.specs.Moves.{Comes, Does, Moves, Refuses, part_gives}
use Rattle.apl_statements.specs.Stack.{PlainCaller, carried_on, onward, resumed}
use Rattle.apl_statements.proofs.Renewing.{changed, not_changed, on}
use Rattle.apl_statements.proofs.Same.{at_once, behind_done, moves_as, moves_then}
use Rattle.apl_statements.proofs.Steps.{grouped}

-- a part that was done on another workspace, and then what the statement gets
pub done_then : (m : PlainInterpreter) (v : PlainWorkspace) (e after : Evaluation) (part : State → Effect) (rest : State → Outcome Found) → Does m part (on m v) → caller_of v (here m) after ≡ caller_of m.workspace (here m) e
    → Moves m (part_gives m e (λ s. and_then (part s) (λ _ t. rest t))) 0 (on m v) (part_gives (on m v) after rest)
done_then m v e after part rest done same =
    let under : Found → State → Outcome Next = λ found t. onward (resumed found (caller_of m.workspace (here m) e)) m.stack t in
    moves_as m (on m v) (part_gives m e (λ s. and_then (part s) (λ _ t. rest t))) (λ s. and_then (part s) (λ _ t. and_then (rest t) under)) (part_gives (on m v) after rest) 0
    (λ asked count taken further. grouped (part (state_at m asked count taken further)) (λ _ t. rest t) under)
    (moves_then m (on m v) (λ s. and_then (part s) (λ _ t. and_then (rest t) under)) (λ t. and_then (rest t) under) (part_gives (on m v) after rest) 0 (λ t.
    ap (λ (c : PlainCaller). carried_on (rest t) c m.stack) (sym same)) (behind_done m (on m v) part (λ t. and_then (rest t) under) done))

-- ---- assignments

-- a name that stands for this takes a value, and the workspace does not weigh too much
assigned_where : (m : PlainInterpreter) (name : List ℕ) (value : PlainArray) (seen : Meaning) → look m.workspace name ≡ seen → is_assignable seen ≡ true → is_shared_meaning seen ≡ false → workspace_weight (assigned m.workspace name value) ≤ most_weight
    → Does m (λ s. assignment_by seen name value s) (on m (assigned m.workspace name value))
assigned_where m name value meaning.Nothing is takes shared fits = record { same = (changed m (assigned m.workspace name value) fits).same }
assigned_where m name value (meaning.Value old) is takes shared fits = record { same = (changed m (assigned m.workspace name value) fits).same }
assigned_where m name value (meaning.Function function) is takes shared fits = absurd (false≢true takes)
assigned_where m name value (meaning.Label line) is takes shared fits = absurd (false≢true takes)
assigned_where m name value (meaning.Shared copy) is takes shared fits = absurd (false≢true (sym shared))

pub assignment_does : (m : PlainInterpreter) (name : List ℕ) (value : PlainArray) → is_assignable (look m.workspace name) ≡ true → is_shared_meaning (look m.workspace name) ≡ false → workspace_weight (assigned m.workspace name value) ≤ most_weight
    → Does m (assignment name value) (on m (assigned m.workspace name value))
assignment_does m name value takes shared fits = record { same = (assigned_where m name value (look m.workspace name) refl takes shared fits).same }

refused_where : (m : PlainInterpreter) (name : List ℕ) (value : PlainArray) (there : Bool) (seen : Meaning) (report : Report) → is_shared_meaning seen ≡ false → IsNotAssigned there (is_assignable seen) (assigned m.workspace name value) (fail.Report report)
    → Refuses m (λ s. assignment_by seen name value s) report m
refused_where m name value there meaning.Nothing report shared why = record { same = λ asked count taken further. (not_changed m (assigned m.workspace name value) why.1).same asked count taken further ∙ ap (λ (r : Report). refuses r (state_at m asked count taken further)) (sym why.0) }
refused_where m name value there (meaning.Value old) report shared why = record { same = λ asked count taken further. (not_changed m (assigned m.workspace name value) why.1).same asked count taken further ∙ ap (λ (r : Report). refuses r (state_at m asked count taken further)) (sym why.0) }
refused_where m name value there (meaning.Function function) report shared why = record { same = λ asked count taken further. ap (λ (r : Report). refuses r (state_at m asked count taken further)) (sym why) }
refused_where m name value there (meaning.Label line) report shared why = record { same = λ asked count taken further. ap (λ (r : Report). refuses r (state_at m asked count taken further)) (sym why) }
refused_where m name value there (meaning.Shared copy) report shared why = absurd (false≢true (sym shared))

pub assignment_refuses : (m : PlainInterpreter) (name : List ℕ) (value : PlainArray) (there : Bool) (report : Report) → is_shared_meaning (look m.workspace name) ≡ false → IsNotAssigned there (is_assignable (look m.workspace name)) (assigned m.workspace name value) (fail.Report report)
    → Refuses m (assignment name value) report m
assignment_refuses m name value there report shared why = record { same = (refused_where m name value there (look m.workspace name) report shared why).same }

-- a value that could not be copied for a name ends the line as its assignment would
pub not_copied_ends : (m : PlainInterpreter) (e : Evaluation) (name : List ℕ) (right : PlainArray) (why : Fail) (shared : Bool) → is_shared_meaning (look m.workspace name) ≡ shared → (shared ≡ true → why ≡ fail.WantOfMemory)
    → (shared ≡ false → IsNotAssigned false (is_assignable (look m.workspace name)) (assigned m.workspace name right) why) → Comes m (part_gives m e (assigned_giving name right right)) 0 m (Err why)
not_copied_ends m e name right fail.WantOfMemory shared is one other = tt
not_copied_ends m e name right (fail.Report report) true is one other = absurd (let no : fail.Report report ≡ fail.WantOfMemory = one refl in cc)
not_copied_ends m e name right (fail.Report report) false is one other =
    at_once m (part_gives m e (assigned_giving name right right)) (λ s. refuses report s) (λ asked count taken further.
    ap (λ (o : Effect). carried_on (and_then o (λ _ t. gives (Some right) t)) (caller_of m.workspace (here m) e) m.stack) ((assignment_refuses m name right false report is (other refl)).same asked count taken further))

-- the name has the value then
pub assigned_value : (w : PlainWorkspace) (name : List ℕ) (value : PlainArray) → look (assigned w name value) name ≡ meaning.Value value
assigned_value w name value = look_assigned w name name value ∙ ap (λ (b : Bool). cond b (meaning.Value value) (look w name)) (own_name name)

-- ---- names that are seen as shared

no_local : (local global : Option Meaning) → IfSome local IsLocal → is_shared_meaning (seen_by local global) ≡ true → is_some local ≡ false
no_local None global is shared = refl
no_local (Some meaning.Nothing) global is shared = absurd (false≢true shared)
no_local (Some (meaning.Value value)) global is shared = absurd (false≢true shared)
no_local (Some (meaning.Function function)) global is shared = absurd is
no_local (Some (meaning.Label line)) global is shared = absurd (false≢true shared)
no_local (Some (meaning.Shared copy)) global is shared = absurd is

-- no frame has a name that is seen as shared
pub shared_is_global : (w : PlainWorkspace) (name : List ℕ) → IsWorkspace w → is_shared_meaning (look w name) ≡ true → is_local w name ≡ false
shared_is_global w name h shared = no_local (innermost w.frames name) (meaning_in w.globals name) (frames_are_local w.frames name h.locals) shared

-- a shared name that is renewed has the value then
pub renewed_value : (w : PlainWorkspace) (name : List ℕ) (value : PlainArray) → IsWorkspace w → is_shared_meaning (look w name) ≡ true → look (with_global w name (meaning.Shared (Some value))) name ≡ meaning.Shared (Some value)
renewed_value w name value h shared =
    look_with w name name (meaning.Shared (Some value))
    ∙ ap (λ (b : Bool). cond (b && not (is_local w name)) (meaning.Shared (Some value)) (look w name)) (own_name name)
    ∙ ap (λ (b : Bool). cond (not b) (meaning.Shared (Some value)) (look w name)) (shared_is_global w name h shared)
