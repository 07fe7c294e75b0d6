-- What a call does that changes the workspace where it is granted.
use Rattle.std.proofs.Common.{◌≡◌, ◌≤◌, ℕ, Bool, true, false, cond, List, refl, sym, ap, subst, ◌∙◌}
use Rattle.std.specs.Prelude.{Option, Some, Result, Ok, Err, IfErr, OnErr, OnOk, nat_le}
use Rattle.apl_arrays.specs.Array.{PlainArray}
use Rattle.apl_arrays.specs.declared.report.Fail.{Fail}
use Rattle.apl_arrays.specs.declared.report.Fail.TheVariants as fail
use Rattle.apl_arrays.specs.declared.report.Report.{Report}
use Rattle.apl_arrays.specs.declared.report.Report.TheVariants.{WsFull}
use Rattle.apl_workspace.specs.Limits.{most_weight}
use Rattle.apl_workspace.specs.Meaning.{is_function_meaning, is_shared_meaning}
use Rattle.apl_workspace.specs.Workspace.{IsNotAssigned, IsTooHeavy, IsWorkspace, PlainWorkspace, assigned, global_in, is_assignable, look, marked, workspace_weight}
use Rattle.apl_workspace.specs.declared.meaning.Meaning.{Meaning}
use Rattle.apl_workspace.specs.declared.meaning.Meaning.TheVariants as meaning
use Rattle.apl_workspace.specs.declared.remake.Remake.{Remake}
use Rattle.apl_meaning.specs.Answers.{with_copy}
use Rattle.apl_meaning.specs.State.{refuses}
use Rattle.apl_meaning.specs.Variables.{assignment}
use Rattle.apl_values.proofs.Seen.{renewed}
use Rattle.apl_statements.specs.declared.interpreter.Interpreter.TheInside.{Inside}
use Rattle.apl_statements.specs.Interpreter.{PlainInterpreter, state_at}
use Rattle.apl_statements.specs.Moves.{Does, HasDone, Refuses}
use Rattle.apl_statements.specs.Sound.{plain_interpreter}
use Rattle.apl_statements.proofs.Kept.{KeepsFunctions}
use Rattle.apl_statements.proofs.Marks.{seen_shared, shared_is_no_function}
use Rattle.apl_statements.proofs.Renewing.{changed, not_changed, seen_if_err, seen_if_ok, whenever}
use Rattle.apl_answers.proofs.Brings.{assignment_does, assignment_refuses, renewed_value}
use Rattle.apl_answers.proofs.KeptByValue.{assigned_keeps_functions}
use Rattle.apl_answers.proofs.Shares.{share_keeps_functions}
use Rattle.apl_answers.proofs.Wanting.{kept_heavy}

-- the workspace of an interpreter keeps its rules
pub inside_rules : (inside : Inside) (m : PlainInterpreter) → plain_interpreter inside ≡ m → IsWorkspace m.workspace → IsWorkspace inside.workspace
inside_rules inside m view rules = subst (λ (x : PlainInterpreter). IsWorkspace x.workspace) (sym view) rules

-- ---- a value is assigned

takes_is_none : (m : Meaning) → is_assignable m ≡ true → is_function_meaning m ≡ false
takes_is_none meaning.Nothing takes = refl
takes_is_none (meaning.Value value) takes = refl
takes_is_none (meaning.Function function) takes = sym takes
takes_is_none (meaning.Label line) takes = refl
takes_is_none (meaning.Shared copy) takes = refl

module _ {T : Type 0} where
  pub assigned_keeps : (r : Result T Fail) (w : PlainWorkspace) (name : List ℕ) (value : PlainArray) → IsWorkspace w → OnOk r (is_assignable (look w name) ≡ true) → OnOk r (KeepsFunctions w (assigned w name value))
  assigned_keeps (Ok done) w name value rules takes = assigned_keeps_functions w name value rules (takes_is_none (look w name) takes)
  assigned_keeps (Err why) w name value rules takes = tt

  assignment_done : (r : Result T Fail) (m n : PlainInterpreter) (name : List ℕ) (value : PlainArray) (there : Bool) → is_shared_meaning (look m.workspace name) ≡ false
      → OnOk r (n ≡ record m { workspace = assigned m.workspace name value }) → OnErr r (n ≡ m)
      → OnOk r (is_assignable (look m.workspace name) ≡ true) → OnOk r (workspace_weight (assigned m.workspace name value) ≤ most_weight)
      → IfErr r (IsNotAssigned there (is_assignable (look m.workspace name)) (assigned m.workspace name value)) → HasDone m (assignment name value) n r
  assignment_done (Ok done) m n name value there unshared ok err takes fits refused = subst (λ (x : PlainInterpreter). Does m (assignment name value) x) (sym ok) (assignment_does m name value takes unshared fits)
  assignment_done (Err (fail.Report report)) m n name value there unshared ok err takes fits refused =
      subst (λ (x : PlainInterpreter). Refuses m (assignment name value) report x) (sym err) (assignment_refuses m name value there report unshared refused)
  assignment_done (Err fail.WantOfMemory) m n name value there unshared ok err takes fits refused = tt

  pub assigned_done : (r : Result T Fail) (inside : Inside) (m : PlainInterpreter) (u : PlainWorkspace) (name : List ℕ) (value : PlainArray) (there : Bool) → plain_interpreter inside ≡ m → IsWorkspace inside.workspace → is_shared_meaning (look m.workspace name) ≡ false
      → OnOk r (u ≡ assigned inside.workspace name value) → OnErr r (u ≡ inside.workspace)
      → OnOk r (is_assignable (look inside.workspace name) ≡ true) → OnOk r (workspace_weight (assigned inside.workspace name value) ≤ most_weight)
      → IfErr r (IsNotAssigned there (is_assignable (look inside.workspace name)) (assigned inside.workspace name value)) → HasDone m (assignment name value) (plain_interpreter (record inside { workspace = u })) r
  assigned_done r inside m u name value there view rules unshared ok err takes fits refused =
      let before : PlainInterpreter = plain_interpreter inside in
      let after : PlainInterpreter = plain_interpreter (record inside { workspace = u }) in
      subst (λ (x : PlainInterpreter). HasDone x (assignment name value) after r) view
      (assignment_done r before after name value there (ap (λ (x : PlainInterpreter). is_shared_meaning (look x.workspace name)) view ∙ unshared)
      (seen_if_ok r inside before u (λ (w : PlainWorkspace). assigned w name value) refl ok (assigned_keeps r inside.workspace name value rules takes)) (seen_if_err r inside before u refl err) takes fits refused)

-- ---- the own copy of a shared name is renewed

-- a name that is seen as shared is so inside
pub inside_shared : (inside : Inside) (m : PlainInterpreter) (name : List ℕ) → plain_interpreter inside ≡ m → is_shared_meaning (look m.workspace name) ≡ true → is_shared_meaning (look inside.workspace name) ≡ true
inside_shared inside m name view shared = ap (λ (x : PlainInterpreter). is_shared_meaning (look x.workspace name)) view ∙ shared

pub renewed_keeps : (w : PlainWorkspace) (name : List ℕ) (value : PlainArray) → IsWorkspace w → is_shared_meaning (look w name) ≡ true → KeepsFunctions w (renewed name value w)
renewed_keeps w name value rules shared = share_keeps_functions w name (Some value) rules (shared_is_no_function w name (seen_shared w name rules shared))

module _ {T : Type 0} where
  copy_done : (r : Result T Fail) (m n : PlainInterpreter) (name : List ℕ) (value : PlainArray) → OnOk r (n ≡ record m { workspace = renewed name value m.workspace }) → OnErr r (n ≡ m)
      → OnOk r (workspace_weight (renewed name value m.workspace) ≤ most_weight) → IfErr r (IsTooHeavy (renewed name value m.workspace)) → HasDone m (with_copy name value) n r
  copy_done (Ok done) m n name value ok err fits full = subst (λ (x : PlainInterpreter). Does m (with_copy name value) x) (sym ok) (record { same = (changed m (renewed name value m.workspace) fits).same })
  copy_done (Err (fail.Report report)) m n name value ok err fits full =
      let is : fail.Report report ≡ fail.Report WsFull = full.0 in
      let full_is : report ≡ WsFull = cc in
      subst (λ (x : PlainInterpreter). Refuses m (with_copy name value) report x) (sym err) (record {
        same = λ asked count taken further.
            (not_changed m (renewed name value m.workspace) full.1).same asked count taken further ∙ ap (λ (why : Report). refuses why (state_at m asked count taken further)) (sym full_is);
      })
  copy_done (Err fail.WantOfMemory) m n name value ok err fits full = tt

  pub renewed_done : (r : Result T Fail) (inside : Inside) (m : PlainInterpreter) (u : PlainWorkspace) (name : List ℕ) (value : PlainArray) → plain_interpreter inside ≡ m → IsWorkspace inside.workspace → is_shared_meaning (look m.workspace name) ≡ true
      → OnOk r (u ≡ renewed name value inside.workspace) → OnErr r (u ≡ inside.workspace)
      → OnOk r (workspace_weight (renewed name value inside.workspace) ≤ most_weight) → IfErr r (IsTooHeavy (renewed name value inside.workspace)) → HasDone m (with_copy name value) (plain_interpreter (record inside { workspace = u })) r
  renewed_done r inside m u name value view rules shared ok err fits full =
      let before : PlainInterpreter = plain_interpreter inside in
      let after : PlainInterpreter = plain_interpreter (record inside { workspace = u }) in
      subst (λ (x : PlainInterpreter). HasDone x (with_copy name value) after r) view
      (copy_done r before after name value
      (seen_if_ok r inside before u (renewed name value) refl ok (whenever r (renewed_keeps inside.workspace name value rules (inside_shared inside m name view shared)))) (seen_if_err r inside before u refl err) fits full)

  pub renewed_looks : (r : Result T Fail) (w u : PlainWorkspace) (name : List ℕ) (value : PlainArray) → IsWorkspace w → is_shared_meaning (look w name) ≡ true → OnOk r (u ≡ renewed name value w) → OnOk r (look u name ≡ meaning.Shared (Some value))
  renewed_looks (Ok done) w u name value rules shared ok = ap (λ (x : PlainWorkspace). look x name) ok ∙ renewed_value w name value rules shared
  renewed_looks (Err why) w u name value rules shared ok = tt

-- ---- a name that was offered is shared from now on

pub marked_keeps : (w : PlainWorkspace) (offer : Remake) (copy : Option PlainArray) → IsWorkspace w → is_function_meaning (global_in w offer.local) ≡ false → KeepsFunctions w (marked w offer copy)
marked_keeps w offer copy rules none = let keeps = share_keeps_functions w offer.local copy rules none in record { functions = keeps.functions; classes = keeps.classes; depth = keeps.depth; names = keeps.names }

-- a name that is no function is none inside
pub inside_none : (inside : Inside) (m : PlainInterpreter) (name : List ℕ) → plain_interpreter inside ≡ m → is_function_meaning (global_in m.workspace name) ≡ false → is_function_meaning (global_in inside.workspace name) ≡ false
inside_none inside m name view none = ap (λ (x : PlainInterpreter). is_function_meaning (global_in x.workspace name)) view ∙ none

-- a copy was not kept, by whether it would fit
pub renewed_not : (T : Type 0) (inside : Inside) (m : PlainInterpreter) (name : List ℕ) (value : PlainArray) (fits : Bool) → plain_interpreter inside ≡ m → IsWorkspace inside.workspace → is_shared_meaning (look m.workspace name) ≡ true
    → fits ≡ nat_le (workspace_weight (renewed name value inside.workspace)) most_weight → HasDone {T = T} m (with_copy name value) (plain_interpreter inside) (Err (cond fits fail.WantOfMemory (fail.Report WsFull)))
renewed_not T inside m name value true view rules shared is = tt
renewed_not T inside m name value false view rules shared is =
    let refused : Result T Fail = Err (fail.Report WsFull) in
    renewed_done refused inside m inside.workspace name value view rules shared tt refl tt (kept_heavy (renewed name value inside.workspace) is)
