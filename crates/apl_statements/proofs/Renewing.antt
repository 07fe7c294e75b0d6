-- A statement whose values are settled, where the workspace changes.
use Rattle.std.proofs.Common.{◌≡◌, ℕ, ◌≤◌, ◌<◌, Bool, true, false, List, refl, sym, ap, subst, ◌∙◌, arith, leb}
use Rattle.std.specs.Prelude.{Result, Ok, Err, IfErr, OnErr, OnOk, All, map, reverse, if◌then◌else◌}
use Rattle.std.proofs.lemmas.Bool.{le-leb, leb-true}
use Rattle.std.proofs.lemmas.List.Elements.{All-map}
use Rattle.apl_arrays.specs.Array.{PlainArray}
use Rattle.apl_arrays.specs.declared.report.Fail.{Fail}
use Rattle.apl_arrays.specs.declared.report.Fail.TheVariants as fail
use Rattle.apl_arrays.specs.declared.report.Report.TheVariants.{WsFull}
use Rattle.apl_workspace.specs.Limits.{most_weight}
use Rattle.apl_workspace.specs.Workspace.{IsFull, PlainWorkspace, workspace_weight}
use Rattle.apl_meaning.specs.State.{State, gives, refuses, with_workspace}
use Rattle.apl_values.specs.declared.values.StackValue.{StackValue}
use Rattle.apl_values.specs.Values.{IsStackValue, stack_value, settled}
use Rattle.apl_statements.specs.declared.evaluation.Evaluation.{Evaluation}
use Rattle.apl_statements.specs.declared.interpreter.Interpreter.TheInside.{Inside}
use Rattle.apl_statements.specs.declared.waiting.Waiting.{Waiting}
use Rattle.apl_statements.specs.Evaluating.{caller_of}
use Rattle.apl_statements.specs.Interpreter.{PlainInterpreter, state_at}
use Rattle.apl_statements.specs.Moves.{Does, Refuses}
use Rattle.apl_statements.specs.Sound.{AreUnderWay, IsCaller, plain_interpreter}
use Rattle.apl_statements.specs.Stack.{PlainCaller, PlainWaiting}
use Rattle.apl_statements.specs.Holding.{IsWithValues, parts_of}
use Rattle.apl_statements.proofs.Held.{settled_all, settled_is_held}
use Rattle.apl_statements.proofs.Kept.{KeepsFunctions, kept, same_stack}

-- it is the same caller
pub settled_caller : (w v : PlainWorkspace) (shown : List ℕ) (e after : Evaluation) → IsWithValues e (map (settled w) e.values.items) after → caller_of v shown after ≡ caller_of w shown e
settled_caller w v shown e after with =
    let having : List PlainArray → PlainCaller = λ values. record (caller_of w shown e) { values = reverse values } in
    ap (caller_of v shown) with.same
    ∙ ap (λ (hs : List StackValue). having (map (stack_value v (parts_of e)) hs)) with.values
    ∙ ap having (settled_all w v (parts_of e) e.values.items)

-- and it is one on the other workspace
pub settled_sound : (w v : PlainWorkspace) (e after : Evaluation) → IsCaller w e → IsWithValues e (map (settled w) e.values.items) after → IsCaller v after
settled_sound w v e after is with =
    let held : All (IsStackValue v (parts_of e)) (map (settled w) e.values.items) = All-map (IsStackValue v (parts_of e)) (settled w) e.values.items (λ k d lt. settled_is_held w v (parts_of e) _ (is.evaluation.values k d lt)) in
    subst (IsCaller v) (sym with.same) (record {
      evaluation = record { reading = is.evaluation.reading; at = is.evaluation.at; values = subst (All (IsStackValue v (parts_of e))) (sym with.values) held };
      there = is.there;
    })

-- ---- the workspace changes where it does not weigh too much

-- an interpreter on another workspace
abbrev pub on : PlainInterpreter → PlainWorkspace → PlainInterpreter
on m w = record m { workspace = w }

pub changed : (m : PlainInterpreter) (w : PlainWorkspace) → workspace_weight w ≤ most_weight → Does m (with_workspace w) (on m w)
changed m w fits = record {
  same = λ asked count taken further.
      let s : State = state_at m asked count taken further in
      ap (λ (b : Bool). if b then gives tt (record s { workspace = w }) else refuses WsFull s) (le-leb (workspace_weight w) most_weight fits);
}

pub above : (a b : ℕ) → b < a → leb a b ≡ false
above a b lt = by (leb a b) refl
  where
    by : (c : Bool) → leb a b ≡ c → c ≡ false
    by true e = absurd (let no : a ≤ b = leb-true a b e in omega arith)
    by false e = refl

pub not_changed : (m : PlainInterpreter) (w : PlainWorkspace) → most_weight < workspace_weight w → Refuses m (with_workspace w) WsFull m
not_changed m w full = record {
  same = λ asked count taken further.
      let s : State = state_at m asked count taken further in
      ap (λ (b : Bool). if b then gives tt (record s { workspace = w }) else refuses WsFull s) (above (workspace_weight w) most_weight full);
}

-- ---- a value that is assigned keeps the functions

-- ---- what is under way where the workspace changed, and keeps its functions

pub way_changed : (w v u : PlainWorkspace) (callers : List Waiting) → u ≡ v → KeepsFunctions w v → AreUnderWay w callers → AreUnderWay u callers
way_changed w v u callers e keeps are = subst (λ (x : PlainWorkspace). AreUnderWay x callers) (sym e) (kept w v callers keeps are)

-- the interpreter as plain data is the same but for its workspace
pub seen_changed : (inside : Inside) (m : PlainInterpreter) (u v : PlainWorkspace) → plain_interpreter inside ≡ m → u ≡ v → KeepsFunctions inside.workspace v → plain_interpreter (record inside { workspace = u }) ≡ record m { workspace = v }
seen_changed inside m u v view e keeps =
    let callers : List Waiting = reverse inside.callers.items in
    ap (λ (x : PlainWorkspace). plain_interpreter (record inside { workspace = x })) e
    ∙ ap (λ (ws : List PlainWaiting). record (plain_interpreter inside) { workspace = v; stack = ws }) (same_stack inside.workspace v inside.input.items callers keeps.functions)
    ∙ ap (λ (x : PlainInterpreter). record x { workspace = v }) view

-- where a call changed the workspace if it was granted, and else did not
module _ {T E : Type 0} where
  pub whenever : {P : Type 0} (r : Result T E) → P → OnOk r P
  whenever (Ok value) h = h
  whenever (Err why) h = tt

  pub way_if : (r : Result T E) (w v u : PlainWorkspace) (callers : List Waiting) → OnOk r (u ≡ v) → OnErr r (u ≡ w) → OnOk r (KeepsFunctions w v) → AreUnderWay w callers → AreUnderWay u callers
  way_if (Ok value) w v u callers ok err keeps are = way_changed w v u callers ok keeps are
  way_if (Err why) w v u callers ok err keeps are = subst (λ (x : PlainWorkspace). AreUnderWay x callers) (sym err) are

  pub seen_if_ok : (r : Result T E) (inside : Inside) (m : PlainInterpreter) (u : PlainWorkspace) (after : PlainWorkspace → PlainWorkspace) → plain_interpreter inside ≡ m → OnOk r (u ≡ after inside.workspace) → OnOk r (KeepsFunctions inside.workspace (after inside.workspace))
      → OnOk r (plain_interpreter (record inside { workspace = u }) ≡ record m { workspace = after m.workspace })
  seen_if_ok (Ok value) inside m u after view ok keeps = seen_changed inside m u (after inside.workspace) view ok keeps ∙ ap (λ (x : PlainInterpreter). record m { workspace = after x.workspace }) view
  seen_if_ok (Err why) inside m u after view ok keeps = tt

  pub seen_if_err : (r : Result T E) (inside : Inside) (m : PlainInterpreter) (u : PlainWorkspace) → plain_interpreter inside ≡ m → OnErr r (u ≡ inside.workspace) → OnErr r (plain_interpreter (record inside { workspace = u }) ≡ m)
  seen_if_err (Ok value) inside m u view err = tt
  seen_if_err (Err why) inside m u view err = ap (λ (x : PlainWorkspace). plain_interpreter (record inside { workspace = x })) err ∙ view

pub never_full : {T : Type 0} (r : Result T Fail) (v : PlainWorkspace) → IfErr r (IsFull v) → workspace_weight v ≤ most_weight → IfErr r (λ why. why ≡ fail.WantOfMemory)
never_full (Ok value) v full fits = tt
never_full (Err (fail.Report report)) v full fits = absurd (omega (arith, full.1, fits))
never_full (Err fail.WantOfMemory) v full fits = refl
