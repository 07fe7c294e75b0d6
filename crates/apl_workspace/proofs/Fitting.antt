-- Whether a workspace keeps within its weight.
use Rattle.std.proofs.Common.{◌≡◌, ◌≤◌, ◌+◌, ◌-◌, ℕ, List, Option, None, cond, reverse, sum_by, sym, ap, ◌∙◌, arith}
use Rattle.std.specs.Prelude.{is_some, nat_le}
use Rattle.apl_workspace.specs.declared.meaning.Meaning.{Meaning}
use Rattle.apl_workspace.specs.declared.remake.Remake.{Remake}
use Rattle.apl_workspace.specs.Limits.{most_weight}
use Rattle.apl_workspace.specs.Meaning.{NameTable, table_weight, with_meaning}
use Rattle.apl_workspace.specs.Workspace.{IsInnermostAt, PlainWorkspace, given, in_innermost, innermost, with_global, workspace_weight}
use Rattle.apl_workspace.proofs.Giving.{given_weight, with_frames}
use Rattle.apl_workspace.proofs.Innermost.{least_left}

-- the global names fit beside the frames where the workspace fits
pub globals_fit : (w inside : PlainWorkspace) (name : List ℕ) (meaning : Meaning) (weight : ℕ) → inside ≡ w → weight ≡ sum_by table_weight inside.frames → weight ≤ most_weight
    → nat_le (table_weight (with_meaning inside.globals name meaning)) (most_weight - weight) ≡ nat_le (workspace_weight (with_global w name meaning)) most_weight
globals_fit w inside name meaning weight same counted within =
    least_left (table_weight (with_meaning inside.globals name meaning)) (workspace_weight (with_global inside name meaning)) weight most_weight within (omega (arith, counted))
    ∙ ap (λ (x : PlainWorkspace). nat_le (workspace_weight (with_global x name meaning)) most_weight) same

-- the frames fit beside the global names where the workspace fits
pub given_fit : (globals : NameTable) (offers : List Remake) (printed : ℕ) (frames items : List NameTable) (name : List ℕ) (meaning : Meaning) (at own : ℕ) (w : PlainWorkspace) → with_frames globals offers printed (reverse items) ≡ w → frames ≡ items
    → IsInnermostAt frames name at → own ≡ table_weight globals → own ≤ most_weight
    → nat_le (sum_by table_weight (in_innermost (reverse frames) name meaning)) (most_weight - own) ≡ nat_le (workspace_weight (given w name meaning)) most_weight
given_fit globals offers printed frames items name meaning at own w view e h o bound =
    least_left (sum_by table_weight (in_innermost (reverse frames) name meaning)) (workspace_weight (given w name meaning)) own most_weight bound (given_weight globals offers printed frames items name meaning at w view e h ∙ ap (λ (n : ℕ). n + sum_by table_weight (in_innermost (reverse frames) name meaning)) (sym o))

-- a name that no frame has gets its value as a global
pub given_global : (w : PlainWorkspace) (name : List ℕ) (meaning : Meaning) → innermost w.frames name ≡ None → given w name meaning ≡ with_global w name meaning
given_global w name meaning none = ap (λ (found : Option Meaning). cond (is_some found) (record w { frames = in_innermost w.frames name meaning }) (with_global w name meaning)) none
