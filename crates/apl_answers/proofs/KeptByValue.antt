-- A value that is assigned keeps the functions of a workspace.
use Rattle.std.proofs.Common.{◌≡◌, ℕ, Bool, true, false, List, refl, sym, ◌∙◌}
use Rattle.std.specs.Prelude.{Option, Some, None, cond, is_some, unwrap_or}
use Rattle.std.proofs.lemmas.Bool.{false≢true}
use Rattle.apl_arrays.specs.Array.{PlainArray}
use Rattle.apl_workspace.specs.Meaning.{is_function_meaning, meaning_in}
use Rattle.apl_workspace.specs.Workspace.{IsWorkspace, PlainWorkspace, assigned, global_in, in_innermost, innermost, is_local, look, seen_by, with_global}
use Rattle.apl_workspace.specs.declared.meaning.Meaning.{Meaning}
use Rattle.apl_workspace.specs.declared.meaning.Meaning.TheVariants as meaning
use Rattle.apl_statements.proofs.Kept.{KeepsFunctions}
use Rattle.apl_answers.proofs.Assigned.{local_keeps_functions}
use Rattle.apl_answers.proofs.Changed.{put_keeps_functions}
use Rattle.apl_answers.proofs.Shares.{never_a_function}

global_by : (local global : Option Meaning) → is_some local ≡ false → is_function_meaning (seen_by local global) ≡ false → is_function_meaning (seen_by None global) ≡ false
global_by None global lacks seen = seen
global_by (Some m) global lacks seen = absurd (false≢true (sym lacks))

as_global : (global : Option Meaning) → is_function_meaning (seen_by None global) ≡ is_function_meaning (unwrap_or global meaning.Nothing)
as_global None = refl
as_global (Some m) = refl

assigned_by : (w : PlainWorkspace) (name : List ℕ) (value : PlainArray) (b : Bool) → is_local w name ≡ b → IsWorkspace w → is_function_meaning (look w name) ≡ false
    → KeepsFunctions w (cond b (record w { frames = in_innermost w.frames name (meaning.Value value) }) (with_global w name (meaning.Value value)))
assigned_by w name value true is h seen = local_keeps_functions w name value seen
assigned_by w name value false is h seen =
    let global : is_function_meaning (global_in w name) ≡ false = sym (as_global (meaning_in w.globals name)) ∙ global_by (innermost w.frames name) (meaning_in w.globals name) is seen in
    put_keeps_functions w name (meaning.Value value) refl global (λ n. never_a_function w name n h global)

pub assigned_keeps_functions : (w : PlainWorkspace) (name : List ℕ) (value : PlainArray) → IsWorkspace w → is_function_meaning (look w name) ≡ false → KeepsFunctions w (assigned w name value)
assigned_keeps_functions w name value h seen = assigned_by w name value (is_local w name) refl h seen
