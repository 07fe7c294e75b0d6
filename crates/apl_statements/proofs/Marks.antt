-- A name that is offered weighs no more than before, and a name that is seen as shared is a global one.
use Rattle.std.proofs.Common.{◌≡◌, ℕ, ◌+◌, ◌≤◌, true, false, List, refl, sym, ap, arith}
use Rattle.std.specs.Prelude.{Option, Some, None, option_map, sum_by, unwrap_or}
use Rattle.std.proofs.lemmas.Bool.{false≢true}
use Rattle.apl_workspace.specs.Limits.{most_weight}
use Rattle.apl_workspace.specs.Meaning.{is_function_meaning, is_shared_meaning, meaning_in, meaning_weight, table_weight, weight_in, with_meaning}
use Rattle.apl_workspace.specs.Workspace.{IsWorkspace, PlainWorkspace, global_in, is_shared, look, with_global, workspace_weight}
use Rattle.apl_workspace.specs.declared.meaning.Meaning.{Meaning}
use Rattle.apl_workspace.specs.declared.meaning.Meaning.TheVariants as meaning
use Rattle.apl_workspace.proofs.Looks.{seen_globally}
use Rattle.apl_workspace.proofs.Tables.{weight_with}
use Rattle.apl_meaning.specs.Deeds.{value_of}

own_weight : (found : Option Meaning) → is_function_meaning (unwrap_or found meaning.Nothing) ≡ false → meaning_weight (meaning.Shared (value_of (unwrap_or found meaning.Nothing))) ≡ unwrap_or (option_map meaning_weight found) 0
own_weight None is = refl
own_weight (Some meaning.Nothing) is = refl
own_weight (Some (meaning.Value value)) is = refl
own_weight (Some (meaning.Function function)) is = absurd (false≢true (sym is))
own_weight (Some (meaning.Label line)) is = refl
own_weight (Some (meaning.Shared None)) is = refl
own_weight (Some (meaning.Shared (Some value))) is = refl

-- a name that is shared with the value that it has makes a workspace no heavier
pub marked_fits : (w : PlainWorkspace) (name : List ℕ) → IsWorkspace w → is_function_meaning (global_in w name) ≡ false → workspace_weight (with_global w name (meaning.Shared (value_of (global_in w name)))) ≤ most_weight
marked_fits w name h is =
    let m : Meaning = meaning.Shared (value_of (global_in w name)) in
    let table : table_weight (with_meaning w.globals name m) + weight_in w.globals name ≡ table_weight w.globals + meaning_weight m = weight_with w.globals name m h.ascending in
    let own : meaning_weight m ≡ weight_in w.globals name = own_weight (meaning_in w.globals name) is in
    let same : table_weight (with_meaning w.globals name m) ≡ table_weight w.globals = omega (arith, table, own) in
    let before : table_weight w.globals + sum_by table_weight w.frames ≤ most_weight = h.weight in
    let after : table_weight (with_meaning w.globals name m) + sum_by table_weight w.frames ≤ most_weight = omega (arith, same, before) in
    after

shared_by : (w : PlainWorkspace) (name : List ℕ) (m : Meaning) → IsWorkspace w → look w name ≡ m → is_shared_meaning m ≡ true → is_shared_meaning (global_in w name) ≡ true
shared_by w name meaning.Nothing h seen is = absurd (false≢true is)
shared_by w name (meaning.Value value) h seen is = absurd (false≢true is)
shared_by w name (meaning.Function function) h seen is = absurd (false≢true is)
shared_by w name (meaning.Label line) h seen is = absurd (false≢true is)
shared_by w name (meaning.Shared copy) h seen is = ap is_shared_meaning (seen_globally w name (meaning.Shared copy) h (λ none. absurd none) seen)

-- a name that is seen as shared is shared
pub seen_shared : (w : PlainWorkspace) (name : List ℕ) → IsWorkspace w → is_shared_meaning (look w name) ≡ true → is_shared w name ≡ true
seen_shared w name h is = shared_by w name (look w name) h refl is

no_function : (m : Meaning) → is_shared_meaning m ≡ true → is_function_meaning m ≡ false
no_function meaning.Nothing is = refl
no_function (meaning.Value value) is = refl
no_function (meaning.Function function) is = absurd (false≢true is)
no_function (meaning.Label line) is = refl
no_function (meaning.Shared copy) is = refl

pub shared_is_no_function : (w : PlainWorkspace) (name : List ℕ) → is_shared w name ≡ true → is_function_meaning (global_in w name) ≡ false
shared_is_no_function w name is = no_function (global_in w name) is
