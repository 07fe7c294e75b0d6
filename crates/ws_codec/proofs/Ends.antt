-- A name above the last one of a table goes to the end.
use Rattle.std.proofs.Common.{◌≡◌, ℕ, ◌+◌, ◌<◌, ◌≤◌, Bool, true, List, [], ◌∷◌, ◌++◌, Option, Some, None, Ordering, refl, ap, ◌∙◌, subst, arith}
use Rattle.std.specs.Prelude.{unwrap_or}
use Rattle.std.specs.Bool.{MatchBool}
use Rattle.std.specs.BTreeMap.{insert_entry}
use Rattle.std.specs.List.{AllByRecursion}
use Rattle.std.specs.List.Sorted.{IsStrictlySortedBy}
use Rattle.std.specs.Map.{keys_of}
use Rattle.std.specs.Ordering.{is_eq, is_lt, match_ordering, ordering_reverse}
use Rattle.std.specs.declared.cmp.Ordering.TheVariants.{Less, Equal, Greater}
use Rattle.std.proofs.lemmas.Bool.{false≢true}
use Rattle.std.proofs.lemmas.Cmp.{nat_list_cmp_total}
use Rattle.std.proofs.lemmas.Map.Entries.{lookup_tail}
use Rattle.std.proofs.lemmas.Map.Keys.{sorted_head, sorted_tail}
use Rattle.apl_arrays.specs.Array.{PlainArray}
use Rattle.apl_arrays.specs.Name.{name_order, same_name}
use Rattle.apl_arrays.specs.declared.report.Fail.TheVariants.{Report as Reported}
use Rattle.apl_arrays.specs.declared.report.Report.{Report}
use Rattle.apl_arrays.specs.declared.report.Report.TheVariants.{Syntax, WsFull}
use Rattle.apl_workspace.specs.Function.{PlainFunction, function_weight}
use Rattle.apl_workspace.specs.Limits.{most_weight}
use Rattle.apl_workspace.specs.Meaning.{NameTable, meaning_in, meaning_weight, table_weight, value_weight, with_meaning}
use Rattle.apl_workspace.specs.Workspace.{IsFull, IsNotAssigned, IsWorkspace, PlainWorkspace, assigned, global_in, is_assignable, is_there, look, seen_by, with_global, workspace_weight}
use Rattle.apl_workspace.specs.declared.meaning.Meaning.{Meaning}
use Rattle.apl_workspace.specs.declared.meaning.Meaning.TheVariants.{Nothing, Value, Function}
use Rattle.apl_workspace.proofs.NameLaw.{by_order}
use Rattle.apl_workspace.proofs.Tables.{at_most_heavier}
use Rattle.ws_codec.specs.Kept.{workspace_of}
use Rattle.ws_codec.specs.Objects.{is_above, last_name}

-- names that ascend
abbrev pub Ascend : NameTable → Type 0
Ascend table = IsStrictlySortedBy name_order (keys_of table)

-- all names of a table stand below one
abbrev pub AreBelow : NameTable → List ℕ → Type 0
AreBelow table name = AllByRecursion (λ other. name_order other name ≡ Less) (keys_of table)

less_of : (o : Ordering) → is_lt o ≡ true → o ≡ Less
less_of Less e = refl
less_of Equal e = absurd (false≢true e)
less_of Greater e = absurd (false≢true e)

-- what is above the last name is above all
pub all_below : (table : NameTable) (name : List ℕ) → Ascend table → is_above (last_name table) name ≡ true → AreBelow table name
all_below [] name s above = tt
all_below (e ∷ []) name s above = (less_of (name_order e.0 name) above, tt)
all_below (e ∷ next ∷ entries) name s above =
    let later = all_below (next ∷ entries) name (sorted_tail name_order e.0 (keys_of (next ∷ entries)) s) above in
    let first = (sorted_head name_order e.0 (keys_of (next ∷ entries)) s).0 in
    (nat_list_cmp_total.trans e.0 next.0 name first later.0, later)

greater : (first name : List ℕ) → name_order first name ≡ Less → name_order name first ≡ Greater
greater first name less = nat_list_cmp_total.antisymm name first ∙ ap ordering_reverse less

-- a name above all is not there
pub not_there : (table : NameTable) (name : List ℕ) → AreBelow table name → meaning_in table name ≡ None
not_there [] name below = refl
not_there (e ∷ es) name below =
    lookup_tail (same_name name) e es (by_order name e.0 ∙ ap is_eq (greater e.0 name below.0)) ∙ not_there es name below.1

-- it goes to the end
pub goes_last : (table : NameTable) (name : List ℕ) (meaning : Meaning) → AreBelow table name → with_meaning table name meaning ≡ table ++ (name, meaning) ∷ []
goes_last [] name meaning below = refl
goes_last (e ∷ es) name meaning below =
    ap (λ (o : Ordering). match_ordering o ((name, meaning) ∷ e ∷ es) ((e.0, meaning) ∷ es) (e ∷ insert_entry name_order es name meaning)) (greater e.0 name below.0)
    ∙ ap (λ (t : NameTable). e ∷ t) (goes_last es name meaning below.1)

-- the last name is the one that was put there
pub last_put : (table : NameTable) (name : List ℕ) (meaning : Meaning) → Some name ≡ last_name (table ++ (name, meaning) ∷ [])
last_put [] name meaning = refl
last_put (e ∷ []) name meaning = refl
last_put (e ∷ next ∷ entries) name meaning = last_put (next ∷ entries) name meaning

-- a workspace of names, all below one that is put there
pub record IsEnd (w : PlainWorkspace) (name : List ℕ) : Type 0 where
  pub plain : w ≡ workspace_of w.globals
  pub rules : IsWorkspace w
  pub above : is_above (last_name w.globals) name ≡ true

module _ (w : PlainWorkspace) (name : List ℕ) (h : IsEnd w name) where
  below : AreBelow w.globals name
  below = all_below w.globals name h.rules.ascending h.above

  missing : meaning_in w.globals name ≡ None
  missing = not_there w.globals name below

  -- the name stands for nothing yet
  pub unseen : look w name ≡ Nothing
  unseen = ap (λ (v : PlainWorkspace). look v name) h.plain ∙ ap (λ (o : Option Meaning). seen_by None o) missing

  pub no_global : global_in w name ≡ Nothing
  no_global = ap (λ (o : Option Meaning). unwrap_or o Nothing) missing

  -- what the workspace becomes
  pub put_last : (meaning : Meaning) → with_global w name meaning ≡ workspace_of (w.globals ++ (name, meaning) ∷ [])
  put_last meaning =
      ap (λ (v : PlainWorkspace). with_global v name meaning) h.plain ∙ ap workspace_of (goes_last w.globals name meaning below)

  pub assigned_last : (value : PlainArray) → assigned w name value ≡ workspace_of (w.globals ++ (name, Value value) ∷ [])
  assigned_last value =
      ap (λ (v : PlainWorkspace). assigned v name value) h.plain ∙ ap workspace_of (goes_last w.globals name (Value value) below)

  -- it weighs no more than what was there and what is put there
  fits_with : (meaning : Meaning) → table_weight w.globals + meaning_weight meaning ≤ most_weight → workspace_weight (workspace_of (w.globals ++ (name, meaning) ∷ [])) ≤ most_weight
  fits_with meaning light =
      let heavy = at_most_heavier w.globals name meaning in
      let same : table_weight (with_meaning w.globals name meaning) ≡ table_weight (w.globals ++ (name, meaning) ∷ []) = ap table_weight (goes_last w.globals name meaning below) in
      omega (arith, heavy, same, light)

  -- no report comes of it
  pub value_taken : (value : PlainArray) (report : Report) → table_weight w.globals + value_weight value ≤ most_weight → IsNotAssigned (is_there w name) (is_assignable (look w name)) (assigned w name value) (Reported report) → ⊥
  value_taken value report light refused =
      let may : is_assignable (look w name) ≡ true = ap is_assignable unseen in
      let full = subst (λ (b : Bool). MatchBool b ((report ≡ WsFull) × (most_weight < workspace_weight (assigned w name value))) (report ≡ Syntax)) may refused in
      let fits = fits_with (Value value) light in
      let same : workspace_weight (assigned w name value) ≡ workspace_weight (workspace_of (w.globals ++ (name, Value value) ∷ [])) = ap workspace_weight (assigned_last value) in
      omega (arith, full.1, fits, same)

  pub function_taken : (function : PlainFunction) (report : Report) → table_weight w.globals + function_weight function ≤ most_weight → IsFull (with_global w name (Function function)) (Reported report) → ⊥
  function_taken function report light full =
      let fits = fits_with (Function function) light in
      let same : workspace_weight (with_global w name (Function function)) ≡ workspace_weight (workspace_of (w.globals ++ (name, Function function) ∷ [])) = ap workspace_weight (put_last (Function function)) in
      omega (arith, full.1, fits, same)
