-- Names that are gone, and come one after another.
use Rattle.std.proofs.Common.{◌≡◌, ℕ, suc, ◌+◌, ◌≤◌, ◌<◌, Bool, true, false, cond, ◌||◌, List, [], ◌∷◌, Option, Some, None, length, drop, get_or, refl, sym, ap, subst, ◌∙◌, arith, add-one}
use Rattle.std.specs.Prelude.{is_some, nat_le, unwrap_or}
use Rattle.std.specs.List.{list_any}
use Rattle.std.specs.Option.{option_map}
use Rattle.std.specs.List.Sorted.{IsStrictlySortedBy}
use Rattle.std.specs.Map.{keys_of}
use Rattle.std.proofs.Math.Seq.{drop-cons}
use Rattle.std.proofs.lemmas.Bool.{or_parts}
use Rattle.std.proofs.lemmas.Bool.Decides.{nat_tests}
use Rattle.apl_workspace.specs.Meaning.{NameTable, meaning_in, meaning_weight, table_weight, weight_in, with_meaning, without_name, without_names}
use Rattle.apl_arrays.specs.Name.{name_order, same_name}
use Rattle.apl_workspace.specs.Names.{all_differ}
use Rattle.apl_workspace.specs.Workspace.{IsFull, IsWorkspace, PlainWorkspace, assigned, in_innermost, innermost, with_global, without_globals, workspace_weight}
use Rattle.apl_arrays.specs.declared.report.Fail.{Fail}
use Rattle.apl_arrays.specs.declared.report.Fail.TheVariants.{Report, WantOfMemory}
use Rattle.apl_arrays.specs.declared.report.Report.TheVariants.{WsFull}
use Rattle.apl_workspace.specs.Limits.{most_weight}
use Rattle.apl_arrays.specs.Array.{PlainArray}
use Rattle.apl_workspace.specs.Function.{PlainFunction}
use Rattle.apl_workspace.specs.declared.meaning.Meaning.{Meaning}
use Rattle.apl_workspace.specs.declared.meaning.Meaning.TheVariants.{Value, Function}
use Rattle.apl_workspace.proofs.Ascending.{found_with, with_ascends, without_ascends}
use Rattle.apl_workspace.proofs.NameLaw.{first_differs, own_name}
use Rattle.apl_workspace.proofs.Tables.{weight_with}
use Rattle.apl_workspace.proofs.Without.{found_without_all, still_ascends}
use Rattle.apl_execute.specs.Copying.{AreAbsent, MayCome}
use Rattle.apl_execute.specs.Merge.{IsNotMerged, copy_in, with_copies, with_name_copied}

-- ---- names that go

all_gone : (globals : NameTable) (names : List (List ℕ)) → IsStrictlySortedBy name_order (keys_of globals) → AreAbsent (without_names globals names) names
all_gone globals [] s = tt
all_gone globals (name ∷ names) s =
    (found_without_all globals (name ∷ names) name s ∙ ap (λ (b : Bool). cond (b || list_any (same_name name) names) None (meaning_in globals name)) (own_name name), all_gone (without_name globals name) names (without_ascends globals name s))

-- names that are gone may come one after another
pub may_come : (into w : PlainWorkspace) (names : List (List ℕ)) → IsWorkspace into → w ≡ without_globals into names → all_differ names ≡ true → MayCome w.globals names
may_come into w names h is differ =
    subst (λ (ws : PlainWorkspace). MayCome ws.globals names) (sym is)
    (record { ascend = still_ascends into.globals names h.ascending; absent = all_gone into.globals names h.ascending; differ = differ })

-- ---- names that come

absent_by : (globals : NameTable) (name other : List ℕ) (meaning : Meaning) → same_name name other ≡ false → meaning_in globals other ≡ None → meaning_in (with_meaning globals name meaning) other ≡ None
absent_by globals name other meaning apart none = found_with globals name meaning other ∙ ap (λ (b : Bool). cond b (Some meaning) (meaning_in globals other)) apart ∙ none

absent_on : (globals : NameTable) (name : List ℕ) (meaning : Meaning) (names : List (List ℕ)) → list_any (same_name name) names ≡ false → AreAbsent globals names → AreAbsent (with_meaning globals name meaning) names
absent_on globals name meaning [] others absent = tt
absent_on globals name meaning (other ∷ names) others absent =
    let parts = or_parts (same_name name other) (list_any (same_name name) names) others in
    (absent_by globals name other meaning parts.0 absent.0, absent_on globals name meaning names parts.1 absent.1)

comes_by : (globals : NameTable) (name : List ℕ) (names : List (List ℕ)) (copy : Option Meaning) → MayCome globals (name ∷ names) → MayCome (with_name_copied globals name copy) names
comes_by globals name names None h = record { ascend = h.ascend; absent = h.absent.1; differ = (first_differs name names h.differ).1 }
comes_by globals name names (Some meaning) h = record {
  ascend = with_ascends globals name meaning h.ascend;
  absent = absent_on globals name meaning names (first_differs name names h.differ).0 h.absent.1;
  differ = (first_differs name names h.differ).1;
}

pub comes_on : (from : PlainWorkspace) (globals : NameTable) (name : List ℕ) (names : List (List ℕ)) → MayCome globals (name ∷ names) → MayCome (with_name_copied globals name (copy_in from name)) names
comes_on from globals name names h = comes_by globals name names (copy_in from name) h

heavier_by : (globals : NameTable) (name : List ℕ) (copy : Option Meaning) → IsStrictlySortedBy name_order (keys_of globals) → meaning_in globals name ≡ None → table_weight globals ≤ table_weight (with_name_copied globals name copy)
heavier_by globals name None s none = omega arith
heavier_by globals name (Some meaning) s none =
    let nothing : weight_in globals name ≡ 0 = ap (λ (found : Option Meaning). unwrap_or (option_map meaning_weight found) 0) none in
    omega (arith, weight_with globals name meaning s, nothing)

-- the weight only rises
pub heavier : (from : PlainWorkspace) (globals : NameTable) (names : List (List ℕ)) → MayCome globals names → table_weight globals ≤ table_weight (with_copies from globals names)
heavier from globals [] h = omega arith
heavier from globals (name ∷ names) h =
    let one = heavier_by globals name (copy_in from name) h.ascend h.absent.0 in
    let more = heavier from (with_name_copied globals name (copy_in from name)) names (comes_on from globals name names h) in
    omega (arith, one, more)

-- ---- the names that are left at a place

pub left_at : (names : List (List ℕ)) (i : ℕ) (name : List ℕ) → i < length names → name ≡ get_or names i name → drop i names ≡ name ∷ drop (i + 1) names
left_at names i name within is =
    drop-cons names i name within ∙ ap (λ (first : List ℕ). first ∷ drop (suc i) names) (sym is) ∙ ap (λ n. name ∷ drop n names) (sym (add-one i))

-- only the globals were changed, again
pub same_step : (start ws after : PlainWorkspace) (globals : NameTable) → ws ≡ record start { globals = ws.globals } → after ≡ record ws { globals = globals } → after ≡ record start { globals = after.globals }
same_step start ws after globals same e =
    e ∙ ap (λ (w : PlainWorkspace). record w { globals = globals }) same
    ∙ ap (λ (g : NameTable). record start { globals = g }) (sym (ap (λ (w : PlainWorkspace). w.globals) e))

-- what a workspace weighs with these globals
weighs : (start ws : PlainWorkspace) (globals : NameTable) → ws ≡ record start { globals = ws.globals } → workspace_weight (record ws { globals = globals }) ≡ workspace_weight (record start { globals = globals })
weighs start ws globals same = ap (λ (w : PlainWorkspace). workspace_weight (record w { globals = globals })) same

-- where one name is refused, all are
pub full_later : (start ws : PlainWorkspace) (some all : NameTable) (fail : Fail) → ws ≡ record start { globals = ws.globals } → table_weight some ≤ table_weight all → IsFull (record ws { globals = some }) fail → IsNotMerged (record start { globals = all }) fail
full_later start ws some all (Report report) same rises full =
    let w : workspace_weight (record ws { globals = some }) ≡ workspace_weight (record start { globals = some }) = weighs start ws some same in
    (full.0, omega (arith, full.1, w, rises))
full_later start ws some all WantOfMemory same rises full = tt

within : (a b : ℕ) → nat_le a b ≡ true → a ≤ b
within a b e = grind (arith, nat_tests)

above : (a b : ℕ) → nat_le a b ≡ false → b < a
above a b e = grind (arith, nat_tests)

-- why there is no copy, by whether the workspace would weigh no more than it may
pub full_or : (w : PlainWorkspace) (fits : Bool) → fits ≡ nat_le (workspace_weight w) most_weight → IsFull w (cond fits WantOfMemory (Report WsFull))
full_or w true is = within (workspace_weight w) most_weight (sym is)
full_or w false is = (refl, above (workspace_weight w) most_weight (sym is))

-- ---- what may not be copied for want of memory

given_as_global : (ws : PlainWorkspace) (name : List ℕ) (value : PlainArray) → ws.frames ≡ [] → assigned ws name value ≡ with_global ws name (Value value)
given_as_global ws name value none =
    ap (λ (frames : List NameTable). cond (is_some (innermost frames name)) (record ws { frames = in_innermost ws.frames name (Value value) }) (with_global ws name (Value value))) none

-- a value would fit, or not
pub value_fits : (ws from : PlainWorkspace) (name : List ℕ) (value : PlainArray) (fits : Bool) → ws.frames ≡ [] → copy_in from name ≡ Some (Value value) → fits ≡ nat_le (workspace_weight (assigned ws name value)) most_weight
    → IsFull (record ws { globals = with_name_copied ws.globals name (copy_in from name) }) (cond fits WantOfMemory (Report WsFull))
value_fits ws from name value fits none copy is =
    full_or (record ws { globals = with_name_copied ws.globals name (copy_in from name) }) fits
    (is ∙ ap (λ (w : PlainWorkspace). nat_le (workspace_weight w) most_weight) (given_as_global ws name value none ∙ ap (λ (o : Option Meaning). record ws { globals = with_name_copied ws.globals name o }) (sym copy)))

-- and so a function
pub function_fits : (ws from : PlainWorkspace) (name : List ℕ) (function : PlainFunction) (fits : Bool) → copy_in from name ≡ Some (Function function) → fits ≡ nat_le (workspace_weight (with_global ws name (Function function))) most_weight
    → IsFull (record ws { globals = with_name_copied ws.globals name (copy_in from name) }) (cond fits WantOfMemory (Report WsFull))
function_fits ws from name function fits copy is =
    full_or (record ws { globals = with_name_copied ws.globals name (copy_in from name) }) fits
    (is ∙ ap (λ (w : PlainWorkspace). nat_le (workspace_weight w) most_weight) (ap (λ (o : Option Meaning). record ws { globals = with_name_copied ws.globals name o }) (sym copy)))
