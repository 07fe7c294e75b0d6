-- What a workspace weighs with names copied into it.
use Rattle.std.proofs.Common.{◌≡◌, ℕ, ◌+◌, ◌-◌, ◌≤◌, ◌<◌, Bool, true, false, cond, not, ◌&&◌, List, [], ◌∷◌, ◌++◌, Option, Some, None, length, take, get_or, min, sum_by, refl, sym, ap, ◌∙◌, ⊎_elim, arith, append-nil}
use Rattle.std.specs.Prelude.{filter, nat_le, unwrap_or}
use Rattle.std.specs.List.{list_any}
use Rattle.std.specs.List.Sorted.{IsStrictlySortedBy}
use Rattle.std.specs.Map.{keys_of}
use Rattle.std.specs.Option.{option_map}
use Rattle.std.proofs.lemmas.Bool.{cases_lt, false≢true, or_parts}
use Rattle.std.proofs.lemmas.Bool.Decides.{nat_tests}
use Rattle.std.proofs.lemmas.List.Elements.{filter-append}
use Rattle.std.proofs.lemmas.List.Sums.{fold_more, sum_by-append, sum_by-cons}
use Rattle.std.proofs.lemmas.Map.Made.{is_some-lookup}
use Rattle.apl_arrays.specs.Name.{name_order, same_name}
use Rattle.apl_arrays.specs.declared.report.Fail.{Fail}
use Rattle.apl_arrays.specs.declared.report.Fail.TheVariants.{Report, WantOfMemory}
use Rattle.apl_workspace.specs.Limits.{most_weight}
use Rattle.apl_workspace.specs.Listing.{AreNamesOf}
use Rattle.apl_workspace.specs.Meaning.{NameTable, meaning_in, meaning_weight, table_weight, weight_in, without_name, without_names}
use Rattle.apl_workspace.specs.Names.{all_differ}
use Rattle.apl_workspace.specs.Workspace.{IsFull, IsWorkspace, PlainWorkspace, global_in, without_globals, workspace_weight}
use Rattle.apl_workspace.specs.declared.meaning.Meaning.{Meaning}
use Rattle.apl_workspace.specs.declared.meaning.Meaning.TheVariants.{Nothing, Value, Function, Label, Shared}
use Rattle.apl_workspace.proofs.Ascending.{told_by_look_ups, with_ascends, without_ascends}
use Rattle.apl_workspace.proofs.FrameWeight.{left_out}
use Rattle.apl_workspace.proofs.NameLaw.{differ_picked, first_differs, repeat_at}
use Rattle.apl_workspace.proofs.Tables.{weight_with, weight_without}
use Rattle.apl_workspace.proofs.Without.{still_ascends}
use Rattle.apl_execute.specs.Copying.{MayCome}
use Rattle.apl_execute.specs.Merge.{IsNotMerged, copied_as, copy_in, each_once, is_copied, merged, with_copies, with_mention, with_name_copied, with_names}
use Rattle.apl_execute.specs.Weighing.{copied_once, names_weight}
use Rattle.apl_execute.proofs.Copies.{comes_on, may_come}
use Rattle.apl_execute.proofs.MergeLaw.{found_copied, mentioned_among, mentioned_once}

-- ---- name after name

picked_last : (p : List ℕ → Bool) (names : List (List ℕ)) (name : List ℕ) (b : Bool) → p name ≡ b → filter p (names ++ name ∷ []) ≡ cond b (filter p names ++ name ∷ []) (filter p names)
picked_last p names name true e = filter-append p names (name ∷ []) ∙ ap (λ (b : Bool). filter p names ++ cond b (name ∷ []) []) e
picked_last p names name false e = filter-append p names (name ∷ []) ∙ ap (λ (b : Bool). filter p names ++ cond b (name ∷ []) []) e ∙ append-nil (filter p names)

picked_by : (p : List ℕ → Bool) (names : List (List ℕ)) (name : List ℕ) (there : Bool) → filter p (cond there names (names ++ name ∷ [])) ≡ cond (not there && p name) (filter p names ++ name ∷ []) (filter p names)
picked_by p names name true = refl
picked_by p names name false = picked_last p names name (p name) refl

-- a name more, which is copied where it is new and may be
once_more : (into from : PlainWorkspace) (names : List (List ℕ)) (i : ℕ) (name : List ℕ) → i < length names → name ≡ get_or names i name
    → copied_once into from (take (i + 1) names) ≡ cond (not (list_any (same_name name) (take i names)) && is_copied into from name) (copied_once into from (take i names) ++ name ∷ []) (copied_once into from (take i names))
once_more into from names i name within is =
    let before = each_once (take i names) in
    ap (filter (is_copied into from)) (fold_more with_mention [] names i name within ∙ ap (with_mention before) (sym is) ∙ ap (λ (b : Bool). cond b before (before ++ name ∷ [])) (mentioned_among (take i names) name))
    ∙ picked_by (is_copied into from) before name (list_any (same_name name) (take i names))

-- of names that differ each is new
pub new_where_differ : (names : List (List ℕ)) (i : ℕ) (name : List ℕ) → all_differ names ≡ true → i < length names → name ≡ get_or names i name → list_any (same_name name) (take i names) ≡ false
new_where_differ names i name differ within is = by (list_any (same_name name) (take i names)) refl
  where
    by : (b : Bool) → list_any (same_name name) (take i names) ≡ b → list_any (same_name name) (take i names) ≡ false
    by true e = absurd (false≢true (repeat_at names i name within is e ∙ differ))
    by false e = e

-- the weight with a name more, or without
pub weight_more : (ws into from : PlainWorkspace) (names : List (List ℕ)) (i : ℕ) (name : List ℕ) (weight own after : ℕ) (comes : Bool) → i < length names → name ≡ get_or names i name
    → comes ≡ (not (list_any (same_name name) (take i names)) && is_copied into from name) → weight ≡ min (names_weight ws (copied_once into from (take i names))) (most_weight + 1) → own ≡ min (meaning_weight (global_in ws name)) (most_weight + 1)
    → after ≡ cond comes (min (weight + own) (most_weight + 1)) weight → after ≡ min (names_weight ws (copied_once into from (take (i + 1) names))) (most_weight + 1)
weight_more ws into from names i name weight own after comes within is tells was weighs adds =
    let before = copied_once into from (take i names) in
    adds ∙ by before comes was ∙ sym (ap (λ (l : List (List ℕ)). min (names_weight ws l) (most_weight + 1)) (once_more into from names i name within is ∙ ap (λ (b : Bool). cond b (before ++ name ∷ []) before) (sym tells)))
  where
    by : (before : List (List ℕ)) (b : Bool) → weight ≡ min (names_weight ws before) (most_weight + 1) → cond b (min (weight + own) (most_weight + 1)) weight ≡ min (names_weight ws (cond b (before ++ name ∷ []) before)) (most_weight + 1)
    by before true e = omega (arith, e, weighs, sum_by-append (λ n. meaning_weight (global_in ws n)) before (name ∷ []), sum_by-cons (λ n. meaning_weight (global_in ws n)) name [])
    by before false e = e

-- ---- what goes and what comes

found_weighs : (found : Option Meaning) → unwrap_or (option_map meaning_weight found) 0 ≡ meaning_weight (unwrap_or found Nothing)
found_weighs None = refl
found_weighs (Some meaning) = refl

copied_weighs : (meaning : Meaning) → unwrap_or (option_map meaning_weight (copied_as meaning)) 0 ≡ meaning_weight meaning
copied_weighs Nothing = refl
copied_weighs (Value value) = refl
copied_weighs (Function function) = refl
copied_weighs (Label line) = refl
copied_weighs (Shared None) = refl
copied_weighs (Shared (Some value)) = refl

same_weights : (globals : NameTable) (name : List ℕ) (names : List (List ℕ)) → IsStrictlySortedBy name_order (keys_of globals) → list_any (same_name name) names ≡ false → sum_by (weight_in (without_name globals name)) names ≡ sum_by (weight_in globals) names
same_weights globals name [] s apart = refl
same_weights globals name (other ∷ names) s apart =
    let parts = or_parts (same_name name other) (list_any (same_name name) names) apart in
    omega (arith, left_out globals name other false s parts.0, same_weights globals name names s parts.1, sum_by-cons (weight_in (without_name globals name)) other names, sum_by-cons (weight_in globals) other names)

goes : (globals : NameTable) (names : List (List ℕ)) → IsStrictlySortedBy name_order (keys_of globals) → all_differ names ≡ true → table_weight (without_names globals names) + sum_by (weight_in globals) names ≡ table_weight globals
goes globals [] s differ = omega arith
goes globals (name ∷ names) s differ =
    let parts = first_differs name names differ in
    omega (arith, goes (without_name globals name) names (without_ascends globals name s) parts.1, same_weights globals name names s parts.0, weight_without globals name, sum_by-cons (weight_in globals) name names)

-- what is copied of a name weighs
abbrev copy_weight : PlainWorkspace → List ℕ → ℕ
copy_weight from name = unwrap_or (option_map meaning_weight (copy_in from name)) 0

one_comes : (globals : NameTable) (name : List ℕ) (copy : Option Meaning) → IsStrictlySortedBy name_order (keys_of globals) → meaning_in globals name ≡ None
    → table_weight (with_name_copied globals name copy) ≡ table_weight globals + unwrap_or (option_map meaning_weight copy) 0
one_comes globals name None s none = omega arith
one_comes globals name (Some meaning) s none =
    let nothing : weight_in globals name ≡ 0 = ap (λ (found : Option Meaning). unwrap_or (option_map meaning_weight found) 0) none in
    omega (arith, weight_with globals name meaning s, nothing)

comes : (from : PlainWorkspace) (globals : NameTable) (names : List (List ℕ)) → MayCome globals names → table_weight (with_copies from globals names) ≡ table_weight globals + sum_by (copy_weight from) names
comes from globals [] h = omega arith
comes from globals (name ∷ names) h =
    let one = one_comes globals name (copy_in from name) h.ascend h.absent.0 in
    omega (arith, one, comes from (with_name_copied globals name (copy_in from name)) names (comes_on from globals name names h), sum_by-cons (copy_weight from) name names)

-- what a workspace weighs with names copied
pub record Weighs (w : PlainWorkspace) (goes comes after : ℕ) : Type 0 where
  pub whole : after + goes ≡ workspace_weight w + comes
  pub within : goes ≤ workspace_weight w

copies_weigh : (into from : PlainWorkspace) (names : List (List ℕ)) → IsWorkspace into → all_differ names ≡ true → Weighs into (names_weight into names) (names_weight from names) (workspace_weight (with_names into from names))
copies_weigh into from names h differ =
    let go = goes into.globals names h.ascending differ in
    let come = comes from (without_names into.globals names) names (may_come into (without_globals into names) names h refl differ) in
    let here : sum_by (weight_in into.globals) names ≡ names_weight into names = ap (λ (f : List ℕ → ℕ). sum_by f names) (λ i name. found_weighs (meaning_in into.globals name) i) in
    let there : sum_by (copy_weight from) names ≡ names_weight from names = ap (λ (f : List ℕ → ℕ). sum_by f names) (λ i name. copied_weighs (global_in from name) i) in
    record { whole = omega (arith, go, come, here, there); within = omega (arith, go, here) }

pub gone_within : (into from : PlainWorkspace) (names : List (List ℕ)) → IsWorkspace into → names_weight into (copied_once into from names) ≤ workspace_weight into
gone_within into from names h = (copies_weigh into from (copied_once into from names) h (differ_picked (is_copied into from) (each_once names) (mentioned_once names))).within

is_within : (a b : ℕ) → a ≤ b → nat_le a b ≡ true
is_within a b e = grind (arith, nat_tests)

not_within : (a b : ℕ) → b < a → nat_le a b ≡ false
not_within a b e = grind (arith, nat_tests)

-- what was reckoned tells whether the workspace fits
pub fits_by : (into from : PlainWorkspace) (names : List (List ℕ)) (weight gone come : ℕ) → IsWorkspace into → weight ≡ workspace_weight into → gone ≡ min (names_weight into (copied_once into from names)) (most_weight + 1)
    → come ≡ min (names_weight from (copied_once into from names)) (most_weight + 1) → nat_le (weight - gone + come) most_weight ≡ nat_le (workspace_weight (with_names into from (copied_once into from names))) most_weight
fits_by into from names weight gone come h w g c =
    let copied = copied_once into from names in
    let after = workspace_weight (with_names into from copied) in
    let weighs = copies_weigh into from copied h (differ_picked (is_copied into from) (each_once names) (mentioned_once names)) in
    ⊎_elim (λ lt. not_within (weight - gone + come) most_weight (omega (arith, lt, w, g, c, weighs.whole, weighs.within, h.weight)) ∙ sym (not_within after most_weight lt))
    (λ le. is_within (weight - gone + come) most_weight (omega (arith, le, w, g, c, weighs.whole, weighs.within, h.weight)) ∙ sym (is_within after most_weight le)) (cases_lt most_weight after)

-- ---- all names, in no order

one_ascends : (globals : NameTable) (name : List ℕ) (copy : Option Meaning) → IsStrictlySortedBy name_order (keys_of globals) → IsStrictlySortedBy name_order (keys_of (with_name_copied globals name copy))
one_ascends globals name None s = s
one_ascends globals name (Some meaning) s = with_ascends globals name meaning s

copies_ascend : (from : PlainWorkspace) (globals : NameTable) (names : List (List ℕ)) → IsStrictlySortedBy name_order (keys_of globals) → IsStrictlySortedBy name_order (keys_of (with_copies from globals names))
copies_ascend from globals [] s = s
copies_ascend from globals (name ∷ names) s = copies_ascend from (with_name_copied globals name (copy_in from name)) names (one_ascends globals name (copy_in from name) s)

all_ascend : (into from : PlainWorkspace) (names : List (List ℕ)) → IsWorkspace into → IsStrictlySortedBy name_order (keys_of (with_names into from names).globals)
all_ascend into from names h = copies_ascend from (without_names into.globals names) names (still_ascends into.globals names h.ascending)

-- all names are copied, in whatever order they are gone over
pub same_merge : (into from : PlainWorkspace) (names : List (List ℕ)) → IsWorkspace into → AreNamesOf from.globals names → with_names into from (copied_once into from names) ≡ merged into from None
same_merge into from names h all =
    let once = each_once names in
    let first = with_names into from (copied_once into from names) in
    let second = merged into from None in
    let among = λ (name : List ℕ). mentioned_among names name ∙ all.there name ∙ is_some-lookup (same_name name) from.globals in
    ap (λ (g : NameTable). record into { globals = g })
    (told_by_look_ups first.globals second.globals (all_ascend into from (copied_once into from names) h) (all_ascend into from (filter (is_copied into from) (keys_of from.globals)) h)
    (λ name.
    found_copied into from once name h ∙ ap (λ (b : Bool). cond (is_copied into from name && b) (copy_in from name) (meaning_in into.globals name)) (among name)
    ∙ sym (found_copied into from (keys_of from.globals) name h)))

-- where a workspace would fit, memory alone was wanting
pub wants_memory : (w : PlainWorkspace) (fail : Fail) → nat_le (workspace_weight w) most_weight ≡ true → IsNotMerged w fail → IsFull w fail
wants_memory w (Report report) fits h = h
wants_memory w WantOfMemory fits h = grind (arith, nat_tests)
