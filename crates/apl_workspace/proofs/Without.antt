-- Tables and entries without some names.
use Rattle.std.proofs.Common.{◌≡◌, ℕ, ◌+◌, ◌-◌, ◌<◌, ◌≤◌, Bool, true, false, cond, not, ◌||◌, List, [], ◌∷◌, Option, Some, None, length, drop, take, get_or, refl, sym, ap, ◌∙◌, subst, arith}
use Rattle.std.specs.Prelude.{filter, slice_get, unwrap_or, if◌then◌else◌}
use Rattle.std.specs.List.{list_any}
use Rattle.std.specs.Map.{keys_of}
use Rattle.std.specs.Option.{option_map}
use Rattle.std.proofs.lemmas.List.Elements.{filter_agree}
use Rattle.std.proofs.lemmas.List.Sums.{fold_more}
use Rattle.std.proofs.lemmas.Map.Entries.{lookup-filter-keys}
use Rattle.apl_workspace.specs.Meaning.{IsTable, NameTable, meaning_in, meaning_weight, table_weight, weight_in, with_meaning, without_name, without_names}
use Rattle.apl_arrays.specs.Name.{same_name}
use Rattle.apl_workspace.specs.Sorted.{sorted}
use Rattle.apl_workspace.specs.declared.meaning.Meaning.{Meaning}
use Rattle.apl_workspace.proofs.Ascending.{Ascend, found, found_without, told_by_look_ups, without_ascends}
use Rattle.apl_workspace.proofs.InOrder.{Entries, found_in_order, sorted_ascends}
use Rattle.apl_workspace.proofs.NameLaw.{name_flips, equal_names}
use Rattle.apl_workspace.proofs.Places.{cut}
use Rattle.apl_workspace.proofs.Tables.{is_table_without, weight_without}

-- ---- a table without names

pub still_ascends : (names : NameTable) (gone : List (List ℕ)) → Ascend (keys_of names) → Ascend (keys_of (without_names names gone))
still_ascends names [] s = s
still_ascends names (name ∷ gone) s = still_ascends (without_name names name) gone (without_ascends names name s)

gone_by : (first later : Bool) (found : Option Meaning) → cond later None (cond first None found) ≡ cond (first || later) None found
gone_by true true found = refl
gone_by true false found = refl
gone_by false true found = refl
gone_by false false found = refl

-- the names that are gone stand for nothing, and all others for what they did
pub found_without_all : (names : NameTable) (gone : List (List ℕ)) (other : List ℕ) → Ascend (keys_of names) → meaning_in (without_names names gone) other ≡ cond (list_any (same_name other) gone) None (meaning_in names other)
found_without_all names [] other s = refl
found_without_all names (name ∷ gone) other s =
    found_without_all (without_name names name) gone other (without_ascends names name s)
    ∙ ap (λ (o : Option Meaning). cond (list_any (same_name other) gone) None o) (found_without names name other s ∙ ap (λ (b : Bool). cond b None (meaning_in names other)) (name_flips name other))
    ∙ gone_by (same_name other name) (list_any (same_name other) gone) (meaning_in names other)

-- the table without names is one
pub is_table_without_all : (names : NameTable) (gone : List (List ℕ)) (weight : ℕ) → IsTable weight names → IsTable (table_weight (without_names names gone)) (without_names names gone)
is_table_without_all names [] weight h = subst (λ (n : ℕ). IsTable n names) h.counted h
is_table_without_all names (name ∷ gone) weight h =
    is_table_without_all (without_name names name) gone (weight - weight_in names name) (is_table_without names names (without_name names name) name weight (weight_in names name) refl h refl refl)

-- ---- the weight, name after name

weighs_by : (names : NameTable) (gone : List (List ℕ)) (name : List ℕ) (b : Bool) → Ascend (keys_of names) → list_any (same_name name) gone ≡ b → weight_in (without_names names gone) name ≡ cond b 0 (weight_in names name)
weighs_by names gone name true s e =
    ap (λ (o : Option Meaning). unwrap_or (option_map meaning_weight o) 0) (found_without_all names gone name s ∙ ap (λ (b : Bool). cond b None (meaning_in names name)) e)
weighs_by names gone name false s e =
    ap (λ (o : Option Meaning). unwrap_or (option_map meaning_weight o) 0) (found_without_all names gone name s ∙ ap (λ (b : Bool). cond b None (meaning_in names name)) e)

-- a name more is gone
pub one_less : (names : NameTable) (gone : List (List ℕ)) (i : ℕ) (name : List ℕ) → i < length gone → name ≡ get_or gone i name → without_names names (take (i + 1) gone) ≡ without_name (without_names names (take i gone)) name
one_less names gone i name within is = fold_more without_name names gone i name within ∙ ap (without_name (without_names names (take i gone))) (sym is)

left_by : (names : NameTable) (gone : List (List ℕ)) (name : List ℕ) (before own : ℕ) (b : Bool) → Ascend (keys_of names) → list_any (same_name name) gone ≡ b → before ≡ table_weight (without_names names gone) → own ≡ weight_in names name
    → cond (not b) (before - own) before ≡ table_weight (without_name (without_names names gone) name)
left_by names gone name before own true s e is weighs =
    let none : weight_in (without_names names gone) name ≡ 0 = weighs_by names gone name true s e in
    let less = weight_without (without_names names gone) name in
    omega (arith, none, less, is)
left_by names gone name before own false s e is weighs =
    let same : weight_in (without_names names gone) name ≡ weight_in names name = weighs_by names gone name false s e in
    let less = weight_without (without_names names gone) name in
    omega (arith, same, less, is, weighs)

-- what is left of the weight, where a name was gone before, or was not
pub weight_left : (names : NameTable) (gone : List (List ℕ)) (i : ℕ) (name : List ℕ) (before own after : ℕ) (b : Bool) → Ascend (keys_of names) → i < length gone → name ≡ get_or gone i name → before ≡ table_weight (without_names names (take i gone)) → own ≡ weight_in names name
    → list_any (same_name name) (take i gone) ≡ b → after ≡ cond (not b) (before - own) before → after ≡ table_weight (without_names names (take (i + 1) gone))
weight_left names gone i name before own after b s within is so weighs among made =
    made ∙ left_by names (take i gone) name before own b s among so weighs ∙ sym (ap table_weight (one_less names gone i name within is))

-- a name that was not gone before weighs no more than what is left
pub weighs_within : (names : NameTable) (gone : List (List ℕ)) (name : List ℕ) (before own : ℕ) → Ascend (keys_of names) → before ≡ table_weight (without_names names gone) → own ≡ weight_in names name → list_any (same_name name) gone ≡ false → own ≤ before
weighs_within names gone name before own s is weighs e =
    let same : weight_in (without_names names gone) name ≡ weight_in names name = weighs_by names gone name false s e in
    let less = weight_without (without_names names gone) name in
    omega (arith, same, less, is, weighs)

-- ---- entries of other names

-- the entries whose names pass a test
abbrev pub passing : (List ℕ → Bool) → Entries → Entries
passing test entries = filter (λ entry. test entry.0) entries

turned : (b : Bool) (found : Option Meaning) → cond (not b) found None ≡ cond b None found
turned true found = refl
turned false found = refl

found_passing : (entries : Entries) (gone : List (List ℕ)) (other : List ℕ) → found (passing (λ name. not (list_any (same_name name) gone)) entries) other ≡ cond (list_any (same_name other) gone) None (found entries other)
found_passing entries gone other =
    lookup-filter-keys (same_name other) (λ name. not (list_any (same_name name) gone)) (not (list_any (same_name other) gone)) (λ name e. ap (λ (n : List ℕ). not (list_any (same_name n) gone)) (sym (equal_names other name e))) entries
    ∙ turned (list_any (same_name other) gone) (found entries other)

-- the entries of other names are the table without these
pub kept_in_order : (entries : Entries) (gone : List (List ℕ)) (among : List ℕ → Bool) → ((name : List ℕ) → among name ≡ list_any (same_name name) gone) → sorted (passing (λ name. not (among name)) entries) ≡ without_names (sorted entries) gone
kept_in_order entries gone among same =
    let kept = passing (λ name. not (list_any (same_name name) gone)) entries in
    ap sorted (filter_agree _ _ (λ (entry : List ℕ × Meaning). ap not (same entry.0)) entries)
    ∙ told_by_look_ups (sorted kept) (without_names (sorted entries) gone) (sorted_ascends kept) (still_ascends (sorted entries) gone (sorted_ascends entries))
    (λ name.
    found_in_order kept name ∙ found_passing entries gone name ∙ ap (λ (o : Option Meaning). cond (list_any (same_name name) gone) None o) (sym (found_in_order entries name))
    ∙ sym (found_without_all (sorted entries) gone name (sorted_ascends entries)))

passed_by : (b : Bool) (item : List ℕ × Meaning) (rest : Entries) (old : NameTable) → old ≡ sorted rest → cond b old (with_meaning old item.0 item.1) ≡ sorted (cond (not b) (item ∷ rest) rest)
passed_by true item rest old e = e
passed_by false item rest old e = ap (λ (names : NameTable). with_meaning names item.0 item.1) e

-- an entry more was copied, or passed over
pub copied_on : (gone : List ℕ → Bool) (entries old new : Entries) (at left : ℕ) → at + 1 ≡ left → left ≤ length entries
    → ((entry : List ℕ × Meaning) → slice_get entries at ≡ Some entry → sorted new ≡ (if gone entry.0 then sorted old else with_meaning (sorted old) entry.0 entry.1))
    → sorted old ≡ sorted (passing (λ name. not (gone name)) (drop left entries)) → sorted new ≡ sorted (passing (λ name. not (gone name)) (drop at entries))
copied_on gone entries old new at left more lt put so =
    let here = cut entries at (omega (arith, more, lt)) in
    let others = passing (λ name. not (gone name)) in
    put here.item here.here
    ∙ passed_by (gone here.item.0) here.item (others (drop (at + 1) entries)) (sorted old) (so ∙ ap (λ (k : ℕ). sorted (others (drop k entries))) (sym more))
    ∙ sym (ap (λ (rest : Entries). sorted (others rest)) here.behind)
