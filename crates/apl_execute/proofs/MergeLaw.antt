-- What stands under each name after a merge.
use Rattle.std.proofs.Common.{◌≡◌, ℕ, Bool, true, false, cond, not, ◌&&◌, ◌||◌, List, [], ◌∷◌, ◌++◌, Option, Some, None, refl, sym, ap, subst, ◌∙◌}
use Rattle.std.specs.Prelude.{filter, fold, is_some, unwrap_or}
use Rattle.std.specs.List.{list_any}
use Rattle.std.proofs.Math.Bool.{or-false}
use Rattle.std.proofs.lemmas.Bool.{and_parts, false≢true}
use Rattle.std.proofs.lemmas.List.Folds.{list_any-append}
use Rattle.std.proofs.lemmas.Map.Views.{any-filter_same}
use Rattle.apl_workspace.specs.Meaning.{NameTable, is_shared_in, is_shared_meaning, meaning_in, without_names}
use Rattle.apl_workspace.specs.Names.{all_differ}
use Rattle.apl_arrays.specs.Name.{same_name}
use Rattle.apl_workspace.specs.Workspace.{IsWorkspace, PlainWorkspace, global_in, is_shared}
use Rattle.apl_workspace.specs.declared.meaning.Meaning.{Meaning}
use Rattle.apl_workspace.specs.declared.meaning.Meaning.TheVariants.{Nothing, Value, Function, Label, Shared}
use Rattle.apl_workspace.proofs.Ascending.{found_with}
use Rattle.apl_workspace.proofs.NameLaw.{differ_push, from_not, name_flips, none_differ, own_name, equal_names}
use Rattle.apl_workspace.proofs.Without.{found_without_all}
use Rattle.apl_execute.specs.Merge.{asked, copied_as, copy_in, each_once, is_copied, merged, with_copies, with_mention, with_name_copied, with_names}

-- ---- names that are put in

own_copy_found : (globals : NameTable) (name : List ℕ) (copy : Option Meaning) → meaning_in (with_name_copied globals name copy) name ≡ cond (is_some copy) copy (meaning_in globals name)
own_copy_found globals name None = refl
own_copy_found globals name (Some meaning) = found_with globals name meaning name ∙ ap (λ (b : Bool). cond b (Some meaning) (meaning_in globals name)) (own_name name)

other_copy_found : (globals : NameTable) (name other : List ℕ) (copy : Option Meaning) → same_name name other ≡ false → meaning_in (with_name_copied globals name copy) other ≡ meaning_in globals other
other_copy_found globals name other None apart = refl
other_copy_found globals name other (Some meaning) apart = found_with globals name meaning other ∙ ap (λ (b : Bool). cond b (Some meaning) (meaning_in globals other)) apart

copy_found : (from : PlainWorkspace) (globals : NameTable) (name other : List ℕ) (b : Bool) → same_name other name ≡ b → meaning_in (with_name_copied globals name (copy_in from name)) other ≡ cond (b && is_some (copy_in from other)) (copy_in from other) (meaning_in globals other)
copy_found from globals name other true e =
    let same : other ≡ name = equal_names other name e in
    subst (λ (n : List ℕ). meaning_in (with_name_copied globals n (copy_in from n)) other ≡ cond (is_some (copy_in from other)) (copy_in from other) (meaning_in globals other)) same (own_copy_found globals other (copy_in from other))
copy_found from globals name other false e = other_copy_found globals name other (copy_in from name) (name_flips name other ∙ e)

either : (first later there : Bool) (copy was : Option Meaning) → cond (later && there) copy (cond (first && there) copy was) ≡ cond ((first || later) && there) copy was
either true true true copy was = refl
either true true false copy was = refl
either true false true copy was = refl
either true false false copy was = refl
either false true true copy was = refl
either false true false copy was = refl
either false false true copy was = refl
either false false false copy was = refl

copies_found : (from : PlainWorkspace) (globals : NameTable) (names : List (List ℕ)) (other : List ℕ) → meaning_in (with_copies from globals names) other ≡ cond (list_any (same_name other) names && is_some (copy_in from other)) (copy_in from other) (meaning_in globals other)
copies_found from globals [] other = refl
copies_found from globals (name ∷ names) other =
    copies_found from (with_name_copied globals name (copy_in from name)) names other
    ∙ ap (λ (o : Option Meaning). cond (list_any (same_name other) names && is_some (copy_in from other)) (copy_in from other) o) (copy_found from globals name other (same_name other name) refl)
    ∙ either (same_name other name) (list_any (same_name other) names) (is_some (copy_in from other)) (copy_in from other) (meaning_in globals other)

-- ---- the merge

there_by : (copied among there free : Bool) (copy was : Option Meaning) → copied ≡ (there && free) → cond ((copied && among) && there) copy (cond (copied && among) None was) ≡ cond (copied && among) copy was
there_by true true true free copy was e = refl
there_by true true false free copy was e = absurd (false≢true (sym e))
there_by true false there free copy was e = refl
there_by false among there free copy was e = refl

-- what stands under a name once those of some names that may be copied are
pub found_copied : (into from : PlainWorkspace) (names : List (List ℕ)) (name : List ℕ) → IsWorkspace into
    → meaning_in (with_names into from (filter (is_copied into from) names)).globals name ≡ cond (is_copied into from name && list_any (same_name name) names) (copy_in from name) (meaning_in into.globals name)
found_copied into from names name h =
    let copied = filter (is_copied into from) names in
    let among : list_any (same_name name) copied ≡ (is_copied into from name && list_any (same_name name) names) =
    any-filter_same (same_name name) (is_copied into from) (is_copied into from name) (λ other e. ap (is_copied into from) (sym (equal_names name other e))) names in
    copies_found from (without_names into.globals copied) copied name
    ∙ ap (λ (o : Option Meaning). cond (list_any (same_name name) copied && is_some (copy_in from name)) (copy_in from name) o) (found_without_all into.globals copied name h.ascending)
    ∙ ap (λ (b : Bool). cond (b && is_some (copy_in from name)) (copy_in from name) (cond b None (meaning_in into.globals name))) among
    ∙ there_by (is_copied into from name) (list_any (same_name name) names) (is_some (copy_in from name)) (not (is_shared into name)) (copy_in from name) (meaning_in into.globals name) refl

pub merged_found : (into from : PlainWorkspace) (names : Option (List (List ℕ))) (name : List ℕ) → IsWorkspace into
    → meaning_in (merged into from names).globals name ≡ cond (is_copied into from name && list_any (same_name name) (asked from names)) (copy_in from name) (meaning_in into.globals name)
merged_found into from names name h = found_copied into from (asked from names) name h

-- nothing is copied as a share
unmarked : (meaning : Meaning) → is_shared_meaning (unwrap_or (copied_as meaning) Nothing) ≡ false
unmarked Nothing = refl
unmarked (Value value) = refl
unmarked (Function function) = refl
unmarked (Label line) = refl
unmarked (Shared None) = refl
unmarked (Shared (Some value)) = refl

marks_by : (into from : PlainWorkspace) (name : List ℕ) (copied among : Bool) → is_copied into from name ≡ copied → is_shared_meaning (unwrap_or (cond (copied && among) (copy_in from name) (meaning_in into.globals name)) Nothing) ≡ is_shared into name
marks_by into from name true true e =
    unmarked (global_in from name) ∙ sym (from_not (is_shared into name) (and_parts (is_some (copy_in from name)) (not (is_shared into name)) e).1)
marks_by into from name true false e = refl
marks_by into from name false among e = refl

pub marks_stay : (into from : PlainWorkspace) (names : Option (List (List ℕ))) (name : List ℕ) → IsWorkspace into → is_shared_in (merged into from names).globals name ≡ is_shared into name
marks_stay into from names name h =
    ap (λ (o : Option Meaning). is_shared_meaning (unwrap_or o Nothing)) (merged_found into from names name h) ∙ marks_by into from name (is_copied into from name) (list_any (same_name name) (asked from names)) refl

-- ---- names that are mentioned

mention_by : (names : List (List ℕ)) (name other : List ℕ) (b : Bool) → list_any (same_name name) names ≡ b → list_any (same_name other) (cond b names (names ++ name ∷ [])) ≡ (list_any (same_name other) names || same_name other name)
mention_by names name other true e = there_too (list_any (same_name other) names) (same_name other name) (λ here. ap (λ (n : List ℕ). list_any (same_name n) names) (equal_names other name here) ∙ e)
  where
    there_too : (a b : Bool) → (b ≡ true → a ≡ true) → a ≡ (a || b)
    there_too true b h = refl
    there_too false true h = h refl
    there_too false false h = refl
mention_by names name other false e = list_any-append (same_name other) names (name ∷ []) ∙ ap (λ (b : Bool). list_any (same_name other) names || b) (or-false (same_name other name))

or_assoc : (a b c : Bool) → (a || b) || c ≡ a || (b || c)
or_assoc true b c = refl
or_assoc false b c = refl

folded_among : (start names : List (List ℕ)) (name : List ℕ) → list_any (same_name name) (fold with_mention start names) ≡ (list_any (same_name name) start || list_any (same_name name) names)
folded_among start [] name = sym (or-false (list_any (same_name name) start))
folded_among start (first ∷ names) name =
    folded_among (with_mention start first) names name
    ∙ ap (λ (b : Bool). b || list_any (same_name name) names) (mention_by start first name (list_any (same_name first) start) refl)
    ∙ or_assoc (list_any (same_name name) start) (same_name name first) (list_any (same_name name) names)

pub mentioned_among : (names : List (List ℕ)) (name : List ℕ) → list_any (same_name name) (each_once names) ≡ list_any (same_name name) names
mentioned_among names name = folded_among [] names name

differ_by : (names : List (List ℕ)) (name : List ℕ) (b : Bool) → list_any (same_name name) names ≡ b → all_differ names ≡ true → all_differ (cond b names (names ++ name ∷ [])) ≡ true
differ_by names name true e h = h
differ_by names name false e h = differ_push names name h e

folded_once : (start names : List (List ℕ)) → all_differ start ≡ true → all_differ (fold with_mention start names) ≡ true
folded_once start [] h = h
folded_once start (name ∷ names) h = folded_once (with_mention start name) names (differ_by start name (list_any (same_name name) start) refl h)

pub mentioned_once : (names : List (List ℕ)) → all_differ (each_once names) ≡ true
mentioned_once names = folded_once [] names none_differ
