-- Names that are mentioned, and names that are copied.
use Rattle.std.proofs.Common.{◌≡◌, ℕ, ◌+◌, ◌<◌, Bool, true, false, cond, not, ◌||◌, All, List, [], ◌∷◌, ◌++◌, length, take, get_or, refl, sym, ap, ◌∙◌}
use Rattle.std.specs.Prelude.{filter, is_some}
use Rattle.std.specs.List.{list_any}
use Rattle.std.specs.Ordering.{is_eq}
use Rattle.std.proofs.lemmas.Bool.{and_parts}
use Rattle.std.proofs.lemmas.List.Elements.{All-weaker, filter_passes}
use Rattle.std.proofs.lemmas.List.Folds.{list_any-append}
use Rattle.std.proofs.lemmas.List.Sums.{fold_more}
use Rattle.apl_arrays.specs.Name.{name_order, same_name}
use Rattle.apl_workspace.specs.Workspace.{PlainWorkspace, is_shared}
use Rattle.apl_workspace.proofs.NameLaw.{by_order, equal_names, from_not, here_too, name_flips}
use Rattle.apl_execute.specs.Merge.{copy_in, each_once, is_copied, with_mention}

unshared : (into from : PlainWorkspace) (name : List ℕ) → is_copied into from name ≡ true → is_shared into name ≡ false
unshared into from name e = from_not (is_shared into name) (and_parts (is_some (copy_in from name)) (not (is_shared into name)) e).1

-- names that are copied are not shared
pub copied_are_unshared : (into from : PlainWorkspace) (names : List (List ℕ)) → All (λ name. is_shared into name ≡ false) (filter (is_copied into from) names)
copied_are_unshared into from names = All-weaker (λ name. is_copied into from name ≡ true) (λ name. is_shared into name ≡ false) (unshared into from) (filter (is_copied into from) names) (filter_passes (is_copied into from) names)

-- ---- name after name

chosen : (has : Bool) (added : Bool) (old more : List (List ℕ)) → added ≡ not has → cond added more old ≡ cond has old more
chosen true added old more e = ap (λ (b : Bool). cond b more old) e
chosen false added old more e = ap (λ (b : Bool). cond b more old) e

-- one name more, where it is new
pub mention_step : (names : List (List ℕ)) (i : ℕ) (name : List ℕ) (old new : List (List ℕ)) (has added : Bool) → i < length names → name ≡ get_or names i name → old ≡ each_once (take i names) → has ≡ list_any (same_name name) old → added ≡ not has → new ≡ cond added (old ++ name ∷ []) old
    → new ≡ each_once (take (i + 1) names)
mention_step names i name old new has added within is once among adds e =
    e ∙ chosen has added old (old ++ name ∷ []) adds
    ∙ ap (λ (b : Bool). cond b old (old ++ name ∷ [])) among
    ∙ ap (λ (list : List (List ℕ)). with_mention list name) once
    ∙ ap (with_mention (each_once (take i names))) is
    ∙ sym (fold_more with_mention [] names i name within)

among_by : (name asked : List ℕ) (old : List (List ℕ)) (b : Bool) → same_name name asked ≡ b → list_any (same_name name) old ≡ true → cond b true (list_any (same_name asked) old) ≡ list_any (same_name asked) old
among_by name asked old true e there = sym (ap (λ (other : List ℕ). list_any (same_name other) old) (sym (equal_names name asked e)) ∙ there)
among_by name asked old false e there = refl

has_by : (name asked : List ℕ) (old : List (List ℕ)) (has added : Bool) → has ≡ list_any (same_name name) old → added ≡ not has → cond (same_name name asked) true (list_any (same_name asked) old) ≡ list_any (same_name asked) (cond added (old ++ name ∷ []) old)
has_by name asked old true added among e =
    among_by name asked old (same_name name asked) refl (sym among) ∙ ap (λ (b : Bool). list_any (same_name asked) (cond b (old ++ name ∷ []) old)) (sym e)
has_by name asked old false added among e =
    here_too (list_any (same_name asked) old) (same_name name asked)
    ∙ ap (λ (b : Bool). list_any (same_name asked) old || (b || false)) (name_flips name asked)
    ∙ sym (list_any-append (same_name asked) old (name ∷ []))
    ∙ ap (λ (b : Bool). list_any (same_name asked) (cond b (old ++ name ∷ []) old)) (sym e)

-- the set has the names of the list
pub has_step : (name asked : List ℕ) (old new : List (List ℕ)) (has added had now : Bool) → now ≡ cond (is_eq (name_order name asked)) true had → had ≡ list_any (same_name asked) old → has ≡ list_any (same_name name) old → added ≡ not has → new ≡ cond added (old ++ name ∷ []) old
    → now ≡ list_any (same_name asked) new
has_step name asked old new has added had now is was among adds e =
    is ∙ ap (λ (b : Bool). cond b true had) (sym (by_order name asked)) ∙ ap (λ (b : Bool). cond (same_name name asked) true b) was ∙ has_by name asked old has added among adds ∙ ap (list_any (same_name asked)) (sym e)
