-- A name that is no function is none in any frame, and a name that is offered, renewed or shared no more keeps the functions of a workspace.
use Rattle.std.proofs.Common.{◌≡◌, ℕ, zero, suc, Bool, true, false, List, [], ◌∷◌, refl, sym, ap, subst, ◌∙◌, drop, length, arith}
use Rattle.std.specs.Prelude.{Option, Some, None, cond, nat_le, unwrap_or}
use Rattle.std.specs.List.{cons_option, filter_map}
use Rattle.std.specs.Map.{keys_of}
use Rattle.std.proofs.lemmas.Bool.{false≢true}
use Rattle.std.proofs.lemmas.List.{drop_all}
use Rattle.apl_arrays.specs.Array.{PlainArray}
use Rattle.line_trees.specs.declared.class.Class.{Class}
use Rattle.apl_workspace.specs.Limits.{most_weight}
use Rattle.apl_workspace.specs.Meaning.{NameTable, is_function_meaning, is_shared_meaning, meaning_in, own_copy_in, without_name}
use Rattle.apl_arrays.specs.Name.{same_name}
use Rattle.apl_workspace.specs.Workspace.{IsWorkspace, PlainWorkspace, global_in, is_shared, is_unhidden, look, seen_by, unmarked, unshared, with_global, without_global, workspace_weight}
use Rattle.apl_workspace.specs.declared.meaning.Meaning.{Meaning}
use Rattle.apl_workspace.specs.declared.meaning.Meaning.TheVariants as meaning
use Rattle.apl_workspace.proofs.Looks.{look_without, seen_globally}
use Rattle.apl_workspace.proofs.NameLaw.{equal_names}
use Rattle.apl_workspace.proofs.Rules.{leaving_keeps}
use Rattle.apl_meaning.specs.Reading.{class_by, classes_of}
use Rattle.apl_statements.specs.Evaluating.{function_in}
use Rattle.apl_statements.proofs.Kept.{KeepsFunctions}
use Rattle.apl_answers.proofs.Changed.{no_class, no_function_in, put_keeps_functions, same_classes, same_where, unhidden_look}

-- a workspace without its innermost frames is one too
pub is_workspace_below : (n : ℕ) (w : PlainWorkspace) (frames : List NameTable) → w.frames ≡ frames → IsWorkspace w → IsWorkspace (record w { frames = drop n frames })
is_workspace_below zero w frames e h = subst (λ (list : List NameTable). IsWorkspace (record w { frames = list })) e h
is_workspace_below (suc n) w [] e h = subst (λ (list : List NameTable). IsWorkspace (record w { frames = list })) e h
is_workspace_below (suc n) w (frame ∷ frames) e h = is_workspace_below n (record w { frames = frames }) frames refl (leaving_keeps w frame frames e h)

no_function_by : (w : PlainWorkspace) (name : List ℕ) (m : Meaning) → IsWorkspace w → is_function_meaning (global_in w name) ≡ false → look w name ≡ m → is_function_meaning m ≡ false
no_function_by w name meaning.Nothing h global seen = refl
no_function_by w name (meaning.Value value) h global seen = refl
no_function_by w name (meaning.Function function) h global seen =
    absurd (false≢true (sym global ∙ ap is_function_meaning (seen_globally w name (meaning.Function function) h (λ none. absurd none) seen)))
no_function_by w name (meaning.Label line) h global seen = refl
no_function_by w name (meaning.Shared copy) h global seen = refl

-- a global name that is no function is seen as none in any frame
pub never_a_function : (w : PlainWorkspace) (name : List ℕ) (n : ℕ) → IsWorkspace w → is_function_meaning (global_in w name) ≡ false → is_function_meaning (look (record w { frames = drop n w.frames }) name) ≡ false
never_a_function w name n h global =
    let v : PlainWorkspace = record w { frames = drop n w.frames } in
    no_function_by v name (look v name) (is_workspace_below n w w.frames refl h) global refl

-- ---- one name less

one_name_less : (f : List ℕ → Option Class) (table : NameTable) (name : List ℕ) → f name ≡ None → filter_map f (keys_of (without_name table name)) ≡ filter_map f (keys_of table)
one_name_less f [] name none = refl
one_name_less f (e ∷ table) name none = by (same_name name e.0) refl (one_name_less f table name none)
  where
    by : (b : Bool) → same_name name e.0 ≡ b → filter_map f (keys_of (without_name table name)) ≡ filter_map f (keys_of table) → filter_map f (keys_of (cond b table (e ∷ without_name table name))) ≡ cons_option (f e.0) (filter_map f (keys_of table))
    by true is under = ap (λ (c : Option Class). cons_option c (filter_map f (keys_of table))) (sym none ∙ ap f (equal_names name e.0 is))
    by false is under = ap (cons_option (f e.0)) under

-- a global name that is no function is gone
pub taken_classes : (w : PlainWorkspace) (name : List ℕ) → IsWorkspace w → is_function_meaning (global_in w name) ≡ false → is_function_meaning (look w name) ≡ false → classes_of (without_global w name) ≡ classes_of w
taken_classes w name h old seen =
    let f : List ℕ → Option Class = λ x. class_by x (look w x) in
    same_classes (λ x. class_by x (look (without_global w name) x)) f (keys_of (without_name w.globals name)) (λ x.
    ap (class_by x) (look_without w name x h)
    ∙ same_where (class_by x) None (is_unhidden w name x) meaning.Nothing (look w x) refl (λ is. ap (class_by x) (unhidden_look w name x is) ∙ no_class x (global_in w name) old))
    ∙ one_name_less f w.globals name (no_class name (look w name) seen)

as_global : (o : Option Meaning) → seen_by None o ≡ unwrap_or o meaning.Nothing
as_global None = refl
as_global (Some m) = refl

-- the functions are the same
pub taken_functions : (w : PlainWorkspace) (name other : List ℕ) → IsWorkspace (record w { frames = [] }) → is_function_meaning (global_in w name) ≡ false → function_in (global_in (without_global w name) other) ≡ function_in (global_in w other)
taken_functions w name other h old =
    let flat : PlainWorkspace = record w { frames = [] } in
    ap function_in (sym (as_global (meaning_in (without_name w.globals name) other)) ∙ look_without flat name other h)
    ∙ same_where function_in None (is_unhidden flat name other) meaning.Nothing (look flat other) refl (λ is. ap function_in (unhidden_look flat name other is) ∙ no_function_in (global_in w name) old)
    ∙ ap function_in (as_global (meaning_in w.globals other))

pub taken_keeps_functions : (w : PlainWorkspace) (name : List ℕ) → IsWorkspace w → is_function_meaning (global_in w name) ≡ false → KeepsFunctions w (without_global w name)
taken_keeps_functions w name h old = record {
  functions = λ other. taken_functions w name other (flat w.frames refl) old;
  classes = λ n. taken_classes (record w { frames = drop n w.frames }) name (is_workspace_below n w w.frames refl h) old (never_a_function w name n h old);
  depth = refl;
  names = λ n other. refl;
}
  where
    flat : (frames : List NameTable) → w.frames ≡ frames → IsWorkspace (record w { frames = [] })
    flat frames e = subst (λ (list : List NameTable). IsWorkspace (record w { frames = list })) (drop_all (length frames) frames (omega arith)) (is_workspace_below (length frames) w frames e h)

-- ---- shares

-- a name that is offered or renewed
pub share_keeps_functions : (w : PlainWorkspace) (name : List ℕ) (copy : Option PlainArray) → IsWorkspace w → is_function_meaning (global_in w name) ≡ false → KeepsFunctions w (with_global w name (meaning.Shared copy))
share_keeps_functions w name copy h old = put_keeps_functions w name (meaning.Shared copy) refl old (λ n. never_a_function w name n h old)

-- a name that is shared no more
pub unshared_keeps_functions : (w : PlainWorkspace) (name : List ℕ) (value : Option PlainArray) → IsWorkspace w → is_function_meaning (global_in w name) ≡ false → KeepsFunctions w (unshared w name value)
unshared_keeps_functions w name None h old = let keeps = taken_keeps_functions w name h old in record { functions = keeps.functions; classes = keeps.classes; depth = keeps.depth; names = keeps.names }
unshared_keeps_functions w name (Some value) h old = let keeps = put_keeps_functions w name (meaning.Value value) refl old (λ n. never_a_function w name n h old) in record { functions = keeps.functions; classes = keeps.classes; depth = keeps.depth; names = keeps.names }

no_function_shared : (m : Meaning) → is_shared_meaning m ≡ true → is_function_meaning m ≡ false
no_function_shared meaning.Nothing is = refl
no_function_shared (meaning.Value value) is = refl
no_function_shared (meaning.Function function) is = absurd (false≢true is)
no_function_shared (meaning.Label line) is = refl
no_function_shared (meaning.Shared copy) is = refl

pub unmarked_keeps_functions : (w : PlainWorkspace) (name : List ℕ) (value : Option PlainArray) → IsWorkspace w → is_shared w name ≡ true → KeepsFunctions w (unmarked w name value)
unmarked_keeps_functions w name value h is =
    by (nat_le (workspace_weight (unshared w name value)) most_weight)
  where
    by : (b : Bool) → KeepsFunctions w (cond b (unshared w name value) (unshared w name (own_copy_in w.globals name)))
    by true = unshared_keeps_functions w name value h (no_function_shared (global_in w name) is)
    by false = unshared_keeps_functions w name (own_copy_in w.globals name) h (no_function_shared (global_in w name) is)
