-- Changes of global values keep the functions of a workspace, and their classes.
use Rattle.std.proofs.Common.{◌≡◌, ℕ, Bool, true, false, List, [], ◌∷◌, refl, sym, ap, ◌∙◌, drop}
use Rattle.std.specs.Prelude.{◌&&◌, Option, Some, None, cond, not, unwrap_or}
use Rattle.std.specs.List.{cons_option, filter_map}
use Rattle.std.specs.Map.{keys_of}
use Rattle.std.specs.Ordering.{match_ordering}
use Rattle.std.specs.declared.cmp.Ordering.{Ordering}
use Rattle.std.specs.declared.cmp.Ordering.TheVariants.{Less, Equal, Greater}
use Rattle.std.proofs.lemmas.Bool.{false≢true}
use Rattle.line_trees.specs.declared.class.Class.{Class}
use Rattle.apl_workspace.specs.Meaning.{NameTable, is_function_meaning, meaning_in, with_meaning}
use Rattle.apl_arrays.specs.Name.{name_order, same_name}
use Rattle.apl_workspace.specs.Workspace.{PlainWorkspace, global_in, innermost, is_local, is_unhidden, look, seen_by, with_global}
use Rattle.apl_workspace.specs.declared.meaning.Meaning.{Meaning}
use Rattle.apl_workspace.specs.declared.meaning.Meaning.TheVariants as meaning
use Rattle.apl_workspace.proofs.Innermost.{none_from}
use Rattle.apl_workspace.proofs.Looks.{look_with}
use Rattle.apl_workspace.proofs.NameLaw.{equal_names}
use Rattle.apl_meaning.specs.Reading.{class_by, classes_of}
use Rattle.apl_statements.specs.Evaluating.{function_in}
use Rattle.apl_statements.proofs.Kept.{KeepsFunctions}

pub same_classes : (f g : List ℕ → Option Class) (names : List (List ℕ)) → ((name : List ℕ) → f name ≡ g name) → filter_map f names ≡ filter_map g names
same_classes f g [] same = refl
same_classes f g (name ∷ names) same = ap (λ (c : Option Class). cons_option c (filter_map f names)) (same name) ∙ ap (cons_option (g name)) (same_classes f g names same)

-- one name more that is no function
one_by : (o : Ordering) (f : List ℕ → Option Class) (e : List ℕ × Meaning) (table : NameTable) (name : List ℕ) (m : Meaning) → f name ≡ None → filter_map f (keys_of (with_meaning table name m)) ≡ filter_map f (keys_of table)
    → filter_map f (keys_of (match_ordering o ((name, m) ∷ e ∷ table) ((e.0, m) ∷ table) (e ∷ with_meaning table name m))) ≡ filter_map f (keys_of (e ∷ table))
one_by Less f e table name m none rest = ap (λ (c : Option Class). cons_option c (filter_map f (keys_of (e ∷ table)))) none
one_by Equal f e table name m none rest = refl
one_by Greater f e table name m none rest = ap (cons_option (f e.0)) rest

one_name_more : (f : List ℕ → Option Class) (table : NameTable) (name : List ℕ) (m : Meaning) → f name ≡ None → filter_map f (keys_of (with_meaning table name m)) ≡ filter_map f (keys_of table)
one_name_more f [] name m none = ap (λ (c : Option Class). cons_option c []) none
one_name_more f (e ∷ table) name m none = one_by (name_order name e.0) f e table name m none (one_name_more f table name m none)

-- what is no function has no class, and is no function
pub no_class : (name : List ℕ) (m : Meaning) → is_function_meaning m ≡ false → class_by name m ≡ None
no_class name meaning.Nothing is = refl
no_class name (meaning.Value value) is = refl
no_class name (meaning.Function function) is = absurd (false≢true (sym is))
no_class name (meaning.Label line) is = refl
no_class name (meaning.Shared copy) is = refl

pub no_function_in : (m : Meaning) → is_function_meaning m ≡ false → function_in m ≡ None
no_function_in meaning.Nothing is = refl
no_function_in (meaning.Value value) is = refl
no_function_in (meaning.Function function) is = absurd (false≢true (sym is))
no_function_in (meaning.Label line) is = refl
no_function_in (meaning.Shared copy) is = refl

-- a name that no frame hides is seen as it is globally
seen_globally : (o : Option Meaning) → seen_by None o ≡ unwrap_or o meaning.Nothing
seen_globally None = refl
seen_globally (Some m) = refl

unhidden : (named hidden : Bool) → (named && not hidden) ≡ true → (named ≡ true) × (hidden ≡ false)
unhidden true true e = absurd (false≢true e)
unhidden true false e = (refl, refl)
unhidden false hidden e = absurd (false≢true e)

pub unhidden_look : (w : PlainWorkspace) (name other : List ℕ) → is_unhidden w name other ≡ true → look w other ≡ global_in w name
unhidden_look w name other is =
    let parts : (same_name name other ≡ true) × (is_local w other ≡ false) = unhidden (same_name name other) (is_local w other) is in
    ap (λ (local : Option Meaning). seen_by local (meaning_in w.globals other)) (none_from (innermost w.frames other) parts.1)
    ∙ seen_globally (meaning_in w.globals other)
    ∙ ap (λ (n : List ℕ). global_in w n) (sym (equal_names name other parts.0))

pub same_where : {A : Type 0} (f : Meaning → A) (none : A) (b : Bool) (m seen : Meaning) → f m ≡ none → (b ≡ true → f seen ≡ none) → f (cond b m seen) ≡ f seen
same_where f none true m seen new old = new ∙ sym (old refl)
same_where f none false m seen new old = refl

-- a global name that is no function gets another meaning that is none
pub put_classes : (w : PlainWorkspace) (name : List ℕ) (m : Meaning) → is_function_meaning m ≡ false → is_function_meaning (global_in w name) ≡ false → is_function_meaning (look w name) ≡ false → classes_of (with_global w name m) ≡ classes_of w
put_classes w name m new old seen =
    let f : List ℕ → Option Class = λ x. class_by x (look w x) in
    same_classes (λ x. class_by x (look (with_global w name m) x)) f (keys_of (with_meaning w.globals name m)) (λ x.
    ap (class_by x) (look_with w name x m)
    ∙ same_where (class_by x) None (is_unhidden w name x) m (look w x) (no_class x m new) (λ is. ap (class_by x) (unhidden_look w name x is) ∙ no_class x (global_in w name) old))
    ∙ one_name_more f w.globals name m (no_class name (look w name) seen)

-- the functions are the same
pub put_functions : (w : PlainWorkspace) (name other : List ℕ) (m : Meaning) → is_function_meaning m ≡ false → is_function_meaning (global_in w name) ≡ false → function_in (global_in (with_global w name m) other) ≡ function_in (global_in w other)
put_functions w name other m new old =
    let flat : PlainWorkspace = record w { frames = [] } in
    ap function_in (sym (seen_globally (meaning_in (with_meaning w.globals name m) other)) ∙ look_with flat name other m)
    ∙ same_where function_in None (is_unhidden flat name other) m (look flat other) (no_function_in m new) (λ is. ap function_in (unhidden_look flat name other is) ∙ no_function_in (global_in w name) old)
    ∙ ap function_in (seen_globally (meaning_in w.globals other))

-- so the workspace keeps its functions, where no frame has the name as one
pub put_keeps_functions : (w : PlainWorkspace) (name : List ℕ) (m : Meaning) → is_function_meaning m ≡ false → is_function_meaning (global_in w name) ≡ false
    → ((n : ℕ) → is_function_meaning (look (record w { frames = drop n w.frames }) name) ≡ false) → KeepsFunctions w (with_global w name m)
put_keeps_functions w name m new old seen = record {
  functions = λ other. put_functions w name other m new old;
  classes = λ n. put_classes (record w { frames = drop n w.frames }) name m new old (seen n);
  depth = refl;
  names = λ n other. refl;
}
