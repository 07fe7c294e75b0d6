-- Classes of names that ascend, one after another.
use Rattle.std.proofs.Common.{◌≡◌, ℕ, zero, suc, ◌+◌, ◌<◌, true, List, [], ◌∷◌, ◌++◌, length, take, get_or, refl, sym, ap, ◌∙◌, arith}
use Rattle.std.specs.Prelude.{Option, Some, None, IfSome, IsTrue}
use Rattle.std.specs.List.{AllByRecursion, cons_option}
use Rattle.std.specs.List.Sorted.{IsStrictlySortedBy}
use Rattle.std.specs.Option.{option_to_list}
use Rattle.std.specs.Ordering.{is_lt}
use Rattle.std.specs.declared.cmp.Ordering.TheVariants.{Less}
use Rattle.std.proofs.lemmas.Bool.{and_from}
use Rattle.std.proofs.lemmas.List.{take_more}
use Rattle.std.proofs.lemmas.List.Elements.{filter_map-append}
use Rattle.apl_arrays.specs.Name.{name_order}
use Rattle.apl_workspace.specs.Workspace.{PlainWorkspace, look}
use Rattle.apl_workspace.specs.declared.meaning.Meaning.{Meaning}
use Rattle.apl_workspace.specs.declared.meaning.Meaning.TheVariants as meaning
use Rattle.line_trees.specs.declared.class.Class.{Class}
use Rattle.line_trees.specs.Classes.{come_before, is_before}
use Rattle.apl_meaning.specs.Reading.{class_by, classes_among}

below_at : (x : List ℕ) (names : List (List ℕ)) (i : ℕ) (name : List ℕ) → AllByRecursion (λ y. name_order x y ≡ Less) names → i < length names → name ≡ get_or names i name → name_order x name ≡ Less
below_at x [] i name h lt e = absurd (let none : i < 0 = lt in omega arith)
below_at x (y ∷ names) zero name h lt e = ap (name_order x) e ∙ h.0
below_at x (y ∷ names) (suc i) name h lt e = below_at x names i name h.1 (omega arith) e

one_more : (m : Meaning) (x : List ℕ) (classes : List Class) (name : List ℕ) → is_before x name ≡ true → come_before classes name ≡ true → come_before (cons_option (class_by x m) classes) name ≡ true
one_more meaning.Nothing x classes name h k = k
one_more (meaning.Value value) x classes name h k = k
one_more (meaning.Function function) x classes name h k = and_from (is_before x name) (come_before classes name) h k
one_more (meaning.Label line) x classes name h k = k
one_more (meaning.Shared copy) x classes name h k = k

-- the classes of the names before a name come before it
pub before_all : (w : PlainWorkspace) (names : List (List ℕ)) (i : ℕ) (name : List ℕ) → IsStrictlySortedBy name_order names → i < length names → name ≡ get_or names i name → come_before (classes_among w (take i names)) name ≡ true
unfolding IsStrictlySortedBy
before_all w [] i name sorted lt e = absurd (let none : i < 0 = lt in omega arith)
before_all w (x ∷ names) zero name sorted lt e = refl
before_all w (x ∷ names) (suc i) name sorted lt e =
    one_more (look w x) x (classes_among w (take i names)) name (ap is_lt (below_at x names i name sorted.0 (omega arith) e)) (before_all w names i name sorted.1 (omega arith) e)

-- a class of a name comes behind others where the name does
pub comes_last : (m : Meaning) (name : List ℕ) (classes : List Class) → come_before classes name ≡ true → IfSome (class_by name m) (λ last. IsTrue (come_before classes last.name))
comes_last meaning.Nothing name classes h = tt
comes_last (meaning.Value value) name classes h = tt
comes_last (meaning.Function function) name classes h = h
comes_last (meaning.Label line) name classes h = tt
comes_last (meaning.Shared copy) name classes h = tt

lone : (class : Option Class) → cons_option class [] ≡ option_to_list class
lone None = refl
lone (Some class) = refl

-- one name more
pub among_more : (w : PlainWorkspace) (names : List (List ℕ)) (i : ℕ) (name : List ℕ) → i < length names → name ≡ get_or names i name
    → classes_among w (take (i + 1) names) ≡ classes_among w (take i names) ++ option_to_list (class_by name (look w name))
among_more w names i name lt e =
    ap (classes_among w) (take_more names i name lt) ∙ filter_map-append (λ n. class_by n (look w n)) (take i names) (get_or names i name ∷ [])
    ∙ ap (λ (n : List ℕ). classes_among w (take i names) ++ classes_among w (n ∷ [])) (sym e) ∙ ap (λ (more : List Class). classes_among w (take i names) ++ more) (lone (class_by name (look w name)))
