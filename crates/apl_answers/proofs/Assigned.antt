-- A value that is assigned keeps the functions of a workspace, and their classes.
use Rattle.std.proofs.Common.{◌≡◌, ℕ, zero, suc, Bool, true, false, List, [], ◌∷◌, refl, sym, ap, subst, ◌∙◌, drop, take, length}
use Rattle.std.specs.Prelude.{Option, Some, None, cond, is_some}
use Rattle.std.specs.Map.{keys_of}
use Rattle.std.specs.Option.{option_or}
use Rattle.std.proofs.lemmas.Bool.{false≢true}
use Rattle.apl_arrays.specs.Array.{PlainArray}
use Rattle.apl_workspace.specs.Meaning.{NameTable, is_function_meaning, meaning_in, with_meaning}
use Rattle.apl_arrays.specs.Name.{same_name}
use Rattle.apl_workspace.specs.Workspace.{PlainWorkspace, in_innermost, innermost, look, seen_by, with_global}
use Rattle.apl_workspace.specs.declared.meaning.Meaning.{Meaning}
use Rattle.apl_workspace.specs.declared.meaning.Meaning.TheVariants as meaning
use Rattle.apl_workspace.proofs.Ascending.{found_with}
use Rattle.apl_workspace.proofs.Looks.{look_assigned}
use Rattle.apl_workspace.proofs.NameLaw.{equal_names}
use Rattle.apl_meaning.specs.Reading.{class_by, classes_of}
use Rattle.apl_statements.proofs.Kept.{KeepsFunctions}
use Rattle.apl_answers.proofs.Changed.{no_class, same_classes, same_where}

-- where no frame has the name, none changes
none_changes : (frames : List NameTable) (name : List ℕ) (m : Meaning) → is_some (innermost frames name) ≡ false → in_innermost frames name m ≡ frames
none_changes [] name m lacks = refl
none_changes (table ∷ tables) name m lacks = by (meaning_in table name) lacks (none_changes tables name m)
  where
    by : (found : Option Meaning) → is_some (option_or found (innermost tables name)) ≡ false → (is_some (innermost tables name) ≡ false → in_innermost tables name m ≡ tables) → cond (is_some found) (with_meaning table name m ∷ tables) (table ∷ in_innermost tables name m) ≡ table ∷ tables
    by None lacks under = ap (λ (list : List NameTable). table ∷ list) (under lacks)
    by (Some found) lacks under = absurd (false≢true (sym lacks))

-- the classes where a name that is seen as no function gets a value in the frame that has it
local_by : (w : PlainWorkspace) (name : List ℕ) (value : PlainArray) (b : Bool) → is_some (innermost w.frames name) ≡ b → is_function_meaning (look w name) ≡ false → classes_of (record w { frames = in_innermost w.frames name (meaning.Value value) }) ≡ classes_of w
local_by w name value false lacks seen = ap (λ (frames : List NameTable). classes_of (record w { frames = frames })) (none_changes w.frames name (meaning.Value value) lacks)
local_by w name value true has seen =
    let v : PlainWorkspace = record w { frames = in_innermost w.frames name (meaning.Value value) } in
    same_classes (λ x. class_by x (look v x)) (λ x. class_by x (look w x)) (keys_of w.globals) (λ x.
    ap (λ (b : Bool). class_by x (look (cond b v (with_global w name (meaning.Value value))) x)) (sym has)
    ∙ ap (class_by x) (look_assigned w name x value)
    ∙ same_where (class_by x) None (same_name name x) (meaning.Value value) (look w x) refl (λ is. no_class x (look w x) (subst (λ (n : List ℕ). is_function_meaning (look w n) ≡ false) (equal_names name x is) seen)))

pub local_classes : (w : PlainWorkspace) (name : List ℕ) (value : PlainArray) → is_function_meaning (look w name) ≡ false → classes_of (record w { frames = in_innermost w.frames name (meaning.Value value) }) ≡ classes_of w
local_classes w name value seen = local_by w name value (is_some (innermost w.frames name)) refl seen

-- the same in all frames from one on
pub classes_from : (w : PlainWorkspace) (n : ℕ) (frames : List NameTable) (name : List ℕ) (value : PlainArray) → is_function_meaning (look (record w { frames = frames }) name) ≡ false
    → classes_of (record w { frames = drop n (in_innermost frames name (meaning.Value value)) }) ≡ classes_of (record w { frames = drop n frames })
classes_from w zero frames name value seen = local_classes (record w { frames = frames }) name value seen
classes_from w (suc n) [] name value seen = refl
classes_from w (suc n) (table ∷ tables) name value seen = by (meaning_in table name) seen (classes_from w n tables name value)
  where
    by : (found : Option Meaning) → is_function_meaning (seen_by (option_or found (innermost tables name)) (meaning_in w.globals name)) ≡ false
        → (is_function_meaning (seen_by (innermost tables name) (meaning_in w.globals name)) ≡ false → classes_of (record w { frames = drop n (in_innermost tables name (meaning.Value value)) }) ≡ classes_of (record w { frames = drop n tables }))
        → classes_of (record w { frames = drop (suc n) (cond (is_some found) (with_meaning table name (meaning.Value value) ∷ tables) (table ∷ in_innermost tables name (meaning.Value value))) }) ≡ classes_of (record w { frames = drop n tables })
    by None seen under = under seen
    by (Some found) seen under = refl

-- as many frames
pub as_many : (frames : List NameTable) (name : List ℕ) (m : Meaning) → length (in_innermost frames name m) ≡ length frames
as_many [] name m = refl
as_many (table ∷ tables) name m = by (is_some (meaning_in table name)) (as_many tables name m)
  where
    by : (b : Bool) → length (in_innermost tables name m) ≡ length tables → length (cond b (with_meaning table name m ∷ tables) (table ∷ in_innermost tables name m)) ≡ length (table ∷ tables)
    by true under = refl
    by false under = ap suc under

-- a table has the same names where one that it has gets another meaning
has_still : (b : Bool) (m : Meaning) (found : Option Meaning) → (b ≡ true → is_some found ≡ true) → is_some (cond b (Some m) found) ≡ is_some found
has_still true m found has = sym (has refl)
has_still false m found has = refl

same_names : (table : NameTable) (name other : List ℕ) (m : Meaning) → is_some (meaning_in table name) ≡ true → is_some (meaning_in (with_meaning table name m) other) ≡ is_some (meaning_in table other)
same_names table name other m has =
    ap is_some (found_with table name m other)
    ∙ has_still (same_name name other) m (meaning_in table other) (λ is. subst (λ (n : List ℕ). is_some (meaning_in table n) ≡ true) (equal_names name other is) has)

or_none : (found : Option Meaning) → is_some (option_or found None) ≡ is_some found
or_none None = refl
or_none (Some m) = refl

-- each frame has the same names
pub names_from : (n : ℕ) (frames : List NameTable) (name other : List ℕ) (m : Meaning) → is_some (innermost (take 1 (drop n (in_innermost frames name m))) other) ≡ is_some (innermost (take 1 (drop n frames)) other)
names_from n [] name other m = refl
names_from zero (table ∷ tables) name other m = by (is_some (meaning_in table name)) refl
  where
    by : (b : Bool) → is_some (meaning_in table name) ≡ b → is_some (innermost (take 1 (cond b (with_meaning table name m ∷ tables) (table ∷ in_innermost tables name m))) other) ≡ is_some (innermost (take 1 (table ∷ tables)) other)
    by true has = or_none (meaning_in (with_meaning table name m) other) ∙ same_names table name other m has ∙ sym (or_none (meaning_in table other))
    by false lacks = refl
names_from (suc n) (table ∷ tables) name other m = by (is_some (meaning_in table name)) (names_from n tables name other m)
  where
    by : (b : Bool) → is_some (innermost (take 1 (drop n (in_innermost tables name m))) other) ≡ is_some (innermost (take 1 (drop n tables)) other) → is_some (innermost (take 1 (drop (suc n) (cond b (with_meaning table name m ∷ tables) (table ∷ in_innermost tables name m)))) other) ≡ is_some (innermost (take 1 (drop n tables)) other)
    by true under = refl
    by false under = under

-- so the workspace keeps its functions where a local name that is seen as none gets a value
pub local_keeps_functions : (w : PlainWorkspace) (name : List ℕ) (value : PlainArray) → is_function_meaning (look w name) ≡ false → KeepsFunctions w (record w { frames = in_innermost w.frames name (meaning.Value value) })
local_keeps_functions w name value seen = record {
  functions = λ other. refl;
  classes = λ n. classes_from w n w.frames name value seen;
  depth = as_many w.frames name (meaning.Value value);
  names = λ n other. names_from n w.frames name other (meaning.Value value);
}
