-- What is kept of a workspace, by its names.
use Rattle.std.proofs.Common.{◌≡◌, ℕ, ◌≤◌, false, List, [], ◌∷◌, ◌++◌, Option, Some, None, length, refl, sym, ap, ◌∙◌, subst, append_assoc, length-append, arith}
use Rattle.std.specs.Prelude.{IfSome, unwrap_or}
use Rattle.std.specs.List.{AllByRecursion, flat_map}
use Rattle.std.specs.List.Sorted.{IsStrictlySortedBy}
use Rattle.std.specs.Map.{keys_of, values_of}
use Rattle.std.specs.Ordering.{is_eq, ordering_reverse}
use Rattle.std.specs.declared.cmp.Ordering.TheVariants.{Less}
use Rattle.std.proofs.lemmas.Cmp.{nat_list_cmp_total}
use Rattle.std.proofs.lemmas.List.Concat.{flat_map-append}
use Rattle.std.proofs.lemmas.List.Sums.{sum_by-cons}
use Rattle.std.proofs.lemmas.Map.Entries.{lookup_head, lookup_tail}
use Rattle.std.proofs.lemmas.Map.Keys.{sorted_head, sorted_tail}
use Rattle.byteorder.specs.Endian.{big_bytes}
use Rattle.apl_arrays.specs.Name.{name_order, same_name}
use Rattle.apl_workspace.specs.Limits.{most_weight}
use Rattle.apl_workspace.specs.Meaning.{NameTable, meaning_in, meaning_weight, table_weight}
use Rattle.apl_workspace.specs.Workspace.{IsWorkspace, PlainWorkspace, global_in}
use Rattle.apl_workspace.specs.declared.meaning.Meaning.{Meaning}
use Rattle.apl_workspace.specs.declared.meaning.Meaning.TheVariants.{Nothing, Value, Function, Label, Shared}
use Rattle.apl_workspace.proofs.NameLaw.{by_order, own_name}
use Rattle.ws_codec.specs.Kept.{kept, kept_globals}
use Rattle.ws_codec.specs.SavedText.{kept_bytes, object_bytes, objects_bytes}

-- a look-up tells what each name of a table stands for
pub Tells : (List ℕ → Option Meaning) → NameTable → Type 0
Tells look [] = Unit {0}
Tells look (e ∷ es) = (look e.0 ≡ Some e.1) × Tells look es

passed : (e : List ℕ × Meaning) (all some : NameTable) → AllByRecursion (λ other. name_order e.0 other ≡ Less) (keys_of some) → Tells (meaning_in all) some → Tells (meaning_in (e ∷ all)) some
unfolding Tells
passed e all [] below tells = tt
passed e all (f ∷ fs) below tells =
    let apart : same_name f.0 e.0 ≡ false = by_order f.0 e.0 ∙ ap is_eq (nat_list_cmp_total.antisymm f.0 e.0 ∙ ap ordering_reverse below.0) in
    (lookup_tail (same_name f.0) e all apart ∙ tells.0, passed e all fs below.1 tells.1)

-- a table tells its own names
pub tells_own : (table : NameTable) → IsStrictlySortedBy name_order (keys_of table) → Tells (meaning_in table) table
unfolding Tells
tells_own [] s = tt
tells_own (e ∷ es) s =
    (lookup_head (same_name e.0) e es (own_name e.0), passed e es es (sorted_head name_order e.0 (keys_of es) s) (tells_own es (sorted_tail name_order e.0 (keys_of es) s)))

-- what holds of all that is found holds of all entries
pub each_holds : (P : List ℕ → Meaning → Type 0) (look : List ℕ → Option Meaning) (table : NameTable) → Tells look table → ((name : List ℕ) → IfSome (look name) (P name)) → AllByRecursion (λ (e : List ℕ × Meaning). P e.0 e.1) table
unfolding Tells
each_holds P look [] tells all = tt
each_holds P look (e ∷ es) tells all = (subst (λ (o : Option Meaning). IfSome o (P e.0)) tells.0 (all e.0), each_holds P look es tells.1 all)

pub by_names : {B : Type 0} (f : List ℕ → Meaning → List B) (look : List ℕ → Option Meaning) (table : NameTable) → Tells look table → flat_map (λ name. f name (unwrap_or (look name) Nothing)) (keys_of table) ≡ flat_map (λ (e : List ℕ × Meaning). f e.0 e.1) table
unfolding Tells
by_names f look [] tells = refl
by_names f look (e ∷ es) tells =
    ap (λ (o : Option Meaning). f e.0 (unwrap_or o Nothing) ++ flat_map (λ name. f name (unwrap_or (look name) Nothing)) (keys_of es)) tells.0 ∙ ap (λ t. f e.0 e.1 ++ t) (by_names f look es tells.1)

-- the bytes of what is kept, name by name
bytes_kept : (table : NameTable) → flat_map (λ (e : List ℕ × Meaning). object_bytes e.0 e.1) (kept_globals table) ≡ flat_map (λ (e : List ℕ × Meaning). kept_bytes e.0 e.1) table
bytes_kept [] = refl
bytes_kept (e ∷ es) = flat_map-append (λ (f : List ℕ × Meaning). object_bytes f.0 f.1) (kept e.0 e.1) (kept_globals es) ∙ ap (λ t. kept_bytes e.0 e.1 ++ t) (bytes_kept es)

-- what is kept weighs at least one each
kept_weighs : (name : List ℕ) (meaning : Meaning) → length (kept name meaning) ≤ meaning_weight meaning
kept_weighs name Nothing = omega arith
kept_weighs name (Value value) = omega arith
kept_weighs name (Function function) = omega arith
kept_weighs name (Label line) = omega arith
kept_weighs name (Shared None) = omega arith
kept_weighs name (Shared (Some copy)) = omega arith

pub few_kept : (table : NameTable) → length (kept_globals table) ≤ table_weight table
few_kept [] = omega arith
few_kept (e ∷ es) =
    omega (arith, few_kept es, kept_weighs e.0 e.1, length-append (kept e.0 e.1) (kept_globals es), sum_by-cons meaning_weight e.1 (values_of es))

-- the objects of a workspace by its names
pub record AreByNames (w : PlainWorkspace) (names : List (List ℕ)) : Type 0 where
  pub count : length (flat_map (λ name. kept name (global_in w name)) names) ≡ length (kept_globals w.globals)
  pub few : length (kept_globals w.globals) ≤ most_weight
  pub bytes : flat_map (λ name. kept_bytes name (global_in w name)) names ≡ flat_map (λ (e : List ℕ × Meaning). object_bytes e.0 e.1) (kept_globals w.globals)

pub are_by_names : (w : PlainWorkspace) (names : List (List ℕ)) → IsWorkspace w → names ≡ keys_of w.globals → AreByNames w names
are_by_names w names h is =
    let tells = tells_own w.globals h.ascending in
    record {
      count = ap length (ap (flat_map (λ name. kept name (global_in w name))) is ∙ by_names kept (meaning_in w.globals) w.globals tells);
      few = omega (arith, few_kept w.globals, h.weight);
      bytes = ap (flat_map (λ name. kept_bytes name (global_in w name))) is ∙ by_names kept_bytes (meaning_in w.globals) w.globals tells ∙ sym (bytes_kept w.globals);
    }

-- the objects behind other bytes, as they are written: how many they are, and then each
pub objects_put : (w : PlainWorkspace) (names : List (List ℕ)) → AreByNames w names → (count : ℕ) → count ≡ length (flat_map (λ name. kept name (global_in w name)) names) → (front number new : List ℕ) → number ≡ front ++ big_bytes 4 count
    → new ≡ number ++ flat_map (λ name. kept_bytes name (global_in w name)) names → new ≡ front ++ objects_bytes (kept_globals w.globals)
objects_put w names h count counted front number new first second =
    second ∙ ap (λ (t : List ℕ). number ++ t) h.bytes ∙ ap (λ (t : List ℕ). t ++ flat_map (λ (e : List ℕ × Meaning). object_bytes e.0 e.1) (kept_globals w.globals)) (first ∙ ap (λ (n : ℕ). front ++ big_bytes 4 n) (counted ∙ h.count))
    ∙ append_assoc front (big_bytes 4 (length (kept_globals w.globals))) (flat_map (λ (e : List ℕ × Meaning). object_bytes e.0 e.1) (kept_globals w.globals))
