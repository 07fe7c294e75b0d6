-- The names of a user among the entries of a shelf.
use Rattle.std.proofs.Common.{◌≡◌, ◌∙◌, ℕ, List, [], ◌∷◌, Bool, true, false, cond, ◌&&◌, ◌||◌, eqb, Option, Some, None, MatchOption, IsSome, map, refl, sym, ap, subst, arith, eqb-true}
use Rattle.std.specs.List.{AllByRecursion}
use Rattle.std.specs.List.Sorted.{IsStrictlySortedBy}
use Rattle.std.specs.Option.{is_some}
use Rattle.std.specs.BTreeMap.{is_at}
use Rattle.std.specs.Map.{lookup, keys_of}
use Rattle.std.specs.Ordering.{nat_cmp, ordering_then, is_eq}
use Rattle.std.specs.declared.cmp.Ordering.{Ordering}
use Rattle.std.specs.declared.cmp.Ordering.TheVariants.{Less, Equal, Greater}
use Rattle.std.specs.Cmp.{nat_cmp_is}
use Rattle.std.specs.Cmp.Lexicographic.{slice_cmp}
use Rattle.std.specs.Str.{bytes_eq}
use Rattle.std.proofs.lemmas.Map.Text.{is_eq-slice_cmp}
use Rattle.std.proofs.lemmas.Bool.{false≢true}
use Rattle.std.proofs.lemmas.Bool.Decides.{nat_tests}
use Rattle.apl_arrays.specs.List.{Listed}
use Rattle.apl_arrays.specs.Name.{name_order}
use Rattle.apl_io.specs.Content.{by_user_and_name, has_name}
use Rattle.apl_io.specs.Kept.{shelf_entry, kept_names_of}
use Rattle.apl_io.specs.Replies.{plain_bytes}

-- two orders one after the other answer equal where both do
both_equal : (a b : Ordering) → is_eq (ordering_then a b) ≡ (is_eq a && is_eq b)
both_equal Less b = refl
both_equal Equal b = refl
both_equal Greater b = refl

-- numbers compare equal where their test says so
equal_numbers : (x y : ℕ) → is_eq (nat_cmp x y) ≡ eqb x y
equal_numbers x y = grind (arith, nat_tests)

-- a key is at another where user and name are
same_key : (user other : ℕ) (name entry : List ℕ) → is_at (by_user_and_name (user, name)) (other, entry) ≡ (eqb user other && bytes_eq name entry)
same_key user other name entry =
    both_equal (nat_cmp user other) (slice_cmp nat_cmp name entry)
    ∙ ap (λ b. b && is_eq (slice_cmp nat_cmp name entry)) (equal_numbers user other)
    ∙ ap (λ b. eqb user other && b) (is_eq-slice_cmp name entry)

-- a name that may be listed, by its entry
abbrev pub ListedAs : Option (Option (List ℕ)) → List ℕ → List (List ℕ) → Type 0
ListedAs entry name names = MatchOption entry (has_name name names ≡ false) (λ bytes. IsSome bytes → has_name name names ≡ true)

-- one more name before, which is another
other_before : (entry : Option (Option (List ℕ))) (first name : List ℕ) (names : List (List ℕ)) → bytes_eq name first ≡ false → ListedAs entry name names → ListedAs entry name (first ∷ names)
other_before None first name names apart is = ap (λ b. b || has_name name names) apart ∙ is
other_before (Some bytes) first name names apart is = λ some. ap (λ b. b || has_name name names) apart ∙ is some

-- one more entry before
one_more_entry : (same_user same_name : Bool) (kept : Option (Listed ℕ)) (rest : Option (Option (List ℕ))) (first name : List ℕ) (names : List (List ℕ)) → bytes_eq name first ≡ same_name → ListedAs rest name names
    → ListedAs (cond (same_user && same_name) (Some (plain_bytes kept)) rest) name (cond (same_user && is_some kept) (first ∷ names) names)
one_more_entry false same_name kept rest first name names is listed = listed
one_more_entry true true None rest first name names is listed = λ some. absurd (false≢true some)
one_more_entry true true (Some bytes) rest first name names is listed = λ some. ap (λ b. b || has_name name names) is
one_more_entry true false None rest first name names is listed = listed
one_more_entry true false (Some bytes) rest first name names is listed = other_before rest first name names is listed

-- names map over a choice
names_of_choice : {A B : Type 0} (f : A → B) (b : Bool) (x : A) (xs : List A) → map f (cond b (x ∷ xs) xs) ≡ cond b (f x ∷ map f xs) (map f xs)
names_of_choice f true x xs = refl
names_of_choice f false x xs = refl

-- the names of a user are those that may be listed
pub listed : (user : ℕ) (entries : List ((ℕ × List ℕ) × Option (Listed ℕ))) (name : List ℕ) → ListedAs (lookup (is_at (by_user_and_name (user, name))) (map shelf_entry entries)) name (kept_names_of user entries)
listed user [] name = refl
listed user (entry ∷ entries) name =
    rw (same_key user entry.0.0 name entry.0.1, names_of_choice) (one_more_entry (eqb user entry.0.0) (bytes_eq name entry.0.1) entry.1 (lookup (is_at (by_user_and_name (user, name))) (map shelf_entry entries)) entry.0.1 name (kept_names_of user entries) refl (listed user entries name))

-- of one user the names alone are compared
one_user : (user other : ℕ) (a b : List ℕ) → eqb user other ≡ true → by_user_and_name (user, a) (other, b) ≡ Less → name_order a b ≡ Less
one_user user other a b same below =
    let equal : nat_cmp user other ≡ Equal = sym (nat_cmp_is user other Equal (eqb-true user other same)) in
    ap (λ o. ordering_then o (slice_cmp nat_cmp a b)) (sym equal) ∙ below

-- what holds of one more name, where it counts, and of the others
all_of_choice : (P : List ℕ → Type 0) (same some : Bool) (first : List ℕ) (names : List (List ℕ)) → (same ≡ true → P first) → AllByRecursion P names → AllByRecursion P (cond (same && some) (first ∷ names) names)
all_of_choice P false some first names holds all = all
all_of_choice P true false first names holds all = all
all_of_choice P true true first names holds all = (holds refl, all)

-- a name below all keys is below the names
below_names : (user : ℕ) (name : List ℕ) (entries : List ((ℕ × List ℕ) × Option (Listed ℕ))) → AllByRecursion (λ key. by_user_and_name (user, name) key ≡ Less) (keys_of entries) → AllByRecursion (λ other. name_order name other ≡ Less) (kept_names_of user entries)
below_names user name [] all = tt
below_names user name (entry ∷ entries) all =
    rw names_of_choice (all_of_choice (λ other. name_order name other ≡ Less) (eqb user entry.0.0) (is_some entry.1) entry.0.1 (kept_names_of user entries) (λ same. one_user user entry.0.0 name entry.0.1 same all.0) (below_names user name entries all.1))

-- one more name before others, where it counts
sorted_choice : (same some : Bool) (first : List ℕ) (names : List (List ℕ)) → (same ≡ true → AllByRecursion (λ other. name_order first other ≡ Less) names) → IsStrictlySortedBy name_order names → IsStrictlySortedBy name_order (cond (same && some) (first ∷ names) names)
unfolding IsStrictlySortedBy
sorted_choice false some first names below sorted = sorted
sorted_choice true false first names below sorted = sorted
sorted_choice true true first names below sorted = (below refl, sorted)

-- the first key is below the names of its user
below_own : (user other : ℕ) (name : List ℕ) (entries : List ((ℕ × List ℕ) × Option (Listed ℕ))) → AllByRecursion (λ key. by_user_and_name (other, name) key ≡ Less) (keys_of entries) → eqb user other ≡ true → AllByRecursion (λ next. name_order name next ≡ Less) (kept_names_of user entries)
below_own user other name entries all same =
    let P : ℕ → Type 0 = λ u. AllByRecursion (λ key. by_user_and_name (u, name) key ≡ Less) (keys_of entries) in
    below_names user name entries (subst P (sym (eqb-true user other same)) all)

-- the names of a user ascend where the keys do
pub ascending : (user : ℕ) (entries : List ((ℕ × List ℕ) × Option (Listed ℕ))) → IsStrictlySortedBy by_user_and_name (keys_of entries) → IsStrictlySortedBy name_order (kept_names_of user entries)
unfolding IsStrictlySortedBy
ascending user [] sorted = tt
ascending user (entry ∷ entries) sorted =
    rw names_of_choice (sorted_choice (eqb user entry.0.0) (is_some entry.1) entry.0.1 (kept_names_of user entries) (below_own user entry.0.0 entry.0.1 entries sorted.0) (ascending user entries sorted.1))
