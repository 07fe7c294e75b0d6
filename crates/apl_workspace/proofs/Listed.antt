-- Names that were gathered and sorted against the names of a table.
use Rattle.std.proofs.Common.{◌≡◌, ℕ, ◌+◌, Bool, true, false, cond, ◌||◌, List, [], ◌∷◌, Option, Some, None, Ordering, get_or, filter, refl, sym, ap, ◌∙◌, subst, arith}
use Rattle.std.specs.Prelude.{is_some}
use Rattle.std.specs.List.{AllByRecursion, IsDistinct, list_any}
use Rattle.std.specs.List.Sorted.{IsPermutation, IsSorted}
use Rattle.std.specs.Map.{keys_of}
use Rattle.std.specs.Ordering.{is_eq, is_lt, ordering_reverse}
use Rattle.std.specs.declared.cmp.Ordering.TheVariants.{Less, Equal, Greater}
use Rattle.std.proofs.lemmas.Bool.{false≢true}
use Rattle.std.proofs.lemmas.Cmp.{nat_list_cmp_total, nat_list_eq_equiv}
use Rattle.std.proofs.lemmas.List.Sorted.{list_any-IsPermutation}
use Rattle.std.proofs.lemmas.Map.Entries.{lookup-filter-values, option_filter}
use Rattle.std.proofs.lemmas.Map.Keys.{IsDistinct-IsPermutation, IsDistinct-head, IsDistinct-tail, IsDistinct-cons, apart_from_distinct, sorted_from_all_adjacent, sorted_head, sorted_tail}
use Rattle.std.proofs.lemmas.Map.Made.{is_some-lookup}
use Rattle.apl_arrays.specs.Name.{name_order, same_name}
use Rattle.apl_workspace.specs.Listing.{AreNamesOf}
use Rattle.apl_workspace.specs.Names.{all_differ}
use Rattle.apl_workspace.specs.Sorted.{sorted}
use Rattle.apl_workspace.specs.declared.meaning.Meaning.{Meaning}
use Rattle.apl_workspace.proofs.Ascending.{Ascend, ascend_cons, ascending_apart, found, told_by_look_ups}
use Rattle.apl_workspace.proofs.InOrder.{Entries, found_in_order, looked_up, sorted_ascends}
use Rattle.apl_workspace.proofs.NameLaw.{by_order, differ_cons, name_flips, none_differ}

-- the entries that stand for what a test takes
abbrev pub taking : (Meaning → Bool) → Entries → Entries
taking test entries = filter (λ entry. test entry.1) entries

-- ---- what is left out keeps an order, and names apart

module _ (holds : List ℕ → Type 0) (test : Meaning → Bool) where
  all_taken : (entries : Entries) → AllByRecursion holds (keys_of entries) → AllByRecursion holds (keys_of (taking test entries))
  all_taken [] all = tt
  all_taken (e ∷ es) all = by (test e.1) (all_taken es all.1)
    where
      by : (b : Bool) → AllByRecursion holds (keys_of (taking test es)) → AllByRecursion holds (keys_of (cond b (e ∷ taking test es) (taking test es)))
      by true later = (all.0, later)
      by false later = later

pub ascend_taken : (test : Meaning → Bool) (entries : Entries) → Ascend (keys_of entries) → Ascend (keys_of (taking test entries))
ascend_taken test [] s = s
ascend_taken test (e ∷ es) s = by (test e.1) (ascend_taken test es (sorted_tail name_order e.0 (keys_of es) s))
  where
    by : (b : Bool) → Ascend (keys_of (taking test es)) → Ascend (keys_of (cond b (e ∷ taking test es) (taking test es)))
    by true later = ascend_cons e.0 (keys_of (taking test es)) (all_taken (λ other. name_order e.0 other ≡ Less) test es (sorted_head name_order e.0 (keys_of es) s)) later
    by false later = later

distinct_taken : (test : Meaning → Bool) (entries : Entries) → IsDistinct same_name (keys_of entries) → IsDistinct same_name (keys_of (taking test entries))
distinct_taken test [] d = d
distinct_taken test (e ∷ es) d = by (test e.1) (distinct_taken test es (IsDistinct-tail same_name e.0 (keys_of es) d))
  where
    by : (b : Bool) → IsDistinct same_name (keys_of (taking test es)) → IsDistinct same_name (keys_of (cond b (e ∷ taking test es) (taking test es)))
    by true later = IsDistinct-cons same_name e.0 (keys_of (taking test es)) (all_taken (λ other. same_name e.0 other ≡ false) test es (IsDistinct-head same_name e.0 (keys_of es) d)) later
    by false later = later

-- ---- names that do not fall and are apart ascend

rises : (r : Ordering) (first second : List ℕ) → name_order first second ≡ r → is_lt (name_order second first) ≡ false → same_name first second ≡ false → name_order first second ≡ Less
rises Less first second p up apart = p
rises Equal first second p up apart = absurd (false≢true (sym apart ∙ by_order first second ∙ ap is_eq p))
rises Greater first second p up apart = absurd (false≢true (sym up ∙ ap is_lt (nat_list_cmp_total.antisymm second first ∙ ap ordering_reverse p)))

ascend_sorted : (names : List (List ℕ)) → IsSorted name_order names → IsDistinct same_name names → Ascend names
ascend_sorted names up apart =
    sorted_from_all_adjacent nat_list_cmp_total names []
    (λ k lt.
    rises (name_order (get_or names k []) (get_or names (k + 1) [])) (get_or names k []) (get_or names (k + 1) []) refl (up k [] (omega arith) lt) (apart_from_distinct same_name names k (k + 1) [] apart (omega arith) lt))

-- ---- names that ascend are told by what is among them

alone : List (List ℕ) → List (List ℕ × Unit {0})
alone [] = []
alone (name ∷ names) = (name, tt) ∷ alone names

alone_keys : (names : List (List ℕ)) → keys_of (alone names) ≡ names
unfolding alone
alone_keys [] = refl
alone_keys (name ∷ names) = ap (λ rest. name ∷ rest) (alone_keys names)

found_alone : (names : List (List ℕ)) (name : List ℕ) → found (alone names) name ≡ cond (list_any (same_name name) names) (Some tt) None
unfolding alone
found_alone [] name = refl
found_alone (first ∷ names) name = by (same_name name first) (list_any (same_name name) names) (found_alone names name)
  where
    by : (b d : Bool) → found (alone names) name ≡ cond d (Some tt) None → cond b (Some tt) (found (alone names) name) ≡ cond (b || d) (Some tt) None
    by true d later = refl
    by false d later = later

pub told_by_members : (first second : List (List ℕ)) → Ascend first → Ascend second → ((name : List ℕ) → list_any (same_name name) first ≡ list_any (same_name name) second) → first ≡ second
told_by_members first second s t same =
    sym (alone_keys first)
    ∙ ap keys_of
    (told_by_look_ups (alone first) (alone second) (subst Ascend (sym (alone_keys first)) s) (subst Ascend (sym (alone_keys second)) t)
    (λ name. found_alone first name ∙ ap (λ b. cond b (Some tt) None) (same name) ∙ sym (found_alone second name)))
    ∙ alone_keys second

-- ---- the names that were gathered

pub among : (test : Meaning → Bool) (entries : Entries) (name : List ℕ) → IsDistinct same_name (keys_of entries) → list_any (same_name name) (keys_of (taking test entries)) ≡ is_some (option_filter test (found entries name))
among test entries name d = sym (is_some-lookup (same_name name) (taking test entries)) ∙ ap is_some (lookup-filter-values nat_list_eq_equiv test name entries d)

pub gathered : (test : Meaning → Bool) (entries : Entries) (names result : List (List ℕ)) → IsDistinct same_name (keys_of entries) → names ≡ keys_of (taking test entries) → IsPermutation names result → IsSorted name_order result
    → result ≡ keys_of (taking test (sorted entries))
gathered test entries names result d is moved up =
    let taken = distinct_taken test entries d in
    let result_apart = IsDistinct-IsPermutation same_name name_flips names result moved (subst (IsDistinct same_name) (sym is) taken) in
    let ordered = sorted_ascends entries in
    told_by_members result (keys_of (taking test (sorted entries))) (ascend_sorted result up result_apart) (ascend_taken test (sorted entries) ordered)
    (λ name.
    sym (list_any-IsPermutation (same_name name) names result moved) ∙ ap (list_any (same_name name)) is ∙ among test entries name d ∙ ap (λ (o : Option Meaning). is_some (option_filter test o)) (sym (found_in_order entries name))
    ∙ sym (among test (sorted entries) name (ascending_apart (keys_of (sorted entries)) ordered)))

all_taken_of_all : (entries : Entries) → taking (λ meaning. true) entries ≡ entries
all_taken_of_all [] = refl
all_taken_of_all (e ∷ es) = ap (λ rest. e ∷ rest) (all_taken_of_all es)

pub all_gathered : (entries : Entries) (names result : List (List ℕ)) → IsDistinct same_name (keys_of entries) → names ≡ keys_of (taking (λ meaning. true) entries) → IsPermutation names result → IsSorted name_order result → result ≡ keys_of (sorted entries)
all_gathered entries names result d is moved up = gathered (λ meaning. true) entries names result d is moved up ∙ ap keys_of (all_taken_of_all (sorted entries))

-- ---- names in any order

none_repeated : (name : List ℕ) (names : List (List ℕ)) → AllByRecursion (λ other. same_name name other ≡ false) names → list_any (same_name name) names ≡ false
none_repeated name [] apart = refl
none_repeated name (other ∷ names) apart = ap (λ (b : Bool). b || list_any (same_name name) names) apart.0 ∙ none_repeated name names apart.1

distinct_differ : (names : List (List ℕ)) → IsDistinct same_name names → all_differ names ≡ true
distinct_differ [] d = none_differ
distinct_differ (name ∷ names) d = differ_cons name names (none_repeated name names (IsDistinct-head same_name name names d)) (distinct_differ names (IsDistinct-tail same_name name names d))

-- the names of entries are those of the table
pub unordered : (entries : Entries) → IsDistinct same_name (keys_of entries) → AreNamesOf (sorted entries) (keys_of entries)
unordered entries d = record {
  there = λ name. sym (is_some-lookup (same_name name) entries) ∙ ap is_some (looked_up entries name);
  differ = distinct_differ (keys_of entries) d;
}
