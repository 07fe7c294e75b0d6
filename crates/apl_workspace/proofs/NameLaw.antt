-- Names told apart, and names that differ.
use Rattle.std.proofs.Common.{◌≡◌, ℕ, suc, ◌+◌, ◌<◌, Bool, true, false, cond, not, ◌&&◌, ◌||◌, List, [], ◌∷◌, ◌++◌, Ordering, length, take, drop, get_or, refl, sym, ap, ◌∙◌, subst, drop-cons}
use Rattle.std.specs.Prelude.{filter}
use Rattle.std.specs.BTreeMap.{is_at}
use Rattle.std.specs.List.{AllByRecursion, list_any}
use Rattle.std.specs.List.Sorted.{IsStrictlySortedBy}
use Rattle.std.specs.Ordering.{is_eq}
use Rattle.std.specs.declared.cmp.Ordering.TheVariants.{Less, Equal, Greater}
use Rattle.std.proofs.lemmas.Cmp.{nat_list_eq_equiv}
use Rattle.std.proofs.lemmas.Map.Keys.{sorted_head, sorted_tail}
use Rattle.std.proofs.lemmas.Map.Lookups.{exact_bytes}
use Rattle.std.proofs.lemmas.Map.Text.{is_eq-slice_cmp}
use Rattle.std.proofs.lemmas.Bool.{and_parts, false≢true, or_parts}
use Rattle.std.proofs.lemmas.List.{take_more, take-append-drop}
use Rattle.std.proofs.lemmas.List.Folds.{list_any-append}
use Rattle.apl_arrays.specs.Name.{name_order, same_name}
use Rattle.apl_workspace.specs.Names.{all_differ}

-- the test by glyphs is the test by order
pub by_order : (first second : List ℕ) → same_name first second ≡ is_eq (name_order first second)
by_order first second = sym (is_eq-slice_cmp first second)

tied : (o : Ordering) → is_eq o ≡ true → o ≡ Equal
tied Less e = absurd (false≢true e)
tied Equal e = refl
tied Greater e = absurd (false≢true e)

-- a name that passes the test is the one asked for
pub equal_names : (first second : List ℕ) → same_name first second ≡ true → first ≡ second
equal_names first second e = exact_bytes first second (tied (name_order first second) (sym (by_order first second) ∙ e))

-- a name passes its own test
pub own_name : (first : List ℕ) → same_name first first ≡ true
own_name first = nat_list_eq_equiv.refl first

pub same_name_passes : (first second : List ℕ) → first ≡ second → same_name first second ≡ true
same_name_passes first second e = subst (λ other. same_name first other ≡ true) e (own_name first)

-- the test does not ask in which order
pub name_flips : (first second : List ℕ) → same_name first second ≡ same_name second first
name_flips first second = nat_list_eq_equiv.symm first second

pub names_told_apart : (first second : List ℕ) → (same_name first second ≡ true → first ≡ second) × (first ≡ second → same_name first second ≡ true)
names_told_apart first second = (equal_names first second, same_name_passes first second)

-- ---- names that differ

negated : (b : Bool) → b ≡ false → not b ≡ true
negated true e = absurd (false≢true (sym e))
negated false e = refl

not_both : (a b : Bool) → a ≡ true → not a && b ≡ false
not_both true b e = refl
not_both false b e = absurd (false≢true e)

second_fails : (a b : Bool) → b ≡ false → a && b ≡ false
second_fails true b e = e
second_fails false b e = refl

both_hold : (a b : Bool) → a ≡ true → b ≡ true → a && b ≡ true
both_hold true b e f = f
both_hold false b e f = absurd (false≢true e)

or_right : (a b : Bool) → b ≡ true → a || b ≡ true
or_right true b e = refl
or_right false b e = e

-- one name more is found among names or is the last
any_push : (test : List ℕ → Bool) (names : List (List ℕ)) (last : List ℕ) → list_any test names ≡ false → test last ≡ false → list_any test (names ++ last ∷ []) ≡ false
any_push test [] last e f = ap (λ b. b || false) f
any_push test (name ∷ names) last e f =
    let parts = or_parts (test name) (list_any test names) e in
    ap (λ b. b || list_any test (names ++ last ∷ [])) parts.0 ∙ any_push test names last parts.1 f

any_behind : (test : List ℕ → Bool) (names : List (List ℕ)) (last : List ℕ) (more : List (List ℕ)) → test last ≡ true → list_any test (names ++ last ∷ more) ≡ true
any_behind test [] last more f = ap (λ b. b || list_any test more) f
any_behind test (name ∷ names) last more f = or_right (test name) (list_any test (names ++ last ∷ more)) (any_behind test names last more f)

pub from_not : (b : Bool) → not b ≡ true → b ≡ false
from_not true e = absurd (false≢true e)
from_not false e = refl

-- names that differ, and one that is none of them
pub differ_push : (names : List (List ℕ)) (last : List ℕ) → all_differ names ≡ true → list_any (same_name last) names ≡ false → all_differ (names ++ last ∷ []) ≡ true
unfolding all_differ
differ_push [] last e f = refl
differ_push (name ∷ names) last e f =
    let parts = and_parts (not (list_any (same_name name) names)) (all_differ names) e in
    let apart = or_parts (same_name last name) (list_any (same_name last) names) f in
    let was : list_any (same_name name) names ≡ false = from_not (list_any (same_name name) names) parts.0 in
    both_hold (not (list_any (same_name name) (names ++ last ∷ []))) (all_differ (names ++ last ∷ []))
    (negated (list_any (same_name name) (names ++ last ∷ [])) (any_push (same_name name) names last was (name_flips name last ∙ apart.0)))
    (differ_push names last parts.1 apart.1)

repeat_by : (b c : Bool) (name last : List ℕ) (names more : List (List ℕ)) → same_name last name ≡ b → b || c ≡ true → (c ≡ true → all_differ (names ++ last ∷ more) ≡ false)
    → not (list_any (same_name name) (names ++ last ∷ more)) && all_differ (names ++ last ∷ more) ≡ false
repeat_by true c name last names more is h later = not_both (list_any (same_name name) (names ++ last ∷ more)) (all_differ (names ++ last ∷ more)) (any_behind (same_name name) names last more (name_flips name last ∙ is))
repeat_by false c name last names more is h later = second_fails (not (list_any (same_name name) (names ++ last ∷ more))) (all_differ (names ++ last ∷ more)) (later h)

-- a name that stands before does not differ
pub repeat_found : (names : List (List ℕ)) (last : List ℕ) (more : List (List ℕ)) → list_any (same_name last) names ≡ true → all_differ (names ++ last ∷ more) ≡ false
unfolding all_differ
repeat_found [] last more e = absurd (false≢true e)
repeat_found (name ∷ names) last more e = repeat_by (same_name last name) (list_any (same_name last) names) name last names more refl e (λ h. repeat_found names last more h)

-- ---- name after name

pub here_too : (a b : Bool) → cond b true a ≡ (a || (b || false))
here_too true true = refl
here_too true false = refl
here_too false true = refl
here_too false false = refl

next_take : (names : List (List ℕ)) (i : ℕ) (name : List ℕ) → i < length names → name ≡ get_or names i name → take (i + 1) names ≡ take i names ++ name ∷ []
next_take names i name lt e = take_more names i name lt ∙ ap (λ last. take i names ++ last ∷ []) (sym e)

split_at : (names : List (List ℕ)) (i : ℕ) (name : List ℕ) → i < length names → name ≡ get_or names i name → names ≡ take i names ++ name ∷ drop (suc i) names
split_at names i name lt e = sym (take-append-drop i names) ∙ ap (λ back. take i names ++ back) (drop-cons names i name lt ∙ ap (λ first. first ∷ drop (suc i) names) (sym e))

-- one name more, which is none of those before
pub differ_more : (names : List (List ℕ)) (i : ℕ) (name : List ℕ) → i < length names → name ≡ get_or names i name → all_differ (take i names) ≡ true → list_any (same_name name) (take i names) ≡ false → all_differ (take (i + 1) names) ≡ true
differ_more names i name lt e differ apart = ap all_differ (next_take names i name lt e) ∙ differ_push (take i names) name differ apart

-- one name more, in a set that has those before
pub has_more : (names : List (List ℕ)) (i : ℕ) (name asked : List ℕ) (had now : Bool) → i < length names → name ≡ get_or names i name → now ≡ cond (is_eq (name_order name asked)) true had → had ≡ list_any (same_name asked) (take i names)
    → now ≡ list_any (same_name asked) (take (i + 1) names)
has_more names i name asked had now lt e is was =
    is ∙ ap (λ b. cond b true had) (sym (by_order name asked)) ∙ here_too had (same_name name asked) ∙ ap (λ b. had || (b || false)) (name_flips name asked) ∙ ap (λ b. b || (same_name asked name || false)) was
    ∙ sym (ap (list_any (same_name asked)) (next_take names i name lt e) ∙ list_any-append (same_name asked) (take i names) (name ∷ []))

-- a name that is one of those before
pub repeat_at : (names : List (List ℕ)) (i : ℕ) (name : List ℕ) → i < length names → name ≡ get_or names i name → list_any (same_name name) (take i names) ≡ true → false ≡ all_differ names
repeat_at names i name lt e found = sym (ap all_differ (split_at names i name lt e) ∙ repeat_found (take i names) name (drop (suc i) names) found)

pub none_differ : all_differ [] ≡ true
unfolding all_differ
none_differ = refl

-- before the first name
pub begins_differ : (keys : List (List ℕ)) → keys ≡ [] → (all_differ [] ≡ true) × ((name : List ℕ) → list_any (is_at (name_order name)) keys ≡ false)
begins_differ keys none = (none_differ, λ name. ap (list_any (is_at (name_order name))) none)

-- what a set that was asked to take a name tells of it
pub was_there : (added has among : Bool) → added ≡ not has → added ≡ false → has ≡ among → among ≡ true
was_there added true among e f g = sym g
was_there added false among e f g = absurd (false≢true (sym f ∙ e))

pub was_new : (added has among : Bool) → added ≡ not has → added ≡ true → has ≡ among → among ≡ false
was_new added true among e f g = absurd (false≢true (sym e ∙ f))
was_new added false among e f g = sym g

-- ---- names that are picked out

-- the first of names that differ is none of the others
pub first_differs : (name : List ℕ) (names : List (List ℕ)) → all_differ (name ∷ names) ≡ true → (list_any (same_name name) names ≡ false) × (all_differ names ≡ true)
unfolding all_differ
first_differs name names e =
    let parts = and_parts (not (list_any (same_name name) names)) (all_differ names) e in
    (from_not (list_any (same_name name) names) parts.0, parts.1)

pub differ_cons : (name : List ℕ) (names : List (List ℕ)) → list_any (same_name name) names ≡ false → all_differ names ≡ true → all_differ (name ∷ names) ≡ true
unfolding all_differ
differ_cons name names apart differ = both_hold (not (list_any (same_name name) names)) (all_differ names) (negated (list_any (same_name name) names) apart) differ

none_by : (p : List ℕ → Bool) (name other : List ℕ) (names : List (List ℕ)) (b : Bool) → same_name name other ≡ false → list_any (same_name name) (filter p names) ≡ false → list_any (same_name name) (cond b (other ∷ filter p names) (filter p names)) ≡ false
none_by p name other names true apart later = ap (λ b. b || list_any (same_name name) (filter p names)) apart ∙ later
none_by p name other names false apart later = later

none_picked : (p : List ℕ → Bool) (name : List ℕ) (names : List (List ℕ)) → list_any (same_name name) names ≡ false → list_any (same_name name) (filter p names) ≡ false
none_picked p name [] e = refl
none_picked p name (other ∷ names) e =
    let parts = or_parts (same_name name other) (list_any (same_name name) names) e in none_by p name other names (p other) parts.0 (none_picked p name names parts.1)

picked_by : (p : List ℕ → Bool) (name : List ℕ) (names : List (List ℕ)) (b : Bool) → list_any (same_name name) (filter p names) ≡ false → all_differ (filter p names) ≡ true → all_differ (cond b (name ∷ filter p names) (filter p names)) ≡ true
picked_by p name names true apart differ = differ_cons name (filter p names) apart differ
picked_by p name names false apart differ = differ

-- names that differ still do where some are left out
pub differ_picked : (p : List ℕ → Bool) (names : List (List ℕ)) → all_differ names ≡ true → all_differ (filter p names) ≡ true
differ_picked p [] e = none_differ
differ_picked p (name ∷ names) e =
    let parts = first_differs name names e in picked_by p name names (p name) (none_picked p name names parts.0) (differ_picked p names parts.1)

none_above : (name : List ℕ) (names : List (List ℕ)) → AllByRecursion (λ other. name_order name other ≡ Less) names → list_any (same_name name) names ≡ false
none_above name [] h = refl
none_above name (other ∷ names) h = ap (λ b. b || list_any (same_name name) names) (by_order name other ∙ ap is_eq h.0) ∙ none_above name names h.1

-- names that ascend differ
pub ascending_differ : (names : List (List ℕ)) → IsStrictlySortedBy name_order names → all_differ names ≡ true
ascending_differ [] s = none_differ
ascending_differ (name ∷ names) s = differ_cons name names (none_above name names (sorted_head name_order name names s)) (ascending_differ names (sorted_tail name_order name names s))
