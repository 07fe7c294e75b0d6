-- What changes give up, once a name is shared no more.
use Rattle.std.proofs.Common.{◌≡◌, ◌≤◌, ◌+◌, ℕ, Bool, true, false, cond, not, ◌&&◌, ◌||◌, List, [], ◌∷◌, Option, Some, None, refl, sym, ap, ◌∙◌, subst, arith}
use Rattle.std.specs.Prelude.{filter, nat_le, unwrap_or}
use Rattle.std.specs.List.{AllByRecursion, list_any}
use Rattle.std.specs.Map.{keys_of}
use Rattle.std.specs.Ordering.{is_eq}
use Rattle.std.specs.declared.cmp.Ordering.TheVariants.{Less}
use Rattle.std.proofs.lemmas.Bool.{and_parts, false≢true}
use Rattle.std.proofs.lemmas.Map.Keys.{sorted_head, sorted_tail}
use Rattle.std.proofs.lemmas.Map.Views.{any-filter_same}
use Rattle.apl_arrays.specs.Array.{PlainArray}
use Rattle.apl_arrays.specs.Name.{name_order, same_name}
use Rattle.apl_workspace.specs.Limits.{most_weight}
use Rattle.apl_workspace.specs.Listing.{names_among, names_asked}
use Rattle.apl_workspace.specs.Meaning.{NameTable, is_shared_in, is_shared_meaning, meaning_in, own_copy_in, with_value_or_none}
use Rattle.apl_workspace.specs.Workspace.{IsWorkspace, PlainWorkspace, is_shared, unmarked, unmarked_with_copy, unshared, with_printed, workspace_weight}
use Rattle.apl_workspace.specs.declared.meaning.Meaning.{Meaning}
use Rattle.apl_workspace.specs.declared.meaning.Meaning.TheVariants.{Nothing, Value}
use Rattle.apl_workspace.specs.declared.what.What.TheVariants.{Shares}
use Rattle.apl_workspace.proofs.Ascending.{Ascend, ascend_cons, none_ascend, found_with, found_without, with_ascends, without_ascends}
use Rattle.apl_workspace.proofs.Listed.{ascend_taken, told_by_members}
use Rattle.apl_workspace.proofs.NameLaw.{by_order, equal_names, own_name}
use Rattle.ws_commands.specs.Finish.{MayComeIn}
use Rattle.ws_commands.specs.Todo.{PlainChange, clear, erase, given_up, is_among, is_another, keep, off, replace, set_id, swap}
use Rattle.ws_commands.proofs.Shares.{among_shares}

-- what is shared in a table that has a value under a name, or lacks it
shared_then : (names : NameTable) (name other : List ℕ) (value : Option PlainArray) → Ascend (keys_of names) → is_shared_in (with_value_or_none names name value) other ≡ (not (same_name name other) && is_shared_in names other)
shared_then names name other None s = ap (λ (o : Option Meaning). is_shared_meaning (unwrap_or o Nothing)) (found_without names name other s) ∙ by (same_name name other)
  where
    by : (b : Bool) → is_shared_meaning (unwrap_or (cond b None (meaning_in names other)) Nothing) ≡ (not b && is_shared_in names other)
    by true = refl
    by false = refl
shared_then names name other (Some value) s = ap (λ (o : Option Meaning). is_shared_meaning (unwrap_or o Nothing)) (found_with names name (Value value) other) ∙ by (same_name name other)
  where
    by : (b : Bool) → is_shared_meaning (unwrap_or (cond b (Some (Value value)) (meaning_in names other)) Nothing) ≡ (not b && is_shared_in names other)
    by true = refl
    by false = refl

ascends_then : (names : NameTable) (name : List ℕ) (value : Option PlainArray) → Ascend (keys_of names) → Ascend (keys_of (with_value_or_none names name value))
ascends_then names name None s = without_ascends names name s
ascends_then names name (Some value) s = with_ascends names name (Value value) s

all_kept : (holds : List ℕ → Type 0) (test : List ℕ → Bool) (names : List (List ℕ)) → AllByRecursion holds names → AllByRecursion holds (filter test names)
all_kept holds test [] all = tt
all_kept holds test (name ∷ names) all = by (test name) (all_kept holds test names all.1)
  where
    by : (b : Bool) → AllByRecursion holds (filter test names) → AllByRecursion holds (cond b (name ∷ filter test names) (filter test names))
    by true later = (all.0, later)
    by false later = later

-- what passes a test ascends
filter_ascends : (test : List ℕ → Bool) (names : List (List ℕ)) → Ascend names → Ascend (filter test names)
filter_ascends test [] s = s
filter_ascends test (name ∷ names) s = by (test name) (filter_ascends test names (sorted_tail name_order name names s))
  where
    by : (b : Bool) → Ascend (filter test names) → Ascend (cond b (name ∷ filter test names) (filter test names))
    by true later = ascend_cons name (filter test names) (all_kept (λ other. name_order name other ≡ Less) test names (sorted_head name_order name names s)) later
    by false later = later

-- the shared names are the others
shares_then : (names : NameTable) (name : List ℕ) (value : Option PlainArray) → Ascend (keys_of names) → names_among Shares (with_value_or_none names name value) ≡ filter (is_another name) (names_among Shares names)
shares_then names name value s =
    let ascend = ascends_then names name value s in
    let shares = names_among Shares names in
    told_by_members (names_among Shares (with_value_or_none names name value)) (filter (is_another name) shares) (ascend_taken is_shared_meaning (with_value_or_none names name value) ascend)
    (filter_ascends (is_another name) shares (ascend_taken is_shared_meaning names s))
    (λ other.
    among_shares (with_value_or_none names name value) other ascend ∙ shared_then names name other value s
    ∙ sym
    (any-filter_same (same_name other) (is_another name) (not (same_name name other)) (λ (k : List ℕ) e. ap (λ (n : List ℕ). not (same_name name n)) (sym (equal_names other k e))) shares
    ∙ ap (λ (b : Bool). not (same_name name other) && b) (among_shares names other s)))

-- two tests in either order
both_by : (b c : Bool) (x : List ℕ) (p q : List ℕ → Bool) (xs : List (List ℕ)) → p x ≡ b → q x ≡ c → filter p (filter q xs) ≡ filter q (filter p xs) → filter p (cond c (x ∷ filter q xs) (filter q xs)) ≡ filter q (cond b (x ∷ filter p xs) (filter p xs))
both_by true true x p q xs e f later =
    ap (λ (b : Bool). cond b (x ∷ filter p (filter q xs)) (filter p (filter q xs))) e ∙ ap (λ (rest : List (List ℕ)). x ∷ rest) later ∙ sym (ap (λ (b : Bool). cond b (x ∷ filter q (filter p xs)) (filter q (filter p xs))) f)
both_by true false x p q xs e f later = later ∙ sym (ap (λ (b : Bool). cond b (x ∷ filter q (filter p xs)) (filter q (filter p xs))) f)
both_by false true x p q xs e f later = ap (λ (b : Bool). cond b (x ∷ filter p (filter q xs)) (filter p (filter q xs))) e ∙ later
both_by false false x p q xs e f later = later

both_pass : (p q : List ℕ → Bool) (xs : List (List ℕ)) → filter p (filter q xs) ≡ filter q (filter p xs)
both_pass p q [] = refl
both_pass p q (x ∷ xs) = both_by (p x) (q x) x p q xs refl refl (both_pass p q xs)

given_then : (change : PlainChange) (w after : PlainWorkspace) (name : List ℕ) → names_asked Shares after ≡ filter (is_another name) (names_asked Shares w) → given_up change after ≡ filter (is_another name) (given_up change w)
given_then keep w after name e = refl
given_then clear w after name e = e
given_then (replace workspace id) w after name e = e
given_then (swap workspace) w after name e = refl
given_then (erase names) w after name e = ap (λ (l : List (List ℕ)). filter (is_among names) l) e ∙ both_pass (is_among names) (is_another name) (names_asked Shares w)
given_then (set_id id) w after name e = refl
given_then off w after name e = refl

given_unshared : (change : PlainChange) (w : PlainWorkspace) (name : List ℕ) (value : Option PlainArray) → IsWorkspace w → given_up change (unshared w name value) ≡ filter (is_another name) (given_up change w)
given_unshared change w name value h = given_then change w (unshared w name value) name (shares_then w.globals name value h.ascending)

-- a name that is shared no more is not given up
pub given_unmarked : (change : PlainChange) (w : PlainWorkspace) (name : List ℕ) (value : Option PlainArray) → IsWorkspace w → given_up change (unmarked w name value) ≡ filter (is_another name) (given_up change w)
given_unmarked change w name value h = by (nat_le (workspace_weight (unshared w name value)) most_weight)
  where
    by : (b : Bool) → given_up change (cond b (unshared w name value) (unshared w name (own_copy_in w.globals name))) ≡ filter (is_another name) (given_up change w)
    by true = given_unshared change w name value h
    by false = given_unshared change w name (own_copy_in w.globals name) h

pub given_with_copy : (change : PlainChange) (w : PlainWorkspace) (name : List ℕ) → IsWorkspace w → given_up change (unmarked_with_copy w name) ≡ filter (is_another name) (given_up change w)
given_with_copy change w name h = given_unshared change w name (own_copy_in w.globals name) h

-- ---- names that are retracted in their order

others_stay : (name : List ℕ) (rest : List (List ℕ)) → AllByRecursion (λ other. name_order name other ≡ Less) rest → filter (is_another name) rest ≡ rest
others_stay name [] all = refl
others_stay name (other ∷ rest) all =
    let apart : same_name name other ≡ false = by_order name other ∙ ap is_eq all.0 in
    ap (λ (b : Bool). cond (not b) (other ∷ filter (is_another name) rest) (filter (is_another name) rest)) apart ∙ ap (λ (l : List (List ℕ)). other ∷ l) (others_stay name rest all.1)

first_goes : (name : List ℕ) (rest : List (List ℕ)) → Ascend (name ∷ rest) → filter (is_another name) (name ∷ rest) ≡ rest
first_goes name rest s =
    ap (λ (b : Bool). cond (not b) (name ∷ filter (is_another name) rest) (filter (is_another name) rest)) (own_name name) ∙ others_stay name rest (sorted_head name_order name rest s)

shares_ascend : (w : PlainWorkspace) → IsWorkspace w → Ascend (names_asked Shares w)
shares_ascend w h = ascend_taken is_shared_meaning w.globals h.ascending

given_ascends : (change : PlainChange) (w : PlainWorkspace) → IsWorkspace w → Ascend (given_up change w)
given_ascends keep w h = none_ascend
given_ascends clear w h = shares_ascend w h
given_ascends (replace workspace id) w h = shares_ascend w h
given_ascends (swap workspace) w h = none_ascend
given_ascends (erase names) w h = filter_ascends (is_among names) (names_asked Shares w) (shares_ascend w h)
given_ascends (set_id id) w h = none_ascend
given_ascends off w h = none_ascend

-- once the first of the names is retracted the others are left
pub next_unmarked : (change : PlainChange) (w : PlainWorkspace) (name : List ℕ) (rest : List (List ℕ)) (value : Option PlainArray) → IsWorkspace w → given_up change w ≡ name ∷ rest → given_up change (unmarked w name value) ≡ rest
next_unmarked change w name rest value h e =
    given_unmarked change w name value h ∙ ap (λ (l : List (List ℕ)). filter (is_another name) l) e ∙ first_goes name rest (subst Ascend e (given_ascends change w h))

pub next_with_copy : (change : PlainChange) (w : PlainWorkspace) (name : List ℕ) (rest : List (List ℕ)) → IsWorkspace w → given_up change w ≡ name ∷ rest → given_up change (unmarked_with_copy w name) ≡ rest
next_with_copy change w name rest h e = given_with_copy change w name h ∙ ap (λ (l : List (List ℕ)). filter (is_another name) l) e ∙ first_goes name rest (subst Ascend e (given_ascends change w h))

-- what is given up is shared
given_is_shared : (change : PlainChange) (w : PlainWorkspace) (name : List ℕ) → IsWorkspace w → list_any (same_name name) (given_up change w) ≡ true → is_shared w name ≡ true
given_is_shared keep w name h among = absurd (false≢true among)
given_is_shared clear w name h among = sym (among_shares w.globals name h.ascending) ∙ among
given_is_shared (replace workspace id) w name h among = sym (among_shares w.globals name h.ascending) ∙ among
given_is_shared (swap workspace) w name h among = absurd (false≢true among)
given_is_shared (erase names) w name h among =
    let both : (is_among names name && list_any (same_name name) (names_asked Shares w)) ≡ true =
    sym (any-filter_same (same_name name) (is_among names) (is_among names name) (λ (k : List ℕ) e. ap (is_among names) (sym (equal_names name k e))) (names_asked Shares w)) ∙ among in
    sym (among_shares w.globals name h.ascending) ∙ (and_parts (is_among names name) (list_any (same_name name) (names_asked Shares w)) both).1
given_is_shared (set_id id) w name h among = absurd (false≢true among)
given_is_shared off w name h among = absurd (false≢true among)

pub first_is_shared : (change : PlainChange) (w : PlainWorkspace) (name : List ℕ) (rest : List (List ℕ)) → IsWorkspace w → given_up change w ≡ name ∷ rest → is_shared w name ≡ true
first_is_shared change w name rest h e =
    given_is_shared change w name h (ap (list_any (same_name name)) e ∙ ap (λ (b : Bool). b || list_any (same_name name) rest) (own_name name))

-- ---- a workspace that comes in place of another

-- names may be retracted there before
pub comes_unmarked : (w new : PlainWorkspace) (name : List ℕ) (value : Option PlainArray) → MayComeIn w new → MayComeIn (unmarked w name value) new
comes_unmarked w new name value h = by (nat_le (workspace_weight (unshared w name value)) most_weight)
  where
    by : (b : Bool) → MayComeIn (cond b (unshared w name value) (unshared w name (own_copy_in w.globals name))) new
    by true = record { frames = h.frames; printed = h.printed }
    by false = record { frames = h.frames; printed = h.printed }

pub comes_with_copy : (w new : PlainWorkspace) (name : List ℕ) → MayComeIn w new → MayComeIn (unmarked_with_copy w name) new
comes_with_copy w new name h = record { frames = h.frames; printed = h.printed }

-- more may be printed there before
pub comes_printed : (w new : PlainWorkspace) (glyphs : ℕ) → MayComeIn w new → MayComeIn (with_printed w glyphs) new
comes_printed w new glyphs h =
    let more : new.printed ≤ w.printed + glyphs = omega (arith, h.printed) in
    record { frames = h.frames; printed = more }
