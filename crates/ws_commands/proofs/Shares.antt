-- The shared names of a workspace, and what a change gives up of them.
use Rattle.std.proofs.Common.{◌≡◌, ℕ, zero, suc, ◌+◌, ◌<◌, Bool, true, false, cond, ◌||◌, All, List, [], ◌∷◌, Option, Some, None, length, take, get_or, refl, sym, ap, ◌∙◌, arith}
use Rattle.std.specs.Prelude.{filter, is_some, unwrap_or}
use Rattle.std.specs.List.{list_any}
use Rattle.std.specs.Map.{keys_of}
use Rattle.std.proofs.lemmas.Bool.{false≢true}
use Rattle.std.proofs.lemmas.Map.Entries.{option_filter}
use Rattle.apl_arrays.specs.Name.{same_name}
use Rattle.apl_workspace.specs.Listing.{names_among, names_asked}
use Rattle.apl_workspace.specs.Meaning.{NameTable, is_shared_in, is_shared_meaning, meaning_in}
use Rattle.apl_workspace.specs.Workspace.{IsWorkspace, PlainWorkspace, is_shared, without_global, without_globals}
use Rattle.apl_workspace.specs.declared.meaning.Meaning.{Meaning}
use Rattle.apl_workspace.specs.declared.meaning.Meaning.TheVariants.{Nothing}
use Rattle.apl_workspace.specs.declared.what.What.TheVariants.{Shares}
use Rattle.apl_workspace.proofs.Ascending.{Ascend, ascending_apart}
use Rattle.apl_workspace.proofs.Listed.{among}
use Rattle.apl_workspace.proofs.NameLaw.{equal_names, own_name}
use Rattle.apl_workspace.proofs.Without.{found_without_all, one_less}
use Rattle.ws_commands.specs.Todo.{erase, given_up, is_among}

filtered : (b : Bool) (meaning : Meaning) → is_some (cond b (Some meaning) None) ≡ b
filtered true meaning = refl
filtered false meaning = refl

-- a name is one of the shared names exactly where it is shared
pub among_shares : (names : NameTable) (name : List ℕ) → Ascend (keys_of names) → list_any (same_name name) (names_among Shares names) ≡ is_shared_in names name
among_shares names name s = among is_shared_meaning names name (ascending_apart (keys_of names) s) ∙ by (meaning_in names name)
  where
    by : (found : Option Meaning) → is_some (option_filter is_shared_meaning found) ≡ is_shared_meaning (unwrap_or found Nothing)
    by None = refl
    by (Some meaning) = filtered (is_shared_meaning meaning) meaning

or_right : (a b : Bool) → b ≡ true → (a || b) ≡ true
or_right true b e = refl
or_right false b e = e

-- a name at a place is one of the names
at_place : (names : List (List ℕ)) (k : ℕ) (d : List ℕ) → k < length names → list_any (same_name (get_or names k d)) names ≡ true
at_place [] k d lt = absurd (omega (arith, lt))
at_place (name ∷ names) zero d lt = ap (λ (b : Bool). b || list_any (same_name name) names) (own_name name)
at_place (name ∷ names) (suc k) d lt = or_right (same_name (get_or names k d) name) (list_any (same_name (get_or names k d)) names) (at_place names k d (omega (arith, lt)))

abbrev is_some_name : List (List ℕ) → Bool
is_some_name [] = false
is_some_name (name ∷ names) = true

kept_by : (test : List ℕ → Bool) (other : List ℕ) (names : List (List ℕ)) (name : List ℕ) (b c : Bool) → test other ≡ b → same_name name other ≡ c → (c || list_any (same_name name) names) ≡ true → test name ≡ true
    → cond b (other ∷ filter test names) (filter test names) ≡ [] → (list_any (same_name name) names ≡ true → filter test names ≡ [] → ⊥) → ⊥
kept_by test other names name true c e f there passes none later = false≢true (sym (ap is_some_name none))
kept_by test other names name false true e f there passes none later = false≢true (sym e ∙ ap test (sym (equal_names name other f)) ∙ passes)
kept_by test other names name false false e f there passes none later = later there none

-- what passes a test stays
kept_one : (test : List ℕ → Bool) (names : List (List ℕ)) (name : List ℕ) → list_any (same_name name) names ≡ true → test name ≡ true → filter test names ≡ [] → ⊥
kept_one test [] name there passes none = false≢true there
kept_one test (other ∷ names) name there passes none =
    kept_by test other names name (test other) (same_name name other) refl refl there passes none (λ among empty. kept_one test names name among passes empty)

-- what is erased is not shared, where no shared name is given up
pub unshared : (w : PlainWorkspace) (names : List (List ℕ)) → IsWorkspace w → given_up (erase names) w ≡ [] → All (λ name. is_shared w name ≡ false) names
unshared w names h none k d lt = by (is_shared w (get_or names k d)) refl
  where
    by : (b : Bool) → is_shared w (get_or names k d) ≡ b → is_shared w (get_or names k d) ≡ false
    by true e = absurd (kept_one (is_among names) (names_asked Shares w) (get_or names k d) (among_shares w.globals (get_or names k d) h.ascending ∙ e) (at_place names k d lt) none)
    by false e = e

-- ---- names that are erased, one after another

-- a name that is not shared stays so
pub still_unshared : (w : PlainWorkspace) (gone : List (List ℕ)) (name : List ℕ) → IsWorkspace w → is_shared w name ≡ false → is_shared (without_globals w gone) name ≡ false
still_unshared w gone name h free = ap (λ (o : Option Meaning). is_shared_meaning (unwrap_or o Nothing)) (found_without_all w.globals gone name h.ascending) ∙ by (list_any (same_name name) gone)
  where
    by : (b : Bool) → is_shared_meaning (unwrap_or (cond b None (meaning_in w.globals name)) Nothing) ≡ false
    by true = refl
    by false = free

-- a name more is erased
pub one_erased : (w ws after : PlainWorkspace) (names : List (List ℕ)) (i : ℕ) (name : List ℕ) → i < length names → name ≡ get_or names i name → ws ≡ without_globals w (take i names) → after ≡ without_global ws name → after ≡ without_globals w (take (i + 1) names)
one_erased w ws after names i name within is was e =
    e ∙ ap (λ (x : PlainWorkspace). without_global x name) was ∙ ap (λ (g : NameTable). record w { globals = g }) (sym (one_less w.globals names i name within is))
