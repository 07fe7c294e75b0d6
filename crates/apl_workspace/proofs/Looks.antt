-- What names stand for after each call.
use Rattle.std.proofs.Common.{◌≡◌, ℕ, ◌<◌, ◌≤◌, Bool, true, false, cond, not, ◌&&◌, ◌||◌, All, List, [], ◌∷◌, ◌++◌, Option, Some, None, append-nil, refl, sym, ap, ◌∙◌, subst, arith}
use Rattle.std.specs.Prelude.{IfSome, filter, fold, is_some, nat_le, unwrap_or}
use Rattle.std.specs.List.{list_any}
use Rattle.std.specs.Option.{option_or, option_to_list}
use Rattle.std.proofs.lemmas.Bool.{false≢true, or_parts}
use Rattle.std.proofs.lemmas.Bool.Decides.{nat_tests}
use Rattle.std.proofs.lemmas.List.Elements.{All-head, All-tail, filter-append}
use Rattle.std.proofs.lemmas.Map.Views.{IfSome-lookup_from_All}
use Rattle.apl_arrays.specs.Array.{PlainArray}
use Rattle.apl_workspace.specs.Frame.{argument_or, frame_of, header_meaning, header_names, with_argument, with_local_name}
use Rattle.apl_workspace.specs.Function.{PlainFunction}
use Rattle.apl_workspace.specs.Header.{PlainHeader}
use Rattle.apl_workspace.specs.Limits.{most_weight}
use Rattle.apl_workspace.specs.Meaning.{IsLocal, NameTable, meaning_in, meaning_of, own_copy_in, with_meaning}
use Rattle.apl_arrays.specs.Name.{same_name}
use Rattle.apl_workspace.specs.Workspace.{IsWorkspace, PlainWorkspace, assigned, global_in, in_innermost, innermost, is_local, is_of_another, is_unhidden, look, marked, names_offered, seen_by, takes_offer, unmarked, unshared, with_frame, with_frame_by, with_global, without_frame, without_global, workspace_weight}
use Rattle.apl_workspace.specs.declared.args.Args.{Args}
use Rattle.apl_workspace.specs.declared.meaning.Meaning.{Meaning}
use Rattle.apl_workspace.specs.declared.meaning.Meaning.TheVariants.{Nothing, Value, Function}
use Rattle.apl_workspace.specs.declared.remake.Remake.{Remake}
use Rattle.apl_workspace.proofs.Ascending.{found_with, found_without}
use Rattle.apl_workspace.proofs.Innermost.{none_from}
use Rattle.apl_workspace.proofs.Inside.{takes}
use Rattle.apl_workspace.proofs.NameLaw.{name_flips, own_name, equal_names}
use Rattle.apl_workspace.proofs.Rules.{HasLocals, none_offered}

-- ---- global names

seen_with : (here : Bool) (local global : Option Meaning) (meaning : Meaning) → seen_by local (cond here (Some meaning) global) ≡ cond (here && not (is_some local)) meaning (seen_by local global)
seen_with true None global meaning = refl
seen_with false None global meaning = refl
seen_with true (Some local) global meaning = refl
seen_with false (Some local) global meaning = refl

seen_without : (here : Bool) (local global : Option Meaning) → seen_by local (cond here None global) ≡ cond (here && not (is_some local)) Nothing (seen_by local global)
seen_without true None global = refl
seen_without false None global = refl
seen_without true (Some local) global = refl
seen_without false (Some local) global = refl

-- a global name stands for something else
pub look_with : (w : PlainWorkspace) (name other : List ℕ) (meaning : Meaning) → look (with_global w name meaning) other ≡ cond (is_unhidden w name other) meaning (look w other)
look_with w name other meaning =
    ap (seen_by (innermost w.frames other)) (found_with w.globals name meaning other) ∙ seen_with (same_name name other) (innermost w.frames other) (meaning_in w.globals other) meaning

-- a global name is gone
pub look_without : (w : PlainWorkspace) (name other : List ℕ) → IsWorkspace w → look (without_global w name) other ≡ cond (is_unhidden w name other) Nothing (look w other)
look_without w name other h =
    ap (seen_by (innermost w.frames other)) (found_without w.globals name other h.ascending) ∙ seen_without (same_name name other) (innermost w.frames other) (meaning_in w.globals other)

-- ---- a value that is assigned

first_of_two : (here : Bool) (meaning : Meaning) (first second : Option Meaning) → option_or (cond here (Some meaning) first) second ≡ cond here (Some meaning) (option_or first second)
first_of_two true meaning first second = refl
first_of_two false meaning first second = refl

second_of_two : (here : Bool) (meaning : Meaning) (first second : Option Meaning) → (here ≡ true → first ≡ None) → option_or first (cond here (Some meaning) second) ≡ cond here (Some meaning) (option_or first second)
second_of_two true meaning first second none = ap (λ (o : Option Meaning). option_or o (Some meaning)) (none refl)
second_of_two false meaning first second none = refl

later_has : (first second : Option Meaning) → is_some first ≡ false → is_some (option_or first second) ≡ true → is_some second ≡ true
later_has None second e has = has
later_has (Some meaning) second e has = absurd cc

innermost_given : (frames : List NameTable) (name other : List ℕ) (meaning : Meaning) → is_some (innermost frames name) ≡ true → innermost (in_innermost frames name meaning) other ≡ cond (same_name name other) (Some meaning) (innermost frames other)
innermost_given [] name other meaning has = absurd (false≢true has)
innermost_given (table ∷ tables) name other meaning has = by (is_some (meaning_in table name)) refl (innermost_given tables name other meaning)
  where
    by : (b : Bool) → is_some (meaning_in table name) ≡ b → (is_some (innermost tables name) ≡ true → innermost (in_innermost tables name meaning) other ≡ cond (same_name name other) (Some meaning) (innermost tables other))
        → innermost (cond b (with_meaning table name meaning ∷ tables) (table ∷ in_innermost tables name meaning)) other ≡ cond (same_name name other) (Some meaning) (option_or (meaning_in table other) (innermost tables other))
    by true e later = ap (λ (o : Option Meaning). option_or o (innermost tables other)) (found_with table name meaning other) ∙ first_of_two (same_name name other) meaning (meaning_in table other) (innermost tables other)
    by false e later =
        ap (option_or (meaning_in table other)) (later (later_has (meaning_in table name) (innermost tables name) e has))
        ∙ second_of_two (same_name name other) meaning (meaning_in table other) (innermost tables other) (λ here. none_from (meaning_in table other) (ap (λ (n : List ℕ). is_some (meaning_in table n)) (sym (equal_names name other here)) ∙ e))

seen_local : (here : Bool) (local global : Option Meaning) (meaning : Meaning) → seen_by (cond here (Some meaning) local) global ≡ cond here meaning (seen_by local global)
seen_local true local global meaning = refl
seen_local false local global meaning = refl

unhidden_by : (here hidden : Bool) (meaning was : Meaning) → (here ≡ true → hidden ≡ false) → cond (here && not hidden) meaning was ≡ cond here meaning was
unhidden_by true hidden meaning was free = ap (λ (b : Bool). cond (not b) meaning was) (free refl)
unhidden_by false hidden meaning was free = refl

assigned_by : (w : PlainWorkspace) (name other : List ℕ) (value : PlainArray) (b : Bool) → is_local w name ≡ b
    → look (cond b (record w { frames = in_innermost w.frames name (Value value) }) (with_global w name (Value value))) other ≡ cond (same_name name other) (Value value) (look w other)
assigned_by w name other value true e =
    ap (λ (o : Option Meaning). seen_by o (meaning_in w.globals other)) (innermost_given w.frames name other (Value value) e) ∙ seen_local (same_name name other) (innermost w.frames other) (meaning_in w.globals other) (Value value)
assigned_by w name other value false e =
    look_with w name other (Value value) ∙ unhidden_by (same_name name other) (is_local w other) (Value value) (look w other) (λ here. ap (is_local w) (sym (equal_names name other here)) ∙ e)

pub look_assigned : (w : PlainWorkspace) (name other : List ℕ) (value : PlainArray) → look (assigned w name value) other ≡ cond (same_name name other) (Value value) (look w other)
look_assigned w name other value = assigned_by w name other value (is_local w name) refl

-- ---- names that are shared no more

pub look_unshared : (w : PlainWorkspace) (name other : List ℕ) (value : Option PlainArray) → IsWorkspace w → look (unshared w name value) other ≡ cond (is_unhidden w name other) (meaning_of value) (look w other)
look_unshared w name other None h = look_without w name other h
look_unshared w name other (Some value) h = look_with w name other (Value value)

fits_test : (a b : ℕ) → a ≤ b → nat_le a b ≡ true
fits_test a b e = grind (arith, nat_tests)

heavy_test : (a b : ℕ) → b < a → nat_le a b ≡ false
heavy_test a b e = grind (arith, nat_tests)

pub look_unmarked : (w : PlainWorkspace) (name other : List ℕ) (value : Option PlainArray) → IsWorkspace w → workspace_weight (unshared w name value) ≤ most_weight → look (unmarked w name value) other ≡ cond (is_unhidden w name other) (meaning_of value) (look w other)
look_unmarked w name other value h fits =
    ap (λ (b : Bool). look (cond b (unshared w name value) (unshared w name (own_copy_in w.globals name))) other) (fits_test (workspace_weight (unshared w name value)) most_weight fits) ∙ look_unshared w name other value h

pub look_kept : (w : PlainWorkspace) (name other : List ℕ) (value : Option PlainArray) → IsWorkspace w → most_weight < workspace_weight (unshared w name value)
    → look (unmarked w name value) other ≡ cond (is_unhidden w name other) (meaning_of (own_copy_in w.globals name)) (look w other)
look_kept w name other value h heavy =
    ap (λ (b : Bool). look (cond b (unshared w name value) (unshared w name (own_copy_in w.globals name))) other) (heavy_test (workspace_weight (unshared w name value)) most_weight heavy)
    ∙ look_unshared w name other (own_copy_in w.globals name) h

offers_by : (b : Bool) (w : PlainWorkspace) (name : List ℕ) (value copy : Option PlainArray) → (cond b (unshared w name value) (unshared w name copy)).offers ≡ filter (is_of_another name) w.offers
offers_by true w name value copy = refl
offers_by false w name value copy = refl

all_others : (name : List ℕ) (offers : List Remake) → list_any (same_name name) (names_offered offers) ≡ false → filter (is_of_another name) offers ≡ offers
all_others name [] e = refl
all_others name (offer ∷ offers) e =
    let parts = or_parts (same_name name offer.local) (list_any (same_name name) (names_offered offers)) e in
    ap (λ (b : Bool). cond (not b) (offer ∷ filter (is_of_another name) offers) (filter (is_of_another name) offers)) parts.0 ∙ ap (λ (rest : List Remake). offer ∷ rest) (all_others name offers parts.1)

-- an offer that was listed is taken out again
pub offers_again : (w : PlainWorkspace) (offer : Remake) (copy value : Option PlainArray) → IsWorkspace w → takes_offer w offer.local ≡ true → (unmarked (marked w offer copy) offer.local value).offers ≡ w.offers
offers_again w offer copy value h takes_it =
    let may = takes w offer.local takes_it in
    let own : filter (is_of_another offer.local) (offer ∷ []) ≡ [] = ap (λ (b : Bool). cond (not b) (offer ∷ []) []) (own_name offer.local) in
    offers_by (nat_le (workspace_weight (unshared (marked w offer copy) offer.local value)) most_weight) (marked w offer copy) offer.local value (own_copy_in (marked w offer copy).globals offer.local)
    ∙ ap (λ (b : Bool). filter (is_of_another offer.local) (cond b (w.offers ++ offer ∷ []) w.offers)) takes_it
    ∙ filter-append (is_of_another offer.local) w.offers (offer ∷ [])
    ∙ ap (λ (l : List Remake). l ++ filter (is_of_another offer.local) (offer ∷ [])) (all_others offer.local w.offers (none_offered w.globals w.offers offer.local may.free h.offers.shared))
    ∙ ap (λ (l : List Remake). w.offers ++ l) own ∙ append-nil w.offers

-- ---- frames

hidden_by : (found local global : Option Meaning) → seen_by (option_or found local) global ≡ unwrap_or found (seen_by local global)
hidden_by None local global = refl
hidden_by (Some meaning) local global = refl

pub look_entered : (w : PlainWorkspace) (name other : List ℕ) (args : Args) (function : PlainFunction) → look w name ≡ Function function → look (with_frame w name args) other ≡ unwrap_or (meaning_in (frame_of function args) other) (look w other)
look_entered w name other args function is =
    ap (λ (m : Meaning). look (with_frame_by m w args) other) is ∙ hidden_by (meaning_in (frame_of function args) other) (innermost w.frames other) (meaning_in w.globals other)

pub left_again : (w : PlainWorkspace) (name : List ℕ) (args : Args) (function : PlainFunction) → look w name ≡ Function function → without_frame (with_frame w name args) ≡ w
left_again w name args function is = ap (λ (m : Meaning). without_frame (with_frame_by m w args)) is

local_by : (first second : Option Meaning) → IfSome first IsLocal → IfSome second IsLocal → IfSome (option_or first second) IsLocal
local_by None second h k = k
local_by (Some meaning) second h k = h

innermost_is_local : (frames : List NameTable) (name : List ℕ) → All HasLocals frames → IfSome (innermost frames name) IsLocal
innermost_is_local [] name h = tt
innermost_is_local (table ∷ tables) name h =
    local_by (meaning_in table name) (innermost tables name) (IfSome-lookup_from_All IsLocal (same_name name) table (All-head HasLocals table tables h)) (innermost_is_local tables name (All-tail HasLocals table tables h))

-- what no frame can hold is seen globally
global_by : (meaning : Meaning) (local global : Option Meaning) → IfSome local IsLocal → (IsLocal meaning → false ≡ true) → seen_by local global ≡ meaning → unwrap_or global Nothing ≡ meaning
global_by meaning None None h none is = is
global_by meaning None (Some found) h none is = is
global_by meaning (Some found) global h none is = absurd (false≢true (none (subst IsLocal is h)))

pub seen_globally : (w : PlainWorkspace) (name : List ℕ) (meaning : Meaning) → IsWorkspace w → (IsLocal meaning → false ≡ true) → look w name ≡ meaning → global_in w name ≡ meaning
seen_globally w name meaning h none is = global_by meaning (innermost w.frames name) (meaning_in w.globals name) (innermost_is_local w.frames name h.locals) none is

-- ---- names of a header

locals_found : (names : NameTable) (more : List (List ℕ)) (name : List ℕ) → meaning_in (fold with_local_name names more) name ≡ cond (list_any (same_name name) more) (Some Nothing) (meaning_in names name)
locals_found names [] name = refl
locals_found names (local ∷ more) name =
    locals_found (with_local_name names local) more name
    ∙ ap (λ (o : Option Meaning). cond (list_any (same_name name) more) (Some Nothing) o) (found_with names local Nothing name ∙ ap (λ (b : Bool). cond b (Some Nothing) (meaning_in names name)) (name_flips local name))
    ∙ either (same_name name local) (list_any (same_name name) more) (meaning_in names name)
  where
    either : (first later : Bool) (found : Option Meaning) → cond later (Some Nothing) (cond first (Some Nothing) found) ≡ cond (first || later) (Some Nothing) found
    either true true found = refl
    either true false found = refl
    either false true found = refl
    either false false found = refl

argument_found : (names : NameTable) (argument : Option (List ℕ)) (value : Option PlainArray) (name : List ℕ) → meaning_in (with_argument names argument value) name ≡ argument_or argument value name (meaning_in names name)
argument_found names None value name = refl
argument_found names (Some argument) value name = found_with names argument (meaning_of value) name

pub header_found : (header : PlainHeader) (args : Args) (name : List ℕ) → meaning_in (header_names header args) name ≡ header_meaning header args name
header_found header args name =
    let left = with_argument [] header.left args.left in
    let locals = option_to_list header.result ++ header.locals in
    locals_found (with_argument left header.right args.right) locals name
    ∙ ap (λ (o : Option Meaning). cond (list_any (same_name name) locals) (Some Nothing) o)
    (argument_found left header.right args.right name ∙ ap (argument_or header.right args.right name) (argument_found [] header.left args.left name))
