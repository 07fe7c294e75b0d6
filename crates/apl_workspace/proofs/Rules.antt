-- What holds of every workspace still holds after each change.
use Rattle.std.proofs.Common.{◌≡◌, ℕ, suc, ◌+◌, ◌<◌, ◌≤◌, Bool, true, false, cond, not, ◌||◌, All, List, [], ◌∷◌, ◌++◌, Option, Some, None, length, refl, sym, ap, ◌∙◌, subst, sum_by, length-append, arith}
use Rattle.std.specs.Prelude.{IfSome, filter, fold, is_some, unwrap_or}
use Rattle.std.specs.List.{list_any}
use Rattle.std.specs.List.Sorted.{IsStrictlySortedBy}
use Rattle.std.specs.Map.{keys_of, values_of}
use Rattle.std.specs.Option.{option_to_list}
use Rattle.std.proofs.lemmas.Bool.{false≢true}
use Rattle.std.proofs.lemmas.List.Elements.{All-cons, All-filter, All-head, All-nil, All-push, All-rest, All-tail, All-weaker}
use Rattle.std.proofs.lemmas.List.Sums.{sum_by-cons}
use Rattle.std.proofs.lemmas.Map.Views.{All-values-insert_entry}
use Rattle.apl_arrays.specs.Array.{PlainArray}
use Rattle.apl_arrays.specs.Limits.{most_offers}
use Rattle.apl_workspace.specs.Frame.{frame_of, header_names, with_argument, with_label_of_line, with_labels, with_local_name}
use Rattle.apl_workspace.specs.Function.{PlainFunction}
use Rattle.apl_workspace.specs.Label.{label_of}
use Rattle.apl_workspace.specs.Limits.{most_depth, most_weight}
use Rattle.apl_workspace.specs.Meaning.{IsGlobal, IsLocal, NameTable, is_shared_in, is_shared_meaning, meaning_in, table_weight, with_meaning, with_value_or_none, without_name}
use Rattle.apl_arrays.specs.Name.{name_order, same_name}
use Rattle.apl_workspace.specs.Names.{all_differ}
use Rattle.apl_workspace.specs.Workspace.{IsFrameFor, IsWorkspace, PlainWorkspace, empty_workspace, in_innermost, is_addressee, is_of_another, is_shared, names_offered, unshared, with_global, without_global, without_globals, workspace_weight}
use Rattle.apl_workspace.specs.declared.args.Args.{Args}
use Rattle.apl_workspace.specs.declared.meaning.Meaning.{Meaning}
use Rattle.apl_workspace.specs.declared.meaning.Meaning.TheVariants.{Nothing, Value, Function, Label, Shared}
use Rattle.apl_workspace.specs.declared.remake.Remake.{Remake}
use Rattle.apl_workspace.proofs.Ascending.{found_with, found_without, none_ascend, with_ascends, without_ascends}
use Rattle.apl_workspace.proofs.NameLaw.{differ_picked, differ_push, none_differ, own_name, equal_names}
use Rattle.apl_workspace.proofs.Tables.{erasing_is_lighter}

-- the name is not shared
abbrev pub IsFree : PlainWorkspace → List ℕ → Type 0
IsFree w name = is_shared w name ≡ false

-- the offer is of a shared name
abbrev pub IsShare : NameTable → Remake → Type 0
IsShare globals offer = is_shared_in globals offer.local ≡ true

-- one may offer to the addressee
abbrev pub IsAddressed : Remake → Type 0
IsAddressed offer = is_addressee offer.to ≡ true

-- a frame has no function and no share
abbrev pub HasLocals : NameTable → Type 0
HasLocals frame = All IsLocal (values_of frame)

-- ---- names that are shared

shared_by : (b : Bool) (meaning : Meaning) (was : Option Meaning) → (b ≡ true → is_shared_meaning meaning ≡ true) → is_shared_meaning (unwrap_or was Nothing) ≡ true → is_shared_meaning (unwrap_or (cond b (Some meaning) was) Nothing) ≡ true
shared_by true meaning was stays shared = stays refl
shared_by false meaning was stays shared = shared

-- a shared name is shared beside a name that stands for something else, and is itself given none but a share
shared_with : (globals : NameTable) (name other : List ℕ) (meaning : Meaning) → (is_shared_in globals name ≡ true → is_shared_meaning meaning ≡ true) → is_shared_in globals other ≡ true → is_shared_in (with_meaning globals name meaning) other ≡ true
shared_with globals name other meaning stays shared =
    ap (λ (o : Option Meaning). is_shared_meaning (unwrap_or o Nothing)) (found_with globals name meaning other)
    ∙ shared_by (same_name name other) meaning (meaning_in globals other) (λ e. stays (ap (is_shared_in globals) (equal_names name other e) ∙ shared)) shared

kept_by : (b : Bool) (was : Option Meaning) → b ≡ false → is_shared_meaning (unwrap_or was Nothing) ≡ true → is_shared_meaning (unwrap_or (cond b None was) Nothing) ≡ true
kept_by true was apart shared = absurd (false≢true (sym apart))
kept_by false was apart shared = shared

-- a shared name is shared where another is gone
shared_without : (w : PlainWorkspace) (name other : List ℕ) → IsWorkspace w → same_name name other ≡ false → is_shared w other ≡ true → is_shared_in (without_name w.globals name) other ≡ true
shared_without w name other h apart shared =
    ap (λ (o : Option Meaning). is_shared_meaning (unwrap_or o Nothing)) (found_without w.globals name other h.ascending)
    ∙ kept_by (same_name name other) (meaning_in w.globals other) apart shared

apart_by : (w : PlainWorkspace) (name other : List ℕ) (b : Bool) → same_name name other ≡ b → is_shared w name ≡ false → is_shared w other ≡ true → b ≡ false
apart_by w name other true e free shared = absurd (false≢true (sym free ∙ ap (is_shared w) (equal_names name other e) ∙ shared))
apart_by w name other false e free shared = refl

-- ---- global names

global_by : (b : Bool) (name other : List ℕ) (meaning : Meaning) (was : Option Meaning) → same_name name other ≡ b → IsGlobal name meaning → IfSome was (IsGlobal other) → IfSome (cond b (Some meaning) was) (IsGlobal other)
global_by true name other meaning was e is before = subst (λ (n : List ℕ). IsGlobal n meaning) (equal_names name other e) is
global_by false name other meaning was e is before = before

global_less : (b : Bool) (other : List ℕ) (was : Option Meaning) → IfSome was (IsGlobal other) → IfSome (cond b None was) (IsGlobal other)
global_less true other was before = tt
global_less false other was before = before

globals_with : (w : PlainWorkspace) (name : List ℕ) (meaning : Meaning) → IsWorkspace w → IsGlobal name meaning → (other : List ℕ) → IfSome (meaning_in (with_meaning w.globals name meaning) other) (IsGlobal other)
globals_with w name meaning h is other =
    subst (λ (o : Option Meaning). IfSome o (IsGlobal other)) (sym (found_with w.globals name meaning other)) (global_by (same_name name other) name other meaning (meaning_in w.globals other) refl is (h.globals other))

globals_without : (w : PlainWorkspace) (name : List ℕ) → IsWorkspace w → (other : List ℕ) → IfSome (meaning_in (without_name w.globals name) other) (IsGlobal other)
globals_without w name h other =
    subst (λ (o : Option Meaning). IfSome o (IsGlobal other)) (sym (found_without w.globals name other h.ascending)) (global_less (same_name name other) other (meaning_in w.globals other) (h.globals other))

-- a global name stands for something
pub put_keeps : (w : PlainWorkspace) (name : List ℕ) (meaning : Meaning) → IsWorkspace w → IsGlobal name meaning → (is_shared w name ≡ true → is_shared_meaning meaning ≡ true) → workspace_weight (with_global w name meaning) ≤ most_weight → IsWorkspace (with_global w name meaning)
put_keeps w name meaning h is stays fits = record {
  ascending = with_ascends w.globals name meaning h.ascending;
  globals = globals_with w name meaning h is;
  locals = h.locals;
  offers = record {
    count = h.offers.count;
    differ = h.offers.differ;
    shared = All-weaker (IsShare w.globals) (IsShare (with_meaning w.globals name meaning)) (λ offer was. shared_with w.globals name offer.local meaning stays was) w.offers h.offers.shared;
    addressees = h.offers.addressees;
  };
  weight = fits;
  depth = h.depth;
  printed = h.printed;
}

-- a global name that is not shared is gone
pub erasing_keeps : (w : PlainWorkspace) (name : List ℕ) → IsWorkspace w → is_shared w name ≡ false → IsWorkspace (without_global w name)
erasing_keeps w name h free = record {
  ascending = without_ascends w.globals name h.ascending;
  globals = globals_without w name h;
  locals = h.locals;
  offers = record {
    count = h.offers.count;
    differ = h.offers.differ;
    shared = All-weaker (IsShare w.globals) (IsShare (without_name w.globals name)) (λ offer was. shared_without w name offer.local h (apart_by w name offer.local (same_name name offer.local) refl free was) was) w.offers h.offers.shared;
    addressees = h.offers.addressees;
  };
  weight = omega (arith, erasing_is_lighter w.globals name, h.weight);
  depth = h.depth;
  printed = h.printed;
}

free_by : (b : Bool) (was : Option Meaning) → is_shared_meaning (unwrap_or was Nothing) ≡ false → is_shared_meaning (unwrap_or (cond b None was) Nothing) ≡ false
free_by true was free = refl
free_by false was free = free

-- so are several
pub erasing_all_keeps : (w : PlainWorkspace) (names : List (List ℕ)) → IsWorkspace w → All (λ name. is_shared w name ≡ false) names → IsWorkspace (without_globals w names)
erasing_all_keeps w [] h free = h
erasing_all_keeps w (name ∷ names) h free =
    erasing_all_keeps (without_global w name) names (erasing_keeps w name h (All-head (IsFree w) name names free))
    (All-weaker (IsFree w) (IsFree (without_global w name))
    (λ other was. ap (λ (o : Option Meaning). is_shared_meaning (unwrap_or o Nothing)) (found_without w.globals name other h.ascending) ∙ free_by (same_name name other) (meaning_in w.globals other) was) names (All-tail (IsFree w) name names free))

-- ---- offers that are listed

pub none_offered : (globals : NameTable) (offers : List Remake) (name : List ℕ) → is_shared_in globals name ≡ false → All (λ (offer : Remake). is_shared_in globals offer.local ≡ true) offers → list_any (same_name name) (names_offered offers) ≡ false
none_offered globals [] name free shared = refl
none_offered globals (offer ∷ offers) name free shared =
    other_by (same_name name offer.local) refl (none_offered globals offers name free (All-tail (IsShare globals) offer offers shared))
  where
    other_by : (b : Bool) → same_name name offer.local ≡ b → list_any (same_name name) (names_offered offers) ≡ false → b || list_any (same_name name) (names_offered offers) ≡ false
    other_by true e later = absurd (false≢true (sym free ∙ ap (is_shared_in globals) (equal_names name offer.local e) ∙ All-head (IsShare globals) offer offers shared))
    other_by false e later = later

names_push : (offers : List Remake) (offer : Remake) → names_offered (offers ++ offer ∷ []) ≡ names_offered offers ++ offer.local ∷ []
names_push [] offer = refl
names_push (first ∷ offers) offer = ap (λ (names : List (List ℕ)). first.local ∷ names) (names_push offers offer)

-- the offer of a name that was not shared before is listed
pub listing_keeps : (w : PlainWorkspace) (offer : Remake) (copy : Option PlainArray) → IsWorkspace w → is_shared w offer.local ≡ false → length w.offers < most_offers → is_addressee offer.to ≡ true
    → workspace_weight (with_global w offer.local (Shared copy)) ≤ most_weight → IsWorkspace (record w { globals = with_meaning w.globals offer.local (Shared copy); offers = w.offers ++ offer ∷ [] })
listing_keeps w offer copy h free room to fits =
    let put = put_keeps w offer.local (Shared copy) h tt (λ e. refl) fits in
    let own : is_shared_in (with_meaning w.globals offer.local (Shared copy)) offer.local ≡ true =
    ap (λ (o : Option Meaning). is_shared_meaning (unwrap_or o Nothing)) (found_with w.globals offer.local (Shared copy) offer.local ∙ ap (λ (b : Bool). cond b (Some (Shared copy)) (meaning_in w.globals offer.local)) (own_name offer.local)) in
    let more = length-append w.offers (offer ∷ []) in
    record {
      ascending = put.ascending;
      globals = put.globals;
      locals = put.locals;
      offers = record {
        count = omega (arith, more, room);
        differ = ap all_differ (names_push w.offers offer) ∙ differ_push (names_offered w.offers) offer.local h.offers.differ (none_offered w.globals w.offers offer.local free h.offers.shared);
        shared = All-push (IsShare (with_meaning w.globals offer.local (Shared copy))) w.offers offer put.offers.shared own;
        addressees = All-push IsAddressed w.offers offer h.offers.addressees to;
      };
      weight = put.weight;
      depth = put.depth;
      printed = put.printed;
    }

-- ---- offers that are taken out of the list

some_left : (p : Remake → Bool) (offers : List Remake) → length (filter p offers) ≤ length offers
some_left p [] = omega arith
some_left p (offer ∷ offers) = left_by (p offer) (some_left p offers)
  where
    left_by : (b : Bool) → length (filter p offers) ≤ length offers → length (cond b (offer ∷ filter p offers) (filter p offers)) ≤ length (offer ∷ offers)
    left_by true h = omega (arith, h)
    left_by false h = omega (arith, h)

left_by : (name : List ℕ) (offer : Remake) (offers : List Remake) (b : Bool) → names_offered (filter (is_of_another name) offers) ≡ filter (λ other. not (same_name name other)) (names_offered offers)
    → names_offered (cond b (offer ∷ filter (is_of_another name) offers) (filter (is_of_another name) offers)) ≡ cond b (offer.local ∷ filter (λ other. not (same_name name other)) (names_offered offers)) (filter (λ other. not (same_name name other)) (names_offered offers))
left_by name offer offers true later = ap (λ (names : List (List ℕ)). offer.local ∷ names) later
left_by name offer offers false later = later

names_left : (name : List ℕ) (offers : List Remake) → names_offered (filter (is_of_another name) offers) ≡ filter (λ other. not (same_name name other)) (names_offered offers)
names_left name [] = refl
names_left name (offer ∷ offers) = left_by name offer offers (is_of_another name offer) (names_left name offers)

still_differ : (name : List ℕ) (offers : List Remake) → all_differ (names_offered offers) ≡ true → all_differ (names_offered (filter (is_of_another name) offers)) ≡ true
still_differ name offers e = ap all_differ (names_left name offers) ∙ differ_picked (λ other. not (same_name name other)) (names_offered offers) e

others_shared : (was made : NameTable) (name : List ℕ) (offers : List Remake) → ((other : List ℕ) → same_name name other ≡ false → is_shared_in was other ≡ true → is_shared_in made other ≡ true) → All (λ (offer : Remake). is_shared_in was offer.local ≡ true) offers
    → All (λ (offer : Remake). is_shared_in made offer.local ≡ true) (filter (is_of_another name) offers)
others_shared was made name [] keeps shared = All-nil (IsShare made)
others_shared was made name (offer ∷ offers) keeps shared =
    shared_by_name (same_name name offer.local) refl (others_shared was made name offers keeps (All-tail (IsShare was) offer offers shared))
  where
    left : List Remake
    left = filter (is_of_another name) offers

    shared_by_name : (b : Bool) → same_name name offer.local ≡ b → All (λ (offer : Remake). is_shared_in made offer.local ≡ true) left → All (λ (offer : Remake). is_shared_in made offer.local ≡ true) (cond (not b) (offer ∷ left) left)
    shared_by_name true e later = later
    shared_by_name false e later = All-cons (IsShare made) offer left (keeps offer.local e (All-head (IsShare was) offer offers shared)) later

value_keeps : (w : PlainWorkspace) (name other : List ℕ) (value : Option PlainArray) → IsWorkspace w → same_name name other ≡ false → is_shared w other ≡ true → is_shared_in (with_value_or_none w.globals name value) other ≡ true
value_keeps w name other None h apart shared = shared_without w name other h apart shared
value_keeps w name other (Some value) h apart shared =
    ap (λ (o : Option Meaning). is_shared_meaning (unwrap_or o Nothing)) (found_with w.globals name (Value value) other ∙ ap (λ (b : Bool). cond b (Some (Value value)) (meaning_in w.globals other)) apart) ∙ shared

value_ascends : (w : PlainWorkspace) (name : List ℕ) (value : Option PlainArray) → IsWorkspace w → IsStrictlySortedBy name_order (keys_of (with_value_or_none w.globals name value))
value_ascends w name None h = without_ascends w.globals name h.ascending
value_ascends w name (Some value) h = with_ascends w.globals name (Value value) h.ascending

value_is_global : (w : PlainWorkspace) (name : List ℕ) (value : Option PlainArray) → IsWorkspace w → (other : List ℕ) → IfSome (meaning_in (with_value_or_none w.globals name value) other) (IsGlobal other)
value_is_global w name None h = globals_without w name h
value_is_global w name (Some value) h = globals_with w name (Value value) h tt

-- a name is shared no more, and its offer is taken out of the list
pub unsharing_keeps : (w : PlainWorkspace) (name : List ℕ) (value : Option PlainArray) → IsWorkspace w → workspace_weight (unshared w name value) ≤ most_weight → IsWorkspace (unshared w name value)
unsharing_keeps w name value h fits = record {
  ascending = value_ascends w name value h;
  globals = value_is_global w name value h;
  locals = h.locals;
  offers = record {
    count = omega (arith, some_left (is_of_another name) w.offers, h.offers.count);
    differ = still_differ name w.offers h.offers.differ;
    shared = others_shared w.globals (with_value_or_none w.globals name value) name w.offers (λ other apart was. value_keeps w name other value h apart was) h.offers.shared;
    addressees = All-filter (is_of_another name) IsAddressed w.offers h.offers.addressees;
  };
  weight = fits;
  depth = h.depth;
  printed = h.printed;
}

-- ---- frames

-- the rules with other frames
pub frames_keep : (w : PlainWorkspace) (frames : List NameTable) → IsWorkspace w → All HasLocals frames → workspace_weight (record w { frames = frames }) ≤ most_weight → length frames ≤ most_depth → IsWorkspace (record w { frames = frames })
frames_keep w frames h locals fits deep = record {
  ascending = h.ascending;
  globals = h.globals;
  locals = locals;
  offers = h.offers;
  weight = fits;
  depth = deep;
  printed = h.printed;
}

given_locals : (frames : List NameTable) (name : List ℕ) (value : PlainArray) → All HasLocals frames → All HasLocals (in_innermost frames name (Value value))
given_locals [] name value h = h
given_locals (table ∷ frames) name value h =
    locals_by (is_some (meaning_in table name)) (given_locals frames name value (All-tail HasLocals table frames h))
  where
    locals_by : (b : Bool) → All HasLocals (in_innermost frames name (Value value))
        → All HasLocals (cond b (with_meaning table name (Value value) ∷ frames) (table ∷ in_innermost frames name (Value value)))
    locals_by true later = All-cons HasLocals (with_meaning table name (Value value)) frames (All-values-insert_entry name_order name (Value value) IsLocal table (All-head HasLocals table frames h) tt) (All-tail HasLocals table frames h)
    locals_by false later = All-cons HasLocals table (in_innermost frames name (Value value)) (All-head HasLocals table frames h) later

as_deep : (frames : List NameTable) (name : List ℕ) (meaning : Meaning) → length (in_innermost frames name meaning) ≡ length frames
as_deep [] name meaning = refl
as_deep (table ∷ frames) name meaning = deep_by (is_some (meaning_in table name)) (as_deep frames name meaning)
  where
    deep_by : (b : Bool) → length (in_innermost frames name meaning) ≡ length frames → length (cond b (with_meaning table name meaning ∷ frames) (table ∷ in_innermost frames name meaning)) ≡ suc (length frames)
    deep_by true later = refl
    deep_by false later = ap suc later

-- a local name has a value
pub giving_keeps : (w : PlainWorkspace) (name : List ℕ) (value : PlainArray) → IsWorkspace w → workspace_weight (record w { frames = in_innermost w.frames name (Value value) }) ≤ most_weight → IsWorkspace (record w { frames = in_innermost w.frames name (Value value) })
giving_keeps w name value h fits =
    frames_keep w (in_innermost w.frames name (Value value)) h (given_locals w.frames name value h.locals) fits (omega (arith, as_deep w.frames name (Value value), h.depth))

-- the innermost frame is gone
pub leaving_keeps : (w : PlainWorkspace) (frame : NameTable) (frames : List NameTable) → w.frames ≡ frame ∷ frames → IsWorkspace w → IsWorkspace (record w { frames = frames })
leaving_keeps w frame frames e h =
    let weighs : sum_by table_weight w.frames ≡ table_weight frame + sum_by table_weight frames = ap (sum_by table_weight) e ∙ sum_by-cons table_weight frame frames in
    let deep : length w.frames ≡ suc (length frames) = ap length e in
    frames_keep w frames h (All-rest HasLocals frame frames w.frames e h.locals) (omega (arith, weighs, h.weight)) (omega (arith, deep, h.depth))

-- ---- a frame more

put_local : (names : NameTable) (name : List ℕ) (meaning : Meaning) → All IsLocal (values_of names) → IsLocal meaning → All IsLocal (values_of (with_meaning names name meaning))
put_local names name meaning h is = All-values-insert_entry name_order name meaning IsLocal names h is

argument_local : (names : NameTable) (name : Option (List ℕ)) (value : Option PlainArray) → All IsLocal (values_of names) → All IsLocal (values_of (with_argument names name value))
argument_local names None value h = h
argument_local names (Some name) None h = put_local names name Nothing h tt
argument_local names (Some name) (Some value) h = put_local names name (Value value) h tt

names_local : (names : NameTable) (more : List (List ℕ)) → All IsLocal (values_of names) → All IsLocal (values_of (fold with_local_name names more))
names_local names [] h = h
names_local names (name ∷ more) h = names_local (with_local_name names name) more (put_local names name Nothing h tt)

label_local : (label : Option (List ℕ)) (number : ℕ) (names : NameTable) → All IsLocal (values_of names) → All IsLocal (values_of (with_label_of_line label number names))
label_local None number names h = h
label_local (Some label) number names h = put_local names label (Label number) h tt

labels_local : (number : ℕ) (lines : List (List ℕ)) (names : NameTable) → All IsLocal (values_of names) → All IsLocal (values_of (with_labels number lines names))
labels_local number [] names h = h
labels_local number (line ∷ lines) names h = label_local (label_of line) number (with_labels (number + 1) lines names) (labels_local (number + 1) lines names h)

frame_local : (function : PlainFunction) (args : Args) → All IsLocal (values_of (frame_of function args))
frame_local function args =
    labels_local 1 function.lines (header_names function.header args)
    (names_local _ (option_to_list function.header.result ++ function.header.locals) (argument_local _ function.header.right args.right (argument_local [] function.header.left args.left (All-nil IsLocal))))

frame_for_local : (meaning : Meaning) (args : Args) (frame : NameTable) → IsFrameFor meaning args frame → All IsLocal (values_of frame)
frame_for_local Nothing args frame h = absurd h
frame_for_local (Value value) args frame h = absurd h
frame_for_local (Function function) args frame h = subst (λ (f : NameTable). All IsLocal (values_of f)) (sym h) (frame_local function args)
frame_for_local (Label line) args frame h = absurd h
frame_for_local (Shared copy) args frame h = absurd h

-- a frame of a function stands before the others
pub entering_keeps : (w : PlainWorkspace) (frame : NameTable) (meaning : Meaning) (args : Args) → IsFrameFor meaning args frame → IsWorkspace w → workspace_weight (record w { frames = frame ∷ w.frames }) ≤ most_weight → length w.frames < most_depth
    → IsWorkspace (record w { frames = frame ∷ w.frames })
entering_keeps w frame meaning args is h fits deep = frames_keep w (frame ∷ w.frames) h (All-cons HasLocals frame w.frames (frame_for_local meaning args frame is) h.locals) fits (omega (arith, deep))

-- ---- an empty workspace

pub empty_keeps : IsWorkspace empty_workspace
empty_keeps = record {
  ascending = none_ascend;
  globals = λ name. tt;
  locals = All-nil HasLocals;
  offers = record { count = omega arith; differ = none_differ; shared = All-nil (IsShare []); addressees = All-nil IsAddressed };
  weight = omega arith;
  depth = omega arith;
  printed = omega arith;
}
