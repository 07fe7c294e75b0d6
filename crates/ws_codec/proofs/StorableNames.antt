-- Workspaces of the program may be saved.
use Rattle.std.proofs.Common.{◌≡◌, ℕ, ◌+◌, ◌≤◌, Bool, true, false, not, ◌&&◌, ◌||◌, List, [], ◌∷◌, ◌++◌, Option, Some, None, length, refl, sym, ap, ◌∙◌, le-leb, arith}
use Rattle.std.specs.Prelude.{unwrap_or}
use Rattle.std.specs.List.{AllByRecursion, list_any}
use Rattle.std.specs.List.Sorted.{IsStrictlySortedBy}
use Rattle.std.specs.Map.{keys_of, values_of}
use Rattle.std.specs.Ordering.{is_eq, is_lt}
use Rattle.std.specs.declared.cmp.Ordering.TheVariants.{Less}
use Rattle.std.proofs.lemmas.Bool.{and_parts, false≢true, not-true, or_parts}
use Rattle.std.proofs.lemmas.List.Elements.{recursion_from_All}
use Rattle.std.proofs.lemmas.List.Sums.{sum_by-cons}
use Rattle.std.proofs.lemmas.Map.Entries.{lookup_head, lookup_tail}
use Rattle.std.proofs.lemmas.Map.Keys.{sorted_head, sorted_tail}
use Rattle.apl_arrays.specs.Name.{name_order, same_name}
use Rattle.apl_workspace.specs.Limits.{most_weight}
use Rattle.apl_workspace.specs.Meaning.{IsGlobal, NameTable, is_function_meaning, is_shared_in, is_shared_meaning, meaning_in, meaning_weight, table_weight}
use Rattle.apl_workspace.specs.Names.{all_differ}
use Rattle.apl_workspace.specs.Workspace.{IsWorkspace, PlainWorkspace, is_addressee, names_offered}
use Rattle.apl_workspace.specs.declared.meaning.Meaning.{Meaning}
use Rattle.apl_workspace.specs.declared.meaning.Meaning.TheVariants.{Nothing, Value, Function, Label, Shared}
use Rattle.apl_workspace.specs.declared.remake.Remake.{Remake}
use Rattle.apl_workspace.proofs.NameLaw.{by_order, equal_names, own_name}
use Rattle.ws_codec.specs.Kept.{kept, kept_globals}
use Rattle.ws_codec.specs.Objects.{is_above, last_name}
use Rattle.ws_codec.specs.Offers.{is_free, is_function_in, is_offered}
use Rattle.ws_codec.specs.Sound.{Follow, IsMeaning, IsObject, IsOffer, CanBeSaved}
use Rattle.ws_codec.specs.Storable.{HasNames, IsStorableEntry, IsStorable}
use Rattle.ws_codec.proofs.ByNames.{each_holds, few_kept, tells_own}
use Rattle.ws_codec.proofs.Ends.{last_put}
use Rattle.ws_codec.proofs.StorableValues.{function_sound, variable_sound}

abbrev Ascend : NameTable → Type 0
Ascend table = IsStrictlySortedBy name_order (keys_of table)

-- ---- objects

-- what a table weighs with an entry more
weight_push : (table : NameTable) (name : List ℕ) (meaning : Meaning) → table_weight (table ++ (name, meaning) ∷ []) ≡ table_weight table + meaning_weight meaning
weight_push [] name meaning = omega (arith, sum_by-cons meaning_weight meaning [])
weight_push (e ∷ es) name meaning =
    omega (arith, weight_push es name meaning, sum_by-cons meaning_weight e.1 (values_of es), sum_by-cons meaning_weight e.1 (values_of (es ++ (name, meaning) ∷ [])))

-- all names stand above the last of others
abbrev AreAbove : NameTable → NameTable → Type 0
AreAbove front table = AllByRecursion (λ other. is_above (last_name front) other ≡ true) (keys_of table)

above_put : (front : NameTable) (name : List ℕ) (meaning : Meaning) (table : NameTable) → AllByRecursion (λ other. name_order name other ≡ Less) (keys_of table) → AreAbove (front ++ (name, meaning) ∷ []) table
above_put front name meaning [] below = tt
above_put front name meaning (e ∷ es) below =
    (ap (λ (o : Option (List ℕ)). is_above o e.0) (sym (last_put front name meaning)) ∙ ap is_lt below.0, above_put front name meaning es below.1)

-- what may be saved of entries behind others
pub record MayFollow (front table : NameTable) : Type 0 where
  pub ascend : Ascend table
  pub above : AreAbove front table
  pub entries : AllByRecursion IsStorableEntry table
  pub globals : AllByRecursion (λ (e : List ℕ × Meaning). IsGlobal e.0 e.1) table
  pub light : table_weight front + table_weight table ≤ most_weight

others_follow : (front : NameTable) (e : List ℕ × Meaning) (es : NameTable) → MayFollow front (e ∷ es) → MayFollow front es
others_follow front e es h = record {
  ascend = sorted_tail name_order e.0 (keys_of es) h.ascend;
  above = h.above.1;
  entries = h.entries.1;
  globals = h.globals.1;
  light = omega (arith, h.light, sum_by-cons meaning_weight e.1 (values_of es));
}

put_follows : (front : NameTable) (e : List ℕ × Meaning) (meaning : Meaning) (es : NameTable) → meaning_weight meaning ≤ meaning_weight e.1 → MayFollow front (e ∷ es) → MayFollow (front ++ (e.0, meaning) ∷ []) es
put_follows front e meaning es less h = record {
  ascend = sorted_tail name_order e.0 (keys_of es) h.ascend;
  above = above_put front e.0 meaning es (sorted_head name_order e.0 (keys_of es) h.ascend);
  entries = h.entries.1;
  globals = h.globals.1;
  light = omega (arith, h.light, less, weight_push front e.0 meaning, sum_by-cons meaning_weight e.1 (values_of es));
}

light_first : (front : NameTable) (e : List ℕ × Meaning) (es : NameTable) → MayFollow front (e ∷ es) → table_weight front + meaning_weight e.1 ≤ most_weight
light_first front e es h = omega (arith, h.light, sum_by-cons meaning_weight e.1 (values_of es))

object_sound : (front : NameTable) (name : List ℕ) (meaning kept_as : Meaning) (es : NameTable) → MayFollow front ((name, meaning) ∷ es) → IsMeaning name (table_weight front) kept_as → IsObject front (name, kept_as)
object_sound front name meaning kept_as es h is = record { name = h.entries.0.name; above = h.above.0; meaning = is }

-- what holds of the entries behind, whatever stands before them
abbrev Going : NameTable → Type 0
Going es = (front : NameTable) → MayFollow front es → Follow IsObject front (kept_globals es)

object_first : (front : NameTable) (name : List ℕ) (meaning : Meaning) (es : NameTable) → Going es → MayFollow front ((name, meaning) ∷ es) → Follow IsObject front (kept_globals ((name, meaning) ∷ es))
object_first front name Nothing es go h = absurd h.globals.0
object_first front name (Value value) es go h = (
  object_sound front name (Value value) (Value value) es h (variable_sound (table_weight front) value h.entries.0.meaning (light_first front (name, Value value) es h)),
  go (front ++ (name, Value value) ∷ []) (put_follows front (name, Value value) (Value value) es (omega arith) h),
)
object_first front name (Function function) es go h = (
  object_sound front name (Function function) (Function function) es h (function_sound name (table_weight front) function h.globals.0.0 h.globals.0.1 h.entries.0.meaning (light_first front (name, Function function) es h)),
  go (front ++ (name, Function function) ∷ []) (put_follows front (name, Function function) (Function function) es (omega arith) h),
)
object_first front name (Label line) es go h = absurd h.globals.0
object_first front name (Shared None) es go h = go front (others_follow front (name, Shared None) es h)
object_first front name (Shared (Some copy)) es go h = (
  object_sound front name (Shared (Some copy)) (Value copy) es h (variable_sound (table_weight front) copy h.entries.0.meaning (light_first front (name, Shared (Some copy)) es h)),
  go (front ++ (name, Value copy) ∷ []) (put_follows front (name, Shared (Some copy)) (Value copy) es (omega arith) h),
)

objects_sound : (front table : NameTable) → MayFollow front table → Follow IsObject front (kept_globals table)
objects_sound front [] h = tt
objects_sound front (e ∷ es) h = object_first front e.0 e.1 es (λ before k. objects_sound before es k) h

-- ---- names of functions

-- what is kept of one name is nothing of another
kept_apart : (name other : List ℕ) (meaning : Meaning) (rest : NameTable) → same_name other name ≡ false → meaning_in (kept name meaning ++ rest) other ≡ meaning_in rest other
kept_apart name other Nothing rest apart = refl
kept_apart name other (Value value) rest apart = lookup_tail (same_name other) (name, Value value) rest apart
kept_apart name other (Function function) rest apart = lookup_tail (same_name other) (name, Function function) rest apart
kept_apart name other (Label line) rest apart = refl
kept_apart name other (Shared None) rest apart = refl
kept_apart name other (Shared (Some copy)) rest apart = lookup_tail (same_name other) (name, Value copy) rest apart

-- a name below all is not kept
none_kept : (table : NameTable) (name : List ℕ) → AllByRecursion (λ other. name_order name other ≡ Less) (keys_of table) → meaning_in (kept_globals table) name ≡ None
none_kept [] name below = refl
none_kept (e ∷ es) name below =
    kept_apart e.0 name e.1 (kept_globals es) (by_order name e.0 ∙ ap is_eq below.0) ∙ none_kept es name below.1

-- what is kept of a shared name is no function
shared_kept : (name : List ℕ) (meaning : Meaning) (rest : NameTable) → is_shared_meaning meaning ≡ true → meaning_in rest name ≡ None → is_function_in (kept name meaning ++ rest) name ≡ false
shared_kept name Nothing rest shared none = absurd (false≢true shared)
shared_kept name (Value value) rest shared none = absurd (false≢true shared)
shared_kept name (Function function) rest shared none = absurd (false≢true shared)
shared_kept name (Label line) rest shared none = absurd (false≢true shared)
shared_kept name (Shared None) rest shared none = ap (λ (o : Option Meaning). is_function_meaning (unwrap_or o Nothing)) none
shared_kept name (Shared (Some copy)) rest shared none = ap (λ (o : Option Meaning). is_function_meaning (unwrap_or o Nothing)) (lookup_head (same_name name) (name, Value copy) rest (own_name name))

function_by : (e : List ℕ × Meaning) (es : NameTable) (name : List ℕ) (b : Bool) → same_name name e.0 ≡ b → Ascend (e ∷ es) → is_shared_in (e ∷ es) name ≡ true → (is_shared_in es name ≡ true → is_function_in (kept_globals es) name ≡ false) → is_function_in (kept_globals (e ∷ es)) name ≡ false
function_by e es name true p s shared later =
    let found : is_shared_meaning e.1 ≡ true = ap (λ (o : Option Meaning). is_shared_meaning (unwrap_or o Nothing)) (sym (lookup_head (same_name name) e es p)) ∙ shared in
    let none = none_kept es e.0 (sorted_head name_order e.0 (keys_of es) s) in
    ap (is_function_in (kept_globals (e ∷ es))) (equal_names name e.0 p) ∙ shared_kept e.0 e.1 (kept_globals es) found none
function_by e es name false p s shared later =
    let there : is_shared_in es name ≡ true = ap (λ (o : Option Meaning). is_shared_meaning (unwrap_or o Nothing)) (sym (lookup_tail (same_name name) e es p)) ∙ shared in
    ap (λ (o : Option Meaning). is_function_meaning (unwrap_or o Nothing)) (kept_apart e.0 name e.1 (kept_globals es) p) ∙ later there

pub no_function : (table : NameTable) (name : List ℕ) → Ascend table → is_shared_in table name ≡ true → is_function_in (kept_globals table) name ≡ false
no_function [] name s shared = absurd (false≢true shared)
no_function (e ∷ es) name s shared =
    function_by e es name (same_name name e.0) refl s shared (λ there. no_function es name (sorted_tail name_order e.0 (keys_of es) s) there)

-- ---- offers

-- none of these offers is of a name before
abbrev AreNew : List Remake → List Remake → Type 0
AreNew front list = AllByRecursion (λ (o : Remake). is_offered front o.local ≡ false) list

offered_push : (front : List Remake) (offer : Remake) (name : List ℕ) → is_offered front name ≡ false → same_name offer.local name ≡ false → is_offered (front ++ offer ∷ []) name ≡ false
offered_push [] offer name none apart = ap (λ (b : Bool). b || false) apart
offered_push (first ∷ front) offer name none apart =
    let parts = or_parts (same_name first.local name) (is_offered front name) none in
    ap (λ (b : Bool). b || is_offered (front ++ offer ∷ []) name) parts.0 ∙ offered_push front offer name parts.1 apart

new_put : (front list : List Remake) (offer : Remake) → AreNew front list → list_any (same_name offer.local) (names_offered list) ≡ false → AreNew (front ++ offer ∷ []) list
new_put front [] offer new apart = tt
new_put front (o ∷ list) offer new apart =
    let parts = or_parts (same_name offer.local o.local) (list_any (same_name offer.local) (names_offered list)) apart in
    (offered_push front offer o.local new.0 parts.0, new_put front list offer new.1 parts.1)

free_from : (table : NameTable) (front : List Remake) (name : List ℕ) → is_offered front name ≡ false → is_function_in table name ≡ false → is_free table front name ≡ true
free_from table front name new none = ap (λ (b : Bool). not b && not (is_function_in table name)) new ∙ ap (λ (b : Bool). not b) none

module _ (globals : NameTable) (s : Ascend globals) where
  offers_sound : (front list : List Remake) → AreNew front list → all_differ (names_offered list) ≡ true → AllByRecursion HasNames list → AllByRecursion (λ (o : Remake). is_shared_in globals o.local ≡ true) list → AllByRecursion (λ (o : Remake). is_addressee o.to ≡ true) list → Follow (IsOffer (kept_globals globals)) front list
  unfolding all_differ
  offers_sound front [] new differ names shared to = tt
  offers_sound front (o ∷ list) new differ names shared to =
      let parts = and_parts (not (list_any (same_name o.local) (names_offered list))) (all_differ (names_offered list)) differ in
      let apart = not-true (list_any (same_name o.local) (names_offered list)) parts.0 in (
        record {
          local = names.0.local;
          free = free_from (kept_globals globals) front o.local new.0 (no_function globals o.local s shared.0);
          surrogate = names.0.surrogate;
          to = to.0;
        },
        offers_sound (front ++ o ∷ []) list (new_put front list o new.1 apart) parts.1 names.1 shared.1 to.1,
      )

all_new : (list : List Remake) → AreNew [] list
all_new [] = tt
all_new (o ∷ list) = (refl, all_new list)

all_above : (table : NameTable) → AreAbove [] table
all_above [] = tt
all_above (e ∷ es) = (refl, all_above es)

-- ---- workspaces

pub workspace_sound : (w : PlainWorkspace) → IsWorkspace w → IsStorable w → CanBeSaved (kept_globals w.globals) w.offers
workspace_sound w h stored =
    let few = few_kept w.globals in
    record {
      count = omega (arith, few, h.weight);
      objects =
          objects_sound [] w.globals
          (record {
            ascend = h.ascending;
            above = all_above w.globals;
            entries = recursion_from_All IsStorableEntry w.globals stored.globals;
            globals = each_holds IsGlobal (meaning_in w.globals) w.globals (tells_own w.globals h.ascending) h.globals;
            light = omega (arith, h.weight);
          });
      few = le-leb (length w.offers) 64 h.offers.count;
      offers =
          offers_sound w.globals h.ascending [] w.offers (all_new w.offers) h.offers.differ (recursion_from_All HasNames w.offers stored.offers)
          (recursion_from_All (λ (o : Remake). is_shared_in w.globals o.local ≡ true) w.offers h.offers.shared)
          (recursion_from_All (λ (o : Remake). is_addressee o.to ≡ true) w.offers h.offers.addressees);
    }
