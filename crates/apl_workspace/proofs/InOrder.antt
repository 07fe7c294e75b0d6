-- Entries in any order against the table of them in order.
use Rattle.std.proofs.Common.{◌≡◌, ℕ, zero, suc, ◌+◌, Bool, true, false, cond, List, [], ◌∷◌, ◌++◌, Option, Some, None, position, refl, sym, ap, subst, ◌∙◌, arith}
use Rattle.std.specs.List.{position_from}
use Rattle.std.specs.Prelude.{IsSome, is_some}
use Rattle.std.specs.Map.{keys_of}
use Rattle.std.specs.Prelude.{slice_set}
use Rattle.std.proofs.lemmas.Bool.{false≢true}
use Rattle.std.proofs.lemmas.Iterator.Adapters.{position_from-zero}
use Rattle.indexmap.specs.IndexMap.{set_value_at}
use Rattle.apl_workspace.specs.Meaning.{NameTable, meaning_in, with_meaning, without_name}
use Rattle.apl_arrays.specs.Name.{same_name}
use Rattle.apl_workspace.specs.Sorted.{sorted}
use Rattle.apl_workspace.specs.declared.meaning.Meaning.{Meaning}
use Rattle.apl_workspace.proofs.Ascending.{Ascend, found, found_with, found_without, none_ascend, told_by_look_ups, with_ascends, without_ascends}
use Rattle.apl_workspace.proofs.NameLaw.{equal_names, name_flips}

-- entries in any order
abbrev pub Entries : Type 0
Entries = List (List ℕ × Meaning)

pub sorted_ascends : (entries : Entries) → Ascend (keys_of (sorted entries))
sorted_ascends [] = none_ascend
sorted_ascends (e ∷ es) = with_ascends (sorted es) e.0 e.1 (sorted_ascends es)

pub found_in_order : (entries : Entries) (name : List ℕ) → meaning_in (sorted entries) name ≡ found entries name
found_in_order [] name = refl
found_in_order (e ∷ es) name =
    found_with (sorted es) e.0 e.1 name ∙ ap (λ b. cond b (Some e.1) (meaning_in (sorted es) name)) (name_flips e.0 name) ∙ ap (λ (o : Option Meaning). cond (same_name name e.0) (Some e.1) o) (found_in_order es name)

-- a look-up among entries is one in the table
pub looked_up : (entries : Entries) (name : List ℕ) → found entries name ≡ meaning_in (sorted entries) name
looked_up entries name = sym (found_in_order entries name)

-- a table that has of each name what entries have is the table of them
pub same_table : (entries : Entries) (names : NameTable) → Ascend (keys_of names) → ((name : List ℕ) → found entries name ≡ meaning_in names name) → sorted entries ≡ names
same_table entries names ascend same = told_by_look_ups (sorted entries) names (sorted_ascends entries) ascend (λ name. sym (looked_up entries name) ∙ same name)

-- an entry was put in
pub put_in_order : (old new : Entries) (name : List ℕ) (meaning : Meaning) → ((other : List ℕ) → found new other ≡ cond (same_name name other) (Some meaning) (found old other)) → sorted new ≡ with_meaning (sorted old) name meaning
put_in_order old new name meaning updates =
    same_table new (with_meaning (sorted old) name meaning) (with_ascends (sorted old) name meaning (sorted_ascends old))
    (λ other.
    updates other ∙ ap (λ (o : Option Meaning). cond (same_name name other) (Some meaning) o) (looked_up old other)
    ∙ sym (found_with (sorted old) name meaning other))

-- an entry was written anew with what it had
pub kept_in_order : (old new : Entries) (name : List ℕ) (meaning : Meaning) → ((other : List ℕ) → found new other ≡ cond (same_name name other) (Some meaning) (found old other)) → Some meaning ≡ found old name → sorted new ≡ sorted old
kept_in_order old new name meaning updates there =
    same_table new (sorted old) (sorted_ascends old) (λ other. updates other ∙ by (same_name name other) other refl ∙ looked_up old other)
  where
    by : (b : Bool) (other : List ℕ) → same_name name other ≡ b → cond b (Some meaning) (found old other) ≡ found old other
    by true other p = there ∙ ap (λ (n : List ℕ). found old n) (equal_names name other p)
    by false other p = refl

-- an entry was taken out
pub taken_in_order : (old new : Entries) (name : List ℕ) → ((other : List ℕ) → found new other ≡ cond (same_name name other) None (found old other)) → sorted new ≡ without_name (sorted old) name
taken_in_order old new name updates =
    same_table new (without_name (sorted old) name) (without_ascends (sorted old) name (sorted_ascends old))
    (λ other.
    updates other ∙ ap (λ (o : Option Meaning). cond (same_name name other) None o) (looked_up old other)
    ∙ sym (found_without (sorted old) name other (sorted_ascends old)))

-- a name that is in the table is one of the entries
pub there_among : (entries : Entries) (name : List ℕ) → IsSome (meaning_in (sorted entries) name) → found entries name ≡ None → false ≡ true
there_among entries name there none = sym (ap is_some none) ∙ ap is_some (looked_up entries name) ∙ there

-- ---- the place of a name among entries

-- the first entry of a name stands at this place
abbrev IsFirstAt : List ℕ → Entries → ℕ → Type 0
IsFirstAt name [] at = ⊥
IsFirstAt name (e ∷ es) zero = same_name name e.0 ≡ true
IsFirstAt name (e ∷ es) (suc at) = (same_name name e.0 ≡ false) × IsFirstAt name es at

-- a place that was found, counted from another
found_from : (name : List ℕ) (es : Entries) (i j : ℕ) → position_from (same_name name) i (keys_of es) ≡ Some j → (at : ℕ) × (j ≡ i + at) × IsFirstAt name es at
found_from name [] i j is = absurd cc
found_from name (e ∷ es) i j is = by (same_name name e.0) refl is (found_from name es (i + 1) j)
  where
    by : (b : Bool) → same_name name e.0 ≡ b → cond b (Some i) (position_from (same_name name) (i + 1) (keys_of es)) ≡ Some j → (position_from (same_name name) (i + 1) (keys_of es) ≡ Some j → (at : ℕ) × (j ≡ i + 1 + at) × IsFirstAt name es at) → (at : ℕ) × (j ≡ i + at) × IsFirstAt name (e ∷ es) at
    by true p q k = let same : i ≡ j = cc in (zero, omega (arith, same), p)
    by false p q k = let rest = k q in (suc rest.0, omega (arith, rest.1), (p, rest.2))

first_at : (name : List ℕ) (es : Entries) (at : ℕ) → position (same_name name) (keys_of es) ≡ Some at → IsFirstAt name es at
first_at name es at is = let rest = found_from name es 0 at (sym (position_from-zero (same_name name) (keys_of es)) ∙ is) in subst (IsFirstAt name es) (let e : rest.0 ≡ at = omega (arith, rest.1) in e) rest.2

-- what two names have, of which the first was put in
here : (name : List ℕ) (meaning : Meaning) (e : List ℕ × Meaning) (es : Entries) (other : List ℕ) → same_name name e.0 ≡ true → cond (same_name other e.0) (Some meaning) (found es other) ≡ cond (same_name name other) (Some meaning) (cond (same_name other e.0) (Some e.1) (found es other))
here name meaning e es other same = by (same_name other e.0) (ap (λ (n : List ℕ). same_name other n) (sym (equal_names name e.0 same)) ∙ name_flips other name)
  where
    by : (b : Bool) → b ≡ same_name name other → cond b (Some meaning) (found es other) ≡ cond (same_name name other) (Some meaning) (cond b (Some e.1) (found es other))
    by true p = ap (λ (b : Bool). cond b (Some meaning) (Some e.1)) p
    by false p = ap (λ (b : Bool). cond b (Some meaning) (found es other)) p

apart : (name : List ℕ) (meaning : Meaning) (e : List ℕ × Meaning) (other : List ℕ) (behind : Option Meaning) (a b : Bool) → same_name name e.0 ≡ false → same_name other e.0 ≡ a → same_name name other ≡ b
    → cond a (Some e.1) (cond b (Some meaning) behind) ≡ cond b (Some meaning) (cond a (Some e.1) behind)
apart name meaning e other behind true true not p q = absurd (false≢true (sym not ∙ ap (λ (n : List ℕ). same_name n e.0) (equal_names name other q) ∙ p))
apart name meaning e other behind true false not p q = refl
apart name meaning e other behind false b not p q = refl

-- a value was written at the place of its name
value_written : (name : List ℕ) (meaning : Meaning) (es : Entries) (at : ℕ) → IsFirstAt name es at → (other : List ℕ) → found (set_value_at es at meaning) other ≡ cond (same_name name other) (Some meaning) (found es other)
value_written name meaning [] at is other = absurd is
value_written name meaning (e ∷ es) zero is other = here name meaning e es other is
value_written name meaning (e ∷ es) (suc at) is other =
    ap (λ (o : Option Meaning). cond (same_name other e.0) (Some e.1) o) (value_written name meaning es at is.1 other) ∙ apart name meaning e other (found es other) (same_name other e.0) (same_name name other) is.0 refl refl

pub set_in_order : (entries : Entries) (name : List ℕ) (at : ℕ) (meaning : Meaning) → position (same_name name) (keys_of entries) ≡ Some at → sorted (set_value_at entries at meaning) ≡ with_meaning (sorted entries) name meaning
set_in_order entries name at meaning is = put_in_order entries (set_value_at entries at meaning) name meaning (value_written name meaning entries at (first_at name entries at is))

-- an entry was written at the place of its name
entry_written : (name : List ℕ) (meaning : Meaning) (es : Entries) (at : ℕ) → IsFirstAt name es at → (other : List ℕ) → found (slice_set es at (name, meaning)) other ≡ cond (same_name name other) (Some meaning) (found es other)
entry_written name meaning [] at is other = absurd is
entry_written name meaning (e ∷ es) zero is other =
    ap (λ (n : List ℕ). cond (same_name other n) (Some meaning) (found es other)) (equal_names name e.0 is) ∙ here name meaning e es other is
entry_written name meaning (e ∷ es) (suc at) is other =
    ap (λ (o : Option Meaning). cond (same_name other e.0) (Some e.1) o) (entry_written name meaning es at is.1 other) ∙ apart name meaning e other (found es other) (same_name other e.0) (same_name name other) is.0 refl refl

pub written_in_order : (entries : Entries) (name : List ℕ) (at : ℕ) (meaning : Meaning) → position (same_name name) (keys_of entries) ≡ Some at → sorted (slice_set entries at (name, meaning)) ≡ with_meaning (sorted entries) name meaning
written_in_order entries name at meaning is = put_in_order entries (slice_set entries at (name, meaning)) name meaning (entry_written name meaning entries at (first_at name entries at is))

-- an entry of a new name came behind the others
behind_others : (name : List ℕ) (meaning : Meaning) (es : Entries) → found es name ≡ None → (other : List ℕ) → found (es ++ (name, meaning) ∷ []) other ≡ cond (same_name name other) (Some meaning) (found es other)
behind_others name meaning [] none other = ap (λ (b : Bool). cond b (Some meaning) None) (name_flips other name)
behind_others name meaning (e ∷ es) none other = by (same_name name e.0) refl none (λ k. behind_others name meaning es k other)
  where
    by : (b : Bool) → same_name name e.0 ≡ b → cond b (Some e.1) (found es name) ≡ None → (found es name ≡ None → found (es ++ (name, meaning) ∷ []) other ≡ cond (same_name name other) (Some meaning) (found es other)) → found (e ∷ (es ++ (name, meaning) ∷ [])) other ≡ cond (same_name name other) (Some meaning) (found (e ∷ es) other)
    by true p q k = absurd cc
    by false p q k = ap (λ (o : Option Meaning). cond (same_name other e.0) (Some e.1) o) (k q) ∙ apart name meaning e other (found es other) (same_name other e.0) (same_name name other) p refl refl

pub pushed_in_order : (entries : Entries) (name : List ℕ) (meaning : Meaning) → meaning_in (sorted entries) name ≡ None → sorted (entries ++ (name, meaning) ∷ []) ≡ with_meaning (sorted entries) name meaning
pushed_in_order entries name meaning none = put_in_order entries (entries ++ (name, meaning) ∷ []) name meaning (behind_others name meaning entries (looked_up entries name ∙ none))
