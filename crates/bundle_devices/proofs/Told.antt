-- Devices that tell the same answer in one way, while they tell all that they keep.
use Rattle.std.proofs.Common.{◌≡◌, ◌≢◌, ℕ, Bool, true, false, ◌||◌, List, [], ◌∷◌, Option, Some, None, refl, sym, ap, ap₂, subst, subst₂, ◌∙◌}
use Rattle.std.specs.Prelude.{Result, Ok, Err, IsSomeAnd, IsSome, MatchOption, if◌then◌else◌}
use Rattle.std.specs.BTreeMap.{is_at}
use Rattle.std.specs.List.{AllByRecursion}
use Rattle.std.specs.List.Sorted.{IsStrictlySortedBy}
use Rattle.std.specs.Ordering.{is_eq, ordering_reverse}
use Rattle.std.specs.Str.{bytes_eq}
use Rattle.std.specs.declared.cmp.Ordering.{Ordering}
use Rattle.std.specs.declared.cmp.Ordering.TheVariants.{Less, Equal, Greater}
use Rattle.std.proofs.lemmas.Cmp.{nat_list_cmp_total, nat_list_eq_equiv}
use Rattle.std.proofs.lemmas.Map.Keys.{sorted_head, sorted_tail}
use Rattle.std.proofs.lemmas.Map.Lookups.{exact_bytes}
use Rattle.std.proofs.lemmas.Map.Text.{is_eq-slice_cmp}
use Rattle.apl_arrays.specs.Name.{name_order}
use Rattle.apl_io.specs.Content.{FailsByNumber, IsChange, MayList, MayRead, MayRemove, Told, after_call, by_user_and_name, entry_after, entry_of, fails_after, has_name}
use Rattle.apl_io.specs.Faults.{one_more}
use Rattle.apl_io.specs.declared.store_error.StoreError.{StoreError}
use Rattle.apl_io.specs.declared.store_error.StoreError.TheVariants.{Failed}

-- what one device tells is what the other tells: the same count of calls, the same calls that are to fail, and of each key the same
pub record TellAlike {K : Type 0} (order : K → K → Ordering) (a b : Told K) : Type 0 where
  pub calls : a.calls ≡ b.calls
  pub fails : a.fails ≡ b.fails
  pub entries : (key : K) → entry_of order a key ≡ entry_of order b key

pub alike_itself : {K : Type 0} (order : K → K → Ordering) (a : Told K) → TellAlike order a a
alike_itself order a = record { calls = refl; fails = refl; entries = λ key. refl }

-- what is known of what is there
pub some_and : {X : Type 0} (o : Option X) (P : X → Type 0) → IsSomeAnd o P → (x : X) × (o ≡ Some x) × P x
some_and None P h = absurd h
some_and (Some x) P h = (x, refl, h)

-- two calls end alike: both were answered, or both failed, and so they leave an entry that was to be changed
pub record EndAlike {T : Type 0} (r s : Result T StoreError) : Type 0 where
  pub changes : (wanted before : Option (Option (List ℕ))) → entry_after r wanted before ≡ entry_after s wanted before

-- ---- failures

clash : (a b : Bool) → a ≡ b → a ≡ false → b ≡ true → ⊥
clash a b same off on = let e : false ≡ true = sym off ∙ (same ∙ on) in cc

module _ {K : Type 0} (order : K → K → Ordering) (a b : Told K) (alike : TellAlike order a b) where
  next_fails : fails_after a.calls a.fails ≡ fails_after b.calls b.fails
  next_fails = ap₂ fails_after alike.calls alike.fails

  -- after a call that changed nothing else
  pub called_alike : (c d : Told K) → c ≡ after_call a → d ≡ after_call b → TellAlike order c d
  called_alike c d after later =
      let called : TellAlike order (after_call a) (after_call b) = record { calls = ap one_more alike.calls; fails = alike.fails; entries = alike.entries } in
      subst₂ (TellAlike order) (sym after) (sym later) called

  module _ {T : Type 0} where
    -- one call fails where the other does
    pub one_fails : (x : T) → FailsByNumber {T = T} a.calls a.fails (Ok x) → FailsByNumber {T = T} b.calls b.fails (Err Failed) → ⊥
    one_fails x answered failed = clash (fails_after a.calls a.fails) (fails_after b.calls b.fails) next_fails answered failed

    pub other_fails : (x : T) → FailsByNumber {T = T} a.calls a.fails (Err Failed) → FailsByNumber {T = T} b.calls b.fails (Ok x) → ⊥
    other_fails x failed answered = clash (fails_after b.calls b.fails) (fails_after a.calls a.fails) (sym next_fails) answered failed

    -- after a call that was to change an entry
    pub changed_alike : (c d : Told K) (key : K) (wanted : Option (Option (List ℕ))) (r s : Result T StoreError) → IsChange order a key wanted r c → IsChange order b key wanted s d → EndAlike r s → TellAlike order c d
    changed_alike c d key wanted r s change changed ends = record {
      calls = change.counted ∙ (ap one_more alike.calls ∙ sym changed.counted);
      fails = change.fails ∙ (alike.fails ∙ sym changed.fails);
      entries = λ other. change.entries other
          ∙ (ap (λ (entry : Option (Option (List ℕ))). if is_at (order key) other then entry_after r wanted entry else entry) (alike.entries other)
          ∙ (ap (λ (entry : Option (Option (List ℕ))). if is_at (order key) other then entry else entry_of order b other) (ends.changes wanted (entry_of order b other)) ∙ sym (changed.entries other)));
    }

-- ---- answers

-- what is told of an entry is read in one way
pub one_read : (entry : Option (Option (List ℕ))) → entry ≢ Some None → (r s : Option (List ℕ)) → MayRead entry r → MayRead entry s → r ≡ s
one_read None told r s may might = may ∙ sym might
one_read (Some None) told r s may might = absurd (told refl)
one_read (Some (Some bytes)) told r s may might = may ∙ sym might

-- and removed in one way
pub one_removal : (entry : Option (Option (List ℕ))) → entry ≢ Some None → (r s : Bool) → MayRemove entry r → MayRemove entry s → r ≡ s
one_removal None told r s may might = may ∙ sym might
one_removal (Some None) told r s may might = absurd (told refl)
one_removal (Some (Some bytes)) told r s may might = may ∙ sym might

-- a name is listed or not
one_mention : (entry : Option (Option (List ℕ))) → entry ≢ Some None → (r s : Bool) → MatchOption entry (r ≡ false) (λ bytes. IsSome bytes → r ≡ true) → MatchOption entry (s ≡ false) (λ bytes. IsSome bytes → s ≡ true) → r ≡ s
one_mention None told r s may might = may ∙ sym might
one_mention (Some None) told r s may might = absurd (told refl)
one_mention (Some (Some bytes)) told r s may might = may refl ∙ sym (might refl)

-- ---- names in order

is_first : (o : Ordering) → is_eq o ≡ true → o ≡ Equal
is_first Less e = absurd (let no : false ≡ true = e in cc)
is_first Equal e = refl
is_first Greater e = absurd (let no : false ≡ true = e in cc)

-- a name that comes before all others is not among them
not_among : (name : List ℕ) (names : List (List ℕ)) → AllByRecursion (λ other. name_order name other ≡ Less) names → has_name name names ≡ false
not_among name [] before = refl
not_among name (other ∷ names) before = ap (λ (same : Bool). same || has_name name names) (sym (is_eq-slice_cmp name other) ∙ ap is_eq before.0) ∙ not_among name names before.1

among_first : (name : List ℕ) (names : List (List ℕ)) → has_name name (name ∷ names) ≡ true
among_first name names = ap (λ (same : Bool). same || has_name name names) (nat_list_eq_equiv.refl name)

before_all : (name first : List ℕ) (names : List (List ℕ)) → name_order name first ≡ Less → AllByRecursion (λ other. name_order first other ≡ Less) names → AllByRecursion (λ other. name_order name other ≡ Less) names
before_all name first [] less all = tt
before_all name first (other ∷ names) less all = (nat_list_cmp_total.trans name first other less all.0, before_all name first names less all.1)

-- the first name comes before all of another list only where these lists differ
not_before : (name first : List ℕ) (names others : List (List ℕ)) → name_order name first ≡ Less → AllByRecursion (λ other. name_order first other ≡ Less) names → has_name name (name ∷ others) ≡ has_name name (first ∷ names) → ⊥
not_before name first names others less all same =
    clash (has_name name (first ∷ names)) (has_name name (name ∷ others)) (sym same) (not_among name (first ∷ names) (less, before_all name first names less all)) (among_first name others)

-- the names behind the first are the same
others_same : (first : List ℕ) (names others : List (List ℕ)) → AllByRecursion (λ other. name_order first other ≡ Less) names → AllByRecursion (λ other. name_order first other ≡ Less) others
    → (name : List ℕ) → has_name name (first ∷ names) ≡ has_name name (first ∷ others) → has_name name names ≡ has_name name others
others_same first names others before also name same = by (bytes_eq name first) refl where
  by : (b : Bool) → bytes_eq name first ≡ b → has_name name names ≡ has_name name others
  by true is =
      let this : first ≡ name = sym (exact_bytes name first (is_first (name_order name first) (is_eq-slice_cmp name first ∙ is))) in
      subst (λ (n : List ℕ). has_name n names ≡ false) this (not_among first names before) ∙ sym (subst (λ (n : List ℕ). has_name n others ≡ false) this (not_among first others also))
  by false is = sym (ap (λ (b : Bool). b || has_name name names) is) ∙ (same ∙ ap (λ (b : Bool). b || has_name name others) is)

-- lists in order that have the same names are one
pub one_listing : (names others : List (List ℕ)) → IsStrictlySortedBy name_order names → IsStrictlySortedBy name_order others → ((name : List ℕ) → has_name name names ≡ has_name name others) → names ≡ others
one_listing [] [] sorted also same = refl
one_listing [] (other ∷ others) sorted also same = absurd (clash false true (same other ∙ among_first other others) refl refl)
one_listing (name ∷ names) [] sorted also same = absurd (clash false true (sym (same name) ∙ among_first name names) refl refl)
one_listing (name ∷ names) (other ∷ others) sorted also same = by (name_order name other) refl (one_listing names others (sorted_tail name_order name names sorted) (sorted_tail name_order other others also)) where
  by : (o : Ordering) → name_order name other ≡ o → (((key : List ℕ) → has_name key names ≡ has_name key others) → names ≡ others) → name ∷ names ≡ other ∷ others
  by Less is rest = absurd (not_before name other others names is (sorted_head name_order other others also) (same name))
  by Greater is rest = absurd (not_before other name names others (nat_list_cmp_total.antisymm other name ∙ ap ordering_reverse is) (sorted_head name_order name names sorted) (sym (same other)))
  by Equal is rest =
      let this : other ≡ name = sym (exact_bytes name other is) in
      let below : AllByRecursion (λ third. name_order name third ≡ Less) others = subst (λ (n : List ℕ). AllByRecursion (λ third. name_order n third ≡ Less) others) this (sorted_head name_order other others also) in
      ap₂ (λ (n : List ℕ) (ns : List (List ℕ)). n ∷ ns) (sym this)
      (rest (λ key. others_same name names others (sorted_head name_order name names sorted) below key (same key ∙ ap (λ (n : List ℕ). has_name key (n ∷ others)) this)))

-- what is told of a user is listed in one way
pub one_list : (told : Told (ℕ × List ℕ)) (user : ℕ) (names others : List (List ℕ)) → ((key : ℕ × List ℕ) → entry_of by_user_and_name told key ≢ Some None) → MayList told user names → MayList told user others
    → IsStrictlySortedBy name_order names → IsStrictlySortedBy name_order others → names ≡ others
one_list told user names others all may might sorted also =
    one_listing names others sorted also (λ name. one_mention (entry_of by_user_and_name told (user, name)) (all (user, name)) (has_name name names) (has_name name others) (may name) (might name))
