-- Lists of entries that ascend by their names: a look-up in them, and one entry more or less.
use Rattle.std.proofs.Common.{◌≡◌, ℕ, Bool, true, false, cond, List, [], ◌∷◌, Option, Some, None, Ordering, refl, sym, ap, ◌∙◌, subst}
use Rattle.std.specs.Prelude.{is_some, unwrap_or}
use Rattle.std.specs.BTreeMap.{insert_entry, is_at}
use Rattle.std.specs.List.{AllByRecursion, IsDistinct}
use Rattle.std.specs.List.Sorted.{IsStrictlySortedBy}
use Rattle.std.specs.Map.{keys_of, lookup, remove_entry}
use Rattle.std.specs.Ordering.{eq_by_cmp, is_eq, match_ordering, ordering_reverse}
use Rattle.std.specs.declared.cmp.Ordering.TheVariants.{Less, Equal, Greater}
use Rattle.std.proofs.lemmas.Bool.{cond-true, false≢true}
use Rattle.std.proofs.lemmas.Cmp.{nat_list_cmp_total, nat_list_eq_equiv}
use Rattle.std.proofs.lemmas.List.Elements.{All-from_recursion, recursion_from_All}
use Rattle.std.proofs.lemmas.Map.{lookup-none, lookup-remove_entry}
use Rattle.std.proofs.lemmas.Map.Entries.{lookup_head, lookup_tail, none_below_head}
use Rattle.std.proofs.lemmas.Map.Keys.{sorted_head, sorted_tail, IsDistinct-from_sorted}
use Rattle.std.proofs.lemmas.Map.Lookups.{exact_bytes}
use Rattle.std.proofs.lemmas.Map.Views.{All-keys-insert_entry, All-map-remove_entry}
use Rattle.apl_arrays.specs.Name.{name_order, same_name}
use Rattle.apl_workspace.proofs.NameLaw.{by_order, name_flips, own_name, equal_names}

-- names that ascend
abbrev pub Ascend : List (List ℕ) → Type 0
Ascend names = IsStrictlySortedBy name_order names

nothing_is_something : {X : Type 0} (x : X) → None ≡ Some x → false ≡ true
nothing_is_something x e = ap is_some e

pub none_ascend : Ascend []
unfolding IsStrictlySortedBy
none_ascend = tt

pub ascend_cons : (name : List ℕ) (names : List (List ℕ)) → AllByRecursion (λ other. name_order name other ≡ Less) names → Ascend names → Ascend (name ∷ names)
unfolding IsStrictlySortedBy
ascend_cons name names first rest = (first, rest)

-- what is below the first is below all
below_all : (name first : List ℕ) (names : List (List ℕ)) → name_order name first ≡ Less → AllByRecursion (λ other. name_order first other ≡ Less) names → AllByRecursion (λ other. name_order name other ≡ Less) names
below_all name first [] less all = tt
below_all name first (other ∷ names) less all = (nat_list_cmp_total.trans name first other less all.0, below_all name first names less all.1)

-- the test by glyphs, as that by order
pub by_order_all : same_name ≡ eq_by_cmp name_order
by_order_all i first second = by_order first second i

-- names that ascend are apart
pub ascending_apart : (names : List (List ℕ)) → Ascend names → IsDistinct same_name names
ascending_apart names s = subst (λ (test : List ℕ → List ℕ → Bool). IsDistinct test names) (sym by_order_all) (IsDistinct-from_sorted name_order names s)

module _ {X : Type 0} where
  -- what stands by a name
  abbrev pub found : List (List ℕ × X) → List ℕ → Option X
  found entries name = lookup (same_name name) entries

  -- ---- one entry more

  pub with_ascends : (entries : List (List ℕ × X)) (name : List ℕ) (value : X) → Ascend (keys_of entries) → Ascend (keys_of (insert_entry name_order entries name value))
  with_ascends [] name value s = ascend_cons name [] tt none_ascend
  with_ascends (e ∷ es) name value s = by (name_order name e.0) refl (with_ascends es name value (sorted_tail name_order e.0 (keys_of es) s))
    where
      head : AllByRecursion (λ other. name_order e.0 other ≡ Less) (keys_of es)
      head = sorted_head name_order e.0 (keys_of es) s

      by : (r : Ordering) → name_order name e.0 ≡ r → Ascend (keys_of (insert_entry name_order es name value))
          → Ascend (keys_of (match_ordering r ((name, value) ∷ e ∷ es) ((e.0, value) ∷ es) (e ∷ insert_entry name_order es name value)))
      by Less p later = ascend_cons name (keys_of (e ∷ es)) (p, below_all name e.0 (keys_of es) p head) s
      by Equal p later = s
      by Greater p later =
          let above : name_order e.0 name ≡ Less = nat_list_cmp_total.antisymm e.0 name ∙ ap ordering_reverse p in
          ascend_cons e.0 (keys_of (insert_entry name_order es name value))
          (recursion_from_All _ _ (All-keys-insert_entry name_order name value (λ other. name_order e.0 other ≡ Less) es (All-from_recursion _ (keys_of es) head) above))
          later

  -- the entry itself is found
  with_found : (entries : List (List ℕ × X)) (name : List ℕ) (value : X) → found (insert_entry name_order entries name value) name ≡ Some value
  with_found [] name value = lookup_head (same_name name) (name, value) [] (own_name name)
  with_found (e ∷ es) name value = by (name_order name e.0) refl (with_found es name value)
    where
      by : (r : Ordering) → name_order name e.0 ≡ r → found (insert_entry name_order es name value) name ≡ Some value
          → found (match_ordering r ((name, value) ∷ e ∷ es) ((e.0, value) ∷ es) (e ∷ insert_entry name_order es name value)) name ≡ Some value
      by Less p later = lookup_head (same_name name) (name, value) (e ∷ es) (own_name name)
      by Equal p later = lookup_head (same_name name) (e.0, value) es (by_order name e.0 ∙ ap is_eq p)
      by Greater p later = lookup_tail (same_name name) e (insert_entry name_order es name value) (by_order name e.0 ∙ ap is_eq p) ∙ later

  -- and all others are as before
  with_others : (entries : List (List ℕ × X)) (name : List ℕ) (value : X) (other : List ℕ) → same_name other name ≡ false → found (insert_entry name_order entries name value) other ≡ found entries other
  with_others [] name value other apart = lookup_tail (same_name other) (name, value) [] apart
  with_others (e ∷ es) name value other apart = by (name_order name e.0) refl (with_others es name value other apart)
    where
      by : (r : Ordering) → name_order name e.0 ≡ r → found (insert_entry name_order es name value) other ≡ found es other
          → found (match_ordering r ((name, value) ∷ e ∷ es) ((e.0, value) ∷ es) (e ∷ insert_entry name_order es name value)) other ≡ found (e ∷ es) other
      by Less p later = lookup_tail (same_name other) (name, value) (e ∷ es) apart
      by Equal p later =
          let missed : same_name other e.0 ≡ false = ap (same_name other) (sym (exact_bytes name e.0 p)) ∙ apart in
          lookup_tail (same_name other) (e.0, value) es missed ∙ sym (lookup_tail (same_name other) e es missed)
      by Greater p later = ap (λ (o : Option X). cond (same_name other e.0) (Some e.1) o) later

  pub found_with : (entries : List (List ℕ × X)) (name : List ℕ) (value : X) (other : List ℕ) → found (insert_entry name_order entries name value) other ≡ cond (same_name name other) (Some value) (found entries other)
  found_with entries name value other = by (same_name name other) refl
    where
      by : (b : Bool) → same_name name other ≡ b → found (insert_entry name_order entries name value) other ≡ cond b (Some value) (found entries other)
      by true p = subst (λ asked. found (insert_entry name_order entries name value) asked ≡ Some value) (equal_names name other p) (with_found entries name value)
      by false p = with_others entries name value other (name_flips other name ∙ p)

  -- ---- one entry less

  pub without_ascends : (entries : List (List ℕ × X)) (name : List ℕ) → Ascend (keys_of entries) → Ascend (keys_of (remove_entry (same_name name) entries))
  without_ascends [] name s = s
  without_ascends (e ∷ es) name s = by (same_name name e.0) (without_ascends es name (sorted_tail name_order e.0 (keys_of es) s))
    where
      by : (b : Bool) → Ascend (keys_of (remove_entry (same_name name) es)) → Ascend (keys_of (cond b es (e ∷ remove_entry (same_name name) es)))
      by true later = sorted_tail name_order e.0 (keys_of es) s
      by false later =
          ascend_cons e.0 (keys_of (remove_entry (same_name name) es))
          (recursion_from_All _ _ (All-map-remove_entry (same_name name) (λ (x : List ℕ × X). x.0) (λ other. name_order e.0 other ≡ Less) es (All-from_recursion _ (keys_of es) (sorted_head name_order e.0 (keys_of es) s))))
          later

  pub found_without : (entries : List (List ℕ × X)) (name other : List ℕ) → Ascend (keys_of entries) → found (remove_entry (same_name name) entries) other ≡ cond (same_name name other) None (found entries other)
  found_without entries name other s =
      lookup-remove_entry nat_list_eq_equiv (same_name name) (λ x y t. ap (λ n. same_name n y) (equal_names name x t)) other entries (ascending_apart (keys_of entries) s)

  -- ---- entries that ascend are told by their look-ups

  pub first_found : (e : List ℕ × X) (es : List (List ℕ × X)) → found (e ∷ es) e.0 ≡ Some e.1
  first_found e es = lookup_head (same_name e.0) e es (own_name e.0)

  none_below : (name : List ℕ) (e : List ℕ × X) (es : List (List ℕ × X)) → Ascend (keys_of (e ∷ es)) → name_order name e.0 ≡ Less → found (e ∷ es) name ≡ None
  none_below name e es s less = ap (λ test. lookup (test name) (e ∷ es)) by_order_all ∙ lookup-none (is_at (name_order name)) (e ∷ es) (none_below_head nat_list_cmp_total name e es s less)

  none_behind : (e : List ℕ × X) (es : List (List ℕ × X)) → Ascend (keys_of (e ∷ es)) → found es e.0 ≡ None
  none_behind e es s = past (found es e.0) refl
    where
      -- with the first entry taken out nothing is found
      past : (o : Option X) → found es e.0 ≡ o → found es e.0 ≡ None
      past o p =
          sym (ap (λ (rest : List (List ℕ × X)). found rest e.0) (cond-true (same_name e.0 e.0) es (e ∷ remove_entry (same_name e.0) es) (own_name e.0)))
          ∙ found_without (e ∷ es) e.0 e.0 s ∙ cond-true (same_name e.0 e.0) None (found (e ∷ es) e.0) (own_name e.0)

  same_first : (a b : List ℕ × X) (xs ys : List (List ℕ × X)) (r : Ordering) → name_order a.0 b.0 ≡ r → Ascend (keys_of (a ∷ xs)) → Ascend (keys_of (b ∷ ys)) → ((name : List ℕ) → found (a ∷ xs) name ≡ found (b ∷ ys) name) → a.0 ≡ b.0
  same_first a b xs ys Less p s t same = absurd (false≢true (nothing_is_something a.1 (sym (none_below a.0 b ys t p) ∙ sym (same a.0) ∙ first_found a xs)))
  same_first a b xs ys Equal p s t same = exact_bytes a.0 b.0 p
  same_first a b xs ys Greater p s t same =
      let less : name_order b.0 a.0 ≡ Less = nat_list_cmp_total.antisymm b.0 a.0 ∙ ap ordering_reverse p in
      absurd (false≢true (nothing_is_something b.1 (sym (none_below b.0 a xs s less) ∙ same b.0 ∙ first_found b ys)))

  pub behind_by : (b : Bool) (name : List ℕ) (e : List ℕ × X) (es : List (List ℕ × X)) → same_name name e.0 ≡ b → Ascend (keys_of (e ∷ es)) → found es name ≡ cond b None (found (e ∷ es) name)
  behind_by true name e es p s = ap (found es) (equal_names name e.0 p) ∙ none_behind e es s
  behind_by false name e es p s = sym (lookup_tail (same_name name) e es p)

  pub told_by_look_ups : (first second : List (List ℕ × X)) → Ascend (keys_of first) → Ascend (keys_of second) → ((name : List ℕ) → found first name ≡ found second name) → first ≡ second
  told_by_look_ups [] [] s t same = refl
  told_by_look_ups [] (b ∷ ys) s t same = absurd (false≢true (nothing_is_something b.1 (same b.0 ∙ first_found b ys)))
  told_by_look_ups (a ∷ xs) [] s t same = absurd (false≢true (nothing_is_something a.1 (sym (same a.0) ∙ first_found a xs)))
  told_by_look_ups (a ∷ xs) (b ∷ ys) s t same =
      let heads : a.0 ≡ b.0 = same_first a b xs ys (name_order a.0 b.0) refl s t same in
      let values : a.1 ≡ b.1 = ap (λ (o : Option X). unwrap_or o a.1) (sym (first_found a xs) ∙ same a.0 ∙ ap (found (b ∷ ys)) heads ∙ first_found b ys) in
      let tails = λ (name : List ℕ).
      behind_by (same_name name a.0) name a xs refl s ∙ ap (λ (o : Option X). cond (same_name name a.0) None o) (same name)
      ∙ sym (behind_by (same_name name a.0) name b ys (ap (same_name name) (sym heads)) t) in
      let rest = told_by_look_ups xs ys (sorted_tail name_order a.0 (keys_of xs) s) (sorted_tail name_order b.0 (keys_of ys) t) tails in
      λ i. (heads i, values i) ∷ rest i
