-- The parties of offers where nothing is wrong, and the names that are offered to them.
use Rattle.std.proofs.Common.{◌≡◌, ℕ, ◌<◌, ◌≤◌, Bool, true, false, List, [], length, refl, sym, ap, subst, ◌∙◌, inl, inr, arith}
use Rattle.std.specs.Prelude.{◌==◌, ◌&&◌, ◌||◌, ◌⊎◌, ℤ, pos, None, All, map, not, unsigned_abs}
use Rattle.std.specs.List.{list_any, zip}
use Rattle.std.proofs.lemmas.Bool.{eqb-true, false≢true, not-false, or_parts}
use Rattle.apl_arrays.specs.Array.{PlainArray, PlainItems, chars, is_chars, item_count, numbers, numbers_in}
use Rattle.apl_items.specs.Answers.{first_report}
use Rattle.apl_items.specs.Extension.{number_at}
use Rattle.apl_items.specs.Places.{places}
use Rattle.apl_workspace.specs.Meaning.{is_function_meaning}
use Rattle.apl_workspace.specs.Workspace.{PlainWorkspace, global_in, is_addressee}
use Rattle.apl_meaning.specs.Deeds.{offer}
use Rattle.apl_meaning.specs.Naming.{Naming, naming_count, naming_faults, namings_of, rows_of}
use Rattle.apl_meaning.specs.Sharing.{addressee_at, cannot_be_offered, is_no_addressee, offer_faults}
use Rattle.apl_values.specs.Rows.{MayBeDone}
use Rattle.apl_values.proofs.NamingSteps.{is_unnamed}
use Rattle.apl_values.proofs.MadeRows.{number_lone, number_own}
use Rattle.apl_acts.specs.Faults.{IsOneOrAsMany, offers_of}
use Rattle.apl_acts.proofs.Tested.{named_count, none_passes, nothing_wrong}

count_or : (k count : ℕ) → (not (k == 1) && not (k == count)) ≡ false → (k ≡ 1) ⊎ (count ≤ k)
count_or k count none = by (k == 1) refl
  where
    by : (b : Bool) → (k == 1) ≡ b → (k ≡ 1) ⊎ (count ≤ k)
    by true e = inl (eqb-true k 1 e)
    by false e =
        let same : k ≡ count = eqb-true k count (not-false (k == count) (ap (λ (b : Bool). not b && not (k == count)) (sym e) ∙ none)) in
        inr (let le : count ≤ k = omega (arith, same) in le)

-- there is one number for all, or one for each
pub as_many : (items : PlainItems) (count : ℕ) → is_chars items ≡ false → (not (item_count items == 1) && not (item_count items == count)) ≡ false → IsOneOrAsMany (numbers_in items) count
as_many (numbers list) count plain none = count_or (length list) count none
as_many (chars list) count plain none = absurd (false≢true (sym plain))

-- each number for a row is one that no test of all finds
pub never_found : (test : ℤ → Bool) (list : List ℤ) (count : ℕ) → IsOneOrAsMany list count → list_any test list ≡ false → (row : ℕ) → row < count → test (number_at list row) ≡ false
never_found test list count many none row lt = by (length list == 1) refl
  where
    by : (b : Bool) → (length list == 1) ≡ b → test (number_at list row) ≡ false
    by true e = let one : length list ≡ 1 = eqb-true (length list) 1 e in ap test (number_lone list row one) ∙ none_passes test list none 0 (pos 0) (omega (arith, one))
    by false e =
        let lone : length list ≡ 1 → ⊥ = λ one. false≢true (sym e ∙ ap (λ (k : ℕ). k == 1) one) in
        let within : row < length list = elim many [ inl one ↦ absurd (lone one) | inr le ↦ omega (arith, le, lt) ] in
        ap test (number_own list row lone) ∙ none_passes test list none row (pos 0) within

-- a name that is no function may be offered to the party of its row
pub offer_may : (w : PlainWorkspace) (parties : List ℤ) (count : ℕ) → IsOneOrAsMany parties count → list_any is_no_addressee parties ≡ false
    → (row : ℕ) (names : Naming) → row < count → is_function_meaning (global_in w names.local) ≡ false → MayBeDone w (offer (unsigned_abs (number_at parties row))) names
offer_may w parties count many none row names lt is =
    let number : ℤ = number_at parties row in
    let there : is_addressee (unsigned_abs number) ≡ true = not-false (is_addressee (unsigned_abs number)) (or_parts _ _ (never_found is_no_addressee parties count many none row lt)).1 in
    (there, is)

-- no name that can be offered is a function
pub no_functions : (w : PlainWorkspace) (list : List Naming) → list_any (cannot_be_offered w) list ≡ false → All (λ (names : Naming). is_function_meaning (global_in w names.local) ≡ false) list
no_functions w list none = λ k d lt. (or_parts _ _ (none_passes (cannot_be_offered w) list none k d lt)).1

-- ---- an offer and controls where nothing is wrong

-- what an offer is that is not refused
pub record IsOffered (w : PlainWorkspace) (p n : PlainArray) : Type 0 where
  pub many : IsOneOrAsMany (numbers_in p.items) (length (namings_of n))
  pub parties : list_any is_no_addressee (numbers_in p.items) ≡ false
  pub named : length (namings_of n) ≡ naming_count n
  pub names : All (λ (names : Naming). is_function_meaning (global_in w names.local) ≡ false) (namings_of n)

pub offered : (w : PlainWorkspace) (p n : PlainArray) → first_report (offer_faults w p n) ≡ None → IsOffered w p n
offered w p n none =
    let free = nothing_wrong (offer_faults w p n) none in
    let last : (((naming_faults n []).bad_domain || is_chars p.items || list_any is_no_addressee (numbers_in p.items)) ≡ false) × (list_any (cannot_be_offered w) (namings_of n) ≡ false) = or_parts _ _ free.domain in
    let third : (((naming_faults n []).bad_domain || is_chars p.items) ≡ false) × (list_any is_no_addressee (numbers_in p.items) ≡ false) = or_parts _ _ last.0 in
    let first : ((naming_faults n []).bad_domain ≡ false) × (is_chars p.items ≡ false) = or_parts _ _ third.0 in
    let named : length (namings_of n) ≡ naming_count n = named_count n (or_parts (not (is_chars n.items)) (list_any is_unnamed (rows_of n)) first.0).1 in
    record {
      many = subst (IsOneOrAsMany (numbers_in p.items)) (sym named) (as_many p.items (naming_count n) first.1 free.length);
      parties = third.1;
      named = named;
      names = no_functions w (namings_of n) last.1;
    }

-- the rows of an offer by its names are those by the count of rows
pub offers_by_row : (w : PlainWorkspace) (p n : PlainArray) → IsOffered w p n → zip (namings_of n) (map (λ row. offer (addressee_at p row)) (places (naming_count n))) ≡ offers_of (numbers_in p.items) (namings_of n)
offers_by_row w p n is = ap (λ (k : ℕ). zip (namings_of n) (map (λ row. offer (addressee_at p row)) (places k))) (sym is.named)
