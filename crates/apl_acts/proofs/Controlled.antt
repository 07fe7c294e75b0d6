-- The elements of controls where nothing is wrong, and the rows that are made of them.
use Rattle.std.proofs.Common.{◌≡◌, ◌≤◌, ◌*◌, ◌+◌, ℕ, Bool, true, false, List, [], ◌∷◌, length, refl, sym, ap, ◌∙◌, inl, inr, arith}
use Rattle.std.specs.Prelude.{◌==◌, ◌||◌, ◌⊎◌, ℤ, None, map, not, if◌then◌else◌}
use Rattle.std.specs.Cmp.Lexicographic.{pointwise}
use Rattle.std.specs.List.{list_any, zip}
use Rattle.std.proofs.lemmas.Bool.{eqb-true, false≢true, not-false, or_parts}
use Rattle.apl_arrays.specs.Array.{IsArray, PlainArray, PlainItems, chars, element_count, is_chars, item_count, numbers, numbers_in}
use Rattle.apl_arrays.specs.Number.{is_one}
use Rattle.apl_items.specs.Answers.{first_report}
use Rattle.apl_items.specs.Extension.{is_single, number_at}
use Rattle.apl_items.specs.Places.{places}
use Rattle.apl_items.proofs.ShapeLemmas.{element_count-cons}
use Rattle.apl_workspace.proofs.NameLaw.{equal_names}
use Rattle.apl_scalar.specs.Table.{is_truth}
use Rattle.sv_access.specs.Control.{four_elements}
use Rattle.sv_access.specs.declared.control.Control.{Control}
use Rattle.apl_meaning.specs.Deeds.{set_control}
use Rattle.apl_meaning.specs.Naming.{naming_count, naming_faults, namings_of, rows_of}
use Rattle.apl_meaning.specs.Sharing.{are_controls, control_at, control_faults, is_one_control}
use Rattle.apl_values.specs.Rows.{PlainNameRow}
use Rattle.apl_values.proofs.NamingSteps.{is_unnamed}
use Rattle.apl_acts.specs.Faults.{AreElements, settings_of}
use Rattle.apl_acts.proofs.Tested.{named_count, nothing_wrong}

counted : (items : PlainItems) → is_chars items ≡ false → item_count items ≡ length (numbers_in items)
counted (numbers list) plain = refl
counted (chars list) plain = absurd (false≢true (sym plain))

some_of_three : (a b c : Bool) → (a || b || c) ≡ true → (a ≡ true) ⊎ ((b ≡ true) ⊎ (c ≡ true))
some_of_three true b c is = inl refl
some_of_three false true c is = inr (inl refl)
some_of_three false false c is = inr (inr is)

-- there are elements enough for so many rows
pub enough_elements : (c : PlainArray) (rows : ℕ) → IsArray c → is_chars c.items ≡ false → (is_single c || is_one_control c || pointwise ◌==◌ c.shape (rows ∷ 4 ∷ [])) ≡ true → AreElements (numbers_in c.items) rows
enough_elements c rows array plain are =
    let count : item_count c.items ≡ length (numbers_in c.items) = counted c.items plain in
    elim (some_of_three (is_single c) (is_one_control c) (pointwise ◌==◌ c.shape (rows ∷ 4 ∷ [])) are) [
      | inl one ↦ inl (sym count ∙ eqb-true (item_count c.items) 1 one)
      | inr more ↦ inr (elim more [
        | inl four ↦ inl (sym count ∙ eqb-true (item_count c.items) 4 four)
        | inr matrix ↦ inr (
            let whole : rows * 4 ≡ item_count c.items = sym (element_count-cons rows (4 ∷ [])) ∙ ap element_count (sym (equal_names c.shape (rows ∷ 4 ∷ []) matrix)) ∙ array.whole in
            let le : rows * 4 ≤ length (numbers_in c.items) = omega (arith, whole, count) in
            le)
      ])
    ]

-- what controls are that are not refused
pub record IsControlled (c n : PlainArray) : Type 0 where
  pub plain : is_chars c.items ≡ false
  pub enough : AreElements (numbers_in c.items) (length (namings_of n))
  pub named : length (namings_of n) ≡ naming_count n

pub controlled : (c n : PlainArray) → IsArray c → first_report (control_faults c n) ≡ None → IsControlled c n
controlled c n array none =
    let free = nothing_wrong (control_faults c n) none in
    let last = or_parts ((naming_faults n (4 ∷ [])).bad_domain || is_chars c.items) (list_any (λ number. not (is_truth number)) (numbers_in c.items)) free.domain in
    let first : ((naming_faults n (4 ∷ [])).bad_domain ≡ false) × (is_chars c.items ≡ false) = or_parts _ _ last.0 in
    let named : length (namings_of n) ≡ naming_count n = named_count n (or_parts (not (is_chars n.items)) (list_any is_unnamed (rows_of n)) first.0).1 in
    record {
      plain = first.1;
      enough = enough_elements c (length (namings_of n)) array first.1 (ap (λ (k : ℕ). is_single c || is_one_control c || pointwise ◌==◌ c.shape (k ∷ 4 ∷ [])) named ∙ not-false (are_controls c n) free.length);
      named = named;
    }

-- the control of a row, where there are so many elements
abbrev control_of : List ℤ → ℕ → ℕ → Control
control_of list count row =
    four_elements (is_one (number_at list (if count == 4 then 0 else row * 4 + 0))) (is_one (number_at list (if count == 4 then 1 else row * 4 + 1)))
    (is_one (number_at list (if count == 4 then 2 else row * 4 + 2))) (is_one (number_at list (if count == 4 then 3 else row * 4 + 3)))

-- the controls of names are those by the count of rows
pub controls_by_row : (c n : PlainArray) → IsControlled c n → zip (namings_of n) (map (λ row. set_control (control_at c row)) (places (naming_count n))) ≡ settings_of (numbers_in c.items) (namings_of n)
controls_by_row c n is =
    let made : ℕ → ℕ → List PlainNameRow = λ count rows. zip (namings_of n) (map (λ row. set_control (control_of (numbers_in c.items) count row)) (places rows)) in
    ap (λ (count : ℕ). made count (naming_count n)) (counted c.items is.plain) ∙ ap (made (length (numbers_in c.items))) (sym is.named)
