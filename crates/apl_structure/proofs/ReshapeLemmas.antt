-- Items over and over.
use Rattle.std.proofs.Common.{◌≡◌, ◌≤◌, ℕ, ℤ, pos, length, nat_lt, ◌+◌, ◌*◌, ◌%◌, ◌==◌, ◌&&◌, ◌||◌, Bool, true, false, not, List, [], ◌∷◌, Option, Some, None, Ok, Err, is_some, unsigned_abs, refl, sym, ap, ◌∙◌, arith}
use Rattle.std.proofs.lemmas.Bool.Decides.{Decides-int_eq, nat_tests}
use Rattle.std.specs.Int.{is_negative}
use Rattle.std.specs.List.{list_any}
use Rattle.std.specs.Ordering.{int_eq}
use Rattle.apl_arrays.specs.declared.report.Report.TheVariants.{WsFull}
use Rattle.apl_arrays.specs.Array.{PlainArray, PlainItems, element_count, is_chars, item_count, numbers_in}
use Rattle.apl_arrays.specs.Shape.{shape_fault}
use Rattle.apl_items.specs.Answers.{first_report}
use Rattle.apl_items.specs.Moves.{moved_items}
use Rattle.apl_items.proofs.ShapeLemmas.{element_count-cons}
use Rattle.apl_structure.specs.Lengths.{lengths}
use Rattle.apl_structure.specs.Reshaping.{is_hollow, reshape_faults, reshape_of, reshaped}
use Rattle.apl_selection.proofs.MoveLemmas.{array_of, same_moved}
use Rattle.apl_selection.proofs.FaultLemmas.{answer_fits, answer_too_large, no_more_numbers, not_over, nothing_is_wrong}

or_last : (x y : Bool) → (x || y) ≡ false → y ≡ false
or_last true y e = absurd (cc)
or_last false y e = e

no_items_asked : (kind negative empty hollow : Bool) → (kind || negative || empty && not hollow) ≡ false → empty ≡ true → hollow ≡ true
no_items_asked true negative empty hollow e is = absurd (cc)
no_items_asked false true empty hollow e is = absurd (cc)
no_items_asked false false empty true e is = refl
no_items_asked false false true false e is = absurd (cc)
no_items_asked false false false false e is = absurd (cc)

zero_number : (number : ℤ) → int_eq number (pos 0) ≡ true → unsigned_abs number ≡ 0
zero_number number e = ap unsigned_abs ((Decides-int_eq number (pos 0)).0 e)

hollow_by : (number : ℤ) (count : ℕ) (zero_first rest : Bool) → int_eq number (pos 0) ≡ zero_first → (rest ≡ true → count ≡ 0) → (zero_first || rest) ≡ true → unsigned_abs number * count ≡ 0
hollow_by number count true rest e none is = let zero_x = zero_number number e in rw zero_x (omega arith)
hollow_by number count false rest e none is = let zero_count = none is in rw zero_count (omega arith)

hollow_count : (numbers : List ℤ) → is_hollow numbers ≡ true → element_count (lengths numbers) ≡ 0
hollow_count [] e = absurd (cc)
hollow_count (x ∷ xs) e =
    element_count-cons (unsigned_abs x) (lengths xs) ∙ hollow_by x (element_count (lengths xs)) (int_eq x (pos 0)) (is_hollow xs) refl (hollow_count xs) e

is_zero : (n : ℕ) → n ≡ 0 → (n == 0) ≡ true
is_zero n e = grind (arith, nat_tests)

-- where nothing is wrong with a shape it asks for items only where there are some
pub none_asked : (a b : PlainArray) (numbers : List ℤ) (shape : List ℕ) → None ≡ first_report (reshape_faults a b) → numbers ≡ numbers_in a.items → shape ≡ lengths numbers
    → item_count b.items ≡ 0 → element_count shape ≡ 0
none_asked a b numbers shape none n e empty =
    let sound = nothing_is_wrong (reshape_faults a b) none in
    ap element_count (e ∙ ap lengths n)
    ∙ hollow_count (numbers_in a.items)
    (no_items_asked (is_chars a.items) (list_any is_negative (numbers_in a.items)) (item_count b.items == 0) (is_hollow (numbers_in a.items)) sound.domain (is_zero (item_count b.items) empty))

-- where nothing is wrong with a shape it has no more axes than there may be
pub few_lengths : (a b : PlainArray) → None ≡ first_report (reshape_faults a b) → length (numbers_in a.items) ≤ 8
few_lengths a b none =
    let sound = nothing_is_wrong (reshape_faults a b) none in
    let few = not_over 8 (item_count a.items) (or_last (nat_lt 1 (length a.shape)) (nat_lt 8 (item_count a.items)) sound.rank) in
    omega (arith, few, no_more_numbers a)

pub reshape_too_large : (a b : PlainArray) (numbers : List ℤ) (large : Bool) → None ≡ first_report (reshape_faults a b) → numbers ≡ numbers_in a.items
    → large ≡ is_some (shape_fault (lengths numbers)) → large ≡ true → reshape_of a b ≡ Err WsFull
reshape_too_large a b numbers large none n is e =
    answer_too_large (reshape_faults a b) (reshaped (lengths (numbers_in a.items)) b) (is_some (shape_fault (lengths (numbers_in a.items)))) none
    (ap (λ (xs : List ℤ). is_some (shape_fault (lengths xs))) (sym n) ∙ sym is ∙ e)

pub reshape_fits : (a b array : PlainArray) (numbers : List ℤ) (shape : List ℕ) (large : Bool) → None ≡ first_report (reshape_faults a b) → numbers ≡ numbers_in a.items
    → large ≡ is_some (shape_fault (lengths numbers)) → large ≡ false → shape ≡ lengths numbers → array ≡ reshaped shape b → reshape_of a b ≡ Ok array
reshape_fits a b array numbers shape large none n is e s same =
    answer_fits (reshape_faults a b) (reshaped (lengths (numbers_in a.items)) b) (is_some (shape_fault (lengths (numbers_in a.items)))) none
    (ap (λ (xs : List ℤ). is_some (shape_fault (lengths xs))) (sym n) ∙ sym is ∙ e)
    ∙ ap (λ (x : PlainArray). Ok x) (sym (same ∙ ap (λ (xs : List ℕ). reshaped xs b) (s ∙ ap lengths n)))

-- the items that a walk over and over gives
pub reshaped_is : (b : PlainArray) (shape : List ℕ) (items made : PlainItems) (count long : ℕ) → items ≡ b.items → count ≡ element_count shape → long ≡ item_count items
    → made ≡ moved_items items count (λ place. Some ((0 + place) % long)) → array_of shape made ≡ reshaped shape b
reshaped_is b shape items made count long i is_count is_long is =
    let walked : ℕ → Option ℕ = λ place. Some ((0 + place) % long) in
    let over : ℕ → Option ℕ = λ place. Some (place % item_count b.items) in
    let length_is = is_long ∙ ap item_count i in
    ap (array_of shape)
    (is ∙ ap (λ (n : ℕ). moved_items items n walked) is_count ∙ ap (λ (xs : PlainItems). moved_items xs (element_count shape) walked) i
    ∙ same_moved b.items (element_count shape) walked over
    (λ place h. let same : 0 + place ≡ place = omega arith in
    ap (λ (n : ℕ). Some (n % long)) same ∙ ap (λ (l : ℕ). Some (place % l)) length_is))

-- nothing of nothing
pub reshaped_none : (b : PlainArray) (shape : List ℕ) (items made : PlainItems) → items ≡ b.items → element_count shape ≡ 0
    → made ≡ moved_items items 0 (λ _. None) → array_of shape made ≡ reshaped shape b
reshaped_none b shape items made i none is =
    let over : ℕ → Option ℕ = λ place. Some (place % item_count b.items) in
    ap (array_of shape) (is ∙ ap (λ (xs : PlainItems). moved_items xs 0 (λ _. None)) i ∙ same_moved b.items 0 (λ _. None) over (λ place h. absurd (omega arith))
    ∙ ap (λ (n : ℕ). moved_items b.items n over) (sym none))
