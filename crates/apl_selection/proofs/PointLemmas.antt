-- The items of a vector that one subscript selects.
use Rattle.std.proofs.Common.{◌≡◌, ℕ, ℤ, ◌+◌, ◌-◌, ◌*◌, ◌/◌, ◌<◌, false, nat_lt, List, [], ◌∷◌, Option, Some, None, length, map, option_map, slice_get, slice_index, unsigned_abs, append-nil, refl, sym, ap, ◌∙◌, arith}
use Rattle.std.proofs.Math.Path.{fun_ext}
use Rattle.std.proofs.lemmas.Bool.Decides.{nat_tests}
use Rattle.apl_arrays.specs.Array.{PlainArray, PlainItems, IsArray, element_count, item_count, numbers_in}
use Rattle.apl_items.specs.Answers.{first_report}
use Rattle.apl_items.specs.Axes.{added}
use Rattle.apl_items.specs.Moves.{IsWithin, moved, moved_items}
use Rattle.apl_selection.specs.Indexing.{index_faults, indexed, named_place}
use Rattle.apl_selection.specs.Subscripts.{is_miscounted, named_by, point_outside, selection_shape}
use Rattle.apl_selection.proofs.FaultLemmas.{nothing_is_wrong}
use Rattle.apl_selection.proofs.IndexLemmas.{index_is_right, inside_each, named_inside, none_first}
use Rattle.apl_selection.proofs.MoveLemmas.{array_of, count_of_moved}
use Rattle.apl_selection.proofs.SubscriptLemmas.{as_many_numbers, is_number, whole_axis}

-- the subscripts of a vector: one alone
abbrev alone : PlainArray → List (Option PlainArray)
alone sub = Some sub ∷ []

-- what one subscript selects from is a vector
one_axis : (shape : List ℕ) (sub : PlainArray) → is_miscounted shape (alone sub) ≡ false → shape ≡ slice_index shape 0 ∷ []
one_axis [] sub e = absurd (cc)
one_axis (long ∷ []) sub e = refl
one_axis (long ∷ other ∷ rest) sub e = absurd (grind (arith, nat_tests))

vector_of : (b sub : PlainArray) → None ≡ first_report (index_faults b (alone sub)) → b.shape ≡ slice_index b.shape 0 ∷ []
vector_of b sub fine =
    one_axis b.shape sub (none_first (is_miscounted b.shape (alone sub)) (nat_lt 8 (length (selection_shape b.shape (alone sub)))) (nothing_is_wrong (index_faults b (alone sub)) fine).rank).0

-- along the only axis a place is its own offset
added_alone : (place : Option ℕ) → added (option_map (λ from. from * 1) place) (Some 0) ≡ place
added_alone None = refl
added_alone (Some from) = let same : from * 1 + 0 ≡ from = omega arith in ap (λ (n : ℕ). Some n) same

place_alone : (long : ℕ) (sub : PlainArray) (place : ℕ) → named_place (long ∷ []) (alone sub) place ≡ slice_get (named_by long (Some sub)) place
place_alone long sub place =
    let same : place / 1 ≡ place = omega arith in
    added_alone (slice_get (named_by long (Some sub)) (place / 1)) ∙ ap (slice_get (named_by long (Some sub))) same

-- as many numbers as items of the selection
numbers_are_all : (b sub : PlainArray) (selection : List ℕ) (numbers : List ℤ) → None ≡ first_report (index_faults b (alone sub)) → IsArray sub
    → selection ≡ selection_shape b.shape (alone sub) → numbers ≡ numbers_in sub.items → length numbers ≡ element_count selection
numbers_are_all b sub selection numbers fine array s n =
    let right = index_is_right b (alone sub) selection fine s in
    let shape : selection ≡ sub.shape = s ∙ ap (λ (xs : List ℕ). selection_shape xs (alone sub)) (vector_of b sub fine) ∙ append-nil sub.shape in
    as_many_numbers sub sub.items (length numbers) array refl (ap (λ (xs : List ℤ). length xs) n) (is_number (alone sub) 0 (omega arith) right.0) ∙ ap element_count (sym shape)

-- the places that numbers name, one after another
abbrev walk : List ℤ → ℕ → Option ℕ
walk numbers place = slice_get (map (λ number. unsigned_abs number - 1) numbers) (0 + place)

-- the places that a walk over the numbers names stand in the vector
pub pointed_within : (b sub : PlainArray) (selection : List ℕ) (items : PlainItems) (numbers : List ℤ) → None ≡ first_report (index_faults b (alone sub)) → IsArray b
    → selection ≡ selection_shape b.shape (alone sub) → items ≡ b.items → numbers ≡ numbers_in sub.items → IsWithin (walk numbers) (length numbers) (item_count items)
pointed_within b sub selection items numbers fine array s i n place from below e =
    let right = index_is_right b (alone sub) selection fine s in
    let vector = vector_of b sub fine in
    let long : ℕ = slice_index b.shape 0 in
    let none = ap (λ (xs : List ℕ). point_outside xs (alone sub)) (sym vector) ∙ right.1 in
    let inside : from < long = named_inside long (Some sub) (0 + place) from (inside_each (long ∷ []) (alone sub) 0 none (omega arith)) (ap (λ (xs : List ℤ). walk xs place) (sym n) ∙ e) in
    let count : item_count items ≡ long = ap item_count i ∙ sym array.whole ∙ ap element_count vector ∙ sym (whole_axis long) in
    omega (arith, inside, count)

-- the items that a walk over the numbers names are those that the subscript selects
pub pointed_is : (b sub : PlainArray) (selection : List ℕ) (items made : PlainItems) (numbers : List ℤ) → None ≡ first_report (index_faults b (alone sub)) → IsArray sub
    → selection ≡ selection_shape b.shape (alone sub) → items ≡ b.items → numbers ≡ numbers_in sub.items → made ≡ moved_items items (length numbers) (walk numbers)
    → array_of selection made ≡ indexed b (alone sub)
pointed_is b sub selection items made numbers fine array s i n is =
    let vector = vector_of b sub fine in
    let long : ℕ = slice_index b.shape 0 in
    let source : walk numbers ≡ named_place b.shape (alone sub) =
    ap walk n
    ∙ fun_ext (λ place. let same : 0 + place ≡ place = omega arith in ap (slice_get (named_by long (Some sub))) same ∙ sym (place_alone long sub place))
    ∙ ap (λ (xs : List ℕ). named_place xs (alone sub)) (sym vector) in
    ap (array_of selection)
    (is ∙ ap (λ (xs : PlainItems). moved_items xs (length numbers) (walk numbers)) i ∙ ap (λ (m : ℕ). moved_items b.items m (walk numbers)) (numbers_are_all b sub selection numbers fine array s n)
    ∙ ap (moved_items b.items (element_count selection)) source)
    ∙ ap (λ (xs : List ℕ). moved xs b.items (named_place b.shape (alone sub))) s

-- as many items as the selection has elements
pub pointed_whole : (b sub : PlainArray) (selection : List ℕ) (items made : PlainItems) (numbers : List ℤ) → None ≡ first_report (index_faults b (alone sub)) → IsArray sub
    → selection ≡ selection_shape b.shape (alone sub) → numbers ≡ numbers_in sub.items → made ≡ moved_items items (length numbers) (walk numbers) → element_count selection ≡ item_count made
pointed_whole b sub selection items made numbers fine array s n is =
    sym (numbers_are_all b sub selection numbers fine array s n) ∙ sym (ap item_count is ∙ count_of_moved items (length numbers) (walk numbers))
