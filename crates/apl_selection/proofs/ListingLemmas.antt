-- Items of listed places.
use Rattle.std.proofs.Common.{append_assoc, ◌≡◌, ℕ, ◌+◌, ◌-◌, ◌*◌, ◌<◌, ◌==◌, Bool, true, false, cond, nat_lt, List, [], ◌∷◌, Option, Some, None, ◌++◌, length, take, drop, get_or, set, add-one, refl, sym, ap, ◌∙◌, arith}
use Rattle.std.proofs.lemmas.Bool.Decides.{nat_tests}
use Rattle.std.proofs.lemmas.List.{drop-set-lt, length-drop, nil_from_length, set_split, take-set, take_all}
use Rattle.apl_arrays.specs.Array.{PlainArray, PlainItems, IsArray, element_count, item_count}
use Rattle.apl_items.specs.Along.{source_along, source_at, source_count}
use Rattle.apl_items.specs.Moves.{moved, moved_items}
use Rattle.apl_items.specs.Shapes.{along_of, inner_of, outer_of, split_at}
use Rattle.apl_items.proofs.ShapeLemmas.{split_count_lem}
use Rattle.apl_selection.specs.Listing.{listed, listed_shape, on_axis, vector_shape}
use Rattle.apl_selection.proofs.MoveLemmas.{array_of, same_moved}
use Rattle.apl_selection.proofs.FaultLemmas.{same_number}

rest_whole : (shape : List ℕ) (n : ℕ) → take (length shape - n) (drop n shape) ≡ drop n shape
rest_whole shape n = take_all (length shape - n) (drop n shape) (omega (arith, length-drop n shape))

-- a list with another element is what stands before it, the element, and what stands behind it
pub set_between : (shape front whole : List ℕ) (axis long : ℕ) → axis < length shape → front ≡ take axis shape ++ long ∷ [] → whole ≡ front ++ take (length shape - (axis + 1)) (drop (axis + 1) shape) → whole ≡ set shape axis long
set_between shape front whole axis long inside first all =
    all ∙ ap (λ (xs : List ℕ). front ++ xs) (rest_whole shape (axis + 1)) ∙ ap (λ (xs : List ℕ). xs ++ drop (axis + 1) shape) first ∙ append_assoc (take axis shape) (long ∷ []) (drop (axis + 1) shape)
    ∙ ap (λ (n : ℕ). take axis shape ++ long ∷ drop n shape) (add-one axis) ∙ sym (set_split shape axis long inside)

-- the shape of so many listed places
pub listing_shape : (b : PlainArray) (axis count : ℕ) (source shape : List ℕ) (list : List (Option ℕ)) → source ≡ vector_shape b.shape → shape ≡ set source axis count → length list ≡ count
    → shape ≡ listed_shape (vector_shape b.shape) axis list
listing_shape b axis count source shape list s e many = e ∙ ap (λ (xs : List ℕ). set xs axis count) s ∙ ap (set (vector_shape b.shape) axis) (sym many)

-- another length of an axis leaves the rows before it and the items behind it
pub source_of_relength : (shape : List ℕ) (axis n long : ℕ) → source_count (split_at (set shape axis n) axis) long ≡ element_count (take axis shape) * long * element_count (drop (axis + 1) shape)
source_of_relength shape axis n long =
    ap (λ (xs : List ℕ). element_count xs * long * element_count (drop (axis + 1) (set shape axis n))) (take-set shape axis n)
    ∙ ap (λ (xs : List ℕ). element_count (take axis shape) * long * element_count xs) (drop-set-lt (axis + 1) shape axis n (omega arith))

-- so the source is that of the shape as it was
pub whole_relength : (source shape : List ℕ) (axis n long count : ℕ) → shape ≡ set source axis n → axis < length source → long ≡ get_or source axis 0 → element_count source ≡ count
    → source_count (split_at shape axis) long ≡ count
whole_relength source shape axis n long count is inside same whole =
    ap (λ (xs : List ℕ). source_count (split_at xs axis) long) is ∙ source_of_relength source axis n long
    ∙ ap (λ (m : ℕ). element_count (take axis source) * m * element_count (drop (axis + 1) source)) same ∙ split_count_lem source axis inside ∙ whole

vector_count_by : (shape : List ℕ) (scalar : Bool) → (length shape == 0) ≡ scalar → element_count (cond scalar (1 ∷ []) shape) ≡ element_count shape
vector_count_by shape true e = sym (ap element_count (nil_from_length shape (same_number (length shape) 0 e)))
vector_count_by shape false e = refl

-- a scalar as a vector has its item
pub vector_count : (b : PlainArray) → IsArray b → element_count (vector_shape b.shape) ≡ item_count b.items
vector_count b array = vector_count_by b.shape (length b.shape == 0) refl ∙ array.whole

on_by : (long place : ℕ) (test : Bool) → nat_lt place long ≡ test → place < long → cond test (Some place) None ≡ Some place
on_by long place true e low = refl
on_by long place false e low = absurd (grind (arith, nat_tests))

on_axis_same : (long : ℕ) (entry : Option ℕ) → ((place : ℕ) → entry ≡ Some place → place < long) → on_axis long entry ≡ entry
on_axis_same long None inside = refl
on_axis_same long (Some place) inside = on_by long place (nat_lt place long) refl (inside place refl)

-- the array of items that moved by listed places
pub listed_is : (b : PlainArray) (source shape : List ℕ) (axis long : ℕ) (list : List (Option ℕ)) (items made : PlainItems) → shape ≡ listed_shape source axis list
    → long ≡ get_or source axis 0 → items ≡ b.items → ((along place : ℕ) → get_or list along None ≡ Some place → place < get_or source axis 0)
    → made ≡ moved_items items (element_count shape) (source_along (split_at shape axis) long (λ line along. on_axis long (get_or list along None)))
    → array_of shape made ≡ listed source b.items axis list
listed_is b source shape axis long list items made s l i inside is =
    let split = split_at shape axis in
    let told : ℕ → ℕ → Option ℕ = λ line along. get_or list along None in
    let checked : ℕ → ℕ → Option ℕ = λ line along. on_axis long (get_or list along None) in
    ap (array_of shape) (is ∙ ap (λ (xs : PlainItems). moved_items xs (element_count shape) (source_along split long checked)) i
    ∙ same_moved b.items (element_count shape) (source_along split long checked) (source_along split long told)
    (λ place h. ap (source_at split long (outer_of split place) (inner_of split place))
    (on_axis_same long (get_or list (along_of split place) None) (λ at e. let low = inside (along_of split place) at e in omega arith))))
    ∙ ap (λ (n : ℕ). moved shape b.items (source_along split n told)) l
    ∙ ap (λ (xs : List ℕ). moved xs b.items (source_along (split_at xs axis) (get_or source axis 0) told)) s
