-- Source places by axes stand in the source.
use Rattle.std.proofs.Common.{◌≡◌, ℕ, zero, suc, ◌+◌, ◌*◌, ◌<◌, ◌≤◌, min, List, [], ◌∷◌, Option, Some, None, option_map, length, get_or, drop, refl, sym, ap, subst, ◌∙◌, arith}
use Rattle.std.proofs.lemmas.List.{drop_all, drop_more}
use Rattle.std.proofs.lemmas.List.Elements.{All-get_or}
use Rattle.std.proofs.lemmas.Nat.{mul-add-lt}
use Rattle.std.proofs.Math.Nat.{mul_comm}
use Rattle.apl_arrays.specs.Array.{FitsLimits, element_count}
use Rattle.apl_items.specs.Axes.{added, offset_at, source_by_axes}
use Rattle.apl_items.specs.Shapes.{AreWithin, coordinates_of, stride_of}
use Rattle.apl_items.proofs.ShapeLemmas.{coordinates_are_within, element_count-cons}
use Rattle.apl_selection.specs.Picks.{PicksWithin, strided}

-- offsets that are the same at these coordinates add up to the same
pub same_offsets : (f g : ℕ → ℕ → Option ℕ) (axis : ℕ) (coordinates : List ℕ)
    → ((k : ℕ) → k < length coordinates → f (axis + k) (get_or coordinates k 0) ≡ g (axis + k) (get_or coordinates k 0))
    → offset_at f axis coordinates ≡ offset_at g axis coordinates
same_offsets f g axis [] same = refl
same_offsets f g axis (first ∷ rest) same =
    let at : axis + 0 ≡ axis = omega arith in
    let here : f axis first ≡ g axis first = subst (λ (n : ℕ). f n first ≡ g n first) at (same 0 (omega arith)) in
    let after = same_offsets f g (axis + 1) rest
    (λ k h. let next : axis + suc k ≡ (axis + 1) + k = omega arith in subst (λ (n : ℕ). f n (get_or rest k 0) ≡ g n (get_or rest k 0)) next (same (suc k) (omega arith))) in
    ap (λ (o : Option ℕ). added o (offset_at f (axis + 1) rest)) here ∙ ap (added (g axis first)) after

-- coordinates within a shape are as many, each below the length of its axis
pub as_many_within : (shape coordinates : List ℕ) → AreWithin shape coordinates → length coordinates ≡ length shape
as_many_within [] [] h = refl
as_many_within [] (first ∷ coordinates) h = absurd h
as_many_within (axis ∷ shape) [] h = absurd h
as_many_within (axis ∷ shape) (first ∷ coordinates) h = let rest = as_many_within shape coordinates h.1 in omega arith

pub each_within : (shape coordinates : List ℕ) (k : ℕ) → AreWithin shape coordinates → k < length shape → get_or coordinates k 0 < get_or shape k 0
each_within [] coordinates k h below = absurd (omega arith)
each_within (axis ∷ shape) [] k h below = absurd h
each_within (axis ∷ shape) (first ∷ coordinates) zero h below = h.0
each_within (axis ∷ shape) (first ∷ coordinates) (suc k) h below = each_within shape coordinates k h.1 (omega arith)

pub some_same : (m n : ℕ) → Some m ≡ Some n → m ≡ n
some_same m n e = cc

pub count_from : (shape : List ℕ) (axis : ℕ) → axis < length shape → element_count (drop axis shape) ≡ get_or shape axis 0 * element_count (drop (axis + 1) shape)
count_from shape axis h = ap element_count (drop_more shape axis 0 h) ∙ element_count-cons (get_or shape axis 0) (drop (axis + 1) shape)

pub count_of_none : (shape : List ℕ) (axis : ℕ) → length shape ≤ axis → element_count (drop axis shape) ≡ 1
count_of_none shape axis h = ap element_count (drop_all axis shape h)

below_row : (place stride after height source count : ℕ) → place < height → after < stride → place * stride + after ≡ source → count ≡ height * stride → source < count
below_row place stride after height source count p q is total =
    let turned = mul_comm height stride in omega (arith, mul-add-lt place stride after height p q)

-- places that a rule picks along each axis by itself stand in the source
pub strided_within : (shape : List ℕ) (from : ℕ → ℕ → Option ℕ) (axis : ℕ) (coordinates : List ℕ) (source : ℕ)
    → length coordinates + axis ≡ length shape
    → ((k place : ℕ) → k < length coordinates → from (axis + k) (get_or coordinates k 0) ≡ Some place → place < get_or shape (axis + k) 0)
    → offset_at (strided shape from) axis coordinates ≡ Some source → source < element_count (drop axis shape)
strided_within shape from axis [] source len inside at =
    let is = some_same 0 source at in omega (arith, count_of_none shape axis (omega arith))
strided_within shape from axis (first ∷ rest) source len inside at =
    by_offsets (from axis first) (offset_at (strided shape from) (axis + 1) rest)
    (λ place e. let same : axis + 0 ≡ axis = omega arith in
    subst (λ (n : ℕ). place < get_or shape n 0) same (inside 0 place (omega arith) (subst (λ (n : ℕ). from n first ≡ Some place) (sym same) e)))
    (λ after e. strided_within shape from (axis + 1) rest after (omega arith)
    (λ k place h is. let next : (axis + 1) + k ≡ axis + suc k = omega arith in
    subst (λ (n : ℕ). place < get_or shape n 0) (sym next) (inside (suc k) place (omega arith) (subst (λ (n : ℕ). from n (get_or rest k 0) ≡ Some place) next is))) e)
    refl refl at
  where
    by_offsets : (here after : Option ℕ) → ((place : ℕ) → from axis first ≡ Some place → place < get_or shape axis 0)
        → ((later : ℕ) → offset_at (strided shape from) (axis + 1) rest ≡ Some later → later < element_count (drop (axis + 1) shape))
        → from axis first ≡ here → offset_at (strided shape from) (axis + 1) rest ≡ after
        → added (option_map (λ place. place * stride_of shape axis) here) after ≡ Some source → source < element_count (drop axis shape)
    by_offsets None after place_in later_in p q e = absurd (cc)
    by_offsets (Some place) None place_in later_in p q e = absurd (cc)
    by_offsets (Some place) (Some later) place_in later_in p q e =
        below_row place (stride_of shape axis) later (get_or shape axis 0) source (element_count (drop axis shape)) (place_in place p) (later_in later q)
        (some_same _ source e) (count_from shape axis (omega arith))

-- ---- picked places

pub axes_small : (shape : List ℕ) → FitsLimits shape → (k : ℕ) → k < length shape → get_or shape k 0 ≤ 16384
axes_small shape fits k h = All-get_or (λ n. n ≤ 16384) shape k 0 h fits.axes

pub picked_within : (source shape : List ℕ) (from : ℕ → ℕ → Option ℕ) → length source ≡ length shape → PicksWithin from shape source
    → (place at : ℕ) → place < element_count shape → source_by_axes shape (strided source from) place ≡ Some at → at < element_count source
picked_within source shape from rank inside place at below is =
    let coordinates : List ℕ = coordinates_of shape place in
    let within = coordinates_are_within shape place below in
    let many = as_many_within shape coordinates within in
    strided_within source from 0 coordinates at (omega arith)
    (λ k on h e. let same : k ≡ 0 + k = omega arith in
    let low = subst (λ (n : ℕ). get_or coordinates k 0 < get_or shape n 0) same (each_within shape coordinates k within (omega arith)) in
    inside (0 + k) (get_or coordinates k 0) on (omega arith) low e) is

-- nothing is picked from a source without items
pub picked_nowhere : (source shape : List ℕ) (from : ℕ → ℕ → Option ℕ) → length source ≡ length shape → PicksWithin from shape source → element_count source ≡ 0
    → (place : ℕ) → place < element_count shape → source_by_axes shape (strided source from) place ≡ None
picked_nowhere source shape from rank inside none place below = by_source (source_by_axes shape (strided source from) place) refl
  where
    by_source : (at : Option ℕ) → source_by_axes shape (strided source from) place ≡ at → at ≡ None
    by_source None is = refl
    by_source (Some at) is = absurd (let low = picked_within source shape from rank inside place at below is in omega arith)

capped_pick : (pick : Option ℕ) (stride other : ℕ) → stride ≡ other → ((place : ℕ) → pick ≡ Some place → place < 16385)
    → option_map (λ place. min place 65535 * stride) pick ≡ option_map (λ place. place * other) pick
capped_pick None stride other same small = refl
capped_pick (Some place) stride other same small =
    let low = small place refl in let least : min place 65535 ≡ place = omega arith in rw (least, same) refl

-- offsets by a list of strides are those of the source
pub picked_same : (source shape strides : List ℕ) (from : ℕ → ℕ → Option ℕ) → FitsLimits source → length source ≡ length shape → PicksWithin from shape source
    → ((axis : ℕ) → axis < length source → get_or strides axis 0 ≡ stride_of source axis) → (place : ℕ) → place < element_count shape
    → source_by_axes shape (λ axis along. option_map (λ at. min at 65535 * get_or strides axis 0) (from axis along)) place ≡ source_by_axes shape (strided source from) place
picked_same source shape strides from fits rank inside each place below =
    let coordinates : List ℕ = coordinates_of shape place in
    let within = coordinates_are_within shape place below in
    let many = as_many_within shape coordinates within in
    same_offsets (λ axis along. option_map (λ at. min at 65535 * get_or strides axis 0) (from axis along)) (strided source from) 0 coordinates
    (λ k h. let same : k ≡ 0 + k = omega arith in
    let low = subst (λ (n : ℕ). get_or coordinates k 0 < get_or shape n 0) same (each_within shape coordinates k within (omega arith)) in
    capped_pick (from (0 + k) (get_or coordinates k 0)) (get_or strides (0 + k) 0) (stride_of source (0 + k)) (each (0 + k) (omega arith))
    (λ at e. let on = inside (0 + k) (get_or coordinates k 0) at (omega arith) low e in let small = axes_small source fits (0 + k) (omega arith) in omega arith))
