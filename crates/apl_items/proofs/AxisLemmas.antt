-- Items made row by row are the items made place by place.
use Rattle.std.proofs.Common.{◌≡◌, ℕ, zero, suc, ◌+◌, ◌*◌, ◌/◌, ◌<◌, ◌≤◌, List, [], ◌∷◌, ◌++◌, length, map, Option, Some, None, refl, sym, ap, subst, append_assoc, get_or, IfSome, ◌∙◌, arith}
use Rattle.std.proofs.lemmas.Nat.{mul-add-lt, div-mul-add, mod-mul-add, row_fits}
use Rattle.std.proofs.Math.Nat.{mul_comm}
use Rattle.std.specs.List.{range_with_len}
use Rattle.apl_arrays.specs.Array.{element_count}
use Rattle.apl_items.specs.Axes.{AreNoLonger, added, offset_at}
use Rattle.apl_items.specs.Moves.{IsWithin, item_or, moved_list}
use Rattle.apl_items.specs.Shapes.{coordinates_of}
use Rattle.apl_items.proofs.ShapeLemmas.{element_count-cons}

pub map_range-append : {T : Type 0} (f : ℕ → T) (first m n : ℕ) → map f (range_with_len first (m + n)) ≡ map f (range_with_len first m) ++ map f (range_with_len (first + m) n)
map_range-append f first zero n =
    let e : zero + n ≡ n = omega arith in let s : first + zero ≡ first = omega arith in rw (e, s) refl
map_range-append {T} f first (suc m) n =
    let e : suc m + n ≡ suc (m + n) = omega arith in let s : first + suc m ≡ (first + 1) + m = omega arith in
    rw (e, s) (ap (λ (xs : List T). f first ∷ xs) (map_range-append f (first + 1) m n))

pub map_range-same : {T : Type 0} (f g : ℕ → T) (first start n : ℕ) → ((k : ℕ) → k < n → f (first + k) ≡ g (start + k)) → map f (range_with_len first n) ≡ map g (range_with_len start n)
map_range-same f g first start zero same = refl
map_range-same {T} f g first start (suc n) same =
    let here : f first ≡ g start = ap f (let e : first ≡ first + 0 = omega arith in e) ∙ same 0 (omega arith) ∙ ap g (let e : start + 0 ≡ start = omega arith in e) in
    let rest = map_range-same f g (first + 1) (start + 1) n (λ k h.
    ap f (let e : (first + 1) + k ≡ first + suc k = omega arith in e) ∙ same (suc k) (omega arith) ∙ ap g (let e : start + suc k ≡ (start + 1) + k = omega arith in e)) in
    ap (λ (x : T). x ∷ map f (range_with_len (first + 1) n)) here ∙ ap (λ (xs : List T). g start ∷ xs) rest

-- one row more
pub moved_list_row : {T : Type 0} (fill : T) (list : List T) (source row : ℕ → Option ℕ) (rows count : ℕ)
    → ((q : ℕ) → q < count → source (rows * count + q) ≡ row q)
    → moved_list fill list (rows * count) source ++ moved_list fill list count row ≡ moved_list fill list ((rows + 1) * count) source
moved_list_row {T} fill list source row rows count same =
    let total : rows * count + count ≡ (rows + 1) * count = omega arith in
    let start : 0 + rows * count ≡ rows * count = omega arith in
    let item : ℕ → T = λ p. item_or fill list (source p) in
    let one_row = map_range-same item (λ (p : ℕ). item_or fill list (row p)) (0 + rows * count) 0 count
    (λ k h. ap item (let e : (0 + rows * count) + k ≡ rows * count + k = omega arith in e) ∙ ap (item_or fill list) (same k h ∙ ap row (let e : k ≡ 0 + k = omega arith in e))) in
    ap (λ (xs : List T). moved_list fill list (rows * count) source ++ xs) (sym one_row) ∙ sym (map_range-append item 0 (rows * count) count) ∙ ap (λ (n : ℕ). moved_list fill list n source) total

added_assoc : (a b c : Option ℕ) → added a (added b c) ≡ added (added a b) c
added_assoc None b c = refl
added_assoc (Some a) None c = refl
added_assoc (Some a) (Some b) None = refl
added_assoc (Some a) (Some b) (Some c) = let e : a + (b + c) ≡ (a + b) + c = omega arith in ap (λ (n : ℕ). Some n) e

-- the source places of a row of the first axis
pub row_source : (offset : ℕ → ℕ → Option ℕ) (axis : ℕ) (base : Option ℕ) (shape : List ℕ) (first : ℕ) (rest : List ℕ) (along place : ℕ)
    → shape ≡ first ∷ rest → place < element_count rest
    → added base (offset_at offset axis (coordinates_of shape (along * element_count rest + place)))
    ≡ added (added base (offset axis along)) (offset_at offset (axis + 1) (coordinates_of rest place))
row_source offset axis base shape first rest along place e below =
    rw (e, div-mul-add along (element_count rest) place below, mod-mul-add along (element_count rest) place below) (added_assoc base (offset axis along) (offset_at offset (axis + 1) (coordinates_of rest place)))

-- they stand in the list where those of all rows do
pub row_within : (offset : ℕ → ℕ → Option ℕ) (axis : ℕ) (base beyond : Option ℕ) (shape : List ℕ) (first : ℕ) (rest : List ℕ) (along size : ℕ)
    → shape ≡ first ∷ rest → along < first → beyond ≡ added base (offset axis along)
    → IsWithin (λ place. added base (offset_at offset axis (coordinates_of shape place))) (element_count shape) size
    → IsWithin (λ place. added beyond (offset_at offset (axis + 1) (coordinates_of rest place))) (element_count rest) size
row_within offset axis base beyond shape first rest along size e inside is within place from below at =
    let source = row_source offset axis base shape first rest along place e below in
    let counts : element_count shape ≡ element_count rest * first = ap element_count e ∙ element_count-cons first rest ∙ mul_comm first (element_count rest) in
    let bound = mul-add-lt along (element_count rest) place first inside below in
    within (along * element_count rest + place) from (omega arith) (source ∙ ap (λ (b : Option ℕ). added b (offset_at offset (axis + 1) (coordinates_of rest place))) (sym is) ∙ at)

-- the items so far and those of one row more
pub items_of_row : {T : Type 0} (fill : T) (list : List T) (offset : ℕ → ℕ → Option ℕ) (axis : ℕ) (base beyond : Option ℕ) (shape : List ℕ) (first : ℕ) (rest : List ℕ)
    (along : ℕ) (before so_far more : List T) → shape ≡ first ∷ rest → beyond ≡ added base (offset axis along)
    → so_far ≡ before ++ moved_list fill list (along * element_count rest) (λ place. added base (offset_at offset axis (coordinates_of shape place)))
    → more ≡ so_far ++ moved_list fill list (element_count rest) (λ place. added beyond (offset_at offset (axis + 1) (coordinates_of rest place)))
    → more ≡ before ++ moved_list fill list ((along + 1) * element_count rest) (λ place. added base (offset_at offset axis (coordinates_of shape place)))
items_of_row {T} fill list offset axis base beyond shape first rest along before so_far more e is was now =
    let source : ℕ → Option ℕ = λ place. added base (offset_at offset axis (coordinates_of shape place)) in
    let row : ℕ → Option ℕ = λ place. added beyond (offset_at offset (axis + 1) (coordinates_of rest place)) in
    let one = moved_list_row fill list source row along (element_count rest)
    (λ q h. row_source offset axis base shape first rest along q e h ∙ ap (λ (b : Option ℕ). added b (offset_at offset (axis + 1) (coordinates_of rest q))) (sym is)) in
    now ∙ ap (λ (xs : List T). xs ++ moved_list fill list (element_count rest) row) was
    ∙ append_assoc before (moved_list fill list (along * element_count rest) source) (moved_list fill list (element_count rest) row)
    ∙ ap (λ (xs : List T). before ++ xs) one

-- the items of all rows
pub items_of_all_rows : {T : Type 0} (fill : T) (list : List T) (source : ℕ → Option ℕ) (shape : List ℕ) (first : ℕ) (rest : List ℕ) (along : ℕ) (before made : List T)
    → shape ≡ first ∷ rest → along ≡ first → made ≡ before ++ moved_list fill list (along * element_count rest) source
    → made ≡ before ++ moved_list fill list (element_count shape) source
items_of_all_rows {T} fill list source shape first rest along before made e all is =
    is ∙ ap (λ (n : ℕ). before ++ moved_list fill list (n * element_count rest) source) all
    ∙ ap (λ (n : ℕ). before ++ moved_list fill list n source) (sym (ap element_count e ∙ element_count-cons first rest))

pub count_of_all_rows : (shape : List ℕ) (first : ℕ) (rest : List ℕ) (along before made : ℕ) → shape ≡ first ∷ rest → along ≡ first
    → made ≡ before + along * element_count rest → made ≡ before + element_count shape
count_of_all_rows shape first rest along before made e all is =
    is ∙ ap (λ (n : ℕ). before + n * element_count rest) all ∙ ap (λ (n : ℕ). before + n) (sym (ap element_count e ∙ element_count-cons first rest))

-- there is room for one row more
pub row_has_room : (shape : List ℕ) (first : ℕ) (rest : List ℕ) (along before so_far room : ℕ) → shape ≡ first ∷ rest → along < first
    → before + element_count shape ≤ room → so_far ≡ before + along * element_count rest → so_far + element_count rest ≤ room
row_has_room shape first rest along before so_far room e inside fits is =
    let counts : element_count shape ≡ first * element_count rest = ap element_count e ∙ element_count-cons first rest in
    let one = row_fits along (element_count rest) first (element_count rest) inside (omega arith) in
    omega arith

some_same : (m n : ℕ) → Some m ≡ Some n → m ≡ n
some_same m n e = cc

-- a base beyond which the offsets of the axes left are small
pub row_is_bound : (base offset beyond : Option ℕ) (left size : ℕ) → IfSome offset (λ from. from < 4294967296) → beyond ≡ added base offset
    → ((from : ℕ) → base ≡ Some from → from + (left + 1) * 4294967296 < size) → (from : ℕ) → beyond ≡ Some from → from + left * 4294967296 < size
row_is_bound None offset beyond left size small is bound from at = let none : None ≡ Some from = sym is ∙ at in absurd (cc)
row_is_bound (Some a) None beyond left size small is bound from at = let none : None ≡ Some from = sym is ∙ at in absurd (cc)
row_is_bound (Some a) (Some b) beyond left size small is bound from at =
    let total : a + b ≡ from = some_same (a + b) from (sym is ∙ at) in let one = bound a refl in omega arith

-- the axes after the first are no longer either
pub rest_no_longer : (shape : List ℕ) (first : ℕ) (rest : List ℕ) (axis : ℕ) (lengths : ℕ → ℕ) → shape ≡ first ∷ rest
    → AreNoLonger shape axis lengths → AreNoLonger rest (axis + 1) lengths
rest_no_longer shape first rest axis lengths e lower k h =
    let next = subst (λ (xs : List ℕ). AreNoLonger xs axis lengths) e lower (suc k) (omega arith) in
    let same : axis + suc k ≡ (axis + 1) + k = omega arith in
    subst (λ (n : ℕ). get_or rest k 0 ≤ lengths n) same next

-- a place along the first axis is below its length
pub first_no_longer : (shape : List ℕ) (first : ℕ) (rest : List ℕ) (axis along : ℕ) (lengths : ℕ → ℕ) → shape ≡ first ∷ rest
    → AreNoLonger shape axis lengths → along < first → along < lengths axis
first_no_longer shape first rest axis along lengths e lower below =
    let here = subst (λ (xs : List ℕ). AreNoLonger xs axis lengths) e lower 0 (omega arith) in
    let same : axis + 0 ≡ axis = omega arith in
    let at : first ≤ lengths axis = subst (λ (n : ℕ). first ≤ lengths n) same here in
    omega arith

-- ---- the last axis

nothing_added : (a : Option ℕ) → added a (Some 0) ≡ a
nothing_added None = refl
nothing_added (Some a) = let e : a + 0 ≡ a = omega arith in ap (λ (n : ℕ). Some n) e

no_axes_left : (rest : List ℕ) → length rest ≡ 0 → rest ≡ []
no_axes_left [] e = refl
no_axes_left (first ∷ rest) e = absurd (omega arith)

-- a shape of one axis has as many elements as that is long
pub last_count : (shape : List ℕ) (first : ℕ) (rest : List ℕ) → shape ≡ first ∷ rest → length rest ≡ 0 → element_count shape ≡ first
last_count shape first rest e none =
    let one : 1 * first ≡ first = omega arith in
    ap element_count (e ∙ ap (λ (xs : List ℕ). first ∷ xs) (no_axes_left rest none)) ∙ one

-- and its source places are those of that axis
last_source : (offset : ℕ → ℕ → Option ℕ) (axis : ℕ) (base : Option ℕ) (shape : List ℕ) (first : ℕ) (rest : List ℕ) (place : ℕ) → shape ≡ first ∷ rest → length rest ≡ 0
    → added base (offset_at offset axis (coordinates_of shape place)) ≡ added base (offset axis place)
last_source offset axis base shape first rest place e none =
    let one : place / 1 ≡ place = omega arith in
    ap (λ (xs : List ℕ). added base (offset_at offset axis (coordinates_of xs place))) (e ∙ ap (λ (xs : List ℕ). first ∷ xs) (no_axes_left rest none))
    ∙ ap (added base) (nothing_added (offset axis (place / 1)) ∙ ap (offset axis) one)

pub last_within : (offset : ℕ → ℕ → Option ℕ) (axis : ℕ) (base : Option ℕ) (shape : List ℕ) (first : ℕ) (rest : List ℕ) (size : ℕ) → shape ≡ first ∷ rest → length rest ≡ 0
    → IsWithin (λ place. added base (offset_at offset axis (coordinates_of shape place))) (element_count shape) size
    → IsWithin (λ along. added base (offset axis along)) first size
last_within offset axis base shape first rest size e none within along from below at =
    let count = last_count shape first rest e none in
    within along from (omega arith) (last_source offset axis base shape first rest along e none ∙ at)

pub items_of_last : {T : Type 0} (fill : T) (list : List T) (offset : ℕ → ℕ → Option ℕ) (axis : ℕ) (base : Option ℕ) (shape : List ℕ) (first : ℕ) (rest : List ℕ) (before made : List T)
    → shape ≡ first ∷ rest → length rest ≡ 0 → made ≡ before ++ moved_list fill list first (λ along. added base (offset axis along))
    → made ≡ before ++ moved_list fill list (element_count shape) (λ place. added base (offset_at offset axis (coordinates_of shape place)))
items_of_last {T} fill list offset axis base shape first rest before made e none is =
    let source : ℕ → Option ℕ = λ place. added base (offset_at offset axis (coordinates_of shape place)) in
    let same = map_range-same (λ (along : ℕ). item_or fill list (added base (offset axis along))) (λ (place : ℕ). item_or fill list (source place)) 0 0 first
    (λ k h. ap (item_or fill list) (sym (last_source offset axis base shape first rest (0 + k) e none))) in
    is ∙ ap (λ (xs : List T). before ++ xs) same ∙ ap (λ (n : ℕ). before ++ moved_list fill list n source) (sym (last_count shape first rest e none))
