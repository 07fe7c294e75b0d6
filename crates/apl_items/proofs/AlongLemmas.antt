-- Items made along an axis are the items made place by place.
use Rattle.std.proofs.Common.{◌≡◌, ℕ, zero, suc, ◌+◌, ◌*◌, ◌/◌, ◌%◌, ◌<◌, ◌≤◌, List, [], ◌∷◌, ◌++◌, Option, take, drop, length, refl, ap, ◌∙◌, append_assoc, arith}
use Rattle.std.proofs.Math.Nat.{mul_comm, le-mul_of_pos_right}
use Rattle.std.proofs.lemmas.Nat.{div-mul-add, mod-mul-add, div-add-mod', div_below, mod_below, row_fits, mul-add-lt, mul-le}
use Rattle.apl_arrays.specs.Array.{FitsLimits, element_count}
use Rattle.apl_items.specs.declared.shapes.Split.{Split}
use Rattle.apl_items.specs.Along.{source_along, source_in_row}
use Rattle.apl_items.specs.Moves.{item_or, moved_list}
use Rattle.apl_items.specs.Shapes.{split_at}
use Rattle.apl_items.proofs.AxisLemmas.{moved_list_row}
use Rattle.apl_items.proofs.MoveLemmas.{moved_list_more}
use Rattle.apl_items.proofs.ShapeLemmas.{along_of_place, inner_of_place, outer_of_place, parts_fit}

-- ---- the source places of a row

-- a place behind so many rows, by its row and its item
pub regrouped : (o a i q r place : ℕ) → q * i + r ≡ place → o * (a * i) + place ≡ (o * a + q) * i + r
regrouped o a i q r place e = omega arith

-- where something is below a product, its second factor is not 0
pub positive : (a b place : ℕ) → place < a * b → 0 < b
positive a zero place below = absurd (omega arith)
positive a (suc b) place below = omega arith

same_parts : (split : Split) (length : ℕ) (from : ℕ → ℕ → Option ℕ) (a b c x y z : ℕ) → a ≡ x → b ≡ y → c ≡ z
    → source_in_row split length from a b c ≡ source_in_row split length from x y z
same_parts split length from a b c x y z p q r = rw (p, q, r) refl

pub row_of_places : (split : Split) (length : ℕ) (from : ℕ → ℕ → Option ℕ) (outer place : ℕ) → place < split.along * split.inner
    → source_along split length from (outer * (split.along * split.inner) + place) ≡ source_in_row split length from outer (place / split.inner) (place % split.inner)
row_of_places split length from outer place h =
    let inner = split.inner in
    let some : 0 < inner = positive split.along inner place h in
    let along : place / inner < split.along = div_below place inner split.along some h in
    let item : place % inner < inner = mod_below place inner some in
    let e = regrouped outer split.along inner (place / inner) (place % inner) place (div-add-mod' place inner) in
    ap (source_along split length from) e
    ∙ same_parts split length from _ _ _ outer (place / inner) (place % inner) (outer_of_place split outer (place / inner) (place % inner) along item)
    (along_of_place split outer (place / inner) (place % inner) along item) (inner_of_place split outer (place / inner) (place % inner) item)

pub run_of_places : (split : Split) (length : ℕ) (from : ℕ → ℕ → Option ℕ) (outer along place : ℕ) → place < split.inner
    → source_in_row split length from outer ((along * split.inner + place) / split.inner) ((along * split.inner + place) % split.inner)
    ≡ source_in_row split length from outer along place
run_of_places split length from outer along place h =
    same_parts split length from _ _ _ outer along place refl (div-mul-add along split.inner place h) (mod-mul-add along split.inner place h)

-- ---- one row more, and all

pub one_row_more : {T : Type 0} (fill : T) (list : List T) (source row : ℕ → Option ℕ) (rows count : ℕ) (before so_far more : List T)
    → ((q : ℕ) → q < count → source (rows * count + q) ≡ row q) → so_far ≡ before ++ moved_list fill list (rows * count) source
    → more ≡ so_far ++ moved_list fill list count row → more ≡ before ++ moved_list fill list ((rows + 1) * count) source
one_row_more {T} fill list source row rows count before so_far more same was now =
    now ∙ ap (λ (xs : List T). xs ++ moved_list fill list count row) was
    ∙ append_assoc before (moved_list fill list (rows * count) source) (moved_list fill list count row)
    ∙ ap (λ (xs : List T). before ++ xs) (moved_list_row fill list source row rows count same)

pub one_item_more : {T : Type 0} (fill : T) (list : List T) (source : ℕ → Option ℕ) (place : ℕ) (before so_far more : List T) (from : Option ℕ) (value : T)
    → so_far ≡ before ++ moved_list fill list place source → from ≡ source place → value ≡ item_or fill list from → more ≡ so_far ++ value ∷ []
    → more ≡ before ++ moved_list fill list (place + 1) source
one_item_more {T} fill list source place before so_far more from value was at_place is_item now =
    let same : place ≡ place + 0 = omega arith in
    let one = moved_list_more fill list source place (moved_list fill list place source) from value refl (at_place ∙ ap source same) is_item in
    now ∙ ap (λ (xs : List T). xs ++ value ∷ []) was ∙ append_assoc before (moved_list fill list place source) (value ∷ []) ∙ ap (λ (xs : List T). before ++ xs) one

pub room_for_row : (rows count done before so_far room : ℕ) → done < rows → before + rows * count ≤ room → so_far ≡ before + done * count → so_far + count ≤ room
room_for_row rows count done before so_far room inside fits is =
    let one = row_fits done count rows count inside (omega arith) in omega arith

-- ---- numbers that fit

below_in : (w h a b : ℕ) → a < h → b < w → a * w + b < h * w
below_in w h a b p q = let turned = mul_comm h w in omega (arith, mul-add-lt a w b h p q)

-- the number of a line is below the number of lines
pub line_below : (outer inner lines items : ℕ) → outer < lines → inner < items → outer * items + inner < lines * items
line_below outer inner lines items p q = below_in items lines outer inner p q

-- a source place is below the count of the source
pub source_below : (outers length inners outer along inner : ℕ) → outer < outers → along < length → inner < inners
    → (outer * length + along) * inners + inner < outers * length * inners
source_below outers length inners outer along inner p q r = below_in inners (outers * length) (outer * length + along) inner (below_in length outers outer along p q) r

-- and so are the numbers that make it
pub parts_below : (a n inner : ℕ) → inner < n → a ≤ a * n
parts_below a n inner h = le-mul_of_pos_right {m = n} a (omega arith)

-- a shape within the limits has few lines
pub few_lines : (shape : List ℕ) (axis : ℕ) → FitsLimits shape → 0 < element_count shape → axis < length shape
    → (split_at shape axis).outer * (split_at shape axis).inner ≤ 268435456
few_lines shape axis fits some inside =
    let parts = parts_fit shape axis fits some inside in
    mul-le (element_count (take axis shape)) (element_count (drop (axis + 1) shape)) 16384 16384 parts.0.elements parts.1.elements
