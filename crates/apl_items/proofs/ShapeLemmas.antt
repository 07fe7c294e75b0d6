-- Places in row-major order.
use Rattle.std.proofs.Common.{◌≡◌, ℕ, zero, suc, ◌+◌, ◌*◌, ◌/◌, ◌%◌, ◌<◌, ◌≤◌, List, [], ◌∷◌, ◌++◌, length, take, drop, get_or, fold, refl, sym, ap, ◌∙◌, arith}
use Rattle.std.proofs.Math.Nat.{mul_assoc, mul_comm, le-mul_of_pos_right}
use Rattle.std.proofs.lemmas.List.{length-take, length-drop}
use Rattle.std.proofs.lemmas.List.Elements.{All-take, All-drop}
use Rattle.std.proofs.lemmas.List.Sums.{fold-append}
use Rattle.std.proofs.lemmas.Nat.{mul-add-lt, div-mul-add, mod-mul-add, div-add-mod', div_below, mod_below}
use Rattle.apl_arrays.specs.Array.{FitsLimits, element_count}
use Rattle.apl_items.specs.declared.shapes.Split.{Split}
use Rattle.apl_items.specs.Shapes.{AreWithin, place_of, coordinates_of, split_at, split_count, place_along, outer_of, along_of, inner_of}

-- ---- how many elements

fold_times : (a : ℕ) (xs : List ℕ) → fold ◌*◌ a xs ≡ a * fold ◌*◌ 1 xs
fold_times a [] = omega arith
fold_times a (x ∷ xs) =
    let one : 1 * x ≡ x = omega arith in
    fold_times (a * x) xs ∙ mul_assoc a x (fold ◌*◌ 1 xs) ∙ ap (λ (n : ℕ). a * n) (sym (ap (λ (n : ℕ). fold ◌*◌ n xs) one ∙ fold_times x xs))

pub element_count-cons : (axis : ℕ) (shape : List ℕ) → element_count (axis ∷ shape) ≡ axis * element_count shape
element_count-cons axis shape = let one : 1 * axis ≡ axis = omega arith in ap (λ (n : ℕ). fold ◌*◌ n shape) one ∙ fold_times axis shape

pub element_count-append : (front back : List ℕ) → element_count (front ++ back) ≡ element_count front * element_count back
element_count-append front back = fold-append ◌*◌ 1 front back ∙ fold_times (element_count front) back

-- a shape has as many elements as its split has places
pub split_count_lem : (shape : List ℕ) (axis : ℕ) → axis < length shape → split_count (split_at shape axis) ≡ element_count shape
split_count_lem [] axis h = absurd (omega arith)
split_count_lem (n ∷ shape) zero h = rw element_count-cons (omega arith)
split_count_lem (n ∷ shape) (suc axis) h =
    let next : suc axis + 1 ≡ suc (axis + 1) = omega arith in
    let front = element_count-cons n (take axis shape) in
    let rest = split_count_lem shape axis (omega arith) in
    rw (next, front) (times n (element_count (take axis shape)) (get_or shape axis 0) (element_count (drop (axis + 1) shape)) ∙ ap (λ (count : ℕ). n * count) rest ∙ sym (element_count-cons n shape))
  where
    times : (a b c d : ℕ) → a * b * c * d ≡ a * (b * c * d)
    times a b c d = ap (λ (m : ℕ). m * d) (mul_assoc a b c) ∙ mul_assoc a (b * c) d

-- ---- parts of a place

-- a place stands below the count
pub place_along_below : (split : Split) (outer along inner : ℕ) → outer < split.outer → along < split.along → inner < split.inner
    → place_along split outer along inner < split_count split
place_along_below split outer along inner p q r =
    mul-add-lt' (outer * split.along + along) split.inner inner (split.outer * split.along) (mul-add-lt' outer split.along along split.outer p q) r
  where
    mul-add-lt' : (a w b h : ℕ) → a < h → b < w → a * w + b < h * w
    mul-add-lt' a w b h p q = let turned = mul_comm h w in omega (arith, mul-add-lt a w b h p q)

pub outer_of_place : (split : Split) (outer along inner : ℕ) → along < split.along → inner < split.inner → outer_of split (place_along split outer along inner) ≡ outer
outer_of_place split outer along inner q r =
    ap (λ (n : ℕ). n / split.along) (div-mul-add (outer * split.along + along) split.inner inner r) ∙ div-mul-add outer split.along along q

pub along_of_place : (split : Split) (outer along inner : ℕ) → along < split.along → inner < split.inner → along_of split (place_along split outer along inner) ≡ along
along_of_place split outer along inner q r =
    ap (λ (n : ℕ). n % split.along) (div-mul-add (outer * split.along + along) split.inner inner r) ∙ mod-mul-add outer split.along along q

pub inner_of_place : (split : Split) (outer along inner : ℕ) → inner < split.inner → inner_of split (place_along split outer along inner) ≡ inner
inner_of_place split outer along inner r = mod-mul-add (outer * split.along + along) split.inner inner r

-- the parts of a place make it
pub place_along_parts : (split : Split) (place : ℕ) → place_along split (outer_of split place) (along_of split place) (inner_of split place) ≡ place
place_along_parts split place =
    ap (λ (n : ℕ). n * split.inner + place % split.inner) (div-add-mod' (place / split.inner) split.along) ∙ div-add-mod' place split.inner

-- ---- coordinates

-- the coordinates of a place make it
pub place_of_coordinates : (shape : List ℕ) (place : ℕ) → place < element_count shape → place_of shape (coordinates_of shape place) ≡ place
place_of_coordinates [] place h = omega arith
place_of_coordinates (axis ∷ shape) place h =
    let count = element_count shape in
    let some : 0 < count = positive axis count (simp element_count-cons at h) in
    ap (λ (n : ℕ). place / count * count + n) (place_of_coordinates shape (place % count) (mod_below place count some)) ∙ div-add-mod' place count
  where
    positive : (a b : ℕ) → place < a * b → 0 < b
    positive a zero below = absurd (omega arith)
    positive a (suc b) below = omega arith

-- the coordinates at a row of the first axis
pub coordinates_of_row : (axis : ℕ) (shape : List ℕ) (first place : ℕ) → place < element_count shape
    → coordinates_of (axis ∷ shape) (first * element_count shape + place) ≡ first ∷ coordinates_of shape place
coordinates_of_row axis shape first place h =
    rw (div-mul-add first (element_count shape) place h, mod-mul-add first (element_count shape) place h) refl

-- coordinates within a shape make a place below its count
pub place_of_below : (shape coordinates : List ℕ) → AreWithin shape coordinates → place_of shape coordinates < element_count shape
place_of_below [] [] h = omega arith
place_of_below [] (first ∷ coordinates) h = absurd h
place_of_below (axis ∷ shape) [] h = absurd h
place_of_below (axis ∷ shape) (first ∷ coordinates) h =
    let rest = place_of_below shape coordinates h.1 in
    let turned = mul_comm axis (element_count shape) in
    omega (arith, element_count-cons axis shape, mul-add-lt first (element_count shape) (place_of shape coordinates) axis h.0 rest)

-- the coordinates of the place that coordinates make are these
pub coordinates_of_place : (shape coordinates : List ℕ) → AreWithin shape coordinates → coordinates_of shape (place_of shape coordinates) ≡ coordinates
coordinates_of_place [] [] h = refl
coordinates_of_place [] (first ∷ coordinates) h = absurd h
coordinates_of_place (axis ∷ shape) [] h = absurd h
coordinates_of_place (axis ∷ shape) (first ∷ coordinates) h =
    coordinates_of_row axis shape first (place_of shape coordinates) (place_of_below shape coordinates h.1)
    ∙ ap (λ (rest : List ℕ). first ∷ rest) (coordinates_of_place shape coordinates h.1)

-- the coordinates of a place are within the shape
pub coordinates_are_within : (shape : List ℕ) (place : ℕ) → place < element_count shape → AreWithin shape (coordinates_of shape place)
coordinates_are_within [] place h = tt
coordinates_are_within (axis ∷ shape) place h =
    let count = element_count shape in
    let total : place < axis * count = simp element_count-cons at h in
    let some : 0 < count = positive axis count total in
    (div_below place count axis some total, coordinates_are_within shape (place % count) (mod_below place count some))
  where
    positive : (a b : ℕ) → place < a * b → 0 < b
    positive a zero below = absurd (omega arith)
    positive a (suc b) below = omega arith

-- places and coordinates name each other
pub ruleset places_and_coordinates = (place_of_coordinates, coordinates_are_within, coordinates_of_place, place_of_below)

-- a place by a split, and its parts
pub ruleset splits = (split_count_lem, place_along_below, outer_of_place, along_of_place, inner_of_place, place_along_parts)

-- ---- parts of a shape within the limits

-- no factor passes a product that is not 0
factors_below : (a b c total : ℕ) → a * b * c ≡ total → 0 < total → (a ≤ total) × (c ≤ total)
factors_below zero b c total e some = absurd (let none : zero * b * c ≡ 0 = omega arith in omega arith)
factors_below (suc a) zero c total e some = absurd (let none : suc a * zero * c ≡ 0 = omega arith in omega arith)
factors_below (suc a) (suc b) zero total e some = absurd (omega arith)
factors_below (suc a) (suc b) (suc c) total e some =
    let one = le-mul_of_pos_right {m = suc b} (suc a) (omega arith) in
    let two = le-mul_of_pos_right {m = suc c} (suc a * suc b) (omega arith) in
    let pair : 0 < suc a * suc b = omega (arith, one) in
    let three = le-mul_of_pos_right {m = suc a * suc b} (suc c) pair in
    let turned = mul_comm (suc c) (suc a * suc b) in
    (omega (arith, one, two), omega (arith, three, turned))

-- the axes before and after one of a shape that has elements are within the limits too
pub parts_fit : (shape : List ℕ) (axis : ℕ) → FitsLimits shape → 0 < element_count shape → axis < length shape
    → FitsLimits (take axis shape) × FitsLimits (drop (axis + 1) shape)
parts_fit shape axis fits some inside =
    let factors = factors_below (element_count (take axis shape)) (get_or shape axis 0) (element_count (drop (axis + 1) shape)) (element_count shape) (split_count_lem shape axis inside) some in (
      record {
        rank = omega (arith, fits.rank, length-take axis shape);
        axes = All-take (λ n. n ≤ 16384) axis shape fits.axes;
        elements = omega (arith, fits.elements, factors.0);
      },
      record {
        rank = omega (arith, fits.rank, length-drop (axis + 1) shape);
        axes = All-drop (λ n. n ≤ 16384) (axis + 1) shape fits.axes;
        elements = omega (arith, fits.elements, factors.1);
      },
    )
