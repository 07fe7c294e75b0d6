-- Each item of a join stands where it stood in its part, or behind the other part along the axis.
use Rattle.std.proofs.Common.{inl, inr, ◌≡◌, ℕ, ℤ, zero, suc, ◌+◌, ◌-◌, ◌*◌, ◌<◌, ◌≤◌, ◌==◌, Bool, true, false, cond, List, [], ◌∷◌, ◌++◌, Option, Some, None, Ok, is_some, length, take, drop, get_or, set, refl, sym, ap, subst, ◌∙◌, arith}
use Rattle.std.specs.List.{slice_get}
use Rattle.std.proofs.lemmas.List.{drop-set-lt, get_or-append-add, get_or-set_same, get_or_append_left, length-append, length-set, length-take-le, nil_from_length, take-append-drop, take-set}
use Rattle.std.proofs.lemmas.Option.{get_or_from_slice_get, slice_get_read, slice_get_within}
use Rattle.apl_arrays.specs.declared.items.Item.{Item}
use Rattle.apl_arrays.specs.declared.items.Item.TheVariants.{Number, Char}
use Rattle.apl_arrays.specs.declared.way.Way.TheVariants.{Last}
use Rattle.apl_arrays.specs.Array.{PlainArray, PlainItems, IsArray, IsItemOf, numbers, chars, chars_in, element_count, is_chars, item_count, numbers_in}
use Rattle.apl_arrays.specs.Shape.{shape_fault}
use Rattle.apl_items.specs.Answers.{Faults, first_report}
use Rattle.apl_items.specs.Axis.{without}
use Rattle.apl_items.specs.Extension.{place_in}
use Rattle.apl_items.specs.Shapes.{AreWithin, place_along, place_of, split_at, stride_of}
use Rattle.apl_items.proofs.AlongLemmas.{source_below}
use Rattle.apl_items.proofs.ShapeLemmas.{element_count-append, place_of_below, split_count_lem}
use Rattle.apl_selection.specs.Catenation.{both_items, catenate_faults, catenate_of, catenated, catenated_axis, catenated_place, catenated_rank, catenated_shape, greater_shape, kind_giver, kinds_clash, span_of}
use Rattle.apl_selection.specs.Listing.{vector_shape}
use Rattle.apl_selection.specs.SelectionLaws.{IsItemOfPart}
use Rattle.apl_selection.proofs.FaultLemmas.{lone_place, nothing_is_wrong, same_number}
use Rattle.apl_selection.proofs.FlagLaws.{axis_inside}
use Rattle.apl_selection.proofs.GivenBackLemmas.{no_report}
use Rattle.apl_selection.proofs.JoinKindLemmas.{chars_of_both, numbers_of_both}
use Rattle.apl_selection.proofs.JoinLemmas.{rank_of_join}
use Rattle.apl_selection.proofs.JoinRowLemmas.{catenated_at, in_first, in_second}
use Rattle.apl_selection.proofs.JoinShapeLemmas.{IsScalarOrPart, long_of_join, part_by, parts_of}
use Rattle.apl_selection.proofs.MoveLemmas.{moved_item}
use Rattle.apl_selection.proofs.PickLemmas.{as_many_within, each_within}

-- ---- the place of coordinates, seen from an axis

grouped : (c f l m o x i rest whole : ℕ) → whole ≡ f * l * m → rest ≡ (o * l + x) * m + i → c * whole + rest ≡ ((c * f + o) * l + x) * m + i
grouped c f l m o x i rest whole e p = rw (e, p) (omega arith)

pub place_split : (shape at : List ℕ) (axis : ℕ) → length at ≡ length shape → axis < length shape
    → place_of shape at ≡ place_along (split_at shape axis) (place_of (take axis shape) (take axis at)) (get_or at axis 0) (place_of (drop (axis + 1) shape) (drop (axis + 1) at))
place_split [] at axis many inside = absurd (omega arith)
place_split (n ∷ shape) [] axis many inside = absurd (omega arith)
place_split (n ∷ shape) (c ∷ at) zero many inside =
    let start : c ≡ 0 * n + c = omega arith in ap (λ (m : ℕ). m * element_count shape + place_of shape at) start
place_split (n ∷ shape) (c ∷ at) (suc axis) many inside =
    let next : suc axis + 1 ≡ suc (axis + 1) = omega arith in
    let rest = place_split shape at axis (omega arith) (omega arith) in
    rw next
    (grouped c (element_count (take axis shape)) (get_or shape axis 0) (stride_of shape axis) (place_of (take axis shape) (take axis at)) (get_or at axis 0)
    (place_of (drop (axis + 1) shape) (drop (axis + 1) at)) (place_of shape at) (element_count shape) (sym (split_count_lem shape axis (omega arith))) rest)

place_of-append : (front back before behind : List ℕ) → length before ≡ length front → place_of (front ++ back) (before ++ behind) ≡ place_of front before * element_count back + place_of back behind
place_of-append [] back [] behind many = omega arith
place_of-append [] back (c ∷ before) behind many = absurd (omega arith)
place_of-append (n ∷ front) back [] behind many = absurd (omega arith)
place_of-append (n ∷ front) back (c ∷ before) behind many =
    let rest = place_of-append front back before behind (omega arith) in
    sums c (element_count front) (element_count back) (place_of front before) (place_of back behind) (place_of (front ++ back) (before ++ behind)) (element_count (front ++ back)) (element_count-append front back) rest
  where
    sums : (c f b p q rest whole : ℕ) → whole ≡ f * b → rest ≡ p * b + q → c * whole + rest ≡ (c * f + p) * b + q
    sums c f b p q rest whole e r = rw (e, r) (omega arith)

within_take : (shape at : List ℕ) (axis : ℕ) → AreWithin shape at → AreWithin (take axis shape) (take axis at)
within_take shape at zero h = tt
within_take [] [] (suc axis) h = tt
within_take [] (c ∷ at) (suc axis) h = absurd h
within_take (n ∷ shape) [] (suc axis) h = absurd h
within_take (n ∷ shape) (c ∷ at) (suc axis) h = (h.0, within_take shape at axis h.1)

within_drop : (shape at : List ℕ) (axis : ℕ) → AreWithin shape at → AreWithin (drop axis shape) (drop axis at)
within_drop shape at zero h = h
within_drop [] [] (suc axis) h = tt
within_drop [] (c ∷ at) (suc axis) h = absurd h
within_drop (n ∷ shape) [] (suc axis) h = absurd h
within_drop (n ∷ shape) (c ∷ at) (suc axis) h = within_drop shape at axis h.1

-- ---- a part

-- coordinates of a join's other axes, and a place along the axis that is one of a part's
pub record IsOnPart (shape : List ℕ) (whole : List ℕ) (rank axis : ℕ) (at : List ℕ) : Type 0 where
  pub many : length at ≡ rank
  pub before : AreWithin (take axis whole) (take axis at)
  pub along : get_or at axis 0 < span_of shape rank axis
  pub behind : AreWithin (drop (axis + 1) whole) (drop (axis + 1) at)

-- its place in the part
place_by : (shape whole at : List ℕ) (rank axis : ℕ) (full : Bool) → (length shape == rank) ≡ full → (full ≡ false → length shape + 1 ≡ rank) → axis < rank → length at ≡ rank
    → take axis whole ≡ take axis shape → drop (axis + 1) whole ≡ cond full (drop (axis + 1) shape) (drop axis shape) → get_or at axis 0 < cond full (get_or shape axis 0) 1
    → place_of shape (cond full at (without axis at))
    ≡ (place_of (take axis whole) (take axis at) * cond full (get_or shape axis 0) 1 + get_or at axis 0) * element_count (drop (axis + 1) whole) + place_of (drop (axis + 1) whole) (drop (axis + 1) at)
place_by shape whole at rank axis true e near inside many front back low =
    let same = same_number (length shape) rank e in
    place_split shape at axis (omega arith) (omega arith)
    ∙ ap (λ (xs : List ℕ). (place_of xs (take axis at) * get_or shape axis 0 + get_or at axis 0) * element_count (drop (axis + 1) shape) + place_of (drop (axis + 1) shape) (drop (axis + 1) at)) (sym front)
    ∙ ap (λ (xs : List ℕ). (place_of (take axis whole) (take axis at) * get_or shape axis 0 + get_or at axis 0) * element_count xs + place_of xs (drop (axis + 1) at)) (sym back)
place_by shape whole at rank axis false e near inside many front back low =
    let next = near refl in
    let none : get_or at axis 0 ≡ 0 = omega arith in
    let here : place_of (take axis whole) (take axis at) * 1 + get_or at axis 0 ≡ place_of (take axis whole) (take axis at) = omega arith in
    let few_at = length-take-le axis at (omega arith) in
    let few = length-take-le axis shape (omega arith) in
    ap (λ (xs : List ℕ). place_of xs (without axis at)) (sym (take-append-drop axis shape))
    ∙ place_of-append (take axis shape) (drop axis shape) (take axis at) (drop (axis + 1) at) (omega arith)
    ∙ ap (λ (xs : List ℕ). place_of xs (take axis at) * element_count (drop axis shape) + place_of (drop axis shape) (drop (axis + 1) at)) (sym front)
    ∙ ap (λ (xs : List ℕ). place_of (take axis whole) (take axis at) * element_count xs + place_of xs (drop (axis + 1) at)) (sym back)
    ∙ ap (λ (n : ℕ). n * element_count (drop (axis + 1) whole) + place_of (drop (axis + 1) whole) (drop (axis + 1) at)) (sym here)

-- the place in a part by the row, the place along the axis and the item there
pub place_on_part : (part : PlainArray) (whole : List ℕ) (rank axis : ℕ) (at : List ℕ) → IsArray part → axis < rank → IsScalarOrPart part.shape whole rank axis → IsOnPart part.shape whole rank axis at
    → place_in (item_count part.items)
    ((place_of (take axis whole) (take axis at) * span_of part.shape rank axis + get_or at axis 0) * element_count (drop (axis + 1) whole) + place_of (drop (axis + 1) whole) (drop (axis + 1) at))
    ≡ place_of part.shape (cond (length part.shape == rank) at (without axis at))
place_on_part part whole rank axis at array inside (inl scalar) on =
    let none = nil_from_length part.shape (same_number (length part.shape) 0 scalar) in
    let one : item_count part.items ≡ 1 = sym array.whole ∙ ap element_count none in
    ap (λ (n : ℕ). place_in n ((place_of (take axis whole) (take axis at) * span_of part.shape rank axis + get_or at axis 0) * element_count (drop (axis + 1) whole) + place_of (drop (axis + 1) whole) (drop (axis + 1) at))) one
    ∙ sym (ap (λ (xs : List ℕ). place_of xs (cond (length part.shape == rank) at (without axis at))) none)
place_on_part part whole rank axis at array inside (inr has) on =
    let span : ℕ = span_of part.shape rank axis in
    let outer : ℕ = place_of (take axis whole) (take axis at) in
    let inner : ℕ = place_of (drop (axis + 1) whole) (drop (axis + 1) at) in
    let inners : ℕ = element_count (drop (axis + 1) whole) in
    let count = part_by part.shape whole rank axis (length part.shape == rank) refl has.near inside has.front has.back in
    let low : (outer * span + get_or at axis 0) * inners + inner < element_count (take axis whole) * span * inners =
    source_below (element_count (take axis whole)) span inners outer (get_or at axis 0) inner (place_of_below (take axis whole) (take axis at) on.before) on.along (place_of_below (drop (axis + 1) whole) (drop (axis + 1) at) on.behind) in
    lone_place (item_count part.items) ((outer * span + get_or at axis 0) * inners + inner) (let whole_count = array.whole in omega arith)
    ∙ sym (place_by part.shape whole at rank axis (length part.shape == rank) refl has.near inside on.many has.front has.back on.along)

-- ---- items of both

in_front : {T : Type 0} (xs ys : List T) (place : ℕ) (item : T) → slice_get xs place ≡ Some item → slice_get (xs ++ ys) place ≡ Some item
in_front xs ys place item there =
    let low = slice_get_within xs place item there in
    slice_get_read (xs ++ ys) (length xs + length ys) place item (sym (length-append xs ys)) (omega arith)
    (sym (get_or_append_left xs ys item place low ∙ get_or_from_slice_get xs place item item there))

at_back : {T : Type 0} (xs ys : List T) (start place : ℕ) (item : T) → length xs ≡ start → slice_get ys place ≡ Some item → slice_get (xs ++ ys) (start + place) ≡ Some item
at_back xs ys start place item many there =
    let low = slice_get_within ys place item there in
    ap (λ (n : ℕ). slice_get (xs ++ ys) (n + place)) (sym many)
    ∙ slice_get_read (xs ++ ys) (length xs + length ys) (length xs + place) item (sym (length-append xs ys)) (omega arith)
    (sym (get_or-append-add xs ys place item ∙ get_or_from_slice_get ys place item item there))

chars_front : (a : PlainItems) (ys : List ℕ) (place : ℕ) (item : Item) → length (chars_in a) ≡ item_count a → IsItemOf a place item → IsItemOf (chars (chars_in a ++ ys)) place item
chars_front (numbers xs) ys place (Number n) many there = absurd (let low = slice_get_within xs place n there in omega arith)
chars_front (numbers xs) ys place (Char c) many there = absurd there
chars_front (chars xs) ys place (Number n) many there = absurd there
chars_front (chars xs) ys place (Char c) many there = in_front xs ys place c there

numbers_front : (a : PlainItems) (ys : List ℤ) (place : ℕ) (item : Item) → length (numbers_in a) ≡ item_count a → IsItemOf a place item → IsItemOf (numbers (numbers_in a ++ ys)) place item
numbers_front (numbers xs) ys place (Number n) many there = in_front xs ys place n there
numbers_front (numbers xs) ys place (Char c) many there = absurd there
numbers_front (chars xs) ys place (Number n) many there = absurd there
numbers_front (chars xs) ys place (Char c) many there = absurd (let low = slice_get_within xs place c there in omega arith)

chars_back : (b : PlainItems) (xs : List ℕ) (start place : ℕ) (item : Item) → length xs ≡ start → length (chars_in b) ≡ item_count b → IsItemOf b place item → IsItemOf (chars (xs ++ chars_in b)) (start + place) item
chars_back (numbers ys) xs start place (Number n) first many there = absurd (let low = slice_get_within ys place n there in omega arith)
chars_back (numbers ys) xs start place (Char c) first many there = absurd there
chars_back (chars ys) xs start place (Number n) first many there = absurd there
chars_back (chars ys) xs start place (Char c) first many there = at_back xs ys start place c first there

numbers_back : (b : PlainItems) (xs : List ℤ) (start place : ℕ) (item : Item) → length xs ≡ start → length (numbers_in b) ≡ item_count b → IsItemOf b place item → IsItemOf (numbers (xs ++ numbers_in b)) (start + place) item
numbers_back (numbers ys) xs start place (Number n) first many there = at_back xs ys start place n first there
numbers_back (numbers ys) xs start place (Char c) first many there = absurd there
numbers_back (chars ys) xs start place (Number n) first many there = absurd there
numbers_back (chars ys) xs start place (Char c) first many there = absurd (let low = slice_get_within ys place c there in omega arith)

-- the items of both, by their kind
both_by : PlainItems → PlainItems → Bool → PlainItems
both_by a b kind = cond kind (chars (chars_in a ++ chars_in b)) (numbers (numbers_in a ++ numbers_in b))

item_of_first : (a b : PlainItems) (place : ℕ) (item : Item) → kinds_clash a b ≡ false → IsItemOf a place item → IsItemOf (both_items a b) place item
unfolding both_by
item_of_first a b place item clash there = by_kind (is_chars (kind_giver a b)) refl
  where
    by_kind : (kind : Bool) → is_chars (kind_giver a b) ≡ kind → IsItemOf (both_by a b kind) place item
    by_kind true e = chars_front a (chars_in b) place item (chars_of_both a b clash e).0 there
    by_kind false e = numbers_front a (numbers_in b) place item (numbers_of_both a b clash e).0 there

item_of_second : (a b : PlainItems) (place : ℕ) (item : Item) → kinds_clash a b ≡ false → IsItemOf b place item → IsItemOf (both_items a b) (item_count a + place) item
unfolding both_by
item_of_second a b place item clash there = by_kind (is_chars (kind_giver a b)) refl
  where
    by_kind : (kind : Bool) → is_chars (kind_giver a b) ≡ kind → IsItemOf (both_by a b kind) (item_count a + place) item
    by_kind true e = let counts = chars_of_both a b clash e in chars_back b (chars_in a) (item_count a) place item counts.0 counts.1 there
    by_kind false e = let counts = numbers_of_both a b clash e in numbers_back b (numbers_in a) (item_count a) place item counts.0 counts.1 there

-- ---- a join

-- the part with the same other axes as the join that has another length
part_of_join : (s whole : List ℕ) (rank axis n : ℕ) → IsScalarOrPart s whole rank axis → IsScalarOrPart s (set whole axis n) rank axis
part_of_join s whole rank axis n (inl scalar) = inl scalar
part_of_join s whole rank axis n (inr part) =
    inr (record { near = part.near; front = take-set whole axis n ∙ part.front; back = drop-set-lt (axis + 1) whole axis n (omega arith) ∙ part.back })

-- a join that is given
record IsJoin (a b r : PlainArray) (name : Option ℤ) : Type 0 where
  pub is : catenated a b (catenated_axis a b name) ≡ r
  pub inside : catenated_axis a b name < catenated_rank a b
  pub clash : kinds_clash a.items b.items ≡ false
  pub rank : length (catenated_shape a b (catenated_axis a b name)) ≡ catenated_rank a b
  pub first : IsScalarOrPart a.shape (catenated_shape a b (catenated_axis a b name)) (catenated_rank a b) (catenated_axis a b name)
  pub second : IsScalarOrPart b.shape (catenated_shape a b (catenated_axis a b name)) (catenated_rank a b) (catenated_axis a b name)

not_reported : (faults : Faults) (large : Bool) → None ≡ first_report (record faults { too_large = large }) → None ≡ first_report (record faults { too_large = false })
not_reported faults large none = let sound = nothing_is_wrong (record faults { too_large = large }) none in rw (sound.rank, sound.long, sound.domain, sound.index) refl

is_join : (a b r : PlainArray) (name : Option ℤ) → catenate_of a b name ≡ Ok r → IsJoin a b r name
is_join a b r name e =
    let axis : ℕ = catenated_axis a b name in
    let rank : ℕ = catenated_rank a b in
    let large : Bool = is_some (shape_fault (catenated_shape a b axis)) in
    let faults : Faults = record (catenate_faults a b name) { too_large = large } in
    let done = no_report (first_report faults) (catenated a b axis) r e in
    let sound = nothing_is_wrong faults (sym done.0) in
    let some : 0 < rank = omega arith in
    let parts = parts_of a b name axis (not_reported (catenate_faults a b name) large (sym done.0)) refl in
    let long = span_of a.shape rank axis + span_of b.shape rank axis in record {
      is = done.1;
      inside = axis_inside rank Last name some sound.index;
      clash = sound.domain;
      rank = rank_of_join a b axis (catenated_shape a b axis) refl;
      first = part_of_join a.shape (vector_shape (greater_shape a.shape b.shape)) rank axis long parts.0;
      second = part_of_join b.shape (vector_shape (greater_shape a.shape b.shape)) rank axis long parts.1;
    }

-- its shape is that of the array of greater rank, as long along the axis as both
pub join_shape : (a b r : PlainArray) (name : Option ℤ) → catenate_of a b name ≡ Ok r → r.shape ≡ catenated_shape a b (catenated_axis a b name)
join_shape a b r name e = ap (λ (x : PlainArray). x.shape) (sym (is_join a b r name e).is)

-- the place among both items for coordinates of the join on A's part of the axis
first_place : (a b r : PlainArray) (name : Option ℤ) (at : List ℕ) → IsArray a → IsJoin a b r name → AreWithin (catenated_shape a b (catenated_axis a b name)) at
    → get_or at (catenated_axis a b name) 0 < span_of a.shape (catenated_rank a b) (catenated_axis a b name)
    → catenated_place (split_at (catenated_shape a b (catenated_axis a b name)) (catenated_axis a b name)) (item_count a.items) (item_count b.items)
    (span_of a.shape (catenated_rank a b) (catenated_axis a b name)) (span_of b.shape (catenated_rank a b) (catenated_axis a b name)) (place_of (catenated_shape a b (catenated_axis a b name)) at)
    ≡ place_of a.shape (cond (length a.shape == catenated_rank a b) at (without (catenated_axis a b name) at))
first_place a b r name at array join within low =
    let axis : ℕ = catenated_axis a b name in
    let rank : ℕ = catenated_rank a b in
    let shape : List ℕ = catenated_shape a b axis in
    let many = as_many_within shape at within in
    let inside : axis < length shape = let on = join.inside in let same = join.rank in omega arith in
    let before = within_take shape at axis within in
    let behind = within_drop shape at (axis + 1) within in
    let along : get_or at axis 0 < get_or shape axis 0 = each_within shape at axis within inside in
    let on : IsOnPart a.shape shape rank axis at = record { many = many ∙ join.rank; before = before; along = low; behind = behind } in
    catenated_at (split_at shape axis) (item_count a.items) (item_count b.items) (span_of a.shape rank axis) (span_of b.shape rank axis) (place_of (take axis shape) (take axis at)) (get_or at axis 0)
    (place_of (drop (axis + 1) shape) (drop (axis + 1) at)) (place_of shape at) along (place_of_below (drop (axis + 1) shape) (drop (axis + 1) at) behind) (place_split shape at axis many inside)
    ∙ in_first (place_of (take axis shape) (take axis at)) (get_or at axis 0) (place_of (drop (axis + 1) shape) (drop (axis + 1) at)) (stride_of shape axis) (item_count a.items) (item_count b.items) (span_of a.shape rank axis)
    (span_of b.shape rank axis) _ low refl
    ∙ place_on_part a shape rank axis at array join.inside join.first on

pub first_stands : (a b r : PlainArray) (name : Option ℤ) (at : List ℕ) (item : Item) → IsArray a → catenate_of a b name ≡ Ok r → AreWithin r.shape at
    → get_or at (catenated_axis a b name) 0 < span_of a.shape (catenated_rank a b) (catenated_axis a b name)
    → IsItemOfPart a (catenated_rank a b) (catenated_axis a b name) at item → IsItemOf r.items (place_of r.shape at) item
first_stands a b r name at item array e within low there =
    let axis : ℕ = catenated_axis a b name in
    let rank : ℕ = catenated_rank a b in
    let shape : List ℕ = catenated_shape a b axis in
    let join = is_join a b r name e in
    let source : ℕ → Option ℕ = λ place. Some (catenated_place (split_at shape axis) (item_count a.items) (item_count b.items) (span_of a.shape rank axis) (span_of b.shape rank axis) place) in
    subst (λ (x : PlainArray). AreWithin x.shape at → IsItemOf x.items (place_of x.shape at) item) join.is
    (λ here. moved_item (both_items a.items b.items) item (element_count shape) (place_of shape at) (place_of a.shape (cond (length a.shape == rank) at (without axis at))) source (place_of_below shape at here)
    (ap (λ (n : ℕ). Some n) (first_place a b r name at array join here low)) (item_of_first a.items b.items _ item join.clash there)) within

-- and on B's
second_place : (a b r : PlainArray) (name : Option ℤ) (at : List ℕ) → IsArray b → IsJoin a b r name → AreWithin (catenated_shape a b (catenated_axis a b name)) at
    → span_of a.shape (catenated_rank a b) (catenated_axis a b name) ≤ get_or at (catenated_axis a b name) 0
    → catenated_place (split_at (catenated_shape a b (catenated_axis a b name)) (catenated_axis a b name)) (item_count a.items) (item_count b.items)
    (span_of a.shape (catenated_rank a b) (catenated_axis a b name)) (span_of b.shape (catenated_rank a b) (catenated_axis a b name)) (place_of (catenated_shape a b (catenated_axis a b name)) at)
    ≡ item_count a.items
    + place_of b.shape (cond (length b.shape == catenated_rank a b) (set at (catenated_axis a b name) (get_or at (catenated_axis a b name) 0 - span_of a.shape (catenated_rank a b) (catenated_axis a b name)))
    (without (catenated_axis a b name) (set at (catenated_axis a b name) (get_or at (catenated_axis a b name) 0 - span_of a.shape (catenated_rank a b) (catenated_axis a b name)))))
second_place a b r name at array join within past =
    let axis : ℕ = catenated_axis a b name in
    let rank : ℕ = catenated_rank a b in
    let shape : List ℕ = catenated_shape a b axis in
    let span : ℕ = span_of a.shape rank axis in
    let rest : ℕ = get_or at axis 0 - span in
    let back : List ℕ = set at axis rest in
    let many = as_many_within shape at within in
    let inside : axis < length shape = let on = join.inside in let same = join.rank in omega arith in
    let before = within_take shape at axis within in
    let behind = within_drop shape at (axis + 1) within in
    let along : get_or at axis 0 < get_or shape axis 0 = each_within shape at axis within inside in
    let long = long_of_join a b axis shape refl join.inside in
    let front_same : take axis back ≡ take axis at = take-set at axis rest in
    let back_same : drop (axis + 1) back ≡ drop (axis + 1) at = drop-set-lt (axis + 1) at axis rest (omega arith) in
    let here : get_or back axis 0 ≡ rest = get_or-set_same at axis rest 0 (omega arith) in
    let low : get_or back axis 0 < span_of b.shape rank axis = omega arith in
    let on : IsOnPart b.shape shape rank axis back = record {
      many = length-set at axis rest ∙ many ∙ join.rank;
      before = subst (λ (xs : List ℕ). AreWithin (take axis shape) xs) (sym front_same) before;
      along = low;
      behind = subst (λ (xs : List ℕ). AreWithin (drop (axis + 1) shape) xs) (sym back_same) behind;
    } in
    let outer : ℕ = place_of (take axis shape) (take axis at) in
    let inner : ℕ = place_of (drop (axis + 1) shape) (drop (axis + 1) at) in
    let split : get_or at axis 0 ≡ span + rest = omega arith in
    catenated_at (split_at shape axis) (item_count a.items) (item_count b.items) span (span_of b.shape rank axis) outer (get_or at axis 0) inner (place_of shape at) along
    (place_of_below (drop (axis + 1) shape) (drop (axis + 1) at) behind) (place_split shape at axis many inside)
    ∙ in_second outer (get_or at axis 0) inner (stride_of shape axis) (item_count a.items) (item_count b.items) span (span_of b.shape rank axis) _ rest split refl
    ∙ ap (λ (xs : List ℕ). item_count a.items + place_in (item_count b.items) ((place_of (take axis shape) xs * span_of b.shape rank axis + rest) * stride_of shape axis + inner)) (sym front_same)
    ∙ ap (λ (xs : List ℕ). item_count a.items
    + place_in (item_count b.items) ((place_of (take axis shape) (take axis back) * span_of b.shape rank axis + rest) * stride_of shape axis + place_of (drop (axis + 1) shape) xs)) (sym back_same)
    ∙ ap (λ (n : ℕ). item_count a.items
    + place_in (item_count b.items) ((place_of (take axis shape) (take axis back) * span_of b.shape rank axis + n) * stride_of shape axis + place_of (drop (axis + 1) shape) (drop (axis + 1) back))) (sym here)
    ∙ ap (λ (n : ℕ). item_count a.items + n) (place_on_part b shape rank axis back array join.inside join.second on)

pub second_stands : (a b r : PlainArray) (name : Option ℤ) (at : List ℕ) (item : Item) → IsArray b → catenate_of a b name ≡ Ok r → AreWithin r.shape at
    → span_of a.shape (catenated_rank a b) (catenated_axis a b name) ≤ get_or at (catenated_axis a b name) 0
    → IsItemOfPart b (catenated_rank a b) (catenated_axis a b name) (set at (catenated_axis a b name) (get_or at (catenated_axis a b name) 0 - span_of a.shape (catenated_rank a b) (catenated_axis a b name))) item
    → IsItemOf r.items (place_of r.shape at) item
second_stands a b r name at item array e within past there =
    let axis : ℕ = catenated_axis a b name in
    let rank : ℕ = catenated_rank a b in
    let shape : List ℕ = catenated_shape a b axis in
    let join = is_join a b r name e in
    let back : List ℕ = set at axis (get_or at axis 0 - span_of a.shape rank axis) in
    let source : ℕ → Option ℕ = λ place. Some (catenated_place (split_at shape axis) (item_count a.items) (item_count b.items) (span_of a.shape rank axis) (span_of b.shape rank axis) place) in
    subst (λ (x : PlainArray). AreWithin x.shape at → IsItemOf x.items (place_of x.shape at) item) join.is
    (λ here. moved_item (both_items a.items b.items) item (element_count shape) (place_of shape at) (item_count a.items + place_of b.shape (cond (length b.shape == rank) back (without axis back))) source
    (place_of_below shape at here) (ap (λ (n : ℕ). Some n) (second_place a b r name at array join here past)) (item_of_second a.items b.items _ item join.clash there)) within
