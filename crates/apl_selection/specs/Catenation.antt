use Rattle.std.specs.Prelude.{◌+◌, ◌-◌, ◌*◌, ◌&&◌, ◌||◌, ◌==◌, ◌++◌, ℕ, ℤ, Bool, not, List, Option, Some, length, max, take, drop, slice_index, slice_set, is_some, nat_lt, if◌then◌else◌}
use Rattle.std.specs.Bool.{beq}
use Rattle.std.specs.Cmp.Lexicographic.{pointwise}
use Rattle.apl_arrays.specs.declared.way.Way.TheVariants.{Last}
use Rattle.apl_arrays.specs.Array.{PlainArray, PlainItems, numbers, chars, chars_in, is_chars, item_count, numbers_in}
use Rattle.apl_arrays.specs.Shape.{shape_fault}
use Rattle.apl_items.specs.declared.shapes.Split.{Split}
use Rattle.apl_items.specs.Answers.{ArrayResult, Faults, no_faults, answer_of}
use Rattle.apl_items.specs.Extension.{place_in}
use Rattle.apl_items.specs.Moves.{moved}
use Rattle.apl_items.specs.Shapes.{along_of, inner_of, outer_of, split_at}
use Rattle.apl_items.specs.Axis.{axis_of, lacks_axis}
use Rattle.apl_selection.specs.Listing.{is_scalar, vector_shape}

-- ---- the axis along which arrays are joined

-- the rank of the join: the greater one, and 1 for two scalars
abbrev pub catenated_rank : PlainArray → PlainArray → ℕ
catenated_rank a b = max 1 (max (length a.shape) (length b.shape))

-- the axis: the one that K names, else the last
abbrev pub catenated_axis : PlainArray → PlainArray → Option ℤ → ℕ
catenated_axis a b axis = axis_of (catenated_rank a b) Last axis

-- how many places an array takes along the axis: as many as it has there, or one where it lacks the axis
abbrev pub span_of : List ℕ → ℕ → ℕ → ℕ
span_of shape rank axis = if length shape == rank then slice_index shape axis else 1

-- the axes of an array behind that axis, which it may lack
abbrev pub axes_behind : List ℕ → ℕ → ℕ → List ℕ
axes_behind shape rank axis = if length shape == rank then drop (axis + 1) shape else drop axis shape

-- two arrays have the same other axes
abbrev pub agree_around : List ℕ → List ℕ → ℕ → ℕ → Bool
agree_around a b rank axis = pointwise ◌==◌ (take axis a) (take axis b) && pointwise ◌==◌ (axes_behind a rank axis) (axes_behind b rank axis)

-- the shape of the array of greater rank
abbrev pub greater_shape : List ℕ → List ℕ → List ℕ
greater_shape a b = if nat_lt (length a) (length b) then b else a

-- the shape of the join: that of the array of greater rank, and along the axis as many places as both take
abbrev pub catenated_shape : PlainArray → PlainArray → ℕ → List ℕ
catenated_shape a b axis =
    let rank = catenated_rank a b in
    slice_set (vector_shape (greater_shape a.shape b.shape)) axis (span_of a.shape rank axis + span_of b.shape rank axis)

-- ---- its items

-- the items whose kind the join has: those of B, but of A where B alone has none
abbrev pub kind_giver : PlainItems → PlainItems → PlainItems
kind_giver a b = if item_count b == 0 && not (item_count a == 0) then a else b

-- the items of A and then those of B, of that kind; items of the other kind are none
abbrev pub both_items : PlainItems → PlainItems → PlainItems
both_items a b = if is_chars (kind_giver a b) then chars (chars_in a ++ chars_in b) else numbers (numbers_in a ++ numbers_in b)

-- the place in an array that takes so many places along the axis, for a row, a place along the axis and an item there; a scalar's
-- item stands at all of them
abbrev pub part_place : ℕ → ℕ → ℕ → ℕ → ℕ → ℕ → ℕ
part_place count span inners outer along inner = place_in count ((outer * span + along) * inners + inner)

-- the place among A's items and then B's for a place of the join: of A where it is on A's part of the axis, else of B
abbrev pub catenated_place : Split → ℕ → ℕ → ℕ → ℕ → ℕ → ℕ
catenated_place split a_count b_count a_span b_span place =
    let outer = outer_of split place in
    let along = along_of split place in
    let inner = inner_of split place in
    if nat_lt along a_span then part_place a_count a_span split.inner outer along inner
    else a_count + part_place b_count b_span split.inner outer (along - a_span) inner

-- A and B joined along an axis
abbrev pub catenated : PlainArray → PlainArray → ℕ → PlainArray
catenated a b axis =
    let rank = catenated_rank a b in
    let shape = catenated_shape a b axis in
    moved shape (both_items a.items b.items)
    (λ place. Some (catenated_place (split_at shape axis) (item_count a.items) (item_count b.items) (span_of a.shape rank axis) (span_of b.shape rank axis) place))

-- ---- what is wrong

-- neither array is a scalar, which would extend
abbrev pub are_no_scalars : PlainArray → PlainArray → Bool
are_no_scalars a b = not (is_scalar a) && not (is_scalar b)

-- one rank is the other or next to it
abbrev pub are_near : ℕ → ℕ → Bool
are_near a b = a == b || a + 1 == b || a == b + 1

-- the kinds differ, and neither array is empty
abbrev pub kinds_clash : PlainItems → PlainItems → Bool
kinds_clash a b = not (beq (is_chars a) (is_chars b)) && not (item_count a == 0) && not (item_count b == 0)

-- what is wrong with a join: two scalars have no axis to name, the ranks are near, the other axes are the same, and so are the
-- kinds, unless one array has no items
abbrev pub catenate_faults : PlainArray → PlainArray → Option ℤ → Faults
catenate_faults a b axis =
    let rank = catenated_rank a b in
    let along = catenated_axis a b axis in
    let lacks = lacks_axis rank axis in record no_faults {
      bad_rank = is_scalar a && is_scalar b && is_some axis || are_no_scalars a b && not (are_near (length a.shape) (length b.shape));
      bad_length = not lacks && are_no_scalars a b && not (agree_around a.shape b.shape rank along);
      bad_domain = kinds_clash a.items b.items;
      bad_index = lacks;
    }

-- B behind A along an axis: the one of K, or the last
abbrev pub catenate_of : PlainArray → PlainArray → Option ℤ → ArrayResult
catenate_of a b axis =
    let along = catenated_axis a b axis in
    answer_of (record (catenate_faults a b axis) { too_large = is_some (shape_fault (catenated_shape a b along)) }) (catenated a b along)
