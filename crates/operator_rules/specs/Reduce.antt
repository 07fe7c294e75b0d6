use Rattle.std.specs.Prelude.{◌/◌, ◌%◌, ◌==◌, ℕ, ℤ, Option, Some, Ok, Err, length, if◌then◌else◌}
use Rattle.apl_arrays.specs.declared.items.Item.{Item}
use Rattle.apl_arrays.specs.declared.report.Report.TheVariants.{Index}
use Rattle.apl_verbs.specs.declared.verb.Dyad.{Dyad}
use Rattle.apl_arrays.specs.declared.way.Way.{Way}
use Rattle.apl_arrays.specs.Array.{PlainArray, PlainItems}
use Rattle.apl_items.specs.declared.shapes.Split.{Split}
use Rattle.apl_items.specs.Answers.{ArrayResult}
use Rattle.apl_items.specs.Shapes.{place_along, split_at}
use Rattle.apl_items.specs.Axis.{axis_of, lacks_axis, without}
use Rattle.operator_rules.specs.Gathering.{gathered}
use Rattle.operator_rules.specs.Reduction.{identity_item, item_in, joined_by, reduction_of}

-- the item on a line along an axis, by the line's place in a shape without the axis
abbrev pub item_on_line : PlainItems → Split → ℕ → ℕ → Option Item
item_on_line items split line along = Some (item_in items (place_along split (line / split.inner) along (line % split.inner)))

-- the reduction of the items on a line
abbrev pub reduced_line : Dyad → PlainItems → Split → ℕ → Option Item
reduced_line f items split line = reduction_of (joined_by f) (identity_item f) (item_on_line items split line) split.along

-- the reduction along an axis, line by line
abbrev pub reduced : Dyad → PlainArray → ℕ → ArrayResult
reduced f b axis = gathered (without axis b.shape) (reduced_line f b.items (split_at b.shape axis))

-- the reduction of B along the last axis, the first or K; a scalar is unchanged
abbrev pub reduce_of : Dyad → PlainArray → Way → Option ℤ → ArrayResult
reduce_of f b way axis =
    let rank = length b.shape in
    if lacks_axis rank axis then Err Index
    else if rank == 0 then Ok b
    else reduced f b (axis_of rank way axis)
