use Rattle.std.specs.Prelude.{◌==◌, ◌||◌, ℕ, ℤ, Option, Some, Ok, Err, length, if◌then◌else◌}
use Rattle.apl_arrays.specs.declared.items.Item.{Item}
use Rattle.apl_arrays.specs.declared.report.Report.TheVariants.{Index}
use Rattle.apl_verbs.specs.declared.verb.Dyad.{Dyad}
use Rattle.apl_arrays.specs.declared.way.Way.{Way}
use Rattle.apl_arrays.specs.Array.{PlainArray, PlainItems, element_count}
use Rattle.apl_items.specs.declared.shapes.Split.{Split}
use Rattle.apl_items.specs.Answers.{ArrayResult}
use Rattle.apl_items.specs.Shapes.{along_of, inner_of, outer_of, place_along, split_at}
use Rattle.apl_items.specs.Axis.{axis_of, lacks_axis}
use Rattle.operator_rules.specs.Gathering.{gathered}
use Rattle.operator_rules.specs.Reduction.{item_in, joined_by, reduction}

-- the item somewhere along the axis, on the line of a place
abbrev pub item_beside : PlainItems → Split → ℕ → ℕ → Option Item
item_beside items split place along = Some (item_in items (place_along split (outer_of split place) along (inner_of split place)))

-- the item of a scan at a place: the reduction of the items of its line, from the first up to the one at the place
abbrev pub scanned_at : Dyad → PlainItems → Split → ℕ → Option Item
scanned_at f items split place = reduction (joined_by f) (item_beside items split place) 0 (along_of split place)

-- the scan along an axis, place by place
abbrev pub scanned : Dyad → PlainArray → ℕ → ArrayResult
scanned f b axis = gathered b.shape (scanned_at f b.items (split_at b.shape axis))

-- the scan of B along the last axis, the first or K; a scalar, and an array without items, is unchanged
abbrev pub scan_of : Dyad → PlainArray → Way → Option ℤ → ArrayResult
scan_of f b way axis =
    let rank = length b.shape in
    if lacks_axis rank axis then Err Index
    else if rank == 0 || element_count b.shape == 0 then Ok b
    else scanned f b (axis_of rank way axis)
