use Rattle.std.specs.Prelude.{◌&&◌, ℕ, Bool, List, Option, Some, None, length, nat_lt, nat_le, if◌then◌else◌}
use Rattle.std.specs.List.{list_all}
use Rattle.apl_arrays.specs.Array.{element_count}
use Rattle.apl_arrays.specs.Limits.{most_axes, most_elements}
use Rattle.apl_arrays.specs.declared.array.ShapeFault.{ShapeFault}
use Rattle.apl_arrays.specs.declared.array.ShapeFault.TheVariants.{Rank, Size}

-- no more elements than an array may have
abbrev pub is_small : ℕ → Bool
is_small count = nat_le count most_elements

-- why an array of this shape would pass the limits, if it would: too many axes, else an axis or a product that is too large
abbrev pub shape_fault : List ℕ → Option ShapeFault
shape_fault shape =
    if nat_lt most_axes (length shape) then Some Rank
    else if list_all is_small shape && is_small (element_count shape) then None
    else Some Size
