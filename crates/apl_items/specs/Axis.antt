use Rattle.std.specs.Prelude.{◌+◌, ◌-◌, ◌++◌, ◌||◌, ◌==◌, ℕ, ℤ, Bool, false, List, Option, Some, None, drop, nat_lt, take, unsigned_abs}
use Rattle.std.specs.Int.{is_negative}
use Rattle.apl_arrays.specs.declared.way.Way.{Way}
use Rattle.apl_arrays.specs.declared.way.Way.TheVariants.{Last, First}

-- a K is given that is not from 1 to the rank
abbrev pub lacks_axis : ℕ → Option ℤ → Bool
lacks_axis rank None = false
lacks_axis rank (Some k) = is_negative k || unsigned_abs k == 0 || nat_lt rank (unsigned_abs k)

-- the last axis or the first
abbrev pub end_axis : ℕ → Way → ℕ
end_axis rank Last = rank - 1
end_axis rank First = 0

-- a shape without one of its axes
abbrev pub without : ℕ → List ℕ → List ℕ
without axis shape = take axis shape ++ drop (axis + 1) shape

-- the axis that a function works along: the one that K names, else the last or the first
abbrev pub axis_of : ℕ → Way → Option ℤ → ℕ
axis_of rank way None = end_axis rank way
axis_of rank way (Some k) = unsigned_abs k - 1
