use Rattle.std.specs.Prelude.{pos, [], ◌∷◌, Ok, length, map}
use Rattle.apl_arrays.specs.Array.{PlainArray, numbers}
use Rattle.apl_items.specs.Answers.{ArrayResult}
use Rattle.apl_selection.specs.Vectors.{as_vector}

-- the shape of an array, as a vector
abbrev pub shape_of : PlainArray → ArrayResult
shape_of b = Ok (record { shape = length b.shape ∷ []; items = numbers (map (λ axis. pos axis) b.shape) })

-- all items of an array, as a vector
abbrev pub ravel_of : PlainArray → ArrayResult
ravel_of b = Ok (as_vector b.items)
