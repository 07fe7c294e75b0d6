use Rattle.std.specs.Prelude.{[], ◌∷◌}
use Rattle.apl_arrays.specs.Array.{PlainArray, PlainItems, item_count}

-- items as a vector
abbrev pub as_vector : PlainItems → PlainArray
as_vector items = record { shape = item_count items ∷ []; items = items }
