use Rattle.std.specs.Prelude.{ℤ, [], ◌∷◌}
use Rattle.apl_arrays.specs.List.{Listed}
use Rattle.apl_arrays.specs.declared.numbers.Kept.{Kept}
use Rattle.apl_arrays.specs.declared.numbers.Kept.TheVariants.{One, List}

-- kept numbers as a list and the room that is left in it: a lone number that stands in place leaves none
abbrev pub listed_numbers : Kept → Listed ℤ
listed_numbers (One number) = record { items = number ∷ []; room = 0 }
listed_numbers (List list) = list
