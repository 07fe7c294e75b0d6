use Rattle.std.specs.Prelude.{◌≡◌, ℕ, ℤ, List, [], ◌∷◌, Option, Some, None}
use Rattle.apl_arrays.specs.Array.{PlainArray, PlainItems, numbers, scalar}
use Rattle.apl_arrays.specs.declared.array.Storage.{Storage}
use Rattle.apl_arrays.specs.declared.array.Storage.TheVariants.{Lone, Apart}

-- the number of which a shape and items are the scalar
abbrev pub lone_number : List ℕ → PlainItems → Option ℤ
lone_number [] (numbers (number ∷ [])) = Some number
lone_number _ _ = None

-- a stored array as plain data: a lone number is its scalar
abbrev pub stored : Storage → PlainArray
stored (Lone number) = scalar number
stored (Apart shaped) = shaped.value

-- no scalar of a number stands apart
abbrev pub IsStored : Storage → Type 0
IsStored (Lone number) = Unit {0}
IsStored (Apart shaped) = lone_number shaped.value.shape shaped.value.items ≡ None
