-- Stacks, the last item first.
use Rattle.std.specs.Prelude.{List, ◌∷◌, Option, Some, None}
use Rattle.apl_arrays.specs.List.{Listed}

-- the items of a list, whatever room is left in it
abbrev pub items_in : {A : Type 0} → Listed A → List A
items_in list = list.items

-- the items of a stack, of which the last one stands apart from those below it
abbrev pub stacked : {A : Type 0} → Option A → List A → List A
stacked None below = below
stacked (Some top) below = top ∷ below
