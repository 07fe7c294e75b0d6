-- Places that are kept ascending.
use Rattle.std.specs.Prelude.{◌<◌, AllPairs}
use Rattle.std.specs.BTreeSet.{keys}
use Rattle.sv_offers.specs.declared.place_set.PlaceSet.TheInside.{Inside}

-- the places ascend
abbrev pub Ascends : Inside → Type 0
Ascends set = AllPairs (λ one other. one < other) (keys set.places)
