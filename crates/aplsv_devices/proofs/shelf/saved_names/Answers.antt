use Rattle.std.proofs.Common.{◌≡◌, ℕ, List, [], ◌∷◌}
use Rattle.std.specs.List.Sorted.{IsStrictlySortedBy}
use Rattle.apl_arrays.specs.Name.{name_order}
use Rattle.aplsv_devices.proofs.shelf.saved_names.Goals as goal

no_names : (names : List (List ℕ)) → names ≡ [] → IsStrictlySortedBy name_order names
unfolding IsStrictlySortedBy
no_names [] none = tt
no_names (name ∷ names) none = absurd cc

pub returns : goal.returns
returns g c = no_names c.new.result.items c.new.ensures
