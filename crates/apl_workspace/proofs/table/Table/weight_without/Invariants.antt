use Rattle.std.proofs.Common.{◌≡◌, ℕ, List, take}
use Rattle.std.specs.BTreeSet as set
use Rattle.std.specs.List.{list_any}
use Rattle.apl_workspace.specs.Meaning.{table_weight, without_names}
use Rattle.apl_arrays.specs.Name.{name_order, same_name}
use Rattle.apl_workspace.proofs.table.Table.weight_without.Given as goal

-- the set has the names so far, and the weight is what is left without them
abbrev pub invariant-loop-name : goal.invariant-loop-name
invariant-loop-name l = record {
  names : (name : List ℕ) → set.contains name_order l.gone name ≡ list_any (same_name name) (take l.name-index l.names);
  weight : l.weight ≡ table_weight (without_names l.self (take l.name-index l.names));
}
