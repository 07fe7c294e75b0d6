use Rattle.std.proofs.Common.{◌≡◌, ℕ, List, take}
use Rattle.std.specs.List.{list_any}
use Rattle.std.specs.BTreeSet as set
use Rattle.apl_arrays.specs.Name.{name_order, same_name}
use Rattle.apl_execute.specs.Merge.{each_once}
use Rattle.apl_execute.proofs.merging.each_once.Given as goal

-- the names so far, each once, and the set has them and no others
abbrev pub invariant-loop-name : goal.invariant-loop-name
invariant-loop-name l = record {
  once : l.list.items ≡ each_once (take l.name-index l.names);
  has : (name : List ℕ) → set.contains name_order l.mentioned name ≡ list_any (same_name name) l.list.items;
}
