use Rattle.std.proofs.Common.{◌≡◌, ℕ, List, true, take}
use Rattle.std.specs.List.{list_any}
use Rattle.std.specs.BTreeSet as set
use Rattle.apl_arrays.specs.Name.{name_order, same_name}
use Rattle.apl_workspace.specs.Names.{all_differ}
use Rattle.apl_workspace.proofs.header.all_differ.Given as goal

-- the names so far differ, and the set has them and no others
abbrev pub invariant-loop-name : goal.invariant-loop-name
invariant-loop-name l = record {
  differ : all_differ (take l.name-index l.names) ≡ true;
  has : (name : List ℕ) → set.contains name_order l.seen name ≡ list_any (same_name name) (take l.name-index l.names);
}
