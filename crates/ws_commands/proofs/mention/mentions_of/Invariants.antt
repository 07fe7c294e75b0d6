use Rattle.std.proofs.Common.{◌≡◌, ◌++◌, ℕ, List, drop, take}
use Rattle.std.specs.BTreeSet as set
use Rattle.std.specs.List.{list_any}
use Rattle.apl_arrays.specs.Name.{name_order, same_name}
use Rattle.ws_commands.specs.Mention.{mentions_behind, mentions_of}
use Rattle.ws_commands.proofs.mention.mentions_of.Given as goal

-- the mentions so far, and those to come are all; the set has the names so far
abbrev pub invariant-loop-name : goal.invariant-loop-name
invariant-loop-name l = record {
  so : l.mentions.items ++ mentions_behind (take l.name-index l.names) (drop l.name-index l.names) ≡ mentions_of l.names;
  has : (name : List ℕ) → set.contains name_order l.mentioned name ≡ list_any (same_name name) (take l.name-index l.names);
}
