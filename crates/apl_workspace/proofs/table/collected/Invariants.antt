use Rattle.std.proofs.Common.{◌≡◌, take, filter}
use Rattle.std.specs.Map.{keys_of}
use Rattle.apl_workspace.specs.Listing.{is_wanted}
use Rattle.apl_workspace.proofs.table.collected.Given as goal

-- the names so far are those of the entries so far
abbrev pub invariant-loop-at : goal.invariant-loop-at
invariant-loop-at l = l.list.items ≡ keys_of (filter (λ entry. is_wanted l.what entry.1) (take l.at l.names.entries))
