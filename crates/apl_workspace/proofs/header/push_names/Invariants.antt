use Rattle.std.proofs.Common.{◌≡◌, ◌++◌, take}
use Rattle.apl_workspace.proofs.header.push_names.Given as goal

-- the names so far stand at the end
abbrev pub invariant-loop-name : goal.invariant-loop-name
invariant-loop-name l = l.names.items ≡ l.fn.names.items ++ take l.name-index l.more
