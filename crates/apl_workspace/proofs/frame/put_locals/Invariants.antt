use Rattle.std.proofs.Common.{◌≡◌, fold, take}
use Rattle.apl_workspace.specs.Frame.{with_local_name}
use Rattle.apl_workspace.proofs.frame.put_locals.Given as goal

-- the local names so far are in
abbrev pub invariant-loop-name : goal.invariant-loop-name
invariant-loop-name l = l.names ≡ fold with_local_name l.fn.names (take l.name-index l.locals)
