use Rattle.std.proofs.Common.{◌≡◌, take}
use Rattle.apl_workspace.specs.Workspace.{without_globals}
use Rattle.ws_commands.proofs.finishing.erase_all.Given as goal

-- the names so far are gone
abbrev pub invariant-loop-name : goal.invariant-loop-name
invariant-loop-name l = l.ws ≡ without_globals l.fn.ws (take l.name-index l.names)
