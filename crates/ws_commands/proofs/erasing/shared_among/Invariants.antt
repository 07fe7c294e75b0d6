use Rattle.std.proofs.Common.{◌≡◌, take, filter}
use Rattle.ws_commands.specs.Todo.{is_among}
use Rattle.ws_commands.proofs.erasing.shared_among.Given as goal

-- those of the shared names so far that are among these
abbrev pub invariant-loop-name : goal.invariant-loop-name
invariant-loop-name l = l.list.items ≡ filter (is_among l.names) (take l.name-index l.name-items)
