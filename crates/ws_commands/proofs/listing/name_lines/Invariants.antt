use Rattle.std.proofs.Common.{◌≡◌, take}
use Rattle.ws_commands.proofs.listing.name_lines.Given as goal

-- the names so far
abbrev pub invariant-loop-name : goal.invariant-loop-name
invariant-loop-name l = l.lines.items ≡ take l.name-index l.names
