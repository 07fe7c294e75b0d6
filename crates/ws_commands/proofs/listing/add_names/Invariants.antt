use Rattle.std.proofs.Common.{◌≡◌, ◌++◌, take, flat_map}
use Rattle.ws_commands.specs.Names.{behind_blanks}
use Rattle.ws_commands.proofs.listing.add_names.Given as goal

-- the names so far stand behind two blanks each
abbrev pub invariant-loop-name : goal.invariant-loop-name
invariant-loop-name l = l.line.items ≡ l.fn.line.items ++ flat_map behind_blanks (take l.name-index l.names)
