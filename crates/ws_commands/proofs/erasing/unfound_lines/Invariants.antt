use Rattle.std.proofs.Common.{◌≡◌, take, flat_map}
use Rattle.ws_commands.specs.Names.{unfound}
use Rattle.ws_commands.proofs.erasing.unfound_lines.Given as goal

-- the lines of the mentions so far
abbrev pub invariant-loop-mention : goal.invariant-loop-mention
invariant-loop-mention l = l.lines.items ≡ flat_map (unfound l.ws) (take l.mention-index l.mention-items)
