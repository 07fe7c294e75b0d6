use Rattle.std.proofs.Common.{◌≡◌, ◌++◌, take, flat_map}
use Rattle.ws_commands.specs.Library.{left_out}
use Rattle.ws_commands.proofs.copying.add_all.Given as goal

-- the lines of the mentions so far stand behind those that were there
abbrev pub invariant-loop-mention : goal.invariant-loop-mention
invariant-loop-mention l = l.lines.items ≡ l.fn.lines.items ++ flat_map (left_out l.ws l.from) (take l.mention-index l.mention-items)
