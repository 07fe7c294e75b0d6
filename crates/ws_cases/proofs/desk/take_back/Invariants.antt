use Rattle.std.proofs.Common.{◌≡◌, drop}
use Rattle.ws_commands.specs.Todo.{given_up, plain_change}
use Rattle.ws_cases.proofs.desk.take_back.Given as goal

-- the names that are left are still given up, and no glyph was printed
abbrev pub invariant-loop-name : goal.invariant-loop-name
invariant-loop-name l = record {
  left : given_up (plain_change l.change) l.ws ≡ drop l.name-index l.names;
  printed : l.ws.printed ≡ l.fn.ws.printed;
}
