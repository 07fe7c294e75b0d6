use Rattle.std.proofs.Common.{◌≡◌, ◌-◌, []}
use Rattle.ws_codec.specs.Kept.{workspace_of}
use Rattle.ws_codec.specs.Objects.{last_name, read_next_object}
use Rattle.ws_codec.specs.Reading.{repeated}
use Rattle.ws_codec.proofs.objects.read_counted.Given as goal

abbrev pub invariant-loop : goal.invariant-loop
invariant-loop l = record {
  value : repeated read_next_object (l.count - l.counter) l.ws.globals l.cursor ≡ repeated read_next_object l.count [] l.fn.cursor;
  plain : l.ws ≡ workspace_of l.ws.globals;
  last : l.before ≡ last_name l.ws.globals;
}
