use Rattle.std.proofs.Common.{◌≡◌, ◌-◌, [], length}
use Rattle.ws_codec.specs.Reading.{repeated}
use Rattle.ws_codec.specs.Values.{read_next_integer}
use Rattle.ws_codec.proofs.values.read_integers.Given as goal

abbrev pub invariant-loop : goal.invariant-loop
invariant-loop l = record {
  value : repeated read_next_integer (l.count - l.counter) l.numbers.items l.cursor ≡ repeated read_next_integer l.count [] l.fn.cursor;
  count : length l.numbers.items ≡ l.counter;
}
