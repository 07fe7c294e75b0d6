use Rattle.std.proofs.Common.{◌≡◌, ◌-◌, []}
use Rattle.ws_codec.specs.Reading.{repeated}
use Rattle.ws_codec.specs.Values.{read_next_axis}
use Rattle.ws_codec.proofs.values.read_axes.Given as goal

abbrev pub invariant-loop : goal.invariant-loop
invariant-loop l = repeated read_next_axis (l.rank - l.counter) l.axes.items l.cursor ≡ repeated read_next_axis l.rank [] l.fn.cursor
