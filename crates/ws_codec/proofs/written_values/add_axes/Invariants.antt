use Rattle.std.proofs.Common.{◌≡◌, ◌++◌, take}
use Rattle.std.specs.List.{flat_map}
use Rattle.byteorder.specs.Endian.{big_bytes}
use Rattle.ws_codec.proofs.written_values.add_axes.Given as goal

abbrev pub invariant-loop-axis : goal.invariant-loop-axis
invariant-loop-axis l = l.bytes.items ≡ l.fn.bytes.items ++ flat_map (big_bytes 4) (take l.axis-index l.shape)
