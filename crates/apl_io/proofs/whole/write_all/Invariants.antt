use Rattle.std.proofs.Common.{◌≡◌, ◌≤◌, ◌-◌, length, take}
use Rattle.std.specs.Io.KnownBytes.{Appends}
use Rattle.apl_io.proofs.whole.write_all.Given as goal

abbrev pub invariant-loop-taken : goal.invariant-loop-taken
invariant-loop-taken g l = record {
  within : l.taken ≤ length l.bytes;
  held : Appends (g.W.Sink.held l.initial.sink) (g.W.Sink.held l.sink) (take l.taken l.bytes);
  counted : g.W.Sink.faults l.initial.sink ≤ g.W.Sink.faults l.sink;
  idle : l.taken ≡ 0 → l.sink ≡ l.initial.sink;
}

abbrev pub decreases-loop-taken : goal.decreases-loop-taken
decreases-loop-taken g l = length l.bytes - l.taken
