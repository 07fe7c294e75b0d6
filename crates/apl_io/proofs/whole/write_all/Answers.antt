use Rattle.std.proofs.Common.{arith}
use Rattle.apl_io.proofs.Streams.{Appends-take_add}
use Rattle.apl_io.proofs.whole.write_all.Goals as goal

pub loop-taken-preserved : goal.loop-taken-preserved
loop-taken-preserved g c = record {
  within = omega (arith, c.in_ok-taken.ensures.count);
  held = Appends-take_add _ _ _ c.args.bytes.now c.loop-taken.taken c.in_ok-taken.field-0 c.loop-taken.invariant.held c.in_ok-taken.ensures.bytes;
  counted = omega arith;
  idle = λ none. absurd (omega (arith, c.in_ok-taken.ensures.some));
}
