use Rattle.std.proofs.Common.{arith}
use Rattle.line_text.proofs.Sizes.{size_more}
use Rattle.line_text.proofs.size.line_size.Goals as goal

pub loop-glyph-preserved : goal.loop-glyph-preserved
loop-glyph-preserved c = record {
  size = size_more c.args.line.now c.loop-glyph.glyph-index c.glyph-item.result c.loop-glyph.size c.glyph_size-size.result (omega arith) c.glyph-item.is c.loop-glyph.invariant.size c.glyph_size-size.ensures.value;
  small = omega arith;
}
