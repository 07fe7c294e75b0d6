use Rattle.std.proofs.Common.{subst, arith}
use Rattle.std.proofs.lemmas.Grind.{common_steps}
use Rattle.std.proofs.lemmas.List.Elements.{All-more}
use Rattle.apl_arrays.specs.Glyph.{IsGlyph}
use Rattle.apl_arrays.proofs.text.add_utf8.Goals as goal

pub loop-glyph-preserved : goal.loop-glyph-preserved
loop-glyph-preserved c = record {
  glyphs = All-more IsGlyph c.args.line.now c.loop-glyph.glyph-index c.glyph-item.result (omega arith) c.loop-glyph.invariant.glyphs (subst IsGlyph c.glyph-item.is c.in_ok-add_glyph.ensures.glyph);
  room = omega (arith, c.loop-glyph.invariant.room, c.in_ok-add_glyph.ensures.len, c.in_ok-add_glyph.ensures.capacity);
  text = grind (arith, common_steps);
}
