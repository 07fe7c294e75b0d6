use Rattle.std.proofs.Common.{arith}
use Rattle.std.proofs.lemmas.Grind.{common_steps}
use Rattle.apl_arrays.specs.Glyph.{IsGlyph}
use Rattle.line_text.proofs.AllMore.{all_more}
use Rattle.sv_text.proofs.writing.add_chars.Goals as goal

pub loop-glyph-preserved : goal.loop-glyph-preserved
loop-glyph-preserved c = record {
  text = grind (arith, common_steps);
  printable = all_more IsGlyph c.args.glyphs.now c.loop-glyph.glyph-index c.glyph-item.result (omega arith) c.glyph-item.is c.add_char.ensures.printable c.loop-glyph.invariant.printable;
}
