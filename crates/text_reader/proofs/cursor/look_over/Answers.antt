use Rattle.std.proofs.Common.{subst, arith}
use Rattle.apl_arrays.specs.Glyph.{IsGlyph}
use Rattle.line_text.proofs.AllMore.{all_more}
use Rattle.text_reader.proofs.cursor.look_over.Goals as goal

pub loop-glyph-preserved : goal.loop-glyph-preserved
loop-glyph-preserved c =
    all_more IsGlyph c.args.line.now c.loop-glyph.glyph-index c.glyph-item.result (omega arith) c.glyph-item.is (subst IsGlyph c.code-code.ensures.value c.code-code.ensures.glyph) c.loop-glyph.invariant
