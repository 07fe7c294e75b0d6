use Rattle.std.proofs.Common.{arith}
use Rattle.std.proofs.lemmas.Grind.{common_steps}
use Rattle.std.specs.List.{All}
use Rattle.apl_arrays.proofs.Fronts.{failed, goes_behind}
use Rattle.apl_arrays.specs.Glyph.{IsGlyph}
use Rattle.apl_arrays.specs.List.{glyphs_in}
use Rattle.line_text.proofs.AllMore.{all_mapped_more}
use Rattle.line_text.proofs.lines.add_contents.Goals as goal

pub loop-line-preserved : goal.loop-line-preserved
loop-line-preserved c = record {
  text = grind (arith, common_steps);
  printable = all_mapped_more (λ line. All IsGlyph line) glyphs_in c.args.lines.now c.loop-line.line-index c.line-item.result (omega arith) c.line-item.is c.in_ok-add_content.ensures.printable c.loop-line.invariant.printable;
}

pub returns-in_err-add_content-clause-front : goal.returns-in_err-add_content-clause-front
returns-in_err-add_content-clause-front c = failed c.from_residual.result _ _ (goes_behind _ _ _ _ c.loop-line.invariant.text c.in_err-add_content.ensures.front)
