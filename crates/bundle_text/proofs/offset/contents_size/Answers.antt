use Rattle.std.proofs.Common.{length, ap, ◌∙◌, arith}
use Rattle.apl_arrays.specs.List.{glyphs_in}
use Rattle.line_text.specs.Lines.{line_text}
use Rattle.bundle_text.specs.Rules.{IsContent}
use Rattle.bundle_text.proofs.Offsets.{content_more, each_at}
use Rattle.bundle_text.proofs.offset.contents_size.Goals as goal

pub line_size-requires : goal.line_size-requires
line_size-requires c =
    let line = each_at IsContent glyphs_in c.args.lines.now c.loop-line.line-index c.line-item.result (omega arith) c.line-item.is c.requires.each in
    omega (arith, line.short, ap length c.as_slice.ensures)

pub overflow_add-size : goal.overflow_add-size
overflow_add-size c =
    let line = each_at IsContent glyphs_in c.args.lines.now c.loop-line.line-index c.line-item.result (omega arith) c.line-item.is c.requires.each in
    omega (arith, line.short, ap length c.as_slice.ensures, c.line_size.ensures.small)

pub overflow_add-size-in-loop-line : goal.overflow_add-size-in-loop-line
overflow_add-size-in-loop-line c =
    let line = each_at IsContent glyphs_in c.args.lines.now c.loop-line.line-index c.line-item.result (omega arith) c.line-item.is c.requires.each in
    omega (arith, line.short, ap length c.as_slice.ensures, c.line_size.ensures.small, c.loop-line.invariant.small, c.requires.few)

pub loop-line-preserved : goal.loop-line-preserved
loop-line-preserved c =
    let line = each_at IsContent glyphs_in c.args.lines.now c.loop-line.line-index c.line-item.result (omega arith) c.line-item.is c.requires.each in
    record {
      size = content_more glyphs_in c.args.lines.now c.loop-line.line-index c.line-item.result c.loop-line.size c.line_size.result (omega arith) c.line-item.is c.loop-line.invariant.size (c.line_size.ensures.value ∙ ap (λ items. length (line_text items)) c.as_slice.ensures);
      small = omega (arith, line.short, ap length c.as_slice.ensures, c.line_size.ensures.small, c.loop-line.invariant.small);
    }
