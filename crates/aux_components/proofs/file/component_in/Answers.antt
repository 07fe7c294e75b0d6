use Rattle.std.proofs.Common.{◌≡◌}
use Rattle.sv_text.specs.ValueText.{array_text}
use Rattle.aux_components.proofs.FileLemmas.{spelled, spells_text}
use Rattle.aux_components.proofs.file.component_in.Goals as goal

pub returns-in-Ok : goal.returns-in-Ok
returns-in-Ok c = spelled c.args.line.now c.in-Ok.glyphs.items c.in-Ok.ensures.line c.array_in.result c.array_in.ensures

pub returns-in-Err-BadGlyph : goal.returns-in-Err-BadGlyph
returns-in-Err-BadGlyph c array value same =
    absurd (cc (c.in-Err-BadGlyph.ensures.only_line (array_text array) (spells_text c.args.line.now array value same)))
