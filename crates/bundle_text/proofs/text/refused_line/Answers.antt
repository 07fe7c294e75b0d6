use Rattle.bundle_text.proofs.Steps.{here, glyph_first}
use Rattle.bundle_text.proofs.text.refused_line.Goals as goal

pub returns-in-Ok : goal.returns-in-Ok
returns-in-Ok c = here c.args.line.now c.in-Ok.ensures.0 c.args.offset c.args.offset c.args.rule c.malformed.result c.malformed.ensures c.in-Ok.ensures.1

pub returns-in-Err : goal.returns-in-Err
returns-in-Err c = glyph_first c.args.line.now c.args.offset c.args.offset c.args.rule c.in-Err.why c.in-Err.ensures
