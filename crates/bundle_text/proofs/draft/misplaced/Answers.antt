use Rattle.bundle_text.specs.declared.refused.BundleRule.TheVariants.{Place}
use Rattle.std.proofs.Common.{◌+◌}
use Rattle.bundle_text.proofs.Steps.{here, glyph_first}
use Rattle.bundle_text.proofs.draft.misplaced.Goals as goal

pub returns-in-Ok : goal.returns-in-Ok
returns-in-Ok c = here c.args.text.now c.in-Ok.ensures.0 (c.args.offset + 1) c.args.offset Place c.malformed.result c.malformed.ensures c.in-Ok.ensures.1

pub returns-in-Err : goal.returns-in-Err
returns-in-Err c = glyph_first c.args.text.now (c.args.offset + 1) c.args.offset Place c.in-Err.why c.in-Err.ensures
