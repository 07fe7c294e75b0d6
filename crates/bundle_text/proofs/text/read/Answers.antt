use Rattle.bundle_text.proofs.Reading.{only_bundle, only_breaks, no_bundle}
use Rattle.bundle_text.proofs.text.read.Goals as goal

pub returns-clause-only : goal.returns-clause-only
returns-clause-only c = only_bundle c.args.bytes.now c.read_lines.result c.read_lines.ensures

pub returns-clause-only_breaks : goal.returns-clause-only_breaks
returns-clause-only_breaks c = only_breaks c.args.bytes.now c.read_lines.result c.read_lines.ensures

pub returns-clause-malformed : goal.returns-clause-malformed
returns-clause-malformed c = no_bundle c.args.bytes.now c.read_lines.result c.read_lines.ensures
