use Rattle.std.specs.Prelude.{option_copied}
use Rattle.printed_text.proofs.Steps.{only_departs, only_output}
use Rattle.printed_text.proofs.text.read.Goals as goal

pub returns-clause-only : goal.returns-clause-only
returns-clause-only c = only_output _ c.args.text.now c.read_lines.result c.read_lines.ensures

pub returns-clause-only_departs : goal.returns-clause-only_departs
returns-clause-only_departs c = only_departs _ c.args.text.now c.read_lines.result c.read_lines.ensures
