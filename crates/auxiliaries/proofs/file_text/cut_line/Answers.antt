use Rattle.std.proofs.Common.{ap, ◌∙◌}
use Rattle.auxiliaries.specs.File.{lines_in}
use Rattle.auxiliaries.proofs.Lines.{ended, unended}
use Rattle.auxiliaries.proofs.file_text.cut_line.Goals as goal

pub returns-in-Some-clause-lines : goal.returns-in-Some-clause-lines
returns-in-Some-clause-lines c = ap lines_in c.in-Some.ensures.0 ∙ ended c.in-Some.line.now c.in-Some.behind.now c.in-Some.ensures.1

pub returns-in-None-clause-lines : goal.returns-in-None-clause-lines
returns-in-None-clause-lines c = unended c.args.bytes.now c.requires c.in-None.ensures
