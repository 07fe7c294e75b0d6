use Rattle.auxiliaries.specs.File.{lines_in}
use Rattle.auxiliaries.proofs.Lines.{same_lines}
use Rattle.auxiliaries.proofs.laws.files_are_read_in_one_way.Goals as goal

pub returns : goal.returns
returns c = λ bytes lines other a b. same_lines c.texts_are_read_in_one_way.ensures.one_line (lines_in bytes) lines other a.each b.each
