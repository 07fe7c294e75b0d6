use Rattle.std.proofs.Common.{map}
use Rattle.apl_arrays.specs.List.{glyphs_in}
use Rattle.auxiliaries.proofs.Lines.{short_lines}
use Rattle.auxiliaries.proofs.text_aux.read_result.Goals as goal

pub returns-in-Some-clause-short : goal.returns-in-Some-clause-short
returns-in-Some-clause-short c =
    short_lines c.as_slice.result.now (map glyphs_in c.in-Some.lines.items) (rw c.in-Some.is at c.in_ok-lines-in-Ok-Some.ensures)
