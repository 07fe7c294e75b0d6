use Rattle.line_text.proofs.SameLines.{same_lines}
use Rattle.line_text.proofs.lines.a_text_tells_its_lines.Goals as goal

pub returns : goal.returns
returns c = same_lines
