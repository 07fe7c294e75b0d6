use Rattle.line_text.proofs.SameNumbers.{number_told}
use Rattle.line_text.proofs.number.a_text_tells_its_number.Goals as goal

pub returns : goal.returns
returns c = number_told
