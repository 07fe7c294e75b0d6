use Rattle.sv_text.proofs.SameValues.{same_text}
use Rattle.sv_text.proofs.writing.a_text_tells_its_array.Goals as goal

pub returns : goal.returns
returns c = same_text
