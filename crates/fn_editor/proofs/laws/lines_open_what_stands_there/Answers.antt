use Rattle.fn_editor.proofs.OpeningLaw.{line_opens, opens_line}
use Rattle.fn_editor.proofs.laws.lines_open_what_stands_there.Goals as goal

pub returns : goal.returns
returns c = λ w line done. (line_opens w line done, opens_line w line done)
