use Rattle.auxiliaries.proofs.Lines.{short_behind}
use Rattle.auxiliaries.proofs.text_aux.next_line.Goals as goal

pub returns-clause-short : goal.returns-clause-short
returns-clause-short c = rw c.pop_front.ensures.rest (short_behind c.args.lines.now.items c.requires)
