use Rattle.apl_items.proofs.AnswerLemmas.{answers_at_all}
use Rattle.apl_selection.proofs.WantLemmas.{first_on_want}
use Rattle.apl_structure.specs.Taking.{take_of}
use Rattle.apl_structure.proofs.taking.take.Goals as goal

pub returns-in-None-clause-answer : goal.returns-in-None-clause-answer
returns-in-None-clause-answer c = answers_at_all c.taken.result (take_of c.args.a.now c.args.b.now) c.taken.ensures

pub returns-in-None-clause-memory : goal.returns-in-None-clause-memory
returns-in-None-clause-memory c = first_on_want c.taken.result (take_of c.args.a.now c.args.b.now) c.taken.ensures
