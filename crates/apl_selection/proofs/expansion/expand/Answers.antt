use Rattle.apl_items.proofs.AnswerLemmas.{answers_at_all}
use Rattle.apl_selection.specs.Expansion.{expand_of}
use Rattle.apl_selection.proofs.WantLemmas.{first_on_want}
use Rattle.apl_selection.proofs.expansion.expand.Goals as goal

pub returns-in-None-clause-answer : goal.returns-in-None-clause-answer
returns-in-None-clause-answer c = answers_at_all c.expanded.result (expand_of c.args.a.now c.args.b.now c.args.way c.args.axis) c.expanded.ensures

pub returns-in-None-clause-memory : goal.returns-in-None-clause-memory
returns-in-None-clause-memory c = first_on_want c.expanded.result (expand_of c.args.a.now c.args.b.now c.args.way c.args.axis) c.expanded.ensures
