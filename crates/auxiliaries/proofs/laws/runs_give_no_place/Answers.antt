use Rattle.auxiliaries.proofs.Places.{came_keeps, run_keeps}
use Rattle.auxiliaries.proofs.laws.runs_give_no_place.Goals as goal

pub returns-clause-run : goal.returns-clause-run
returns-clause-run g c = λ start end events run. run_keeps g.T.TextStore.told g.T.TextStore.faults start events end run

pub returns-clause-came : goal.returns-clause-came
returns-clause-came g c = λ start end came. came_keeps g.T.TextStore.told g.T.TextStore.faults start end came
