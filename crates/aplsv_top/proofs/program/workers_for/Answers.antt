use Rattle.aplsv_top.proofs.program.workers_for.Goals as goal

pub returns-in-Some-clause-some : goal.returns-in-Some-clause-some
returns-in-Some-clause-some c = (c.requires c.in-Some.workers c.in-Some.is).0

pub returns-in-Some-clause-few : goal.returns-in-Some-clause-few
returns-in-Some-clause-few c = (c.requires c.in-Some.workers c.in-Some.is).1
