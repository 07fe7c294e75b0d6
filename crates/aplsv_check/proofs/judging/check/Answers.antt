use Rattle.aplsv_check.proofs.Found.{only_found, yes_found}
use Rattle.aplsv_check.proofs.judging.check.Goals as goal

pub returns-clause-yes : goal.returns-clause-yes
returns-clause-yes c = yes_found c.args.bundle.now c.args.text.now c.users-users.ensures.bundle c.find.result c.find.ensures

pub returns-clause-only : goal.returns-clause-only
returns-clause-only c = only_found c.args.bundle.now c.args.text.now c.users-users.ensures.bundle c.find.result c.find.ensures
