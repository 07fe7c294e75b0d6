use Rattle.apl_scalar.proofs.Reports.{misfit_is_reported}
use Rattle.apl_scalar.proofs.scalar.dyadic.Goals as goal

pub returns-in-Some-clause-value : goal.returns-in-Some-clause-value
returns-in-Some-clause-value c = misfit_is_reported c.args.f c.args.a.now c.args.b.now c.in-Some.report c.in-Some.ensures
