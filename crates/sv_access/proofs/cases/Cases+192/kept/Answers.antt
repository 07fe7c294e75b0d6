use Rattle.std.proofs.Common.{refl}
use Rattle.sv_access.proofs.CaseLemmas.{filled_more, filled_is_table, table_verdicts, table_has_each_once}
use Rattle.sv_access.proofs.cases.Cases+192.kept.Goals as goal

pub loop-place-preserved : goal.loop-place-preserved
loop-place-preserved c = filled_more _ _ c.loop-place-test.true refl refl c.case_of.ensures c.loop-place.invariant

pub returns-clause-verdicts : goal.returns-clause-verdicts
returns-clause-verdicts c = rw (filled_is_table c.loop-place-test.false c.loop-place.invariant) table_verdicts

pub returns-clause-each_once : goal.returns-clause-each_once
returns-clause-each_once c = rw (filled_is_table c.loop-place-test.false c.loop-place.invariant) table_has_each_once
