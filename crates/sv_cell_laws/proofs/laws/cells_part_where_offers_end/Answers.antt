use Rattle.sv_cell_laws.proofs.EndJournal.{cells_later_in, table_is, without_is_older}
use Rattle.sv_cell_laws.proofs.EndSteps.{cells_part}
use Rattle.sv_cell_laws.proofs.JoinSteps.{cells_end, cells_join}
use Rattle.sv_cell_laws.proofs.laws.cells_part_where_offers_end.Goals as goal

pub returns-clause-table : goal.returns-clause-table
returns-clause-table c = table_is

pub returns-clause-first : goal.returns-clause-first
returns-clause-first c = cells_later_in

pub returns-clause-part : goal.returns-clause-part
returns-clause-part c = cells_part

pub returns-clause-older : goal.returns-clause-older
returns-clause-older c = without_is_older

pub returns-clause-join : goal.returns-clause-join
returns-clause-join c = cells_join

pub returns-clause-last : goal.returns-clause-last
returns-clause-last c = cells_end
