use Rattle.sv_cell_laws.proofs.AccessSteps.{cells_answered_open, cells_answered_shared}
use Rattle.sv_cell_laws.proofs.CellSteps.{cells_go_on}
use Rattle.sv_cell_laws.proofs.OpenSteps.{cells_opened}
use Rattle.sv_cell_laws.proofs.ShareSteps.{new_share_fits}
use Rattle.sv_cell_laws.proofs.TouchSteps.{cells_controlled, cells_stay}
use Rattle.sv_cell_laws.proofs.laws.cells_go_on_with_journals.Goals as goal

pub returns-clause-new_shares : goal.returns-clause-new_shares
returns-clause-new_shares c = new_share_fits

pub returns-clause-entries : goal.returns-clause-entries
returns-clause-entries c = cells_go_on

pub returns-clause-nothing : goal.returns-clause-nothing
returns-clause-nothing c = cells_stay

pub returns-clause-control : goal.returns-clause-control
returns-clause-control c = cells_controlled

pub returns-clause-open : goal.returns-clause-open
returns-clause-open c = cells_answered_open

pub returns-clause-shared : goal.returns-clause-shared
returns-clause-shared c = cells_answered_shared

pub returns-clause-opened : goal.returns-clause-opened
returns-clause-opened c = cells_opened
