use Rattle.std.specs.Prelude.{◌≡◌, Option, Some, None, Contains, IsTrue}
use Rattle.sv_access.specs.declared.access.Side.{Side}
use Rattle.sv_access.specs.declared.access.Side.TheVariants.{A, B}
use Rattle.sv_kept.specs.Share.{PlainShare, IsShareOf}
use Rattle.sv_kept.specs.Cells.{cell_at}
use Rattle.sv_kept.specs.declared.cell.Cell.{Cell}
use Rattle.sv_kept.specs.declared.cell.CellContent.{CellContent}
use Rattle.sv_kept.specs.declared.cell.CellContent.TheVariants.{Alone, Shared, Lent}
use Rattle.sv_kept.specs.declared.cells.Cells.{Cells}
use Rattle.sv_rules.specs.Control.{side_at, vector_of}
use Rattle.sv_rules.specs.Coupling.{coupling_now}
use Rattle.sv_rules.specs.Entries.{Entries}
use Rattle.sv_rules.specs.Standing.{standing}
use Rattle.sv_rules.specs.Story.{known, story}
use Rattle.aux_parties.specs.Auxiliaries.{is_auxiliary}
use Rattle.sv_rules.specs.Work.{lacks_control, owes_reply}
use Rattle.sv_rules.specs.declared.coupling.Coupling.{Coupling}
use Rattle.sv_rules.specs.declared.standing.Standing.{Standing}

-- the share of a coupling: both sides' known values, and the state and the last value of its story
pub record FitsShare (journal : Entries) (coupling : Coupling) (share : PlainShare) : Type 0 where
  pub a : share.a ≡ known journal coupling.a
  pub b : share.b ≡ known journal coupling.b
  pub told : IsShareOf (story journal coupling) share

-- what an offer on a side of a coupling holds: side A has the share
pub data HoldsShare (journal : Entries) (coupling : Coupling) (side : Side) (held : CellContent) : Type 0 where
  has_share : side ≡ A → (share : PlainShare) → held ≡ Shared share → FitsShare journal coupling share → HoldsShare journal coupling side held
  has_none : side ≡ B → held ≡ Lent → HoldsShare journal coupling side held

-- what the cell of an offer holds, by its coupling: an open one holds the known value alone
pub data FitsHeld (journal : Entries) (offer : Standing) (cell : Cell) (coupling : Option Coupling) : Type 0 where
  is_open : coupling ≡ None → cell.held ≡ Alone (known journal offer) → FitsHeld journal offer cell coupling
  is_coupled : (now : Coupling) → coupling ≡ Some now → HoldsShare journal now (side_at now offer.place) cell.held → FitsHeld journal offer cell coupling

-- what an auxiliary has to do on a coupled offer of its own
pub record FitsWork (journal : Entries) (offer : Standing) (cell : Cell) (coupling : Coupling) : Type 0 where
  pub lacks : cell.lacks_control ≡ lacks_control journal offer coupling
  pub owes : cell.owes_reply ≡ owes_reply journal offer coupling

-- the cell is that of the offer
pub record FitsCell (journal : Entries) (offer : Standing) (cell : Cell) : Type 0 where
  pub vector : cell.vector ≡ vector_of journal offer
  pub held : FitsHeld journal offer cell (coupling_now journal offer.place)
  pub work : IsTrue (is_auxiliary offer.party) → (coupling : Coupling) → coupling_now journal offer.place ≡ Some coupling → FitsWork journal offer cell coupling

-- each standing offer has its cell
abbrev pub FitCells : Entries → Cells → Type 0
FitCells journal cells = (offer : Standing) → Contains (standing journal) offer → (cell : Cell) × (cell_at cells offer.place ≡ Some cell) × FitsCell journal offer cell
