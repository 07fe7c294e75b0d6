use Rattle.std.specs.Prelude.{Bool, true, false, Option, Some, None}
use Rattle.apl_arrays.specs.Array.{PlainArray}
use Rattle.sv_access.specs.Control.{no_control}
use Rattle.sv_access.specs.declared.access.Side.{Side}
use Rattle.sv_access.specs.declared.control.Control.{Control}
use Rattle.sv_kept.specs.Share.{PlainShare, after_get, after_set, shared_value}
use Rattle.sv_kept.specs.declared.cell.Cell.{Cell}
use Rattle.sv_kept.specs.declared.cell.CellContent.{CellContent}
use Rattle.sv_kept.specs.declared.cell.CellContent.TheVariants.{Alone, Shared, Lent}

-- the value that is known alone: none where the cell shares
abbrev pub known_alone : CellContent → Option PlainArray
known_alone (Alone value) = value
known_alone (Shared share) = None
known_alone Lent = None

-- a value, or that there is none, is held alone
abbrev pub is_alone : CellContent → Bool
is_alone (Alone value) = true
is_alone (Shared share) = false
is_alone Lent = false

-- the share that is held, if one is
abbrev pub share_in : CellContent → Option PlainShare
share_in (Alone value) = None
share_in (Shared share) = Some share
share_in Lent = None

-- the cell of an offer that is new, by the value that it was handed
abbrev pub new_cell : Option PlainArray → Cell
new_cell value = record { vector = no_control; lacks_control = true; owes_reply = false; held = Alone value }

-- a cell that holds something else
abbrev pub holding : Cell → CellContent → Cell
holding cell held = record { vector = cell.vector; lacks_control = cell.lacks_control; owes_reply = cell.owes_reply; held = held }

-- a cell with another vector
abbrev pub controlled : Cell → Control → Cell
controlled cell control = record { vector = control; lacks_control = false; owes_reply = cell.owes_reply; held = cell.held }

-- a cell whose party set or used, and got a value or did not
abbrev pub answered : Cell → Bool → Cell
answered cell got = record { vector = cell.vector; lacks_control = cell.lacks_control; owes_reply = got; held = cell.held }

-- the cell of an offer that was coupled, with the vector of before: no control was set since, and nothing used
abbrev pub coupled_with : Control → CellContent → Cell
coupled_with vector held = record { vector = vector; lacks_control = true; owes_reply = false; held = held }

-- what the share of a cell is after a set by a side, and after a use
abbrev pub after_set_in : CellContent → Side → PlainArray → CellContent
after_set_in (Alone value) side new = Alone value
after_set_in (Shared share) side new = Shared (after_set share side new)
after_set_in Lent side new = Lent

-- what the content of a cell is after a use by a side
abbrev pub after_use_in : CellContent → Side → CellContent
after_use_in (Alone value) side = Alone value
after_use_in (Shared share) side = Shared (after_get share side (shared_value share))
after_use_in Lent side = Lent
