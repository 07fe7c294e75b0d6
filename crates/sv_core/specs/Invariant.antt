use Rattle.std.specs.Prelude.{◌≡◌, ◌≤◌, ℕ, List, All, length}
use Rattle.apl_arrays.specs.List.{Listed}
use Rattle.sv_cell_laws.specs.Fits.{FitCells}
use Rattle.sv_kept.specs.declared.cells.Cells.{Cells}
use Rattle.sv_core.specs.Core.{ArePeople, IsSpare, present}
use Rattle.sv_core.specs.Updating.{HasNoOther}
use Rattle.sv_core.specs.declared.processor.Core.TheInside.{Inside}
use Rattle.sv_events.specs.declared.entry.Pair.{Pair}
use Rattle.sv_rules.specs.Coupling.{couplings}
use Rattle.sv_rules.specs.Entries.{Entries}
use Rattle.sv_rules.specs.Legal.{IsLegal}
use Rattle.sv_rules.specs.Standing.{standing}
use Rattle.sv_rules.specs.declared.coupling.Made.{Made}
use Rattle.sv_rules.specs.declared.standing.Standing.{Standing}

-- what a core has: its users, its journal and the room for entries; the offers that stand, the couplings, and what is kept of
-- the offers; and the lists for the pairs of leaves
pub record CoreParts : Type 0 where
  pub users : List ℕ
  pub journal : Entries
  pub room : ℕ
  pub offers : List Standing
  pub coupled : List Made
  pub cells : Cells
  pub spares : List (Listed Pair)

-- users have the numbers of users, the journal is legal, the tables are those of the journal, no cell stands where no offer does, and
-- there is room for each leave
pub record IsWholeCore (core : CoreParts) : Type 0 where
  pub people : ArePeople core.users
  pub legal : IsLegal core.users core.journal
  pub stand : core.offers ≡ standing core.journal
  pub couple : core.coupled ≡ couplings core.journal
  pub fit : FitCells core.journal core.cells
  pub no_other : HasNoOther core.journal core.cells
  pub entries_room : present core.users core.journal ≤ core.room
  pub spare_count : present core.users core.journal ≤ length core.spares
  pub spare_room : All IsSpare core.spares

-- the parts of a core
abbrev pub core_parts : Inside → CoreParts
core_parts c = record {
  users = c.log.users;
  journal = c.log.journal;
  room = c.log.room;
  offers = c.offers.offers;
  coupled = c.offers.coupled;
  cells = c.cells;
  spares = c.spares.items;
}

-- what a core keeps
abbrev pub IsCore : Inside → Type 0
IsCore c = IsWholeCore (core_parts c)
