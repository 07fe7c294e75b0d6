use Rattle.std.specs.Prelude.{◌≡◌, ℕ, ◌==◌, Bool, false, Option, Some, nat_eq, option_map, if◌then◌else◌}
use Rattle.std.specs.HashMap.{get, spare}
use Rattle.std.specs.Option.{option_map_or}
use Rattle.sv_kept.specs.Share.{PlainShare, share_of}
use Rattle.sv_kept.specs.Cell.{coupled_with, holding, is_alone, known_alone, share_in}
use Rattle.sv_kept.specs.declared.cell.Cell.{Cell}
use Rattle.sv_kept.specs.declared.cell.CellContent.TheVariants.{Alone, Shared, Lent}
use Rattle.sv_kept.specs.declared.cells.Cells.{Cells}

-- the cell at a place, if there is one
abbrev pub cell_at : Cells → ℕ → Option Cell
cell_at cells place = get nat_eq cells.cells place

-- the cell at a place is there, and holds alone
abbrev pub is_alone_at : Cells → ℕ → Bool
is_alone_at cells place = option_map_or (λ cell. is_alone cell.held) (cell_at cells place) false

-- for how many cells more there is room
abbrev pub room_of : Cells → ℕ
room_of cells = spare cells.cells

-- the cells are the old ones, with this one, or none, at a place
abbrev pub PutsAt : Cells → Cells → ℕ → Option Cell → Type 0
PutsAt old new place cell = (at : ℕ) → cell_at new at ≡ (if place == at then cell else cell_at old at)

-- the cells are the same
abbrev pub KeepsCells : Cells → Cells → Type 0
KeepsCells old new = (at : ℕ) → cell_at new at ≡ cell_at old at

-- the cells are the old ones, with the cell at a place changed
abbrev pub ChangesAt : Cells → Cells → ℕ → (Cell → Cell) → Type 0
ChangesAt old new place change = PutsAt old new place (option_map change (cell_at old place))

-- the cells are the old ones, with these two at two places
abbrev pub PutsTwo : Cells → Cells → ℕ → Cell → ℕ → Cell → Type 0
PutsTwo old new a of_a b of_b = (at : ℕ) → cell_at new at ≡ (if a == at then Some of_a else (if b == at then Some of_b else cell_at old at))

-- two cells that hold their values alone share them: the lower one's has the share
abbrev pub CouplesAt : Cells → Cells → ℕ → ℕ → Type 0
CouplesAt old new a b =
    (x y : Cell) → cell_at old a ≡ Some x → cell_at old b ≡ Some y →
    PutsTwo old new a (coupled_with x.vector (Shared (share_of (known_alone x.held) (known_alone y.held)))) b (coupled_with y.vector Lent)

-- the two cells of a share hold their values alone again
abbrev pub PartsAt : Cells → Cells → ℕ → ℕ → Type 0
PartsAt old new a b =
    (x y : Cell) (share : PlainShare) → cell_at old a ≡ Some x → share_in x.held ≡ Some share → cell_at old b ≡ Some y →
    PutsTwo old new a (holding x (Alone share.a)) b (holding y (Alone share.b))
