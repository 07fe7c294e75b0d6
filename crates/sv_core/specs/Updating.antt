-- What becomes of the cells of a party's offer, by its coupling.
use Rattle.std.specs.Prelude.{◌≡◌, ◌<◌, ℕ, ◌==◌, ◌&&◌, List, [], ◌∷◌, Contains, Option, Some, None, IsSome, option_and_then, if◌then◌else◌}
use Rattle.std.specs.List.{list_any}
use Rattle.apl_arrays.specs.Array.{PlainArray}
use Rattle.sv_kept.specs.Cell.{known_alone, share_in}
use Rattle.sv_kept.specs.Cells.{CouplesAt, KeepsCells, cell_at}
use Rattle.sv_kept.specs.declared.cell.Cell.{Cell}
use Rattle.sv_kept.specs.declared.cell.CellContent.TheVariants.{Alone, Shared}
use Rattle.sv_kept.specs.declared.cells.Cells.{Cells}
use Rattle.sv_cell_laws.specs.Ends.{CellsIn, coupled_without, taken_now}
use Rattle.sv_cell_laws.specs.Fits.{FitCells}
use Rattle.sv_cell_laws.specs.Steps.{AnswersOpen, AnswersShared, Untouched}
use Rattle.sv_events.specs.Entry.{PlainEntry}
use Rattle.sv_events.specs.Row.{act_row}
use Rattle.sv_events.specs.declared.entry.Pair.{Pair}
use Rattle.sv_events.specs.declared.row.Ending.{Ending}
use Rattle.sv_offers.specs.Table.{PlainOffers}
use Rattle.sv_rules.specs.Coupling.{coupling_at, couplings}
use Rattle.sv_rules.specs.Entries.{Entries, next_place}
use Rattle.sv_rules.specs.Legal.{IsLegal}
use Rattle.sv_rules.specs.Standing.{is_ended, standing}
use Rattle.sv_rules.specs.declared.coupling.Made.{Made}
use Rattle.sv_rules.specs.Story.{GrantedAccess}
use Rattle.sv_rules.specs.declared.coupling.Coupling.{Coupling}
use Rattle.sv_rules.specs.declared.standing.Standing.{Standing}
use Rattle.sv_kept.specs.Share.{PlainShare, shared_value}

-- the cells after an access on an offer, by its coupling
abbrev pub AfterAccess : Cells → Cells → Standing → Option GrantedAccess → Option Coupling → Type 0
AfterAccess old new own access None = AnswersOpen old new own access
AfterAccess old new own access (Some coupling) = AnswersShared old new coupling own access

-- the cell at a place holds a value alone
pub record HoldsAlone (cells : Cells) (place : ℕ) : Type 0 where
  pub cell : Cell
  pub at : cell_at cells place ≡ Some cell
  pub value : Option PlainArray
  pub held : cell.held ≡ Alone value

-- the cell at a place has a share
pub record HasShareAt (cells : Cells) (place : ℕ) : Type 0 where
  pub cell : Cell
  pub at : cell_at cells place ≡ Some cell
  pub share : PlainShare
  pub held : cell.held ≡ Shared share

-- the cells of an offer are there: it holds its value alone, or its coupling's lower offer has the share
abbrev pub IsReady : Cells → Standing → Option Coupling → Type 0
IsReady cells own None = HoldsAlone cells own.place
IsReady cells own (Some coupling) = HasShareAt cells coupling.a.place × IsSome (cell_at cells own.place)

-- the value that a use gives
abbrev pub value_at : Cells → Standing → Option Coupling → Option PlainArray
value_at cells own None = option_and_then (λ cell. known_alone cell.held) (cell_at cells own.place)
value_at cells own (Some coupling) = option_and_then shared_value (option_and_then (λ cell. share_in cell.held) (cell_at cells coupling.a.place))

-- the cells fit some journal, by the couplings of the table
abbrev pub FitsSome : List Standing → List Made → Cells → Type 0
FitsSome offers coupled cells = (journal : Entries) × CellsIn journal (Contains offers) (coupling_at offers coupled) cells

-- cells that fit a journal fit it without the couplings that these offers end
abbrev pub PartsAll : List Standing → List Made → ℕ → Ending → List Standing → Cells → Cells → Type 0
PartsAll offers coupled party ending gone old new =
    (journal : Entries) → CellsIn journal (Contains offers) (coupling_at offers coupled) old → CellsIn journal (Contains offers) (coupled_without offers coupled gone party ending) new

-- the cells of those of these offers that end are gone, and the others are the same
abbrev pub Closes : List Standing → ℕ → Ending → Cells → Cells → Type 0
Closes gone party ending old new = (at : ℕ) → cell_at new at ≡ (if list_any (λ offer. is_ended party ending offer && offer.place == at) gone then None else cell_at old at)

-- the cells fit a journal but for the pairs that its newest entry makes
pub record IsToCouple (cells : Cells) (pairs : List Pair) : Type 0 where
  pub users : List ℕ
  pub journal : Entries
  pub e : PlainEntry
  pub legal : IsLegal users (e ∷ journal)
  pub made : e.made ≡ pairs
  pub fit : CellsIn (e ∷ journal) (Contains (standing (e ∷ journal))) (taken_now (e ∷ journal) []) cells

-- such cells then fit it with these pairs
abbrev pub CouplesAll : List Pair → Cells → Cells → List Pair → Type 0
CouplesAll pairs old new taken =
    (ready : IsToCouple old pairs) → CellsIn (ready.e ∷ ready.journal) (Contains (standing (ready.e ∷ ready.journal))) (taken_now (ready.e ∷ ready.journal) taken) new

-- no place has a cell now that had none
abbrev pub AddsNone : Cells → Cells → Type 0
AddsNone old new = (at : ℕ) → cell_at old at ≡ None → cell_at new at ≡ None

-- no offer stands at a place
abbrev pub IsVacant : Entries → ℕ → Type 0
IsVacant journal at = (offer : Standing) → Contains (standing journal) offer → ¬ (offer.place ≡ at)

-- no cell stands where no offer does
abbrev pub HasNoOther : Entries → Cells → Type 0
HasNoOther journal cells = (at : ℕ) → IsVacant journal at → cell_at cells at ≡ None

-- an entry ends offers of a party at a place: the table and the cells are those of the journal before it
pub record IsEnding (offers : PlainOffers) (cells : Cells) (at party : ℕ) (ending : Ending) (users : List ℕ) (journal : Entries) (e : PlainEntry) : Type 0 where
  pub legal : IsLegal users (e ∷ journal)
  pub stand : offers.offers ≡ standing journal
  pub couple : offers.coupled ≡ couplings journal
  pub place : at ≡ next_place journal
  pub own : e.party ≡ party
  pub ends : (act_row e.act).row.ends ≡ Some ending
  pub untouched : (o : Standing) → Contains (standing journal) o → Untouched e o
  pub fit : FitCells journal cells

-- some entry does
abbrev pub IsToEnd : PlainOffers → Cells → ℕ → ℕ → Ending → Type 0
IsToEnd offers cells at party ending = (users : List ℕ) × (journal : Entries) × (e : PlainEntry) × IsEnding offers cells at party ending users journal e

-- and the cells then fit the journal with it
abbrev pub EndsAll : PlainOffers → ℕ → ℕ → Ending → Cells → Cells → Type 0
EndsAll offers at party ending old new =
    (users : List ℕ) (journal : Entries) (e : PlainEntry) → IsEnding offers old at party ending users journal e → FitCells (e ∷ journal) new

-- and no cell stands where no offer does, if none did before
abbrev pub ClearsAll : PlainOffers → ℕ → ℕ → Ending → Cells → Cells → Type 0
ClearsAll offers at party ending old new =
    (users : List ℕ) (journal : Entries) (e : PlainEntry) → IsEnding offers old at party ending users journal e → HasNoOther journal old → HasNoOther (e ∷ journal) new

-- a new offer may be coupled with its match, if it has one: this is older, and both have cells
abbrev pub MayJoin : Cells → Standing → Option Standing → Type 0
MayJoin cells new None = Unit {0}
MayJoin cells new (Some other) = (other.place < new.place) × IsSome (cell_at cells other.place) × IsSome (cell_at cells new.place)

-- they are
abbrev pub Joined : Cells → Cells → Standing → Option Standing → Type 0
Joined old new offer None = KeepsCells old new
Joined old new offer (Some other) = CouplesAt old new other.place offer.place

-- the degree of a new offer, by its match
abbrev pub degree_with : Option Standing → ℕ
degree_with None = 1
degree_with (Some other) = 2
