-- What is kept of standing offers goes on with the journal.
use Rattle.std.specs.Prelude.{◌≡◌, ℕ, List, ◌∷◌, length, Contains, Option, Some, None}
use Rattle.sv_access.specs.declared.control.Control.{Control}
use Rattle.sv_kept.specs.Cell.{controlled}
use Rattle.sv_kept.specs.Cells.{ChangesAt}
use Rattle.sv_kept.specs.declared.cells.Cells.{Cells}
use Rattle.sv_cell_laws.specs.Fits.{FitCells, FitsShare}
use Rattle.sv_cell_laws.specs.Steps.{AnswersOpen, AnswersShared, CellsAfter, MakesAccess, OpensCells, OpensOffer, SetsControl, Stays, TouchesNothing}
use Rattle.sv_events.specs.Entry.{PlainEntry}
use Rattle.sv_rules.specs.Coupling.{coupling_now}
use Rattle.sv_rules.specs.Entries.{Entries}
use Rattle.sv_rules.specs.Legal.{IsLegal}
use Rattle.sv_rules.specs.Standing.{standing}
use Rattle.sv_rules.specs.Story.{GrantedAccess, handed_in, known}
use Rattle.sv_rules.specs.declared.coupling.Coupling.{Coupling}
use Rattle.sv_rules.specs.declared.standing.Standing.{Standing}
use Rattle.sv_kept.specs.Share.{share_of}

-- the share of two offers that couple, by what their parties know, is that of the coupling's story
abbrev pub NewSharesFit : Type 0
NewSharesFit =
    (users : List ℕ) (journal : Entries) → IsLegal users journal → (place : ℕ) (coupling : Coupling) → coupling_now journal place ≡ Some coupling →
    coupling.at ≡ length journal → FitsShare journal coupling (share_of (known journal coupling.a) (known journal coupling.b))

-- where an entry opens and ends no offers, cells that follow from those before fit the journal with it
abbrev pub CellsGoOn : Type 0
CellsGoOn =
    (users : List ℕ) (journal : Entries) (e : PlainEntry) → IsLegal users (e ∷ journal) → Stays journal e → (cells cells' : Cells) →
    FitCells journal cells → CellsAfter journal e cells cells' → FitCells (e ∷ journal) cells'

-- an entry that touches nothing leaves the cells
abbrev pub CellsStay : Type 0
CellsStay =
    (users : List ℕ) (journal : Entries) (e : PlainEntry) → IsLegal users (e ∷ journal) → TouchesNothing journal e → (cells : Cells) → FitCells journal cells → FitCells (e ∷ journal) cells

-- an entry that sets a control changes the cell of its offer
abbrev pub CellsAreControlled : Type 0
CellsAreControlled =
    (users : List ℕ) (journal : Entries) (e : PlainEntry) (own : Standing) (control : Control) → IsLegal users (e ∷ journal) → Contains (standing journal) own →
    SetsControl journal e own control → (cells cells' : Cells) → FitCells journal cells → ChangesAt cells cells' own.place (λ cell. controlled cell control) → FitCells (e ∷ journal) cells'

-- an access on an open offer changes its cell
abbrev pub CellsAnswerOpen : Type 0
CellsAnswerOpen =
    (users : List ℕ) (journal : Entries) (e : PlainEntry) (own : Standing) (access : Option GrantedAccess) → IsLegal users (e ∷ journal) → Contains (standing journal) own →
    MakesAccess journal e own access → coupling_now journal own.place ≡ None → (cells cells' : Cells) → FitCells journal cells → AnswersOpen cells cells' own access → FitCells (e ∷ journal) cells'

-- an access on a coupled offer changes its cell, and that with the share
abbrev pub CellsAnswerShared : Type 0
CellsAnswerShared =
    (users : List ℕ) (journal : Entries) (e : PlainEntry) (own : Standing) (access : Option GrantedAccess) (coupling : Coupling) → IsLegal users (e ∷ journal) →
    Contains (standing journal) own → MakesAccess journal e own access → coupling_now journal own.place ≡ Some coupling → (cells cells' : Cells) → FitCells journal cells →
    AnswersShared cells cells' coupling own access → FitCells (e ∷ journal) cells'

-- a new offer adds its cell, and shares with its match, if it has one
abbrev pub CellsAreOpened : Type 0
CellsAreOpened =
    (users : List ℕ) (journal : Entries) (e : PlainEntry) (new : Standing) (match : Option Standing) → IsLegal users (e ∷ journal) → OpensOffer journal e new match → (cells cells' : Cells) →
    FitCells journal cells → OpensCells cells cells' new (handed_in e.act) match → FitCells (e ∷ journal) cells'
