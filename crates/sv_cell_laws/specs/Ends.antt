-- What is kept of standing offers while offers end together: by the couplings that are left at the moment.
use Rattle.std.specs.Prelude.{◌≡◌, ◌<◌, ℕ, ◌==◌, Bool, ◌&&◌, ◌||◌, nat_lt, List, [], ◌∷◌, ◌++◌, length, Contains, IsTrue, Option, Some, None, IsSome, option_and_then, if◌then◌else◌}
use Rattle.std.specs.List.{list_any}
use Rattle.sv_kept.specs.Cell.{share_in}
use Rattle.sv_kept.specs.Cells.{CouplesAt, KeepsCells, PartsAt, cell_at}
use Rattle.sv_kept.specs.declared.cell.Cell.{Cell}
use Rattle.sv_kept.specs.declared.cells.Cells.{Cells}
use Rattle.sv_cell_laws.specs.Fits.{FitCells, FitsHeld, FitsWork}
use Rattle.sv_cell_laws.specs.Steps.{Untouched}
use Rattle.sv_events.specs.Entry.{PlainEntry}
use Rattle.sv_events.specs.Row.{act_row}
use Rattle.sv_events.specs.declared.entry.Pair.{Pair}
use Rattle.sv_events.specs.declared.row.Ending.{Ending}
use Rattle.sv_rules.specs.Control.{vector_of}
use Rattle.sv_rules.specs.Coupling.{coupling_at, coupling_now, couplings}
use Rattle.sv_rules.specs.Entries.{Entries}
use Rattle.sv_rules.specs.Legal.{IsLegal}
use Rattle.sv_rules.specs.Standing.{is_ended, standing}
use Rattle.aux_parties.specs.Auxiliaries.{is_auxiliary}
use Rattle.sv_rules.specs.declared.coupling.Coupling.{Coupling}
use Rattle.sv_rules.specs.declared.coupling.Made.{Made}
use Rattle.sv_rules.specs.declared.standing.Standing.{Standing}
use Rattle.sv_kept.specs.Share.{PlainShare}

-- the cell is that of an offer with this coupling, or with none
pub record FitsCoupling (journal : Entries) (offer : Standing) (cell : Cell) (coupling : Option Coupling) : Type 0 where
  pub vector : cell.vector ≡ vector_of journal offer
  pub held : FitsHeld journal offer cell coupling
  pub work : IsTrue (is_auxiliary offer.party) → (now : Coupling) → coupling ≡ Some now → FitsWork journal offer cell now

-- each of some offers has its cell, where they are coupled so
abbrev pub CellsIn : Entries → (Standing → Type 0) → (ℕ → Option Coupling) → Cells → Type 0
CellsIn journal among coupled cells =
    (offer : Standing) → among offer → (cell : Cell) × (cell_at cells offer.place ≡ Some cell) × FitsCoupling journal offer cell (coupled offer.place)

-- a table of offers: their places differ, and each coupling is of two of them, and found at both
pub record IsOfferTable (offers : List Standing) (coupled : List Made) : Type 0 where
  pub one : (o p : Standing) → Contains offers o → Contains offers p → o.place ≡ p.place → o ≡ p
  pub has_a : (place : ℕ) (c : Coupling) → coupling_at offers coupled place ≡ Some c → Contains offers c.a
  pub has_b : (place : ℕ) (c : Coupling) → coupling_at offers coupled place ≡ Some c → Contains offers c.b
  pub at_a : (place : ℕ) (c : Coupling) → coupling_at offers coupled place ≡ Some c → coupling_at offers coupled c.a.place ≡ Some c
  pub at_b : (place : ℕ) (c : Coupling) → coupling_at offers coupled place ≡ Some c → coupling_at offers coupled c.b.place ≡ Some c
  pub lower : (place : ℕ) (c : Coupling) → coupling_at offers coupled place ≡ Some c → c.a.place < c.b.place
  pub here : (place : ℕ) (c : Coupling) → coupling_at offers coupled place ≡ Some c → IsTrue (c.a.place == place || c.b.place == place)

-- the offer is one of the coupling, and ends
abbrev pub ends_one : ℕ → Ending → Coupling → Standing → Bool
ends_one party ending coupling offer = is_ended party ending offer && (coupling.a.place == offer.place || coupling.b.place == offer.place)

-- the coupling, unless one of these offers ends it
abbrev pub unless_offer_ends : List Standing → ℕ → Ending → Option Coupling → Option Coupling
unless_offer_ends gone party ending None = None
unless_offer_ends gone party ending (Some coupling) = if list_any (ends_one party ending coupling) gone then None else Some coupling

-- the couplings of a table without those that these offers end
abbrev pub coupled_without : List Standing → List Made → List Standing → ℕ → Ending → ℕ → Option Coupling
coupled_without offers coupled gone party ending place = unless_offer_ends gone party ending (coupling_at offers coupled place)

-- the coupling, where it is older than the newest entry
abbrev pub if_older : Entries → Option Coupling → Option Coupling
if_older journal None = None
if_older journal (Some coupling) = if nat_lt coupling.at (length journal) then Some coupling else None

-- the older couplings of a journal
abbrev pub older_now : Entries → ℕ → Option Coupling
older_now journal place = if_older journal (coupling_now journal place)

-- the share in the cell at a place
abbrev pub share_at : Cells → ℕ → Option PlainShare
share_at cells place = option_and_then (λ cell. share_in cell.held) (cell_at cells place)

-- the offers of a coupling may part: they are two, and the higher one has a cell
abbrev pub MayPart : Cells → Option Coupling → Type 0
MayPart cells None = Unit {0}
MayPart cells (Some c) = (¬ (c.a.place ≡ c.b.place)) × IsSome (cell_at cells c.b.place)

-- the offers of a coupling part, where they still share
abbrev pub Uncouples : Cells → Cells → Option Coupling → Type 0
Uncouples old new None = KeepsCells old new
Uncouples old new (Some c) = (share_at old c.a.place ≡ None → KeepsCells old new) × (IsSome (share_at old c.a.place) → PartsAt old new c.a.place c.b.place)

-- an offer that ends, and its partner, part: the cells are then those without its coupling
abbrev pub CellsPart : Type 0
CellsPart =
    (journal : Entries) (offers : List Standing) (coupled : List Made) → IsOfferTable offers coupled → (gone : List Standing) (party : ℕ) (ending : Ending) (o : Standing) → IsTrue (is_ended party ending o) →
    (coupling : Option Coupling) → coupling_at offers coupled o.place ≡ coupling → (cells cells' : Cells) → CellsIn journal (Contains offers) (coupled_without offers coupled gone party ending) cells → Uncouples cells cells' coupling →
    CellsIn journal (Contains offers) (coupled_without offers coupled (gone ++ o ∷ []) party ending) cells'

-- the pair of the coupling is among these
abbrev pub has_pair : List Pair → Coupling → Bool
has_pair pairs c = list_any (λ pair. pair.a == c.a.place && pair.b == c.b.place) pairs

-- the coupling, where it is older than the newest entry, or its pair is among these
abbrev pub if_taken : Entries → List Pair → Option Coupling → Option Coupling
if_taken journal pairs None = None
if_taken journal pairs (Some c) = if nat_lt c.at (length journal) || has_pair pairs c then Some c else None

-- the couplings of a journal, of the newest ones only those of these pairs
abbrev pub taken_now : Entries → List Pair → ℕ → Option Coupling
taken_now journal pairs place = if_taken journal pairs (coupling_now journal place)

-- the offers of a pair are coupled, unless they share already
abbrev pub Couples : Cells → Cells → Pair → Type 0
Couples old new pair = (IsSome (share_at old pair.a) → KeepsCells old new) × (share_at old pair.a ≡ None → CouplesAt old new pair.a pair.b)

-- the offers that stand and their couplings are a table
abbrev pub OffersAreTables : Type 0
OffersAreTables = (users : List ℕ) (journal : Entries) → IsLegal users journal → IsOfferTable (standing journal) (couplings journal)

-- cells that fit a journal fit it with an entry that touches no offer, by the couplings of before
abbrev pub CellsBegin : Type 0
CellsBegin =
    (users : List ℕ) (journal : Entries) (e : PlainEntry) → IsLegal users (e ∷ journal) → ((o : Standing) → Contains (standing journal) o → Untouched e o) → (cells : Cells) → FitCells journal cells →
    CellsIn (e ∷ journal) (Contains (standing journal)) (coupling_at (standing journal) (couplings journal)) cells

-- the couplings of before without those that an entry ends are the older ones of the journal with it
abbrev pub WithoutEndedAreOlder : Type 0
WithoutEndedAreOlder =
    (users : List ℕ) (journal : Entries) (e : PlainEntry) (ending : Ending) → IsLegal users (e ∷ journal) → (act_row e.act).row.ends ≡ Some ending → (q : Standing) → Contains (standing (e ∷ journal)) q →
    coupled_without (standing journal) (couplings journal) (standing journal) e.party ending q.place ≡ older_now (e ∷ journal) q.place

-- the offers of a pair that the newest entry makes are coupled
abbrev pub CellsJoin : Type 0
CellsJoin =
    (users : List ℕ) (journal : Entries) (e : PlainEntry) → IsLegal users (e ∷ journal) → (taken : List Pair) (pair : Pair) → Contains e.made pair → (cells cells' : Cells) →
    CellsIn (e ∷ journal) (Contains (standing (e ∷ journal))) (taken_now (e ∷ journal) taken) cells → Couples cells cells' pair →
    CellsIn (e ∷ journal) (Contains (standing (e ∷ journal))) (taken_now (e ∷ journal) (taken ++ pair ∷ [])) cells'

-- once all are, each standing offer has its cell
abbrev pub CellsEnd : Type 0
CellsEnd =
    (users : List ℕ) (journal : Entries) (e : PlainEntry) → IsLegal users (e ∷ journal) → (cells : Cells) →
    CellsIn (e ∷ journal) (Contains (standing (e ∷ journal))) (taken_now (e ∷ journal) e.made) cells → FitCells (e ∷ journal) cells
