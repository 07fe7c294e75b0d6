-- What is kept of a standing offer after an entry, by what was kept before.
use Rattle.std.specs.Prelude.{◌≡◌, ℕ, ◌==◌, Bool, true, false, ◌&&◌, not, Contains, IsTrue, is_some, Option, Some, None, option_map, unwrap_or, List, [], ◌∷◌, ◌++◌, if◌then◌else◌}
use Rattle.apl_arrays.specs.Array.{PlainArray}
use Rattle.sv_access.specs.Control.{no_control}
use Rattle.sv_access.specs.declared.access.Kind.TheVariants as kind
use Rattle.sv_access.specs.declared.access.Side.{Side}
use Rattle.sv_access.specs.declared.control.Control.{Control}
use Rattle.sv_access.specs.declared.access.Side.TheVariants.{A, B}
use Rattle.std.specs.Option.{option_map_or}
use Rattle.sv_access.specs.Access.{is_set}
use Rattle.sv_kept.specs.Cell.{answered, coupled_with, holding, known_alone, new_cell}
use Rattle.sv_kept.specs.Cells.{ChangesAt, PutsAt, PutsTwo, cell_at}
use Rattle.sv_kept.specs.declared.cell.Cell.{Cell}
use Rattle.sv_kept.specs.declared.cell.CellContent.{CellContent}
use Rattle.sv_kept.specs.declared.cell.CellContent.TheVariants.{Alone, Shared, Lent}
use Rattle.sv_kept.specs.declared.cells.Cells.{Cells}
use Rattle.sv_cell_laws.specs.Fits.{FitsCell}
use Rattle.sv_events.specs.Entry.{PlainEntry}
use Rattle.sv_events.specs.Row.{act_row}
use Rattle.sv_events.specs.declared.entry.Pair.{Pair}
use Rattle.sv_rules.specs.Control.{control_on, side_at}
use Rattle.sv_rules.specs.Coupling.{coupling_now, couplings, pair_of}
use Rattle.sv_rules.specs.Entries.{Entries, next_place}
use Rattle.sv_rules.specs.Standing.{standing}
use Rattle.sv_rules.specs.Story.{GrantedAccess, access_on, known_after}
use Rattle.aux_parties.specs.Auxiliaries.{is_auxiliary}
use Rattle.sv_rules.specs.Work.{gets_value, tries}
use Rattle.sv_rules.specs.declared.coupling.Coupling.{Coupling}
use Rattle.sv_rules.specs.declared.standing.Standing.{Standing}
use Rattle.sv_kept.specs.Share.{PlainShare, after_access, share_of}

-- a share after the access of a side, if it made one
abbrev pub with_access : PlainShare → Side → Option GrantedAccess → PlainShare
with_access share side None = share
with_access share side (Some access) = after_access share side access.kind access.value

-- a share after an entry
abbrev pub with_entry : PlainShare → Coupling → PlainEntry → PlainShare
with_entry share coupling e = with_access (with_access share B (access_on coupling.b e)) A (access_on coupling.a e)

-- an entry after which the same offers stand, coupled as before
pub record Stays (journal : Entries) (e : PlainEntry) : Type 0 where
  pub offers : standing (e ∷ journal) ≡ standing journal
  pub coupled : couplings (e ∷ journal) ≡ couplings journal

-- what is held after the entry, by what was held before
pub data HeldAfter (journal : Entries) (e : PlainEntry) (offer : Standing) (coupling : Option Coupling) (old new : CellContent) : Type 0 where
  alone_then : coupling ≡ None → new ≡ Alone (known_after (access_on offer e) (known_alone old)) → HeldAfter journal e offer coupling old new
  shared_then : (now : Coupling) → coupling ≡ Some now → (share : PlainShare) → old ≡ Shared share → new ≡ Shared (with_entry share now e) → HeldAfter journal e offer coupling old new
  lent_then : (now : Coupling) → coupling ≡ Some now → old ≡ Lent → new ≡ Lent → HeldAfter journal e offer coupling old new

-- what an auxiliary has to do after the entry, by what it had to do before
pub record WorkAfter (e : PlainEntry) (offer : Standing) (old new : Cell) : Type 0 where
  pub lacks : new.lacks_control ≡ (not (is_some (control_on offer e)) && old.lacks_control)
  pub owes : new.owes_reply ≡ (if tries offer e then gets_value offer e else old.owes_reply)

-- the cell after the entry, by that before
pub record CellAfter (journal : Entries) (e : PlainEntry) (offer : Standing) (old new : Cell) : Type 0 where
  pub vector : new.vector ≡ unwrap_or (control_on offer e) old.vector
  pub held : HeldAfter journal e offer (coupling_now journal offer.place) old.held new.held
  pub work : IsTrue (is_auxiliary offer.party) → WorkAfter e offer old new

-- each cell goes on by an entry: there is a new one, that follows from the old
abbrev pub CellsAfter : Entries → PlainEntry → Cells → Cells → Type 0
CellsAfter journal e cells cells' =
    (offer : Standing) → Contains (standing journal) offer → (cell : Cell) → cell_at cells offer.place ≡ Some cell → FitsCell journal offer cell →
    (cell' : Cell) × (cell_at cells' offer.place ≡ Some cell') × CellAfter journal e offer cell cell'

-- an entry makes no access and sets no control on an offer, and an auxiliary does not try
pub record Untouched (e : PlainEntry) (offer : Standing) : Type 0 where
  pub access : access_on offer e ≡ None
  pub control : control_on offer e ≡ None
  pub tries : IsTrue (is_auxiliary offer.party) → tries offer e ≡ false

-- an entry opens and ends no offers, and touches none
pub record TouchesNothing (journal : Entries) (e : PlainEntry) : Type 0 where
  pub stays : Stays journal e
  pub none : (offer : Standing) → Contains (standing journal) offer → Untouched e offer

-- an entry opens and ends no offers, makes no access, and sets a control on one standing offer alone
pub record SetsControl (journal : Entries) (e : PlainEntry) (own : Standing) (control : Control) : Type 0 where
  pub stays : Stays journal e
  pub no_access : (offer : Standing) → Contains (standing journal) offer → access_on offer e ≡ None
  pub no_tries : (offer : Standing) → Contains (standing journal) offer → tries offer e ≡ false
  pub sets : control_on own e ≡ Some control
  pub others : (offer : Standing) → Contains (standing journal) offer → ¬ (offer.place ≡ own.place) → control_on offer e ≡ None

-- an entry opens and ends no offers and sets no control, and its party tries one standing offer alone, by an access that is
-- granted with a value, or by none
pub record MakesAccess (journal : Entries) (e : PlainEntry) (own : Standing) (access : Option GrantedAccess) : Type 0 where
  pub stays : Stays journal e
  pub makes : access_on own e ≡ access
  pub tried : tries own e ≡ true
  pub no_control : (offer : Standing) → Contains (standing journal) offer → control_on offer e ≡ None
  pub no_other : (offer : Standing) → Contains (standing journal) offer → ¬ (offer.place ≡ own.place) → access_on offer e ≡ None
  pub no_tries : (offer : Standing) → Contains (standing journal) offer → ¬ (offer.place ≡ own.place) → tries offer e ≡ false

-- the access is a use that got a value
abbrev pub is_use : Option GrantedAccess → Bool
is_use access = option_map_or (λ access. not (is_set access.kind)) access false

-- the use that a value makes, if there is one
abbrev pub use_access : Option PlainArray → Option GrantedAccess
use_access value = option_map (λ v. record { kind = kind.Use; value = v }) value

-- the set of a value
abbrev pub set_access : PlainArray → Option GrantedAccess
set_access v = Some (record { kind = kind.Set; value = v })

-- the cell of an open offer after an access of its party
abbrev pub answered_alone : Option GrantedAccess → Cell → Cell
answered_alone access cell = answered (holding cell (Alone (known_after access (known_alone cell.held)))) (is_use access)

-- what is held after an access of a side, where it is a share
abbrev pub with_access_in : CellContent → Side → Option GrantedAccess → CellContent
with_access_in (Alone value) side access = Alone value
with_access_in (Shared share) side access = Shared (with_access share side access)
with_access_in Lent side access = Lent

-- the cell at a place after an access on one side of a coupling, whose share is in the cell at another place
abbrev pub shared_at : ℕ → ℕ → Side → Option GrantedAccess → ℕ → Cell → Cell
shared_at home own side access at cell =
    let shared : Cell = if home == at then holding cell (with_access_in cell.held side access) else cell in
    if own == at then answered shared (is_use access) else shared

-- the cells after an access on an open offer
abbrev pub AnswersOpen : Cells → Cells → Standing → Option GrantedAccess → Type 0
AnswersOpen cells cells' own access = ChangesAt cells cells' own.place (answered_alone access)

-- the cells after an access on a coupled offer
abbrev pub AnswersShared : Cells → Cells → Coupling → Standing → Option GrantedAccess → Type 0
AnswersShared cells cells' coupling own access =
    (at : ℕ) → cell_at cells' at ≡ option_map (shared_at coupling.a.place own.place (side_at coupling own.place) access at) (cell_at cells at)

-- the pair that a new offer makes with its match, if it has one
abbrev pub made_with : Standing → Option Standing → List Pair
made_with new None = []
made_with new (Some match) = pair_of match new ∷ []

-- an entry opens a new offer, and couples it with this match, which stands and is open, if with one
pub record OpensOffer (journal : Entries) (e : PlainEntry) (new : Standing) (match : Option Standing) : Type 0 where
  pub offers : standing (e ∷ journal) ≡ standing journal ++ new ∷ []
  pub place : new.place ≡ next_place journal
  pub made : e.made ≡ made_with new match
  pub matched : (other : Standing) → match ≡ Some other → Contains (standing journal) other × (coupling_now journal other.place ≡ None)
  pub no_access : (act_row e.act).row.accesses ≡ None
  pub no_control : (act_row e.act).row.controls ≡ None

-- the cells with that of a new offer, which shares with its match, if it has one
abbrev pub OpensCells : Cells → Cells → Standing → Option PlainArray → Option Standing → Type 0
OpensCells old new offer value None = PutsAt old new offer.place (Some (new_cell value))
OpensCells old new offer value (Some match) =
    (x : Cell) → cell_at old match.place ≡ Some x →
    PutsTwo old new match.place (coupled_with x.vector (Shared (share_of (known_alone x.held) value))) offer.place (coupled_with no_control Lent)
