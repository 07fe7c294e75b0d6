-- What an entry leaves as it was of what is kept.
use Rattle.std.proofs.Common.{◌≡◌, sym, ap, ◌∙◌, subst, ℕ, Bool, true, false, ◌&&◌, not, eqb, List, ◌∷◌, Option, Some, None, ◌⊎◌, inl, inr}
use Rattle.std.specs.Prelude.{Contains, is_some, option_map, unwrap_or, if◌then◌else◌}
use Rattle.std.proofs.lemmas.Bool.{eqb-true, eqb-false, cases_Bool}
use Rattle.sv_access.specs.declared.access.Side.{Side}
use Rattle.sv_access.specs.declared.access.Side.TheVariants.{A, B}
use Rattle.sv_access.specs.declared.control.Control.{Control}
use Rattle.sv_events.specs.Entry.{PlainEntry}
use Rattle.sv_kept.specs.Cell.{known_alone, controlled}
use Rattle.sv_kept.specs.Cells.{cell_at, ChangesAt}
use Rattle.sv_kept.specs.declared.cell.Cell.{Cell}
use Rattle.sv_kept.specs.declared.cell.CellContent.{CellContent}
use Rattle.sv_kept.specs.declared.cell.CellContent.TheVariants.{Alone, Shared}
use Rattle.sv_kept.specs.declared.cells.Cells.{Cells}
use Rattle.sv_rules.specs.Control.{side_at}
use Rattle.sv_rules.specs.Coupling.{coupling_now}
use Rattle.sv_rules.specs.Entries.{Entries}
use Rattle.sv_rules.specs.Legal.{IsLegal}
use Rattle.sv_rules.specs.Standing.{standing}
use Rattle.sv_rules.specs.Story.{GrantedAccess, access_on, known, known_after}
use Rattle.sv_rules.specs.Work.{gets_value}
use Rattle.sv_rules.specs.declared.coupling.Coupling.{Coupling}
use Rattle.sv_rules.specs.declared.standing.Standing.{Standing}
use Rattle.sv_kept.specs.Share.{PlainShare}
use Rattle.sv_offer_laws.proofs.LookupLemmas.{found_as_made}
use Rattle.sv_offer_laws.proofs.PlaceLemmas.{places_ascend, same_by_place}
use Rattle.sv_cell_laws.specs.Fits.{HoldsShare, has_share, has_none, FitsHeld, is_open, is_coupled, FitsCell, FitCells}
use Rattle.sv_cell_laws.specs.Steps.{HeldAfter, alone_then, shared_then, lent_then, CellAfter, with_access, with_entry, Untouched, TouchesNothing, SetsControl}
use Rattle.sv_cell_laws.proofs.CellSteps.{cells_go_on}

-- a share stays, where neither side makes an access
pub share_stays : (share : PlainShare) (coupling : Coupling) (e : PlainEntry) → access_on coupling.a e ≡ None → access_on coupling.b e ≡ None → with_entry share coupling e ≡ share
share_stays share coupling e none_a none_b =
    ap (λ (b : Option GrantedAccess). with_access (with_access share B b) A (access_on coupling.a e)) none_b ∙ ap (λ (a : Option GrantedAccess). with_access share A a) none_a

-- what a coupled offer holds stays, where no access is made
pub holds_stays : (journal : Entries) (e : PlainEntry) (offer : Standing) (now : Coupling) → coupling_now journal offer.place ≡ Some now → access_on now.a e ≡ None → access_on now.b e ≡ None →
    (side : Side) (held : CellContent) → HoldsShare journal now side held → HeldAfter journal e offer (coupling_now journal offer.place) held held
holds_stays journal e offer now some none_a none_b side held (has_share a share is fits) = shared_then now some share is (is ∙ ap Shared (sym (share_stays share now e none_a none_b)))
holds_stays journal e offer now some none_a none_b side held (has_none b is) = lent_then now some is is

-- no standing offer is accessed
abbrev pub NoAccess : Entries → PlainEntry → Type 0
NoAccess journal e = (offer : Standing) → Contains (standing journal) offer → access_on offer e ≡ None

-- what is held stays, where no access is made
held_stays : (users : List ℕ) (journal : Entries) (e : PlainEntry) → IsLegal users journal → NoAccess journal e → (offer : Standing) → Contains (standing journal) offer → (cell : Cell) →
    FitsHeld journal offer cell (coupling_now journal offer.place) → HeldAfter journal e offer (coupling_now journal offer.place) cell.held cell.held
held_stays users journal e legal none offer has cell (is_open alone is) =
    alone_then alone
    (is ∙ ap (λ (a : Option GrantedAccess). Alone (known_after a (known journal offer))) (sym (none offer has))
    ∙ ap (λ (h : CellContent). Alone (known_after (access_on offer e) (known_alone h))) (sym is))
held_stays users journal e legal none offer has cell (is_coupled now some holds) =
    let is = found_as_made users journal legal offer.place now some in
    holds_stays journal e offer now some (none now.a is.has_a) (none now.b is.has_b) (side_at now offer.place) cell.held holds

-- the cell of an untouched offer stays
pub cell_stays : (users : List ℕ) (journal : Entries) (e : PlainEntry) → IsLegal users journal → NoAccess journal e → (offer : Standing) → Contains (standing journal) offer → (cell : Cell) →
    FitsCell journal offer cell → Untouched e offer → CellAfter journal e offer cell cell
cell_stays users journal e legal none offer has cell fits untouched = record {
  vector = ap (λ (c : Option Control). unwrap_or c cell.vector) (sym untouched.control);
  held = held_stays users journal e legal none offer has cell fits.held;
  work = λ auxiliary. record {
    lacks = ap (λ (c : Option Control). not (is_some c) && cell.lacks_control) (sym untouched.control);
    owes = ap (λ (b : Bool). if b then gets_value offer e else cell.owes_reply) (sym (untouched.tries auxiliary));
  };
}

-- an entry that touches nothing leaves the cells
pub cells_stay : (users : List ℕ) (journal : Entries) (e : PlainEntry) → IsLegal users (e ∷ journal) → TouchesNothing journal e → (cells : Cells) → FitCells journal cells → FitCells (e ∷ journal) cells
cells_stay users journal e legal nothing cells fit =
    cells_go_on users journal e legal nothing.stays cells cells fit
    (λ offer has cell at fits. (cell, at, cell_stays users journal e legal.1 (λ o h. (nothing.none o h).access) offer has cell fits (nothing.none offer has)))

-- two standing offers of one place are one
pub one_place : (journal : Entries) (one other : Standing) → Contains (standing journal) one → Contains (standing journal) other → one.place ≡ other.place → one ≡ other
one_place journal one other has_one has_other same = same_by_place (standing journal) one other (places_ascend journal) has_one has_other same

-- the cell of an offer whose control is set
cell_controlled : (users : List ℕ) (journal : Entries) (e : PlainEntry) (own : Standing) (control : Control) → IsLegal users journal → SetsControl journal e own control →
    Contains (standing journal) own → (cell : Cell) → FitsCell journal own cell → CellAfter journal e own cell (controlled cell control)
cell_controlled users journal e own control legal sets has cell fits = record {
  vector = ap (λ (c : Option Control). unwrap_or c cell.vector) (sym sets.sets);
  held = held_stays users journal e legal sets.no_access own has cell fits.held;
  work = λ auxiliary. record {
    lacks = ap (λ (c : Option Control). not (is_some c) && cell.lacks_control) (sym sets.sets);
    owes = ap (λ (b : Bool). if b then gets_value own e else cell.owes_reply) (sym (sets.no_tries own has));
  };
}

-- an entry that sets a control changes the cell of its offer
pub cells_controlled : (users : List ℕ) (journal : Entries) (e : PlainEntry) (own : Standing) (control : Control) → IsLegal users (e ∷ journal) → Contains (standing journal) own →
    SetsControl journal e own control → (cells cells' : Cells) → FitCells journal cells → ChangesAt cells cells' own.place (λ cell. controlled cell control) → FitCells (e ∷ journal) cells'
cells_controlled users journal e own control legal has_own sets cells cells' fit changes =
    cells_go_on users journal e legal sets.stays cells cells' fit (λ offer has cell at fits. by offer has cell at fits (cases_Bool (eqb own.place offer.place)))
  where
    by : (offer : Standing) → Contains (standing journal) offer → (cell : Cell) → cell_at cells offer.place ≡ Some cell → FitsCell journal offer cell →
        (eqb own.place offer.place ≡ true) ⊎ (eqb own.place offer.place ≡ false) → (cell' : Cell) × (cell_at cells' offer.place ≡ Some cell') × CellAfter journal e offer cell cell'
    by offer has cell at fits (inr other) = (
      cell,
      changes offer.place ∙ ap (λ (b : Bool). if b then option_map (λ (c : Cell). controlled c control) (cell_at cells own.place) else cell_at cells offer.place) other ∙ at,
      cell_stays users journal e legal.1 sets.no_access offer has cell fits (record {
        access = sets.no_access offer has;
        control = sets.others offer has (λ same. eqb-false own.place offer.place other (sym same));
        tries = λ auxiliary. sets.no_tries offer has;
      }),
    )
    by offer has cell at fits (inl here) =
        let place = eqb-true own.place offer.place here in
        let same : offer ≡ own = one_place journal offer own has has_own (sym place) in (
          controlled cell control,
          changes offer.place ∙ ap (λ (b : Bool). if b then option_map (λ (c : Cell). controlled c control) (cell_at cells own.place) else cell_at cells offer.place) here
              ∙ ap (λ (p : ℕ). option_map (λ (c : Cell). controlled c control) (cell_at cells p)) place ∙ ap (option_map (λ (c : Cell). controlled c control)) at,
          subst (λ (o : Standing). CellAfter journal e o cell (controlled cell control)) (sym same)
              (cell_controlled users journal e own control legal.1 sets has_own cell (subst (λ (o : Standing). FitsCell journal o cell) same fits)),
        )
