-- The cells of an offer are ready for an access, and tell what a use gives.
use Rattle.std.proofs.Common.{◌∙◌, ◌≡◌, List, None, Option, Some, ap, refl, subst, sym, ℕ}
use Rattle.std.proofs.lemmas.Option.{none-some, same_Some}
use Rattle.std.specs.Prelude.{Contains, IsSome, option_and_then}
use Rattle.apl_arrays.specs.Array.{PlainArray}
use Rattle.sv_cell_laws.specs.Fits.{FitCells, FitsHeld, FitsShare, is_coupled, is_open}
use Rattle.sv_cell_laws.specs.Steps.{use_access}
use Rattle.sv_kept.specs.Cell.{known_alone, share_in}
use Rattle.sv_kept.specs.Cells.{cell_at}
use Rattle.sv_kept.specs.declared.cell.Cell.{Cell}
use Rattle.sv_kept.specs.declared.cell.CellContent.{CellContent}
use Rattle.sv_kept.specs.declared.cell.CellContent.TheVariants.{Alone, Lent, Shared}
use Rattle.sv_kept.specs.declared.cells.Cells.{Cells}
use Rattle.sv_rules.specs.Coupling.{coupling_now}
use Rattle.sv_rules.specs.Entries.{Entries}
use Rattle.sv_rules.specs.Legal.{IsLegal}
use Rattle.sv_rules.specs.Outcome.{value_for}
use Rattle.sv_rules.specs.Standing.{standing}
use Rattle.sv_rules.specs.Story.{GrantedAccess, known}
use Rattle.sv_rules.specs.declared.coupling.Coupling.{Coupling}
use Rattle.sv_rules.specs.declared.standing.Standing.{Standing}
use Rattle.sv_kept.specs.Share.{PlainShare, shared_value}
use Rattle.sv_core.proofs.EndingLemmas.{some_cell}
use Rattle.sv_core.proofs.HoldingLemmas.{a_stands, at_its_a, known_is, share_is}
use Rattle.sv_core.specs.Invariant.{IsWholeCore, CoreParts}
use Rattle.sv_core.specs.Updating.{AfterAccess, IsReady, value_at}

-- what is held alone, and what is shared
alone_is : (journal : Entries) (offer : Standing) (cell : Cell) → coupling_now journal offer.place ≡ None → FitsHeld journal offer cell (coupling_now journal offer.place) → cell.held ≡ Alone (known journal offer)
alone_is journal offer cell none (is_open alone held) = held
alone_is journal offer cell none (is_coupled now some holds) = absurd (none-some now (sym none ∙ some))

in_share : (held : CellContent) (share : PlainShare) → share_in held ≡ Some share → held ≡ Shared share
in_share (Alone value) share h = absurd (none-some share h)
in_share (Shared s) share h = ap Shared (same_Some s share h)
in_share Lent share h = absurd (none-some share h)

-- the cell of the lower offer of a coupling
share_at : (users : List ℕ) (journal : Entries) → IsLegal users journal → (cells : Cells) → FitCells journal cells → (place : ℕ) (coupling : Coupling) → coupling_now journal place ≡ Some coupling →
    (cell : Cell) × (cell_at cells coupling.a.place ≡ Some cell) × (share : PlainShare) × (share_in cell.held ≡ Some share) × FitsShare journal coupling share
share_at users journal legal cells fit place coupling now =
    let low = fit coupling.a (a_stands users journal legal place coupling now) in
    let is = share_is journal coupling low.0 (at_its_a users journal legal place coupling now) low.2.held in
    (low.0, low.1, is.0, is.1, is.2)

pub ready_is : (users : List ℕ) (journal : Entries) → IsLegal users journal → (cells : Cells) → FitCells journal cells → (own : Standing) → Contains (standing journal) own →
    IsReady cells own (coupling_now journal own.place)
ready_is users journal legal cells fit own has = by (coupling_now journal own.place) refl
  where
    by : (c : Option Coupling) → coupling_now journal own.place ≡ c → IsReady cells own c
    by None now = let old = fit own has in record { cell = old.0; at = old.1; value = known journal own; held = alone_is journal own old.0 now old.2.held }
    by (Some k) now =
        let old = fit own has in
        let low = share_at users journal legal cells fit own.place k now in
        (record { cell = low.0; at = low.1; share = low.2; held = in_share low.0.held low.2 low.3 }, some_cell cells own.place old.0 old.1)

pub value_is : (users : List ℕ) (journal : Entries) → IsLegal users journal → (cells : Cells) → FitCells journal cells → (own : Standing) → Contains (standing journal) own →
    value_at cells own (coupling_now journal own.place) ≡ value_for journal own (coupling_now journal own.place)
value_is users journal legal cells fit own has = by (coupling_now journal own.place) refl
  where
    by : (c : Option Coupling) → coupling_now journal own.place ≡ c → value_at cells own c ≡ value_for journal own c
    by None now =
        let old = fit own has in
        ap (λ (o : Option Cell). option_and_then (λ (cell : Cell). known_alone cell.held) o) old.1 ∙ known_is journal own old.0 now old.2.held
    by (Some k) now =
        let low = share_at users journal legal cells fit own.place k now in
        ap (λ (o : Option Cell). option_and_then shared_value (option_and_then (λ (cell : Cell). share_in cell.held) o)) low.1
        ∙ ap (λ (o : Option PlainShare). option_and_then shared_value o) low.3 ∙ low.4.told.value

-- the same of a core, by the coupling that was found
pub ready_with : (core : CoreParts) → IsWholeCore core → (own : Standing) → Contains (standing core.journal) own → (found : Option Coupling) → found ≡ coupling_now core.journal own.place → IsReady core.cells own found
ready_with core k own has found is = subst (λ (o : Option Coupling). IsReady core.cells own o) (sym is) (ready_is core.users core.journal k.legal core.cells k.fit own has)

-- an offer has a cell
pub some_cell_in : (core : CoreParts) → IsWholeCore core → (own : Standing) → Contains (standing core.journal) own → IsSome (cell_at core.cells own.place)
some_cell_in core k own has = let old = k.fit own has in some_cell core.cells own.place old.0 old.1

-- the cells after an access, by the coupling of the journal
pub answers_with : (core : CoreParts) (own : Standing) (cells : Cells) (access : Option GrantedAccess) (found : Option Coupling) → found ≡ coupling_now core.journal own.place → AfterAccess core.cells cells own access found →
    AfterAccess core.cells cells own access (coupling_now core.journal own.place)
answers_with core own cells access found is h = subst (λ (o : Option Coupling). AfterAccess core.cells cells own access o) is h

-- and the use of the value that it gives
pub uses_with : (core : CoreParts) → IsWholeCore core → (own : Standing) (cells : Cells) → Contains (standing core.journal) own → (found : Option Coupling) → found ≡ coupling_now core.journal own.place →
    AfterAccess core.cells cells own (use_access (value_at core.cells own found)) found →
    AfterAccess core.cells cells own (use_access (value_for core.journal own (coupling_now core.journal own.place))) (coupling_now core.journal own.place)
uses_with core k own cells has found is h =
    subst (λ (v : Option PlainArray). AfterAccess core.cells cells own (use_access v) (coupling_now core.journal own.place)) (value_is core.users core.journal k.legal core.cells k.fit own has)
    (subst (λ (o : Option Coupling). AfterAccess core.cells cells own (use_access (value_at core.cells own o)) o) is h)
