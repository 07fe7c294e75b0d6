-- Cells of which two are put at two places.
use Rattle.std.proofs.Common.{◌≡◌, sym, refl, ap, ◌∙◌, subst, ℕ, Bool, true, false, eqb, Option, Some, ◌⊎◌, inl, inr}
use Rattle.std.specs.Prelude.{if◌then◌else◌}
use Rattle.std.proofs.lemmas.Bool.{cases_Bool, eqb-true}
use Rattle.sv_kept.specs.Cells.{PutsTwo, cell_at}
use Rattle.sv_kept.specs.declared.cell.Cell.{Cell}
use Rattle.sv_kept.specs.declared.cells.Cells.{Cells}
use Rattle.sv_rules.specs.Entries.{Entries}
use Rattle.sv_rules.specs.declared.coupling.Coupling.{Coupling}
use Rattle.sv_rules.specs.declared.standing.Standing.{Standing}
use Rattle.sv_cell_laws.specs.Ends.{FitsCoupling, CellsIn}

-- the two are found at their places, and elsewhere what was there
pub puts_two : (cells cells' : Cells) (a b : ℕ) (low high : Cell) → PutsTwo cells cells' a low b high → (place : ℕ) (x y : Bool) → eqb a place ≡ x → eqb b place ≡ y →
    cell_at cells' place ≡ (if x then Some low else (if y then Some high else cell_at cells place))
puts_two cells cells' a b low high puts place x y is_x is_y =
    puts place
    ∙ ap (λ (t : Bool). if t then Some low else (if eqb b place then Some high else cell_at cells place)) is_x
    ∙ ap (λ (t : Bool). if x then Some low else (if t then Some high else cell_at cells place)) is_y

-- where the two fit their offers, and the other offers are coupled as before, each has its cell
pub cells_put : (journal : Entries) (among : Standing → Type 0) (f g : ℕ → Option Coupling) (a b : Standing) → ((o p : Standing) → among o → among p → o.place ≡ p.place → o ≡ p) → among a → among b →
    ((place : ℕ) → eqb a.place place ≡ false → eqb b.place place ≡ false → g place ≡ f place) → (cells cells' : Cells) → CellsIn journal among f cells → (low high : Cell) →
    PutsTwo cells cells' a.place low b.place high → FitsCoupling journal a low (g a.place) → FitsCoupling journal b high (g b.place) → CellsIn journal among g cells'
cells_put journal among f g a b one has_a has_b others cells cells' fit low high puts low_fits high_fits offer has =
    by (cases_Bool (eqb a.place offer.place)) (cases_Bool (eqb b.place offer.place))
  where
    by : (eqb a.place offer.place ≡ true) ⊎ (eqb a.place offer.place ≡ false) → (eqb b.place offer.place ≡ true) ⊎ (eqb b.place offer.place ≡ false) →
        (cell : Cell) × (cell_at cells' offer.place ≡ Some cell) × FitsCoupling journal offer cell (g offer.place)
    by (inl x) y =
        let same = one a offer has_a has (eqb-true a.place offer.place x) in
        (low, puts_two cells cells' a.place b.place low high puts offer.place true (eqb b.place offer.place) x refl, subst (λ (o : Standing). FitsCoupling journal o low (g o.place)) same low_fits)
    by (inr x) (inl y) =
        let same = one b offer has_b has (eqb-true b.place offer.place y) in
        (high, puts_two cells cells' a.place b.place low high puts offer.place false true x y, subst (λ (o : Standing). FitsCoupling journal o high (g o.place)) same high_fits)
    by (inr x) (inr y) =
        let old = fit offer has in
        (old.0, puts_two cells cells' a.place b.place low high puts offer.place false false x y ∙ old.1, subst (FitsCoupling journal offer old.0) (sym (others offer.place x y)) old.2)
