-- What is kept goes on with an access.
use Rattle.std.proofs.Common.{◌≡◌, refl, sym, ap, ◌∙◌, subst, ℕ, Bool, true, false, ◌&&◌, not, eqb, List, ◌∷◌, Option, Some, None, ◌⊎◌, inl, inr, arith}
use Rattle.std.specs.Prelude.{Contains, is_some, option_map, unwrap_or, if◌then◌else◌}
use Rattle.std.proofs.lemmas.Bool.{eq-eqb, eqb-true, eqb-false, cases_Bool}
use Rattle.std.proofs.lemmas.Option.{none-some, same_Some}
use Rattle.sv_access.specs.declared.access.Side.{Side}
use Rattle.sv_access.specs.declared.access.Side.TheVariants.{A, B}
use Rattle.sv_access.specs.declared.control.Control.{Control}
use Rattle.sv_events.specs.Entry.{PlainEntry}
use Rattle.sv_kept.specs.Cell.{known_alone, answered, holding}
use Rattle.sv_kept.specs.Cells.{cell_at}
use Rattle.sv_kept.specs.declared.cell.Cell.{Cell}
use Rattle.sv_kept.specs.declared.cell.CellContent.{CellContent}
use Rattle.sv_kept.specs.declared.cell.CellContent.TheVariants.{Alone, Shared}
use Rattle.sv_kept.specs.declared.cells.Cells.{Cells}
use Rattle.sv_rules.specs.Control.{control_on, side_at}
use Rattle.sv_rules.specs.Coupling.{coupling_now}
use Rattle.sv_rules.specs.Entries.{Entries}
use Rattle.sv_rules.specs.Legal.{IsLegal}
use Rattle.sv_rules.specs.Standing.{standing}
use Rattle.sv_rules.specs.Story.{GrantedAccess, access_on, known, known_after}
use Rattle.sv_rules.specs.Work.{gets_value}
use Rattle.sv_rules.specs.declared.coupling.Coupling.{Coupling}
use Rattle.sv_rules.specs.declared.standing.Standing.{Standing}
use Rattle.sv_kept.specs.Share.{PlainShare}
use Rattle.sv_offer_laws.specs.CouplingLaws.{IsCouplingOf}
use Rattle.sv_offer_laws.proofs.LookupLemmas.{found_as_made}
use Rattle.sv_cell_laws.specs.Fits.{HoldsShare, has_share, has_none, FitsHeld, is_open, is_coupled, FitsCell, FitCells}
use Rattle.sv_cell_laws.specs.Steps.{HeldAfter, alone_then, shared_then, lent_then, WorkAfter, CellAfter, with_access, with_entry, MakesAccess, is_use, answered_alone, with_access_in, shared_at, AnswersOpen, AnswersShared}
use Rattle.sv_cell_laws.proofs.CellSteps.{cells_go_on, found_at_a, found_at_b}
use Rattle.sv_cell_laws.proofs.TouchSteps.{holds_stays, one_place}

-- what an auxiliary has to do on the offer that was tried
work_answered : (journal : Entries) (e : PlainEntry) (own : Standing) (access : Option GrantedAccess) → MakesAccess journal e own access → Contains (standing journal) own →
    (cell cell' : Cell) → cell'.lacks_control ≡ cell.lacks_control → cell'.owes_reply ≡ is_use access → WorkAfter e own cell cell'
work_answered journal e own access makes has cell cell' lacks owes = record {
  lacks = lacks ∙ ap (λ (c : Option Control). not (is_some c) && cell.lacks_control) (sym (makes.no_control own has));
  owes = owes ∙ ap is_use (sym makes.makes) ∙ ap (λ (b : Bool). if b then gets_value own e else cell.owes_reply) (sym makes.tried);
}

-- and on another
work_stays : (journal : Entries) (e : PlainEntry) (own : Standing) (access : Option GrantedAccess) → MakesAccess journal e own access → (offer : Standing) → Contains (standing journal) offer →
    ¬ (offer.place ≡ own.place) → (cell cell' : Cell) → cell'.lacks_control ≡ cell.lacks_control → cell'.owes_reply ≡ cell.owes_reply → WorkAfter e offer cell cell'
work_stays journal e own access makes offer has other cell cell' lacks owes = record {
  lacks = lacks ∙ ap (λ (c : Option Control). not (is_some c) && cell.lacks_control) (sym (makes.no_control offer has));
  owes = owes ∙ ap (λ (b : Bool). if b then gets_value offer e else cell.owes_reply) (sym (makes.no_tries offer has other));
}

-- the vector stays, since no control is set
vector_stays : (journal : Entries) (e : PlainEntry) (own : Standing) (access : Option GrantedAccess) → MakesAccess journal e own access → (offer : Standing) → Contains (standing journal) offer →
    (cell cell' : Cell) → cell'.vector ≡ cell.vector → cell'.vector ≡ unwrap_or (control_on offer e) cell.vector
vector_stays journal e own access makes offer has cell cell' same = same ∙ ap (λ (c : Option Control). unwrap_or c cell.vector) (sym (makes.no_control offer has))

-- what another offer holds stays, where neither offer of its coupling is the one that was tried, or it holds no share
held_apart : (users : List ℕ) (journal : Entries) (e : PlainEntry) (own : Standing) (access : Option GrantedAccess) → IsLegal users journal → MakesAccess journal e own access →
    (offer : Standing) → Contains (standing journal) offer → ¬ (offer.place ≡ own.place) → (cell : Cell) → FitsHeld journal offer cell (coupling_now journal offer.place) →
    ((now : Coupling) → coupling_now journal offer.place ≡ Some now → side_at now offer.place ≡ A → ¬ (coupling_now journal own.place ≡ Some now)) →
    HeldAfter journal e offer (coupling_now journal offer.place) cell.held cell.held
held_apart users journal e own access legal makes offer has other cell (is_open alone is) apart =
    alone_then alone
    (is ∙ ap (λ (a : Option GrantedAccess). Alone (known_after a (known journal offer))) (sym (makes.no_other offer has other))
    ∙ ap (λ (h : CellContent). Alone (known_after (access_on offer e) (known_alone h))) (sym is))
held_apart users journal e own access legal makes offer has other cell (is_coupled now some holds) apart = by holds
  where
    is : IsCouplingOf journal offer.place now
    is = found_as_made users journal legal offer.place now some

    not_a : side_at now offer.place ≡ A → now.a.place ≡ own.place → ⊥
    not_a side same = apart now some side (ap (coupling_now journal) (sym same) ∙ found_at_a users journal legal offer.place now is)

    not_b : side_at now offer.place ≡ A → now.b.place ≡ own.place → ⊥
    not_b side same = apart now some side (ap (coupling_now journal) (sym same) ∙ found_at_b users journal legal offer.place now is)

    by : HoldsShare journal now (side_at now offer.place) cell.held → HeldAfter journal e offer (coupling_now journal offer.place) cell.held cell.held
    by (has_share side share held fits) =
        holds_stays journal e offer now some (makes.no_other now.a is.has_a (not_a side)) (makes.no_other now.b is.has_b (not_b side)) (side_at now offer.place) cell.held (has_share side share held fits)
    by (has_none side held) = lent_then now some held held

-- the cells go on with an access on an open offer
pub cells_answered_open : (users : List ℕ) (journal : Entries) (e : PlainEntry) (own : Standing) (access : Option GrantedAccess) → IsLegal users (e ∷ journal) → Contains (standing journal) own →
    MakesAccess journal e own access → coupling_now journal own.place ≡ None → (cells cells' : Cells) → FitCells journal cells → AnswersOpen cells cells' own access → FitCells (e ∷ journal) cells'
cells_answered_open users journal e own access legal has_own makes alone cells cells' fit answers =
    cells_go_on users journal e legal makes.stays cells cells' fit (λ offer has cell at fits. by offer has cell at fits (cases_Bool (eqb own.place offer.place)))
  where
    at_place : (place : ℕ) (b : Bool) → eqb own.place place ≡ b → cell_at cells' place ≡ (if b then option_map (answered_alone access) (cell_at cells own.place) else cell_at cells place)
    at_place place b is = answers place ∙ ap (λ (c : Bool). if c then option_map (answered_alone access) (cell_at cells own.place) else cell_at cells place) is

    held_alone : (cell : Cell) → FitsHeld journal own cell (coupling_now journal own.place) → HeldAfter journal e own (coupling_now journal own.place) cell.held (answered_alone access cell).held
    held_alone cell (is_open none is) = alone_then none (ap (λ (a : Option GrantedAccess). Alone (known_after a (known_alone cell.held))) (sym makes.makes))
    held_alone cell (is_coupled now some holds) = absurd (none-some now (sym alone ∙ some))

    by : (offer : Standing) → Contains (standing journal) offer → (cell : Cell) → cell_at cells offer.place ≡ Some cell → FitsCell journal offer cell →
        (eqb own.place offer.place ≡ true) ⊎ (eqb own.place offer.place ≡ false) → (cell' : Cell) × (cell_at cells' offer.place ≡ Some cell') × CellAfter journal e offer cell cell'
    by offer has cell at fits (inr apart) =
        let other : offer.place ≡ own.place → ⊥ = λ same. eqb-false own.place offer.place apart (sym same) in (
          cell,
          at_place offer.place false apart ∙ at,
          record {
            vector = vector_stays journal e own access makes offer has cell cell refl;
            held = held_apart users journal e own access legal.1 makes offer has other cell fits.held (λ now some side own_now. none-some now (sym alone ∙ own_now));
            work = λ auxiliary. work_stays journal e own access makes offer has other cell cell refl refl;
          },
        )
    by offer has cell at fits (inl here) =
        let place = eqb-true own.place offer.place here in
        let same : own ≡ offer = one_place journal own offer has_own has place in (
          answered_alone access cell,
          at_place offer.place true here ∙ ap (λ (p : ℕ). option_map (answered_alone access) (cell_at cells p)) place ∙ ap (option_map (answered_alone access)) at,
          subst (λ (o : Standing). CellAfter journal e o cell (answered_alone access cell)) same (record {
            vector = vector_stays journal e own access makes own has_own cell (answered_alone access cell) refl;
            held = held_alone cell (subst (λ (o : Standing). FitsCell journal o cell) (sym same) fits).held;
            work = λ auxiliary. work_answered journal e own access makes has_own cell (answered_alone access cell) refl refl;
          }),
        )

-- the share of a coupling with the access of a side, where the other side makes none
with_entry_on : (share : PlainShare) (coupling : Coupling) (e : PlainEntry) (side : Side) (access : Option GrantedAccess) →
    (side ≡ A → (access_on coupling.a e ≡ access) × (access_on coupling.b e ≡ None)) → (side ≡ B → (access_on coupling.b e ≡ access) × (access_on coupling.a e ≡ None)) →
    with_access share side access ≡ with_entry share coupling e
with_entry_on share coupling e A access on_a on_b =
    let h = on_a refl in
    ap (with_access share A) (sym h.0) ∙ ap (λ (b : Option GrantedAccess). with_access (with_access share B b) A (access_on coupling.a e)) (sym h.1)
with_entry_on share coupling e B access on_a on_b =
    let h = on_b refl in
    ap (with_access share B) (sym h.0) ∙ ap (λ (a : Option GrantedAccess). with_access (with_access share B (access_on coupling.b e)) A a) (sym h.1)

-- ---- an access on a coupled offer

module _ (users : List ℕ) (journal : Entries) (e : PlainEntry) (own : Standing) (access : Option GrantedAccess) (coupling : Coupling) (legal : IsLegal users (e ∷ journal))
    (has_own : Contains (standing journal) own) (makes : MakesAccess journal e own access) (now : coupling_now journal own.place ≡ Some coupling) where
  -- the side of the offer that was tried
  abbrev own_side : Side
  own_side = side_at coupling own.place

  -- the coupling is that of two standing offers
  as_made : IsCouplingOf journal own.place coupling
  as_made = found_as_made users journal legal.1 own.place coupling now

  -- on side A that offer is the lower one
  own_is_a : own_side ≡ A → own ≡ coupling.a
  own_is_a h = elim as_made.here [
    | inl low ↦ one_place journal own coupling.a has_own as_made.has_a (sym low)
    | inr high ↦ elim (cases_Bool (eqb coupling.a.place own.place)) [
      | inl same ↦ one_place journal own coupling.a has_own as_made.has_a (sym (eqb-true coupling.a.place own.place same))
      | inr apart ↦ absurd (let b : B ≡ A = ap (λ (t : Bool). if t then A else B) (sym apart) ∙ h in cc)
    ]
  ]

  -- and on side B the higher one
  own_is_b : own_side ≡ B → own ≡ coupling.b
  own_is_b h = elim as_made.here [
    | inl low ↦ absurd (let a : A ≡ B = ap (λ (t : Bool). if t then A else B) (sym (eq-eqb coupling.a.place own.place low)) ∙ h in cc)
    | inr high ↦ one_place journal own coupling.b has_own as_made.has_b (sym high)
  ]

  -- so on side A the higher one is another
  other_is_b : own_side ≡ A → coupling.b.place ≡ own.place → ⊥
  other_is_b h same = omega (arith, as_made.lower_first, same, ap (λ (o : Standing). o.place) (own_is_a h))

  -- and on side B the lower one
  other_is_a : own_side ≡ B → coupling.a.place ≡ own.place → ⊥
  other_is_a h same = omega (arith, as_made.lower_first, same, ap (λ (o : Standing). o.place) (own_is_b h))

  -- the share after the access is that after the entry
  share_answered : (share : PlainShare) → with_access share own_side access ≡ with_entry share coupling e
  share_answered share =
      with_entry_on share coupling e own_side access (λ h. (ap (λ (o : Standing). access_on o e) (sym (own_is_a h)) ∙ makes.makes, makes.no_other coupling.b as_made.has_b (other_is_b h)))
      (λ h. (ap (λ (o : Standing). access_on o e) (sym (own_is_b h)) ∙ makes.makes, makes.no_other coupling.a as_made.has_a (other_is_a h)))

  -- the lower offer of the coupling holds the share after the access
  held_low : (offer : Standing) (cell : Cell) → coupling.a ≡ offer → FitsHeld journal offer cell (coupling_now journal offer.place) →
      HeldAfter journal e offer (coupling_now journal offer.place) cell.held (with_access_in cell.held own_side access)
  held_low offer cell low (is_open none held) =
      absurd (none-some coupling (sym none ∙ ap (λ (o : Standing). coupling_now journal o.place) (sym low) ∙ found_at_a users journal legal.1 own.place coupling as_made))
  held_low offer cell low (is_coupled other some holds) = of holds
    where
      same : other ≡ coupling
      same = same_Some other coupling (sym some ∙ ap (λ (o : Standing). coupling_now journal o.place) (sym low) ∙ found_at_a users journal legal.1 own.place coupling as_made)

      of : HoldsShare journal other (side_at other offer.place) cell.held → HeldAfter journal e offer (coupling_now journal offer.place) cell.held (with_access_in cell.held own_side access)
      of (has_share a share held fits) =
          shared_then other some share held
          (ap (λ (h : CellContent). with_access_in h own_side access) held ∙ ap Shared (share_answered share ∙ ap (λ (c : Coupling). with_entry share c e) (sym same)))
      of (has_none b held) =
          absurd (let at_a = eq-eqb coupling.a.place offer.place (ap (λ (o : Standing). o.place) low) in
          let a : A ≡ B = ap (λ (t : Bool). if t then A else B) (sym at_a) ∙ ap (λ (c : Coupling). side_at c offer.place) (sym same) ∙ b in cc)

  -- another offer, of the coupling, of another or of none, holds what it held
  held_other : (offer : Standing) → Contains (standing journal) offer → (cell : Cell) → eqb coupling.a.place offer.place ≡ false → FitsHeld journal offer cell (coupling_now journal offer.place) →
      (own.place ≡ offer.place) ⊎ (own.place ≡ offer.place → ⊥) → HeldAfter journal e offer (coupling_now journal offer.place) cell.held cell.held
  held_other offer has cell high fits (inr apart) =
      held_apart users journal e own access legal.1 makes offer has (λ same. apart (sym same)) cell fits
      (λ other some a own_now.
      let same : other ≡ coupling = same_Some other coupling (sym own_now ∙ now) in
      let b : B ≡ A = ap (λ (t : Bool). if t then A else B) (sym high) ∙ ap (λ (c : Coupling). side_at c offer.place) (sym same) ∙ a in cc)
  held_other offer has cell high (is_open none held) (inl here) = absurd (none-some coupling (sym none ∙ ap (coupling_now journal) (sym here) ∙ now))
  held_other offer has cell high (is_coupled other some holds) (inl here) = of holds
    where
      same : other ≡ coupling
      same = same_Some other coupling (sym some ∙ ap (coupling_now journal) (sym here) ∙ now)

      of : HoldsShare journal other (side_at other offer.place) cell.held → HeldAfter journal e offer (coupling_now journal offer.place) cell.held cell.held
      of (has_share a share held fits) =
          absurd (let b : B ≡ A = ap (λ (t : Bool). if t then A else B) (sym high) ∙ ap (λ (c : Coupling). side_at c offer.place) (sym same) ∙ a in cc)
      of (has_none b held) = lent_then other some held held

  -- the cell of each offer goes on, by whether it has the share, and whether it was tried
  cell_answered : (offer : Standing) → Contains (standing journal) offer → (cell : Cell) → FitsCell journal offer cell → (eqb coupling.a.place offer.place ≡ true) ⊎ (eqb coupling.a.place offer.place ≡ false) →
      (eqb own.place offer.place ≡ true) ⊎ (eqb own.place offer.place ≡ false) → CellAfter journal e offer cell (shared_at coupling.a.place own.place own_side access offer.place cell)
  cell_answered offer has cell fits (inl low) (inl here) =
      let is_low = one_place journal coupling.a offer as_made.has_a has (eqb-true coupling.a.place offer.place low) in
      let is_own = one_place journal own offer has_own has (eqb-true own.place offer.place here) in
      rw (low, here) (record {
        vector = vector_stays journal e own access makes offer has cell (answered (holding cell (with_access_in cell.held own_side access)) (is_use access)) refl;
        held = held_low offer cell is_low fits.held;
        work = λ auxiliary. subst (λ (o : Standing). WorkAfter e o cell (answered (holding cell (with_access_in cell.held own_side access)) (is_use access))) is_own
            (work_answered journal e own access makes has_own cell (answered (holding cell (with_access_in cell.held own_side access)) (is_use access)) refl refl);
      })
  cell_answered offer has cell fits (inl low) (inr apart) =
      let is_low = one_place journal coupling.a offer as_made.has_a has (eqb-true coupling.a.place offer.place low) in
      rw (low, apart) (record {
        vector = vector_stays journal e own access makes offer has cell (holding cell (with_access_in cell.held own_side access)) refl;
        held = held_low offer cell is_low fits.held;
        work = λ auxiliary. work_stays journal e own access makes offer has (λ same. eqb-false own.place offer.place apart (sym same)) cell (holding cell (with_access_in cell.held own_side access)) refl refl;
      })
  cell_answered offer has cell fits (inr high) (inl here) =
      let place = eqb-true own.place offer.place here in
      let is_own = one_place journal own offer has_own has place in
      rw (high, here) (record {
        vector = vector_stays journal e own access makes offer has cell (answered cell (is_use access)) refl;
        held = held_other offer has cell high fits.held (inl place);
        work = λ auxiliary. subst (λ (o : Standing). WorkAfter e o cell (answered cell (is_use access))) is_own (work_answered journal e own access makes has_own cell (answered cell (is_use access)) refl refl);
      })
  cell_answered offer has cell fits (inr high) (inr apart) =
      rw (high, apart) (record {
        vector = vector_stays journal e own access makes offer has cell cell refl;
        held = held_other offer has cell high fits.held (inr (eqb-false own.place offer.place apart));
        work = λ auxiliary. work_stays journal e own access makes offer has (λ same. eqb-false own.place offer.place apart (sym same)) cell cell refl refl;
      })

  -- the cells go on with an access on a coupled offer
  pub cells_answered_shared : (cells cells' : Cells) → FitCells journal cells → AnswersShared cells cells' coupling own access → FitCells (e ∷ journal) cells'
  cells_answered_shared cells cells' fit answers =
      cells_go_on users journal e legal makes.stays cells cells' fit
      (λ offer has cell at fits. (
        shared_at coupling.a.place own.place own_side access offer.place cell,
        answers offer.place ∙ ap (option_map (shared_at coupling.a.place own.place own_side access offer.place)) at,
        cell_answered offer has cell fits (cases_Bool (eqb coupling.a.place offer.place)) (cases_Bool (eqb own.place offer.place)),
      ))
