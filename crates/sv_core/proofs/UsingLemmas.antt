-- The cells after a use: what its party gets is known to it.
use Rattle.std.proofs.Common.{◌∙◌, ◌≡◌, Bool, None, OnOk, Option, Result, Some, ap, eqb, false, refl, subst, sym, true, ℕ}
use Rattle.std.proofs.lemmas.Bool.{eqb-true}
use Rattle.std.specs.Prelude.{if◌then◌else◌, is_some, option_and_then, option_map}
use Rattle.apl_arrays.specs.Array.{PlainArray}
use Rattle.sv_access.specs.declared.access.Side.{Side}
use Rattle.sv_cell_laws.specs.Steps.{AnswersOpen, AnswersShared, answered_alone, is_use, shared_at, use_access, with_access, with_access_in}
use Rattle.sv_kept.specs.Cell.{after_use_in, answered, holding, known_alone, share_in}
use Rattle.sv_kept.specs.Cells.{ChangesAt, cell_at}
use Rattle.sv_kept.specs.declared.cell.Cell.{Cell}
use Rattle.sv_kept.specs.declared.cell.CellContent.{CellContent}
use Rattle.sv_kept.specs.declared.cell.CellContent.TheVariants.{Alone, Shared}
use Rattle.sv_kept.specs.declared.cells.Cells.{Cells}
use Rattle.sv_rules.specs.Control.{side_at}
use Rattle.sv_rules.specs.Story.{known_after}
use Rattle.sv_rules.specs.declared.coupling.Coupling.{Coupling}
use Rattle.sv_rules.specs.declared.standing.Standing.{Standing}
use Rattle.sv_kept.specs.Share.{PlainShare, after_get, shared_value}
use Rattle.sv_core.specs.Updating.{HasShareAt, HoldsAlone, value_at}

-- what an option has, unchanged
kept_alike : (o : Option Cell) → option_map (λ (c : Cell). c) o ≡ o
kept_alike None = refl
kept_alike (Some c) = refl

-- a use of a value that is known alone changes nothing but what is owed
use_tells : (value : Option PlainArray) → is_some value ≡ is_use (use_access value)
use_tells None = refl
use_tells (Some v) = refl

known_still : (value : Option PlainArray) → value ≡ known_after (use_access value) value
known_still None = refl
known_still (Some v) = refl

answered_so : (cell : Cell) (value : Option PlainArray) → cell.held ≡ Alone value → answered cell (is_some value) ≡ answered_alone (use_access value) cell
answered_so cell value held =
    ap (λ (g : Bool). answered cell g) (use_tells value)
    ∙ ap (λ (h : CellContent). answered (holding cell h) (is_use (use_access value))) (held ∙ ap Alone (known_still value ∙ ap (λ (h : CellContent). known_after (use_access value) (known_alone h)) (sym held)))

pub uses_alone : (old new : Cells) (place : ℕ) (cell : Cell) (value : Option PlainArray) → cell_at old place ≡ Some cell → cell.held ≡ Alone value →
    ChangesAt old new place (λ c. answered c (is_some value)) → ChangesAt old new place (answered_alone (use_access value))
uses_alone old new place cell value there held changes at =
    changes at
    ∙ ap (λ (o : Option Cell). if eqb place at then o else cell_at old at)
    (ap (λ (o : Option Cell). option_map (λ (c : Cell). answered c (is_some value)) o) there ∙ ap Some (answered_so cell value held) ∙ ap (λ (o : Option Cell). option_map (answered_alone (use_access value)) o) (sym there))

-- what a share is after a use, by the value that it gives
got_is : (share : PlainShare) (side : Side) (value : Option PlainArray) → after_get share side value ≡ with_access share side (use_access value)
got_is share side None = refl
got_is share side (Some v) = refl

-- the share is used, by one side
used_first : (old mid : Cells) (home : ℕ) (side : Side) (cell : Cell) (share : PlainShare) → cell_at old home ≡ Some cell → cell.held ≡ Shared share → ChangesAt old mid home (λ c. holding c (after_use_in c.held side)) →
    (at : ℕ) → cell_at mid at ≡ option_map (λ (c : Cell). if eqb home at then holding c (with_access_in c.held side (use_access (shared_value share))) else c) (cell_at old at)
used_first old mid home side cell share there held changes at = by (eqb home at) refl
  where
    held_so : after_use_in cell.held side ≡ with_access_in cell.held side (use_access (shared_value share))
    held_so =
        ap (λ (h : CellContent). after_use_in h side) held ∙ ap Shared (got_is share side (shared_value share)) ∙ ap (λ (h : CellContent). with_access_in h side (use_access (shared_value share))) (sym held)

    by : (b : Bool) → eqb home at ≡ b → cell_at mid at ≡ option_map (λ (c : Cell). if eqb home at then holding c (with_access_in c.held side (use_access (shared_value share))) else c) (cell_at old at)
    by true is =
        changes at
        ∙ ap (λ (t : Bool). if t then option_map (λ (c : Cell). holding c (after_use_in c.held side)) (cell_at old home) else cell_at old at) is
        ∙ ap (λ (o : Option Cell). option_map (λ (c : Cell). holding c (after_use_in c.held side)) o) there
        ∙ ap (λ (h : CellContent). Some (holding cell h)) held_so
        ∙ ap (λ (o : Option Cell). option_map (λ (c : Cell). holding c (with_access_in c.held side (use_access (shared_value share)))) o) (sym there ∙ ap (cell_at old) (eqb-true home at is))
        ∙ ap (λ (t : Bool). option_map (λ (c : Cell). if t then holding c (with_access_in c.held side (use_access (shared_value share))) else c) (cell_at old at)) (sym is)
    by false is =
        changes at
        ∙ ap (λ (t : Bool). if t then option_map (λ (c : Cell). holding c (after_use_in c.held side)) (cell_at old home) else cell_at old at) is
        ∙ sym (kept_alike (cell_at old at))
        ∙ ap (λ (t : Bool). option_map (λ (c : Cell). if t then holding c (with_access_in c.held side (use_access (shared_value share))) else c) (cell_at old at)) (sym is)

-- one change after another
both_changes : (f g : Cell → Cell) (o : Option Cell) → option_map g (option_map f o) ≡ option_map (λ (c : Cell). g (f c)) o
both_changes f g None = refl
both_changes f g (Some c) = refl

-- and then its party has got the value, or none
pub uses_shared : (old mid new : Cells) (home own : ℕ) (side : Side) (cell : Cell) (share : PlainShare) → cell_at old home ≡ Some cell → cell.held ≡ Shared share →
    ChangesAt old mid home (λ c. holding c (after_use_in c.held side)) → ChangesAt mid new own (λ c. answered c (is_some (shared_value share))) →
    (at : ℕ) → cell_at new at ≡ option_map (shared_at home own side (use_access (shared_value share)) at) (cell_at old at)
uses_shared old mid new home own side cell share there held first second at = by (eqb own at) refl
  where
    f : Cell → Cell
    f c = if eqb home at then holding c (with_access_in c.held side (use_access (shared_value share))) else c

    g : Bool → Cell → Cell
    g b c = if b then answered c (is_use (use_access (shared_value share))) else c

    before : cell_at mid at ≡ option_map f (cell_at old at)
    before = used_first old mid home side cell share there held first at

    by : (b : Bool) → eqb own at ≡ b → cell_at new at ≡ option_map (λ (c : Cell). g (eqb own at) (f c)) (cell_at old at)
    by true is =
        second at
        ∙ ap (λ (t : Bool). if t then option_map (λ (c : Cell). answered c (is_some (shared_value share))) (cell_at mid own) else cell_at mid at) is
        ∙ ap (λ (o : Option Cell). option_map (λ (c : Cell). answered c (is_some (shared_value share))) o) (ap (cell_at mid) (eqb-true own at is) ∙ before)
        ∙ ap (λ (t : Bool). option_map (λ (c : Cell). answered c t) (option_map f (cell_at old at))) (use_tells (shared_value share))
        ∙ both_changes f (g true) (cell_at old at)
        ∙ ap (λ (t : Bool). option_map (λ (c : Cell). g t (f c)) (cell_at old at)) (sym is)
    by false is =
        second at
        ∙ ap (λ (t : Bool). if t then option_map (λ (c : Cell). answered c (is_some (shared_value share))) (cell_at mid own) else cell_at mid at) is
        ∙ before
        ∙ ap (λ (t : Bool). option_map (λ (c : Cell). g t (f c)) (cell_at old at)) (sym is)

-- the cells of an open offer after a use
pub note_alone : (old new : Cells) (own : Standing) → HoldsAlone old own.place →
    ((cell : Cell) (value : Option PlainArray) → cell_at old own.place ≡ Some cell → cell.held ≡ Alone value → ChangesAt old new own.place (answered_alone (use_access value))) → AnswersOpen old new own (use_access (value_at old own None))
note_alone old new own ready uses =
    subst (λ (v : Option PlainArray). ChangesAt old new own.place (answered_alone (use_access v)))
    (sym (ap (λ (o : Option Cell). option_and_then (λ (cell : Cell). known_alone cell.held) o) ready.at ∙ ap known_alone ready.held)) (uses ready.cell ready.value ready.at ready.held)

-- and of a coupled one
pub note_shared : {T E : Type 0} (r : Result T E) (old new : Cells) (own : Standing) (coupling : Coupling) (side : Side) → side ≡ side_at coupling own.place → HasShareAt old coupling.a.place →
    ((cell : Cell) (share : PlainShare) → cell_at old coupling.a.place ≡ Some cell → cell.held ≡ Shared share →
    OnOk r ((at : ℕ) → cell_at new at ≡ option_map (shared_at coupling.a.place own.place side (use_access (shared_value share)) at) (cell_at old at))) →
    OnOk r (AnswersShared old new coupling own (use_access (value_at old own (Some coupling))))
note_shared r old new own coupling side is ready uses =
    subst (λ (v : Option PlainArray). OnOk r (AnswersShared old new coupling own (use_access v)))
    (sym (ap (λ (o : Option Cell). option_and_then shared_value (option_and_then (λ (cell : Cell). share_in cell.held) o)) ready.at ∙ ap (λ (h : CellContent). option_and_then shared_value (share_in h)) ready.held))
    (subst (λ (s : Side). OnOk r ((at : ℕ) → cell_at new at ≡ option_map (shared_at coupling.a.place own.place s (use_access (shared_value ready.share)) at) (cell_at old at))) is (uses ready.cell ready.share ready.at ready.held))
