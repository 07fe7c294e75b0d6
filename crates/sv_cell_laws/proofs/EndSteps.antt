-- What is kept while offers end together.
use Rattle.std.proofs.Common.{◌≡◌, refl, sym, ap, ◌∙◌, subst, ℕ, ◌<◌, Bool, true, false, ◌&&◌, ◌||◌, eqb, List, [], ◌∷◌, ◌++◌, Option, Some, None, inl, inr}
use Rattle.std.specs.Prelude.{Contains, IsSome, option_and_then, if◌then◌else◌}
use Rattle.std.specs.List.{list_any}
use Rattle.std.proofs.lemmas.Bool.{eq-eqb, eqb-true, or_cases, or_left, or_right, or_from, and_parts, and_from, both_ways}
use Rattle.std.proofs.lemmas.List.Folds.{list_any-append}
use Rattle.std.proofs.lemmas.Option.{none-some, same_Some}
use Rattle.sv_access.specs.declared.access.Side.TheVariants.{A, B}
use Rattle.sv_kept.specs.Cell.{holding, share_in}
use Rattle.sv_kept.specs.Cells.{PartsAt, cell_at}
use Rattle.sv_kept.specs.declared.cell.Cell.{Cell}
use Rattle.sv_kept.specs.declared.cell.CellContent.TheVariants.{Alone, Shared}
use Rattle.sv_kept.specs.declared.cells.Cells.{Cells}
use Rattle.sv_rules.specs.Control.{side_at}
use Rattle.sv_rules.specs.Coupling.{coupling_at}
use Rattle.sv_rules.specs.Entries.{Entries}
use Rattle.sv_events.specs.declared.row.Ending.{Ending}
use Rattle.sv_rules.specs.Standing.{is_ended}
use Rattle.sv_rules.specs.declared.coupling.Coupling.{Coupling}
use Rattle.sv_rules.specs.declared.coupling.Made.{Made}
use Rattle.sv_rules.specs.declared.standing.Standing.{Standing}
use Rattle.sv_kept.specs.Share.{PlainShare}
use Rattle.sv_cell_laws.specs.Ends.{FitsCoupling, CellsIn, IsOfferTable, Uncouples, ends_one, share_at, unless_offer_ends, coupled_without}
use Rattle.sv_cell_laws.specs.Fits.{FitsShare, HoldsShare, has_share, has_none, FitsHeld, is_open, is_coupled}
use Rattle.sv_cell_laws.proofs.PutSteps.{cells_put}

-- cells fit alike where the couplings are the same
pub cells_alike : (journal : Entries) (among : Standing → Type 0) (f g : ℕ → Option Coupling) (cells : Cells) → ((place : ℕ) → f place ≡ g place) → CellsIn journal among f cells → CellsIn journal among g cells
cells_alike journal among f g cells same fit offer has =
    let old = fit offer has in (old.0, old.1, subst (FitsCoupling journal offer old.0) (same offer.place) old.2)

-- what a side of a coupling holds
pub share_of_a : (journal : Entries) (offer : Standing) (cell : Cell) (coupling : Coupling) → FitsCoupling journal offer cell (Some coupling) → eqb coupling.a.place offer.place ≡ true →
    (share : PlainShare) × (cell.held ≡ Shared share) × FitsShare journal coupling share
share_of_a journal offer cell coupling fits low = by fits.held
  where
    of : (c : Coupling) → c ≡ coupling → HoldsShare journal c (side_at c offer.place) cell.held → (share : PlainShare) × (cell.held ≡ Shared share) × FitsShare journal coupling share
    of c same (has_share a share held fits_share) = (share, held, subst (λ (x : Coupling). FitsShare journal x share) same fits_share)
    of c same (has_none b held) =
        absurd (let a : A ≡ B = ap (λ (t : Bool). if t then A else B) (sym low) ∙ ap (λ (x : Coupling). side_at x offer.place) (sym same) ∙ b in cc)

    by : FitsHeld journal offer cell (Some coupling) → (share : PlainShare) × (cell.held ≡ Shared share) × FitsShare journal coupling share
    by (is_open none held) = absurd (none-some coupling (sym none))
    by (is_coupled c some holds) = of c (same_Some c coupling (sym some)) holds

-- a coupling has this place
abbrev has_place_of : Coupling → ℕ → Bool
has_place_of c place = eqb c.a.place place || eqb c.b.place place

-- two offers are parted: each holds again what its party knows
pub cells_parted : (journal : Entries) (offers : List Standing) (f g : ℕ → Option Coupling) (c : Coupling) →
    ((o p : Standing) → Contains offers o → Contains offers p → o.place ≡ p.place → o ≡ p) → Contains offers c.a → Contains offers c.b → c.a.place < c.b.place → f c.a.place ≡ Some c → f c.b.place ≡ Some c →
    ((place : ℕ) → has_place_of c place ≡ true → g place ≡ None) → ((place : ℕ) → has_place_of c place ≡ false → g place ≡ f place) →
    (cells cells' : Cells) → CellsIn journal (Contains offers) f cells → PartsAt cells cells' c.a.place c.b.place → CellsIn journal (Contains offers) g cells'
cells_parted journal offers f g c one has_a has_b lower at_a at_b gone others cells cells' fit parts =
    cells_put journal (Contains offers) f g c.a c.b one has_a has_b (λ place x y. others place (or_from (eqb c.a.place place) (eqb c.b.place place) x y)) cells cells' fit low high
    (parts of_a.0 of_b.0 shared.0 of_a.1 (ap share_in shared.1) of_b.1) low_fits high_fits
  where
    of_a : (cell : Cell) × (cell_at cells c.a.place ≡ Some cell) × FitsCoupling journal c.a cell (f c.a.place)
    of_a = fit c.a has_a

    of_b : (cell : Cell) × (cell_at cells c.b.place ≡ Some cell) × FitsCoupling journal c.b cell (f c.b.place)
    of_b = fit c.b has_b

    shared : (share : PlainShare) × ((of_a.0).held ≡ Shared share) × FitsShare journal c share
    shared = share_of_a journal c.a of_a.0 c (subst (FitsCoupling journal c.a of_a.0) at_a of_a.2) (eq-eqb c.a.place c.a.place refl)

    low : Cell
    low = holding of_a.0 (Alone (shared.0).a)

    high : Cell
    high = holding of_b.0 (Alone (shared.0).b)

    low_fits : FitsCoupling journal c.a low (g c.a.place)
    low_fits =
        let none = gone c.a.place (or_left (eqb c.a.place c.a.place) (eqb c.b.place c.a.place) (eq-eqb c.a.place c.a.place refl)) in
        record {
          vector = (of_a.2).vector;
          held = is_open none (ap Alone (shared.2).a);
          work = λ auxiliary now some. absurd (none-some now (sym none ∙ some));
        }

    high_fits : FitsCoupling journal c.b high (g c.b.place)
    high_fits =
        let none = gone c.b.place (or_right (eqb c.a.place c.b.place) (eqb c.b.place c.b.place) (eq-eqb c.b.place c.b.place refl)) in
        record {
          vector = (of_b.2).vector;
          held = is_open none (ap Alone (shared.2).b);
          work = λ auxiliary now some. absurd (none-some now (sym none ∙ some));
        }

pub or-false : (b : Bool) → (b || false) ≡ b
or-false true = refl
or-false false = refl

and-false : (b : Bool) → (b && false) ≡ false
and-false true = refl
and-false false = refl

pub or-true : (b : Bool) → (b || true) ≡ true
or-true true = refl
or-true false = refl

pub list_any-more : {X : Type 0} (p : X → Bool) (xs : List X) (x : X) → list_any p (xs ++ x ∷ []) ≡ (list_any p xs || p x)
list_any-more p xs x = list_any-append p xs (x ∷ []) ∙ ap (λ (b : Bool). list_any p xs || b) (or-false (p x))

-- a coupling of a table is that of each place that it has
found_here : (offers : List Standing) (coupled : List Made) → IsOfferTable offers coupled → (place here : ℕ) (c : Coupling) → coupling_at offers coupled place ≡ Some c → has_place_of c here ≡ true →
    coupling_at offers coupled here ≡ Some c
found_here offers coupled table place here c now h = elim (or_cases (eqb c.a.place here) (eqb c.b.place here) h) [
  | inl low ↦ ap (coupling_at offers coupled) (sym (eqb-true c.a.place here low)) ∙ table.at_a place c now
  | inr high ↦ ap (coupling_at offers coupled) (sym (eqb-true c.b.place here high)) ∙ table.at_b place c now
]

-- one more offer that may end a coupling
unless_more : (gone : List Standing) (o : Standing) (party : ℕ) (ending : Ending) (c : Coupling) → ends_one party ending c o ≡ false →
    unless_offer_ends (gone ++ o ∷ []) party ending (Some c) ≡ unless_offer_ends gone party ending (Some c)
unless_more gone o party ending c h =
    ap (λ (b : Bool). if b then None else Some c) (list_any-more (ends_one party ending c) gone o ∙ ap (λ (b : Bool). list_any (ends_one party ending c) gone || b) h ∙ or-false (list_any (ends_one party ending c) gone))

unless_gone : (gone : List Standing) (o : Standing) (party : ℕ) (ending : Ending) (c : Coupling) → ends_one party ending c o ≡ true → unless_offer_ends (gone ++ o ∷ []) party ending (Some c) ≡ None
unless_gone gone o party ending c h =
    ap (λ (b : Bool). if b then None else Some c)
    (list_any-more (ends_one party ending c) gone o ∙ ap (λ (b : Bool). list_any (ends_one party ending c) gone || b) h ∙ or-true (list_any (ends_one party ending c) gone))

-- an offer that does not end parts nobody
pub parts_none : (offers : List Standing) (coupled : List Made) (gone : List Standing) (party : ℕ) (ending : Ending) (o : Standing) → is_ended party ending o ≡ false → (place : ℕ) →
    coupled_without offers coupled gone party ending place ≡ coupled_without offers coupled (gone ++ o ∷ []) party ending place
parts_none offers coupled gone party ending o stays place = by (coupling_at offers coupled place)
  where
    by : (c : Option Coupling) → unless_offer_ends gone party ending c ≡ unless_offer_ends (gone ++ o ∷ []) party ending c
    by None = refl
    by (Some c) = sym (unless_more gone o party ending c (ap (λ (b : Bool). b && has_place_of c o.place) stays))

-- nor does an open one
pub open_parts_none : (offers : List Standing) (coupled : List Made) → IsOfferTable offers coupled → (gone : List Standing) (party : ℕ) (ending : Ending) (o : Standing) → coupling_at offers coupled o.place ≡ None → (place : ℕ) →
    coupled_without offers coupled gone party ending place ≡ coupled_without offers coupled (gone ++ o ∷ []) party ending place
open_parts_none offers coupled table gone party ending o none place = by (coupling_at offers coupled place) refl
  where
    apart : (c : Coupling) → coupling_at offers coupled place ≡ Some c → (b : Bool) → has_place_of c o.place ≡ b → ends_one party ending c o ≡ false
    apart c now true h = absurd (none-some c (sym none ∙ found_here offers coupled table place o.place c now h))
    apart c now false h = ap (λ (b : Bool). is_ended party ending o && b) h ∙ and-false (is_ended party ending o)

    by : (c : Option Coupling) → coupling_at offers coupled place ≡ c → unless_offer_ends gone party ending c ≡ unless_offer_ends (gone ++ o ∷ []) party ending c
    by None now = refl
    by (Some c) now = sym (unless_more gone o party ending c (apart c now (has_place_of c o.place) refl))

-- where its coupling was parted, an offer that ends parts nobody
parted_parts_none : (offers : List Standing) (coupled : List Made) → IsOfferTable offers coupled → (gone : List Standing) (party : ℕ) (ending : Ending) (o : Standing) (c0 : Coupling) →
    coupling_at offers coupled o.place ≡ Some c0 → list_any (ends_one party ending c0) gone ≡ true → (place : ℕ) →
    coupled_without offers coupled gone party ending place ≡ coupled_without offers coupled (gone ++ o ∷ []) party ending place
parted_parts_none offers coupled table gone party ending o c0 at_o parted place = by (coupling_at offers coupled place) refl
  where
    more : (c : Coupling) → coupling_at offers coupled place ≡ Some c → (b : Bool) → ends_one party ending c o ≡ b → unless_offer_ends gone party ending (Some c) ≡ unless_offer_ends (gone ++ o ∷ []) party ending (Some c)
    more c now false h = sym (unless_more gone o party ending c h)
    more c now true h =
        let same : c0 ≡ c = same_Some c0 c (sym at_o ∙ found_here offers coupled table place o.place c now (and_parts (is_ended party ending o) (has_place_of c o.place) h).1) in
        ap (λ (b : Bool). if b then None else Some c) (ap (λ (x : Coupling). list_any (ends_one party ending x) gone) (sym same) ∙ parted) ∙ sym (unless_gone gone o party ending c h)

    by : (c : Option Coupling) → coupling_at offers coupled place ≡ c → unless_offer_ends gone party ending c ≡ unless_offer_ends (gone ++ o ∷ []) party ending c
    by None now = refl
    by (Some c) now = more c now (ends_one party ending c o) refl

-- the coupling of a table at each place of another
whole_at : (offers : List Standing) (coupled : List Made) (gone : List Standing) (party : ℕ) (ending : Ending) (place : ℕ) (c : Coupling) → coupling_at offers coupled place ≡ Some c →
    list_any (ends_one party ending c) gone ≡ false → coupled_without offers coupled gone party ending place ≡ Some c
whole_at offers coupled gone party ending place c now whole = ap (unless_offer_ends gone party ending) now ∙ ap (λ (b : Bool). if b then None else Some c) whole

parted_at : (offers : List Standing) (coupled : List Made) (gone : List Standing) (party : ℕ) (ending : Ending) (place : ℕ) (c : Coupling) → coupling_at offers coupled place ≡ Some c →
    list_any (ends_one party ending c) gone ≡ true → coupled_without offers coupled gone party ending place ≡ None
parted_at offers coupled gone party ending place c now parted = ap (unless_offer_ends gone party ending) now ∙ ap (λ (b : Bool). if b then None else Some c) parted

-- an offer that is coupled no more has no share
pub no_share : (journal : Entries) (offer : Standing) (cells : Cells) (cell : Cell) (coupling : Option Coupling) → cell_at cells offer.place ≡ Some cell → FitsCoupling journal offer cell coupling → coupling ≡ None → share_at cells offer.place ≡ None
no_share journal offer cells cell coupling at fits none = ap (option_and_then (λ (x : Cell). share_in x.held)) at ∙ by fits.held
  where
    by : FitsHeld journal offer cell coupling → share_in cell.held ≡ None
    by (is_open alone held) = ap share_in held
    by (is_coupled now some holds) = absurd (none-some now (sym none ∙ some))

-- the cells of an offer that ends, and its partner
pub cells_part : (journal : Entries) (offers : List Standing) (coupled : List Made) → IsOfferTable offers coupled → (gone : List Standing) (party : ℕ) (ending : Ending) (o : Standing) → is_ended party ending o ≡ true →
    (coupling : Option Coupling) → coupling_at offers coupled o.place ≡ coupling → (cells cells' : Cells) → CellsIn journal (Contains offers) (coupled_without offers coupled gone party ending) cells → Uncouples cells cells' coupling →
    CellsIn journal (Contains offers) (coupled_without offers coupled (gone ++ o ∷ []) party ending) cells'
cells_part journal offers coupled table gone party ending o ends None none cells cells' fit keeps =
    λ offer has.
    let old = fit offer has in
    (old.0, keeps offer.place ∙ old.1, subst (FitsCoupling journal offer old.0) (open_parts_none offers coupled table gone party ending o none offer.place) old.2)
cells_part journal offers coupled table gone party ending o ends (Some c) now cells cells' fit parts = by (list_any (ends_one party ending c) gone) refl
  where
    at_a : coupling_at offers coupled c.a.place ≡ Some c
    at_a = table.at_a o.place c now

    ends_c : ends_one party ending c o ≡ true
    ends_c = and_from (is_ended party ending o) (has_place_of c o.place) ends (table.here o.place c now)

    others : (place : ℕ) → has_place_of c place ≡ false → (at : Option Coupling) → coupling_at offers coupled place ≡ at →
        coupled_without offers coupled (gone ++ o ∷ []) party ending place ≡ coupled_without offers coupled gone party ending place
    others place h None at = ap (unless_offer_ends (gone ++ o ∷ []) party ending) at ∙ sym (ap (unless_offer_ends gone party ending) at)
    others place h (Some d) at =
        ap (unless_offer_ends (gone ++ o ∷ []) party ending) at ∙ unless_more gone o party ending d (apart (has_place_of d o.place) refl) ∙ sym (ap (unless_offer_ends gone party ending) at)
      where
        apart : (b : Bool) → has_place_of d o.place ≡ b → ends_one party ending d o ≡ false
        apart false k = ap (λ (x : Bool). is_ended party ending o && x) k ∙ and-false (is_ended party ending o)
        apart true k =
            let same : d ≡ c = same_Some d c (sym (found_here offers coupled table place o.place d at k) ∙ now) in
            absurd (both_ways (has_place_of c place) h (ap (λ (x : Coupling). has_place_of x place) (sym same) ∙ table.here place d at))

    by : (b : Bool) → list_any (ends_one party ending c) gone ≡ b → CellsIn journal (Contains offers) (coupled_without offers coupled (gone ++ o ∷ []) party ending) cells'
    by true parted = λ offer has.
        let of_a = fit c.a (table.has_a o.place c now) in
        let keeps = parts.0 (no_share journal c.a cells of_a.0 _ of_a.1 of_a.2 (parted_at offers coupled gone party ending c.a.place c at_a parted)) in
        let old = fit offer has in
        (old.0, keeps offer.place ∙ old.1, subst (FitsCoupling journal offer old.0) (parted_parts_none offers coupled table gone party ending o c now parted offer.place) old.2)
    by false whole =
        let of_a = fit c.a (table.has_a o.place c now) in
        let share = share_of_a journal c.a of_a.0 c (subst (FitsCoupling journal c.a of_a.0) (whole_at offers coupled gone party ending c.a.place c at_a whole) of_a.2) (eq-eqb c.a.place c.a.place refl) in
        let there : share_at cells c.a.place ≡ Some share.0 = ap (option_and_then (λ (x : Cell). share_in x.held)) of_a.1 ∙ ap share_in share.1 in
        cells_parted journal offers (coupled_without offers coupled gone party ending) (coupled_without offers coupled (gone ++ o ∷ []) party ending) c table.one (table.has_a o.place c now) (table.has_b o.place c now)
        (table.lower o.place c now) (whole_at offers coupled gone party ending c.a.place c at_a whole) (whole_at offers coupled gone party ending c.b.place c (table.at_b o.place c now) whole)
        (λ place h. ap (unless_offer_ends (gone ++ o ∷ []) party ending) (found_here offers coupled table o.place place c now h) ∙ unless_gone gone o party ending c ends_c)
        (λ place h. others place h (coupling_at offers coupled place) refl)
        cells cells' fit (parts.1 (subst (λ (s : Option PlainShare). IsSome s) (sym there) refl))
