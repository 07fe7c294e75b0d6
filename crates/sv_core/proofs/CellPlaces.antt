-- At which places cells stand: no cell stands where no offer does.
use Rattle.std.proofs.Common.{◌&&◌, ◌++◌, ◌∙◌, ◌∷◌, ◌≡◌, Bool, List, None, Option, Some, [], ap, eqb, false, inl, inr, refl, subst, sym, true, ℕ}
use Rattle.std.proofs.lemmas.Bool.{and_from, both_ways, cases_Bool, eq-eqb, eqb-true, ne_eqb}
use Rattle.std.proofs.lemmas.List.Elements.{Contains-append_left, Contains-push}
use Rattle.std.proofs.lemmas.Option.{none-some}
use Rattle.std.specs.List.{list_any}
use Rattle.std.specs.Prelude.{Contains, IsSome, if◌then◌else◌, option_and_then, option_map}
use Rattle.sv_cell_laws.proofs.EndJournal.{left_from}
use Rattle.sv_cell_laws.specs.Ends.{Couples, MayPart, Uncouples, share_at}
use Rattle.sv_cell_laws.specs.Steps.{answered_alone, shared_at}
use Rattle.sv_kept.specs.Cell.{coupled_with, holding, known_alone, share_in}
use Rattle.sv_kept.specs.Cells.{ChangesAt, CouplesAt, KeepsCells, PartsAt, PutsAt, PutsTwo, cell_at}
use Rattle.sv_kept.specs.declared.cell.Cell.{Cell}
use Rattle.sv_kept.specs.declared.cell.CellContent.TheVariants.{Alone, Lent, Shared}
use Rattle.sv_kept.specs.declared.cells.Cells.{Cells}
use Rattle.sv_events.specs.Entry.{PlainEntry}
use Rattle.sv_events.specs.declared.entry.Pair.{Pair}
use Rattle.sv_events.specs.declared.row.Ending.{Ending}
use Rattle.sv_offer_laws.proofs.Members.{list_any_member}
use Rattle.sv_offers.specs.Table.{PlainOffers}
use Rattle.sv_rules.specs.Control.{side_at}
use Rattle.sv_rules.specs.Entries.{Entries}
use Rattle.sv_rules.specs.Standing.{is_ended, standing}
use Rattle.sv_rules.specs.Story.{GrantedAccess}
use Rattle.sv_rules.specs.declared.coupling.Coupling.{Coupling}
use Rattle.sv_rules.specs.declared.standing.Standing.{Standing}
use Rattle.sv_kept.specs.Share.{PlainShare, share_of}
use Rattle.sv_core.specs.Updating.{AddsNone, AfterAccess, ClearsAll, Closes, HasNoOther, IsVacant, Joined, MayJoin}

-- the same cells, and none more
pub keeps_add_none : (old new : Cells) → KeepsCells old new → AddsNone old new
keeps_add_none old new keeps at none = keeps at ∙ none

-- a cell that is changed was there
pub changes_add_none : (old new : Cells) (place : ℕ) (change : Cell → Cell) → ChangesAt old new place change → AddsNone old new
changes_add_none old new place change changes at none = by (eqb place at) refl
  where
    by : (b : Bool) → eqb place at ≡ b → cell_at new at ≡ None
    by true here =
        changes at
        ∙ ap (λ (t : Bool). if t then option_map change (cell_at old place) else cell_at old at) here
        ∙ ap (λ (o : Option Cell). option_map change o) (ap (cell_at old) (eqb-true place at here) ∙ none)
    by false apart = changes at ∙ ap (λ (t : Bool). if t then option_map change (cell_at old place) else cell_at old at) apart ∙ none

-- so are those of an access
pub answers_add_none : (old new : Cells) (own : Standing) (access : Option GrantedAccess) (coupling : Option Coupling) → AfterAccess old new own access coupling → AddsNone old new
answers_add_none old new own access None answers = changes_add_none old new own.place (answered_alone access) answers
answers_add_none old new own access (Some coupling) answers =
    λ at none. answers at ∙ ap (λ (o : Option Cell). option_map (shared_at coupling.a.place own.place (side_at coupling own.place) access at) o) none

-- two cells that are written were there
two_add_none : (old new : Cells) (a b : ℕ) (of_a of_b x y : Cell) → cell_at old a ≡ Some x → cell_at old b ≡ Some y → PutsTwo old new a of_a b of_b → AddsNone old new
two_add_none old new a b of_a of_b x y at_a at_b puts at none = by (eqb a at) (eqb b at) refl refl (puts at)
  where
    by : (p q : Bool) → eqb a at ≡ p → eqb b at ≡ q → cell_at new at ≡ (if p then Some of_a else (if q then Some of_b else cell_at old at)) → cell_at new at ≡ None
    by true q here other is = absurd (none-some x (sym none ∙ ap (cell_at old) (sym (eqb-true a at here)) ∙ at_a))
    by false true other here is = absurd (none-some y (sym none ∙ ap (cell_at old) (sym (eqb-true b at here)) ∙ at_b))
    by false false other here is = is ∙ none

-- two offers that are coupled have cells
couples_add_none : (old new : Cells) (a b : ℕ) → IsSome (cell_at old a) → IsSome (cell_at old b) → CouplesAt old new a b → AddsNone old new
couples_add_none old new a b some_a some_b couples = by (cell_at old a) (cell_at old b) refl refl some_a some_b
  where
    by : (x y : Option Cell) → cell_at old a ≡ x → cell_at old b ≡ y → IsSome x → IsSome y → AddsNone old new
    by None y at_a at_b h k = absurd (let no : false ≡ true = h in cc)
    by (Some x) None at_a at_b h k = absurd (let no : false ≡ true = k in cc)
    by (Some x) (Some y) at_a at_b h k =
        two_add_none old new a b (coupled_with x.vector (Shared (share_of (known_alone x.held) (known_alone y.held)))) (coupled_with y.vector Lent) x y at_a at_b (couples x y at_a at_b)

-- and so have two that part
parted_add_none : (old new : Cells) (a b : ℕ) (share : PlainShare) → share_at old a ≡ Some share → IsSome (cell_at old b) → PartsAt old new a b → AddsNone old new
parted_add_none old new a b share shared some_b parts = by (cell_at old a) (cell_at old b) refl refl shared some_b
  where
    by : (x y : Option Cell) → cell_at old a ≡ x → cell_at old b ≡ y → option_and_then (λ (cell : Cell). share_in cell.held) x ≡ Some share → IsSome y → AddsNone old new
    by None y at_a at_b h k = absurd (none-some share h)
    by (Some x) None at_a at_b h k = absurd (let no : false ≡ true = k in cc)
    by (Some x) (Some y) at_a at_b h k = two_add_none old new a b (holding x (Alone share.a)) (holding y (Alone share.b)) x y at_a at_b (parts x y share at_a h at_b)

-- the offers of a coupling part, where they still share
pub parts_add_none : (old new : Cells) (coupling : Option Coupling) → MayPart old coupling → Uncouples old new coupling → AddsNone old new
parts_add_none old new None may parts = keeps_add_none old new parts
parts_add_none old new (Some c) may parts = by (share_at old c.a.place) refl
  where
    by : (s : Option PlainShare) → share_at old c.a.place ≡ s → AddsNone old new
    by None apart = keeps_add_none old new (parts.0 apart)
    by (Some share) shared = parted_add_none old new c.a.place c.b.place share shared may.1 (parts.1 (subst (λ (o : Option PlainShare). IsSome o) (sym shared) refl))

-- those of a pair are coupled, unless they share already
pub joins_add_none : (old new : Cells) (pair : Pair) → IsSome (cell_at old pair.a) → IsSome (cell_at old pair.b) → Couples old new pair → AddsNone old new
joins_add_none old new pair some_a some_b joins = by (share_at old pair.a) refl
  where
    by : (s : Option PlainShare) → share_at old pair.a ≡ s → AddsNone old new
    by None apart = couples_add_none old new pair.a pair.b some_a some_b (joins.1 apart)
    by (Some share) shared = keeps_add_none old new (joins.0 (subst (λ (o : Option PlainShare). IsSome o) (sym shared) refl))

-- and a new offer with its match, if it has one
pub joined_add_none : (between new : Cells) (offer : Standing) (match : Option Standing) → MayJoin between offer match → Joined between new offer match → AddsNone between new
joined_add_none between new offer None may keeps = keeps_add_none between new keeps
joined_add_none between new offer (Some other) may couples = couples_add_none between new other.place offer.place may.1 may.2 couples

-- where no cell comes, none stands where no offer does: in the same journal
pub no_other_still : (journal : Entries) (old new : Cells) → AddsNone old new → HasNoOther journal old → HasNoOther journal new
no_other_still journal old new adds alone at vacant = adds at (alone at vacant)

-- and with an entry that leaves the offers that stand
pub no_other_later : (journal : Entries) (e : PlainEntry) (old new : Cells) → standing (e ∷ journal) ≡ standing journal → AddsNone old new → HasNoOther journal old → HasNoOther (e ∷ journal) new
no_other_later journal e old new same adds alone at vacant = adds at (alone at (λ offer has. vacant offer (subst (λ (os : List Standing). Contains os offer) (sym same) has)))

-- a new offer has a cell at its place, and no other cell comes
pub no_other_opened : (journal : Entries) (e : PlainEntry) (offer : Standing) (old between new : Cells) (cell : Option Cell) → standing (e ∷ journal) ≡ standing journal ++ offer ∷ [] →
    PutsAt old between offer.place cell → AddsNone between new → HasNoOther journal old → HasNoOther (e ∷ journal) new
no_other_opened journal e offer old between new cell offers puts adds alone at vacant =
    adds at
    (puts at
    ∙ ap (λ (b : Bool). if b then cell else cell_at old at) (ne_eqb offer.place at (vacant offer (stands offer (Contains-push (standing journal) offer))))
    ∙ alone at (λ other has. vacant other (stands other (Contains-append_left (standing journal) (offer ∷ []) other has))))
  where
    stands : (o : Standing) → Contains (standing journal ++ offer ∷ []) o → Contains (standing (e ∷ journal)) o
    stands o has = subst (λ (os : List Standing). Contains os o) (sym offers) has

-- where offers end together, their cells go, and none comes
pub clears_all : (offers : PlainOffers) (cells c1 c2 c3 : Cells) (at party : ℕ) (ending : Ending) → AddsNone cells c1 → Closes offers.offers party ending c1 c2 → AddsNone c2 c3 → ClearsAll offers at party ending cells c3
clears_all offers cells c1 c2 c3 at party ending first closes last users journal e is alone place vacant = last place (closes place ∙ by (list_any gone offers.offers) refl)
  where
    gone : Standing → Bool
    gone o = is_ended party ending o && eqb o.place place

    before : list_any gone offers.offers ≡ false → IsVacant journal place
    before none o has here = elim (cases_Bool (is_ended party ending o)) [
      | inl ends ↦ both_ways (list_any gone offers.offers) none
          (list_any_member gone offers.offers o (and_from (is_ended party ending o) (eqb o.place place) ends (eq-eqb o.place place here)) (subst (λ (os : List Standing). Contains os o) (sym is.stand) has))
      | inr stays ↦ vacant o (left_from journal e ending is.ends o has (ap (λ (p : ℕ). is_ended p ending o) is.own ∙ stays)) here
    ]

    by : (b : Bool) → list_any gone offers.offers ≡ b → (if b then None else cell_at c1 place) ≡ None
    by true some = refl
    by false none = first place (alone place (before none))
