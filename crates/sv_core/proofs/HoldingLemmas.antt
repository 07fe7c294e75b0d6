-- What a core looks up is what the definitions say.
use Rattle.std.proofs.Common.{◌≡◌, refl, sym, ap, ◌∙◌, subst, ℕ, Bool, true, false, not, eqb, List, Option, Some, None, inl, inr, Bor}
use Rattle.std.specs.Prelude.{Contains, IfSome, IsSome, is_some, if◌then◌else◌}
use Rattle.std.specs.Option.{option_copied}
use Rattle.std.proofs.lemmas.Bool.{eq-eqb, eqb-true, eqb-false, not_from_false}
use Rattle.std.proofs.lemmas.Option.{none-some, same_Some}
use Rattle.sv_access.specs.declared.access.Side.TheVariants.{A, B}
use Rattle.sv_core.specs.Core.{IsFound}
use Rattle.sv_kept.specs.Cell.{known_alone, share_in}
use Rattle.sv_kept.specs.Cells.{cell_at}
use Rattle.sv_kept.specs.declared.cell.Cell.{Cell}
use Rattle.sv_kept.specs.declared.cells.Cells.{Cells}
use Rattle.sv_rules.specs.Control.{side_at}
use Rattle.sv_access.specs.Story.{state_of_story}
use Rattle.sv_access.specs.declared.state.AccessState.TheVariants.{Quiet}
use Rattle.sv_rules.specs.Coupling.{coupling_now, couplings, is_coupled as is_coupled_there}
use Rattle.sv_rules.specs.Entries.{Entries}
use Rattle.sv_rules.specs.Legal.{IsLegal}
use Rattle.sv_rules.specs.Standing.{standing}
use Rattle.sv_rules.specs.Story.{known, opening}
use Rattle.sv_rules.specs.declared.coupling.Coupling.{Coupling}
use Rattle.sv_rules.specs.declared.standing.Standing.{Standing}
use Rattle.sv_kept.specs.Share.{PlainShare, alone}
use Rattle.sv_offer_laws.specs.CouplingLaws.{IsCouplingOf}
use Rattle.sv_offer_laws.proofs.LookupLemmas.{found_as_made, found_where_coupled}
use Rattle.sv_offer_laws.proofs.Members.{Contains-filter}
use Rattle.sv_offer_laws.proofs.PlaceLemmas.{places_ascend, same_by_place}
use Rattle.sv_story_laws.specs.StoryLaws.{offer_on, unseen_by}
use Rattle.sv_story_laws.proofs.OpeningLemmas.{open_offers_tell_what_is_known}
use Rattle.sv_cell_laws.proofs.CellSteps.{found_at_a}
use Rattle.sv_cell_laws.specs.Fits.{FitsShare, HoldsShare, has_share, has_none, FitsHeld, is_open, is_coupled, FitsCell, FitCells}

-- the cell of a standing offer
pub cell_fits : (journal : Entries) (cells : Cells) → FitCells journal cells → (offer : Standing) → Contains (standing journal) offer → (cell : Cell) → cell_at cells offer.place ≡ Some cell → FitsCell journal offer cell
cell_fits journal cells fit offer has cell at =
    let old = fit offer has in subst (FitsCell journal offer) (same_Some old.0 cell (sym old.1 ∙ at)) old.2

-- and that there is one
pub cell_is : (journal : Entries) (cells : Cells) → FitCells journal cells → (offer : Standing) → Contains (standing journal) offer → cell_at cells offer.place ≡ None → ⊥
cell_is journal cells fit offer has none = let old = fit offer has in none-some old.0 (sym none ∙ old.1)

-- what is known of an open offer
pub known_is : (journal : Entries) (offer : Standing) (cell : Cell) → coupling_now journal offer.place ≡ None → FitsHeld journal offer cell (coupling_now journal offer.place) → known_alone cell.held ≡ known journal offer
known_is journal offer cell none (is_open alone held) = ap known_alone held
known_is journal offer cell none (is_coupled now some holds) = absurd (none-some now (sym none ∙ some))

-- the share of a coupling is in the cell of its lower offer
pub share_is : (journal : Entries) (coupling : Coupling) (cell : Cell) → coupling_now journal coupling.a.place ≡ Some coupling → FitsHeld journal coupling.a cell (coupling_now journal coupling.a.place) →
    (share : PlainShare) × (share_in cell.held ≡ Some share) × FitsShare journal coupling share
share_is journal coupling cell now (is_open none held) = absurd (none-some coupling (sym none ∙ now))
share_is journal coupling cell now (is_coupled other some holds) = of holds
  where
    same : other ≡ coupling
    same = same_Some other coupling (sym some ∙ now)

    of : HoldsShare journal other (side_at other coupling.a.place) cell.held → (share : PlainShare) × (share_in cell.held ≡ Some share) × FitsShare journal coupling share
    of (has_share a share held fits) = (share, ap share_in held, subst (λ (c : Coupling). FitsShare journal c share) same fits)
    of (has_none b held) =
        absurd (let a : A ≡ B = ap (λ (t : Bool). if t then A else B) (sym (eq-eqb coupling.a.place coupling.a.place refl)) ∙ ap (λ (c : Coupling). side_at c coupling.a.place) (sym same) ∙ b in cc)

-- the offers of a coupling stand
pub a_stands : (users : List ℕ) (journal : Entries) → IsLegal users journal → (place : ℕ) (coupling : Coupling) → coupling_now journal place ≡ Some coupling → Contains (standing journal) coupling.a
a_stands users journal legal place coupling now = let is = found_as_made users journal legal place coupling now in is.has_a

pub b_stands : (users : List ℕ) (journal : Entries) → IsLegal users journal → (place : ℕ) (coupling : Coupling) → coupling_now journal place ≡ Some coupling → Contains (standing journal) coupling.b
b_stands users journal legal place coupling now = let is = found_as_made users journal legal place coupling now in is.has_b

-- the state of an open offer is told by whether its party knows a value
pub open_state : (users : List ℕ) (journal : Entries) → IsLegal users journal → (offer : Standing) → Contains (standing journal) offer → coupling_now journal offer.place ≡ None →
    state_of_story (opening A journal offer) ≡ alone (is_some (known journal offer))
open_state users journal legal offer has none =
    let free : is_coupled_there (couplings journal) offer.place ≡ false = sym (found_where_coupled journal offer.place) ∙ ap is_some none in
    let among = Contains-filter (λ (o : Standing). not (is_coupled_there (couplings journal) o.place)) (standing journal) offer (not_from_false (is_coupled_there (couplings journal) offer.place) free) has in
    let tells = open_offers_tell_what_is_known users journal legal A offer among in
    tells.state ∙ by (is_some (known journal offer))
  where
    by : (b : Bool) → (if b then unseen_by A else Quiet) ≡ alone b
    by true = refl
    by false = refl

-- the offer of a coupling that has a place is that of its side
pub on_its_side : (users : List ℕ) (journal : Entries) → IsLegal users journal → (offer : Standing) → Contains (standing journal) offer → (coupling : Coupling) → coupling_now journal offer.place ≡ Some coupling →
    offer_on coupling (side_at coupling offer.place) ≡ offer
on_its_side users journal legal offer has coupling now = by (eqb coupling.a.place offer.place) refl
  where
    is : IsCouplingOf journal offer.place coupling
    is = found_as_made users journal legal offer.place coupling now

    by : (b : Bool) → eqb coupling.a.place offer.place ≡ b → offer_on coupling (side_at coupling offer.place) ≡ offer
    by true h =
        ap (λ (t : Bool). offer_on coupling (if t then A else B)) h ∙ same_by_place (standing journal) coupling.a offer (places_ascend journal) is.has_a has (eqb-true coupling.a.place offer.place h)
    by false h = ap (λ (t : Bool). offer_on coupling (if t then A else B)) h ∙ elim is.here [
      | inl low ↦ absurd (eqb-false coupling.a.place offer.place h low)
      | inr high ↦ same_by_place (standing journal) coupling.b offer (places_ascend journal) is.has_b has high
    ]

-- what is lent of an option is there where the option is
pub copied_some : {X : Type 0} (o : Option (Bor X)) (x : X) → option_copied o ≡ Some x → IsSome o
copied_some None x h = absurd (none-some x h)
copied_some (Some b) x h = refl

pub copied_is : {X : Type 0} (o : Option (Bor X)) → is_some o ≡ is_some (option_copied o)
copied_is None = refl
copied_is (Some b) = refl

-- the lower offer of a coupling has it
pub at_its_a : (users : List ℕ) (journal : Entries) → IsLegal users journal → (place : ℕ) (coupling : Coupling) → coupling_now journal place ≡ Some coupling → coupling_now journal coupling.a.place ≡ Some coupling
at_its_a users journal legal place coupling now = found_at_a users journal legal place coupling (found_as_made users journal legal place coupling now)

-- what is found is a coupling of the journal
pub found_now : (users : List ℕ) (journal : Entries) → IsLegal users journal → (place : ℕ) (got : Option Coupling) → coupling_now journal place ≡ got → IfSome got (IsFound journal place)
found_now users journal legal place None now = tt
found_now users journal legal place (Some c) now = record {
  has_a = a_stands users journal legal place c now;
  has_b = b_stands users journal legal place c now;
  at_a = at_its_a users journal legal place c now;
  side = λ offer has at.
      ap (λ n. offer_on c (side_at c n)) (sym at) ∙ on_its_side users journal legal offer has c (ap (coupling_now journal) at ∙ now);
}
