-- What a core keeps, after each kind of act.
use Rattle.std.proofs.Common.{◌≡◌, refl, sym, ap, ◌∙◌, ℕ, ◌≤◌, Bool, true, false, not, leb, List, [], ◌∷◌, ◌++◌, length, cond, Option, Some, None, is_none}
use Rattle.std.specs.Prelude.{Contains}
use Rattle.std.proofs.lemmas.Bool.{and_parts, not-true}
use Rattle.std.proofs.lemmas.Option.{none-some, same_Some}
use Rattle.sv_events.specs.Answer.{offer_limit}
use Rattle.sv_events.specs.Entry.{PlainEntry}
use Rattle.sv_events.specs.Row.{act_row}
use Rattle.sv_events.specs.declared.event.Act.{Act}
use Rattle.sv_events.specs.declared.event.Act.TheVariants.{Offer}
use Rattle.sv_events.specs.declared.row.Controlling.{Controlling}
use Rattle.sv_events.specs.declared.row.Opening.{Opening}
use Rattle.sv_kept.specs.Cell.{controlled}
use Rattle.sv_kept.specs.Cells.{ChangesAt}
use Rattle.sv_kept.specs.declared.cells.Cells.{Cells}
use Rattle.sv_cell_laws.specs.Fits.{FitCells}
use Rattle.sv_cell_laws.specs.Steps.{MakesAccess, OpensOffer, made_with}
use Rattle.sv_cell_laws.proofs.AccessSteps.{cells_answered_open, cells_answered_shared}
use Rattle.sv_cell_laws.proofs.QuietSteps.{control_of_own}
use Rattle.sv_cell_laws.proofs.TouchSteps.{cells_controlled}
use Rattle.sv_offer_laws.proofs.Members.{find_passed}
use Rattle.sv_offer_laws.proofs.NowLemmas.{none_now}
use Rattle.sv_offer_laws.proofs.OwnLemmas.{own_offer-parts}
use Rattle.sv_rules.specs.Coupling.{coupling_now, couplings, is_coupled, is_open_match, open_match}
use Rattle.sv_events.specs.Fits.{is_degree}
use Rattle.sv_rules.specs.Entries.{Entries, next_place, is_leave, kind_of}
use Rattle.sv_rules.specs.Legal.{IsLegal, MayFollow, entry_for}
use Rattle.sv_rules.specs.Outcome.{ActOutcome, outcome, answer_only, joined_to, new_offer, offer_outcome}
use Rattle.sv_rules.specs.Standing.{is_match, standing, own_offer, offer_count, with_offer}
use Rattle.sv_rules.specs.Story.{GrantedAccess}
use Rattle.sv_rules.specs.declared.coupling.Coupling.{Coupling}
use Rattle.sv_rules.specs.declared.standing.Standing.{Standing}
use Rattle.sv_core.specs.Invariant.{CoreParts, IsWholeCore}
use Rattle.sv_core.specs.Updating.{AfterAccess}
use Rattle.sv_core.proofs.CellPlaces.{answers_add_none, changes_add_none}
use Rattle.sv_core.proofs.Kept.{entry_core}

-- a control that is set
pub control_core : (core new : CoreParts) → IsWholeCore core → (party : ℕ) (act : Act) (set : Controlling) (own : Standing) → MayFollow core.users core.journal (entry_for core.journal party act) → is_leave act ≡ false →
    (act_row act).row.controls ≡ Some set → own_offer (standing core.journal) party set.local ≡ Some own → new.users ≡ core.users → new.journal ≡ entry_for core.journal party act ∷ core.journal →
    new.offers ≡ core.offers → new.coupled ≡ core.coupled → new.spares ≡ core.spares → ChangesAt core.cells new.cells own.place (λ cell. controlled cell set.control) → length core.users ≤ new.room → IsWholeCore new
control_core core new k party act set own may leaves row stands users journal offers coupled spares changes room =
    let e : PlainEntry = entry_for core.journal party act in
    let sets = control_of_own core.journal party act set own row stands in
    entry_core core new e k may leaves sets.stays users journal offers coupled spares
    (cells_controlled core.users core.journal e own set.control (may, k.legal) (own_offer-parts (standing core.journal) party set.local own stands).2 sets core.cells new.cells k.fit changes)
    (changes_add_none core.cells new.cells own.place (λ cell. controlled cell set.control) changes) room

-- the cells after an access, by the coupling of its offer
cells_answered : (users : List ℕ) (journal : Entries) (e : PlainEntry) (own : Standing) (access : Option GrantedAccess) → IsLegal users (e ∷ journal) → Contains (standing journal) own → MakesAccess journal e own access →
    (coupling : Option Coupling) → coupling_now journal own.place ≡ coupling → (cells cells' : Cells) → FitCells journal cells → AfterAccess cells cells' own access coupling → FitCells (e ∷ journal) cells'
cells_answered users journal e own access legal has makes None now cells cells' fit answers = cells_answered_open users journal e own access legal has makes now cells cells' fit answers
cells_answered users journal e own access legal has makes (Some c) now cells cells' fit answers = cells_answered_shared users journal e own access c legal has makes now cells cells' fit answers

-- an access that is made
pub access_core : (core new : CoreParts) → IsWholeCore core → (e : PlainEntry) (own : Standing) (access : Option GrantedAccess) → MayFollow core.users core.journal e → is_leave e.act ≡ false → Contains (standing core.journal) own →
    MakesAccess core.journal e own access → new.users ≡ core.users → new.journal ≡ e ∷ core.journal → new.offers ≡ core.offers → new.coupled ≡ core.coupled → new.spares ≡ core.spares →
    AfterAccess core.cells new.cells own access (coupling_now core.journal own.place) → length core.users ≤ new.room → IsWholeCore new
access_core core new k e own access may leaves has makes users journal offers coupled spares answers room =
    entry_core core new e k may leaves makes.stays users journal offers coupled spares
    (cells_answered core.users core.journal e own access (may, k.legal) has makes (coupling_now core.journal own.place) refl core.cells new.cells k.fit answers)
    (answers_add_none core.cells new.cells own access (coupling_now core.journal own.place) answers) room

-- what becomes of an offer of a new name
pub opens_out : (journal : Entries) (new : Standing) → leb 64 (offer_count (standing journal) new.party) ≡ false → (match : Option Standing) → open_match (standing journal) (couplings journal) new ≡ match →
    new_offer (standing journal) (couplings journal) new ≡ joined_to new match
opens_out journal new few match is =
    ap (λ (b : Bool). cond b (answer_only offer_limit) (joined_to new (open_match (standing journal) (couplings journal) new))) few ∙ ap (joined_to new) is

joined_made : (new : Standing) (match : Option Standing) → (joined_to new match).made ≡ made_with new match
joined_made new None = refl
joined_made new (Some other) = refl

joined_degree : (new : Standing) (match : Option Standing) → is_degree (kind_of (joined_to new match).answer) ≡ true
joined_degree new None = refl
joined_degree new (Some other) = refl

-- an act opens an offer, and couples it with its open match
pub opens_offer : (users : List ℕ) (journal : Entries) (act : Act) (new : Standing) → (act_row act).row.opens ≡ Some (record { to = new.to; local = new.local; surrogate = new.surrogate }) → new.place ≡ next_place journal →
    own_offer (standing journal) new.party new.local ≡ None → leb 64 (offer_count (standing journal) new.party) ≡ false →
    OpensOffer journal (entry_for journal new.party act) new (open_match (standing journal) (couplings journal) new)
opens_offer users journal (Offer to local surrogate handed) new row place fresh few = record {
  offers =
      ap (λ (o : ActOutcome). cond (is_degree (kind_of o.answer)) (with_offer (standing journal) made) (standing journal)) out
      ∙ ap (λ (b : Bool). cond b (with_offer (standing journal) made) (standing journal)) (joined_degree new match)
      ∙ ap (with_offer (standing journal)) same
      ∙ ap (λ (o : Option Standing). cond (is_none o) (standing journal ++ new ∷ []) (standing journal)) fresh;
  place = place;
  made = ap (λ (o : ActOutcome). o.made) out ∙ joined_made new match;
  matched = λ other found.
      let passed = find_passed (is_open_match (couplings journal) new) (standing journal) other found in
      (passed.1, none_now journal other.place (not-true (is_coupled (couplings journal) other.place) (and_parts (not (is_coupled (couplings journal) other.place)) (is_match new other) passed.0).0));
  no_access = refl;
  no_control = refl;
}
  where
    made : Standing
    made = record { place = next_place journal; party = new.party; to = to; local = local; surrogate = surrogate }

    match : Option Standing
    match = open_match (standing journal) (couplings journal) new

    is : Opening
    is = record { to = to; local = local; surrogate = surrogate }

    asked : Opening
    asked = record { to = new.to; local = new.local; surrogate = new.surrogate }

    same : made ≡ new
    same =
        ap (λ (o : Opening). let s : Standing = record { place = next_place journal; party = new.party; to = o.to; local = o.local; surrogate = o.surrogate } in s) (same_Some is asked row)
        ∙ ap (λ (n : ℕ). let s : Standing = record { place = n; party = new.party; to = new.to; local = new.local; surrogate = new.surrogate } in s) (sym place)

    out : outcome journal new.party (Offer to local surrogate handed) ≡ joined_to new match
    out =
        ap (λ (s : Standing). offer_outcome (standing journal) (couplings journal) s (own_offer (standing journal) new.party s.local)) same
        ∙ ap (offer_outcome (standing journal) (couplings journal) new) fresh ∙ opens_out journal new few match refl
opens_offer users journal _ new row place fresh few = absurd (none-some _ row)
