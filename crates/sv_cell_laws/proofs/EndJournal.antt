-- What is kept before an entry that ends offers is what fits after it, but for the couplings that end.
use Rattle.std.proofs.Common.{◌≡◌, refl, sym, ap, ◌∙◌, subst, ℕ, ◌≤◌, ◌<◌, Bool, true, false, ◌&&◌, ◌||◌, not, eqb, List, ◌∷◌, length, Option, Some, None, inl, inr, arith}
use Rattle.std.specs.Prelude.{Contains, is_some, unwrap_or, if◌then◌else◌}
use Rattle.std.specs.List.{list_any}
use Rattle.std.proofs.lemmas.Bool.{cases_Bool, cases_lt, eq-eqb, eqb-true, lt-ltb, le-ltb, or_cases, or_left, or_right, and_parts, and_from, both_ways, not_from_false, not-true}
use Rattle.std.proofs.lemmas.List.Folds.{Any-from_list_any}
use Rattle.std.proofs.lemmas.Option.{none-some, same_Some}
use Rattle.sv_events.specs.Entry.{PlainEntry}
use Rattle.sv_events.specs.Row.{act_row}
use Rattle.sv_events.specs.declared.row.Ending.{Ending}
use Rattle.sv_kept.specs.declared.cell.Cell.{Cell}
use Rattle.sv_kept.specs.declared.cell.CellContent.TheVariants.{Alone}
use Rattle.sv_kept.specs.declared.cells.Cells.{Cells}
use Rattle.sv_rules.specs.Control.{side_at, vector_of}
use Rattle.sv_rules.specs.Coupling.{couplings, coupling_at, coupling_now}
use Rattle.sv_rules.specs.Entries.{Entries}
use Rattle.sv_rules.specs.Legal.{IsLegal}
use Rattle.sv_rules.specs.Standing.{is_ended, standing}
use Rattle.sv_rules.specs.Story.{known, known_after}
use Rattle.sv_rules.specs.Work.{gets_value, lacks_control, owes_reply}
use Rattle.sv_rules.specs.declared.coupling.Coupling.{Coupling}
use Rattle.sv_rules.specs.declared.standing.Standing.{Standing}
use Rattle.sv_kept.specs.Share.{PlainShare}
use Rattle.sv_offer_laws.proofs.EndingLemmas.{standing_left}
use Rattle.sv_offer_laws.proofs.LookupLemmas.{found_as_made}
use Rattle.sv_offer_laws.proofs.Members.{Contains-filter, Contains-from_filter, filter_passed, list_any_member}
use Rattle.sv_offer_laws.proofs.NowLemmas.{coupling_places, coupling_was}
use Rattle.sv_story_laws.proofs.OpeningLemmas.{known_later}
use Rattle.sv_cell_laws.specs.Ends.{FitsCoupling, CellsIn, IsOfferTable, ends_one, if_older, older_now, unless_offer_ends, coupled_without}
use Rattle.sv_cell_laws.specs.Fits.{FitsShare, HoldsShare, has_share, has_none, FitsHeld, is_open, is_coupled, FitsCell, FitCells}
use Rattle.sv_cell_laws.specs.Steps.{Untouched}
use Rattle.sv_cell_laws.proofs.CellSteps.{found_at_a, found_at_b, placed, share_later, vector_later, lacks_later, owes_later}
use Rattle.sv_cell_laws.proofs.OpenSteps.{still_coupled}
use Rattle.sv_cell_laws.proofs.TouchSteps.{one_place, share_stays}

-- cells that fit a journal fit it with an entry that touches no offer, by the couplings of before
untouched_share : (users : List ℕ) (journal : Entries) (e : PlainEntry) → IsLegal users (e ∷ journal) → ((o : Standing) → Contains (standing journal) o → Untouched e o) → (place : ℕ) (c : Coupling) →
    coupling_now journal place ≡ Some c → (share : PlainShare) → FitsShare journal c share → FitsShare (e ∷ journal) c share
untouched_share users journal e legal none place c now share fits =
    let is = found_as_made users journal legal.1 place c now in
    subst (FitsShare (e ∷ journal) c) (share_stays share c e (none c.a is.has_a).access (none c.b is.has_b).access) (share_later users journal e legal place c now share fits)

-- the offers that stand, and their couplings, are a table
pub table_is : (users : List ℕ) (journal : Entries) → IsLegal users journal → IsOfferTable (standing journal) (couplings journal)
table_is users journal legal = record {
  one = one_place journal;
  has_a = λ place c now. (found_as_made users journal legal place c now).has_a;
  has_b = λ place c now. (found_as_made users journal legal place c now).has_b;
  at_a = λ place c now. found_at_a users journal legal place c (found_as_made users journal legal place c now);
  at_b = λ place c now. found_at_b users journal legal place c (found_as_made users journal legal place c now);
  lower = λ place c now. (found_as_made users journal legal place c now).lower_first;
  here = λ place c now. elim (found_as_made users journal legal place c now).here [
    | inl low ↦ or_left (eqb c.a.place place) (eqb c.b.place place) (eq-eqb c.a.place place low)
    | inr high ↦ or_right (eqb c.a.place place) (eqb c.b.place place) (eq-eqb c.b.place place high)
  ];
}

held_later_in : (users : List ℕ) (journal : Entries) (e : PlainEntry) → IsLegal users (e ∷ journal) → ((o : Standing) → Contains (standing journal) o → Untouched e o) → (offer : Standing) → Contains (standing journal) offer →
    (cell : Cell) (coupling : Option Coupling) → coupling_now journal offer.place ≡ coupling → FitsHeld journal offer cell coupling → FitsHeld (e ∷ journal) offer cell coupling
held_later_in users journal e legal none offer has cell coupling at (is_open alone held) =
    is_open alone (held ∙ ap Alone (sym (known_later e journal offer (placed journal offer has) ∙ ap (λ a. known_after a (known journal offer)) (none offer has).access)))
held_later_in users journal e legal none offer has cell coupling at (is_coupled now some holds) = is_coupled now some (of holds)
  where
    of : HoldsShare journal now (side_at now offer.place) cell.held → HoldsShare (e ∷ journal) now (side_at now offer.place) cell.held
    of (has_share a share held fits) = has_share a share held (untouched_share users journal e legal none offer.place now (at ∙ some) share fits)
    of (has_none b held) = has_none b held

fits_later_in : (users : List ℕ) (journal : Entries) (e : PlainEntry) → IsLegal users (e ∷ journal) → ((o : Standing) → Contains (standing journal) o → Untouched e o) → (offer : Standing) → Contains (standing journal) offer →
    (cell : Cell) → FitsCell journal offer cell → FitsCoupling (e ∷ journal) offer cell (coupling_now journal offer.place)
fits_later_in users journal e legal none offer has cell fits = record {
  vector = fits.vector ∙ sym (vector_later e journal offer (placed journal offer has) ∙ ap (λ c. unwrap_or c (vector_of journal offer)) (none offer has).control);
  held = held_later_in users journal e legal none offer has cell (coupling_now journal offer.place) refl fits.held;
  work = λ auxiliary c now.
      let before = fits.work auxiliary c now in
      let at = (coupling_places users journal legal.1 offer.place c (found_as_made users journal legal.1 offer.place c now)).1 in
      record {
        lacks = before.lacks ∙ sym (lacks_later e journal offer c at ∙ ap (λ x. not (is_some x) && lacks_control journal offer c) (none offer has).control);
        owes = before.owes ∙ sym (owes_later e journal offer c at ∙ ap (λ b. if b then gets_value offer e else owes_reply journal offer c) ((none offer has).tries auxiliary));
      };
}

pub cells_later_in : (users : List ℕ) (journal : Entries) (e : PlainEntry) → IsLegal users (e ∷ journal) → ((o : Standing) → Contains (standing journal) o → Untouched e o) → (cells : Cells) → FitCells journal cells →
    CellsIn (e ∷ journal) (Contains (standing journal)) (coupling_at (standing journal) (couplings journal)) cells
cells_later_in users journal e legal none cells fit offer has =
    let old = fit offer has in (old.0, old.1, fits_later_in users journal e legal none offer has old.0 old.2)

-- an offer that stands after an ending stood before, and does not end
pub left_is : (journal : Entries) (e : PlainEntry) (ending : Ending) → (act_row e.act).row.ends ≡ Some ending → (o : Standing) → Contains (standing (e ∷ journal)) o →
    Contains (standing journal) o × (is_ended e.party ending o ≡ false)
left_is journal e ending ends o has =
    let among = subst (λ os. Contains os o) (standing_left journal e ending ends) has in
    let stays : Standing → Bool = λ (x : Standing). not (is_ended e.party ending x) in
    (Contains-from_filter stays (standing journal) o among, not-true (is_ended e.party ending o) (filter_passed stays (standing journal) o among))

-- and one that stood before, and does not end, stands after it
pub left_from : (journal : Entries) (e : PlainEntry) (ending : Ending) → (act_row e.act).row.ends ≡ Some ending → (o : Standing) → Contains (standing journal) o → is_ended e.party ending o ≡ false → Contains (standing (e ∷ journal)) o
left_from journal e ending ends o has stays =
    subst (λ os. Contains os o) (sym (standing_left journal e ending ends))
    (Contains-filter (λ (x : Standing). not (is_ended e.party ending x)) (standing journal) o (not_from_false (is_ended e.party ending o) stays) has)

-- a coupling that no older entry made is none of the older ones
newer_is_none : (journal : Entries) (e : PlainEntry) (c : Coupling) → (c.at ≤ length journal → ⊥) → if_older (e ∷ journal) (Some c) ≡ None
newer_is_none journal e c never =
    ap (λ (b : Bool). if b then Some c else None) (le-ltb _ _ (elim (cases_lt (length journal) c.at) [ inl late ↦ late_enough late | inr old ↦ absurd (never old) ]))
  where
    late_enough : length journal < c.at → length (e ∷ journal) ≤ c.at
    late_enough late = omega (arith, late)

-- and one that an older entry made is
older_is_found : (journal : Entries) (e : PlainEntry) (c : Coupling) → c.at ≤ length journal → if_older (e ∷ journal) (Some c) ≡ Some c
older_is_found journal e c old = ap (λ (b : Bool). if b then Some c else None) (lt-ltb _ _ (omega (arith, old)))

-- ---- a coupling of before, where an entry ends offers

module _ (users : List ℕ) (journal : Entries) (e : PlainEntry) (ending : Ending) (legal : IsLegal users (e ∷ journal)) (ends : (act_row e.act).row.ends ≡ Some ending) where
  -- where an offer of it ends, one of the two does not stand after the entry
  not_both_stand : (c : Coupling) → list_any (ends_one e.party ending c) (standing journal) ≡ true → Contains (standing (e ∷ journal)) c.a → Contains (standing (e ∷ journal)) c.b → ⊥
  not_both_stand c some has_a has_b =
      let found = Any-from_list_any (ends_one e.party ending c) (standing journal) some in
      let o = found.1 in
      let stood : Contains (standing journal) o = (found.0, found.2, found.3) in
      let parts = and_parts (is_ended e.party ending o) (eqb c.a.place o.place || eqb c.b.place o.place) found.4 in
      let a = left_is journal e ending ends c.a has_a in
      let b = left_is journal e ending ends c.b has_b in
      elim (or_cases (eqb c.a.place o.place) (eqb c.b.place o.place) parts.1) [
        | inl low ↦ both_ways (is_ended e.party ending o) (ap (is_ended e.party ending) (sym (one_place journal c.a o a.0 stood (eqb-true c.a.place o.place low))) ∙ a.1) parts.0
        | inr high ↦ both_ways (is_ended e.party ending o) (ap (is_ended e.party ending) (sym (one_place journal c.b o b.0 stood (eqb-true c.b.place o.place high))) ∙ b.1) parts.0
      ]

  -- where none does, each of the two stays
  does_not_end : (c : Coupling) → list_any (ends_one e.party ending c) (standing journal) ≡ false → (o : Standing) → Contains (standing journal) o → (eqb c.a.place o.place || eqb c.b.place o.place) ≡ true →
      is_ended e.party ending o ≡ false
  does_not_end c none o has of = elim (cases_Bool (is_ended e.party ending o)) [
    | inr other ↦ other
    | inl gone ↦ absurd (both_ways (list_any (ends_one e.party ending c) (standing journal)) none
        (list_any_member (ends_one e.party ending c) (standing journal) o (and_from (is_ended e.party ending o) (eqb c.a.place o.place || eqb c.b.place o.place) gone of) has))
  ]

  -- and so does it
  stays_whole : (place : ℕ) (c : Coupling) → coupling_now journal place ≡ Some c → list_any (ends_one e.party ending c) (standing journal) ≡ false → coupling_now (e ∷ journal) place ≡ Some c
  stays_whole place c was none =
      let as_made = found_as_made users journal legal.1 place c was in
      still_coupled users journal e legal place c was
      (left_from journal e ending ends c.a as_made.has_a (does_not_end c none c.a as_made.has_a (or_left (eqb c.a.place c.a.place) (eqb c.b.place c.a.place) (eq-eqb c.a.place c.a.place refl))))
      (left_from journal e ending ends c.b as_made.has_b (does_not_end c none c.b as_made.has_b (or_right (eqb c.a.place c.b.place) (eqb c.b.place c.b.place) (eq-eqb c.b.place c.b.place refl))))

  -- it is an older one of the journal with the entry, unless an offer of it ends
  older_unless_ended : (place : ℕ) (c : Coupling) → coupling_now journal place ≡ Some c → (b : Bool) → list_any (ends_one e.party ending c) (standing journal) ≡ b →
      (now : Option Coupling) → coupling_now (e ∷ journal) place ≡ now → unless_offer_ends (standing journal) e.party ending (Some c) ≡ if_older (e ∷ journal) now
  older_unless_ended place c was false none now is_now =
      ap (λ (b : Bool). if b then None else Some c) none
      ∙ sym (ap (if_older (e ∷ journal)) (sym is_now ∙ stays_whole place c was none)
      ∙ older_is_found journal e c (coupling_places users journal legal.1 place c (found_as_made users journal legal.1 place c was)).1)
  older_unless_ended place c was true some None is_now = ap (λ (b : Bool). if b then None else Some c) some
  older_unless_ended place c was true some (Some d) is_now =
      ap (λ (b : Bool). if b then None else Some c) some
      ∙ sym (newer_is_none journal e d (λ old.
      let same : d ≡ c = same_Some d c (sym (coupling_was users e journal legal place d is_now old) ∙ was) in
      let found = found_as_made users (e ∷ journal) legal place d is_now in
      not_both_stand c some (subst (λ (x : Coupling). Contains (standing (e ∷ journal)) x.a) same found.has_a) (subst (λ (x : Coupling). Contains (standing (e ∷ journal)) x.b) same found.has_b)))

  -- the couplings of before without those that end are the older ones of the journal with the entry
  pub without_is_older : (q : Standing) → Contains (standing (e ∷ journal)) q →
      coupled_without (standing journal) (couplings journal) (standing journal) e.party ending q.place ≡ older_now (e ∷ journal) q.place
  without_is_older q has_q = by (coupling_now journal q.place) refl (coupling_now (e ∷ journal) q.place) refl
    where
      by : (was : Option Coupling) → coupling_now journal q.place ≡ was → (now : Option Coupling) → coupling_now (e ∷ journal) q.place ≡ now →
          unless_offer_ends (standing journal) e.party ending was ≡ if_older (e ∷ journal) now
      by None was None now = refl
      by None was (Some c) now = sym (newer_is_none journal e c (λ old. none-some c (sym was ∙ coupling_was users e journal legal q.place c now old)))
      by (Some c) was now is_now = older_unless_ended q.place c was (list_any (ends_one e.party ending c) (standing journal)) refl now is_now
