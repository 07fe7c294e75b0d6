-- What is kept of the standing offers goes on with an entry that opens and ends no offers.
use Rattle.std.proofs.Common.{◌≡◌, refl, sym, ap, ◌∙◌, subst, ℕ, ◌+◌, ◌≤◌, Bool, true, false, ◌&&◌, not, eqb, ltb, List, ◌∷◌, length, ◌||◌, Option, Some, None, inl, inr, arith}
use Rattle.std.specs.Prelude.{Contains, find, is_some, unwrap_or, if◌then◌else◌}
use Rattle.std.proofs.lemmas.Bool.{lt-ltb, eqb-true, cases_Bool}
use Rattle.std.proofs.lemmas.Option.{none-some, same_Some}
use Rattle.std.proofs.lemmas.List.Elements.{All-contains}
use Rattle.sv_access.specs.declared.access.Side.{Side}
use Rattle.sv_events.specs.Entry.{PlainEntry}
use Rattle.sv_kept.specs.Share.{PlainShare}
use Rattle.sv_kept.specs.Cell.{known_alone}
use Rattle.sv_kept.specs.declared.cell.Cell.{Cell}
use Rattle.sv_kept.specs.declared.cell.CellContent.{CellContent}
use Rattle.sv_kept.specs.declared.cell.CellContent.TheVariants.{Alone, Shared, Lent}
use Rattle.sv_kept.specs.declared.cells.Cells.{Cells}
use Rattle.sv_rules.specs.Control.{control_on, side_at, vector_of}
use Rattle.sv_rules.specs.Coupling.{coupling_at, coupling_now, couplings}
use Rattle.std.specs.Option.{option_map_or}
use Rattle.sv_rules.specs.Entries.{Entries, since}
use Rattle.sv_rules.specs.Legal.{IsLegal}
use Rattle.sv_rules.specs.Outcome.{value_for}
use Rattle.sv_rules.specs.Standing.{standing}
use Rattle.sv_rules.specs.Story.{access_on, known_after}
use Rattle.sv_rules.specs.Work.{gets_value, lacks_control, owes_reply, tries}
use Rattle.sv_rules.specs.declared.coupling.Coupling.{Coupling}
use Rattle.sv_rules.specs.declared.standing.Standing.{Standing}
use Rattle.sv_offer_laws.specs.CouplingLaws.{IsCouplingOf}
use Rattle.sv_offer_laws.proofs.LookupLemmas.{found_as_made}
use Rattle.sv_offer_laws.proofs.NowLemmas.{coupling_is_found, coupling_places, partners_differ}
use Rattle.sv_offer_laws.proofs.PlaceLemmas.{IsPlaceIn, places_within}
use Rattle.sv_story_laws.proofs.AnswerLemmas.{uses_get_what_they_find}
use Rattle.sv_story_laws.proofs.OpeningLemmas.{known_later}
use Rattle.sv_cell_laws.specs.Fits.{FitsShare, HoldsShare, has_share, has_none, FitsHeld, is_open, is_coupled, FitsCell, FitCells}
use Rattle.sv_cell_laws.specs.Steps.{Stays, HeldAfter, alone_then, shared_then, lent_then, CellAfter, CellsAfter, with_entry}
use Rattle.sv_cell_laws.proofs.ShareSteps.{GetsShared, OneAccess, share_goes_on_by}

-- the place of a standing offer
pub placed : (journal : Entries) (offer : Standing) → Contains (standing journal) offer → offer.place ≤ length journal
placed journal offer has = (All-contains (IsPlaceIn (length journal)) (standing journal) offer (places_within journal) has).1

pub vector_later : (e : PlainEntry) (journal : Entries) (offer : Standing) → offer.place ≤ length journal → vector_of (e ∷ journal) offer ≡ unwrap_or (control_on offer e) (vector_of journal offer)
vector_later e journal offer earlier = let later : ltb offer.place (length journal + 1) ≡ true = lt-ltb _ _ (omega arith) in rw later refl

pub lacks_later : (e : PlainEntry) (journal : Entries) (offer : Standing) (coupling : Coupling) → coupling.at ≤ length journal →
    lacks_control (e ∷ journal) offer coupling ≡ (not (is_some (control_on offer e)) && lacks_control journal offer coupling)
lacks_later e journal offer coupling old =
    let later : ltb coupling.at (length journal + 1) ≡ true = lt-ltb _ _ (omega arith) in rw later (by (is_some (control_on offer e)) _)
  where
    by : (a b : Bool) → not (a || b) ≡ (not a && not b)
    by true b = refl
    by false b = refl

pub owes_later : (e : PlainEntry) (journal : Entries) (offer : Standing) (coupling : Coupling) → coupling.at ≤ length journal →
    owes_reply (e ∷ journal) offer coupling ≡ (if tries offer e then gets_value offer e else owes_reply journal offer coupling)
owes_later e journal offer coupling old =
    let later : ltb coupling.at (length journal + 1) ≡ true = lt-ltb _ _ (omega arith) in rw later (by (tries offer e))
  where
    rest : Option PlainEntry
    rest = find (tries offer) (since coupling.at journal)

    by : (b : Bool) → option_map_or (gets_value offer) (if b then Some e else rest) false ≡ (if b then gets_value offer e else option_map_or (gets_value offer) rest false)
    by true = refl
    by false = refl

-- the coupling of an offer stays
coupling_stays : (journal : Entries) (e : PlainEntry) → Stays journal e → (place : ℕ) → coupling_now (e ∷ journal) place ≡ coupling_now journal place
coupling_stays journal e stays place =
    ap (λ offers. coupling_at offers (couplings (e ∷ journal)) place) stays.offers ∙ ap (λ ms. coupling_at (standing journal) ms place) stays.coupled

-- an offer of another party is not accessed
no_access : (e : PlainEntry) (offer : Standing) → eqb e.party offer.party ≡ false → access_on offer e ≡ None
no_access e offer other = rw other refl

-- at most one offer of a coupling is accessed
one_access : (users : List ℕ) (journal : Entries) (e : PlainEntry) → IsLegal users journal → (place : ℕ) (coupling : Coupling) → IsCouplingOf journal place coupling → OneAccess coupling e
one_access users journal e legal place coupling is = elim (cases_Bool (eqb e.party coupling.a.party)) [
  | inr other ↦ inl (no_access e coupling.a other)
  | inl own ↦ elim (cases_Bool (eqb e.party coupling.b.party)) [
    | inr other ↦ inr (no_access e coupling.b other)
    | inl also ↦ absurd (partners_differ users journal legal place coupling is (sym (eqb-true e.party coupling.a.party own) ∙ eqb-true e.party coupling.b.party also))
  ]
]

-- a coupling is found at the place of each of its offers
pub found_at_a : (users : List ℕ) (journal : Entries) → IsLegal users journal → (place : ℕ) (coupling : Coupling) → IsCouplingOf journal place coupling → coupling_now journal coupling.a.place ≡ Some coupling
found_at_a users journal legal place coupling is =
    coupling_is_found users journal legal coupling.a.place coupling (record { has_a = is.has_a; has_b = is.has_b; here = inl refl; lower_first = is.lower_first; made = is.made })

pub found_at_b : (users : List ℕ) (journal : Entries) → IsLegal users journal → (place : ℕ) (coupling : Coupling) → IsCouplingOf journal place coupling → coupling_now journal coupling.b.place ≡ Some coupling
found_at_b users journal legal place coupling is =
    coupling_is_found users journal legal coupling.b.place coupling (record { has_a = is.has_a; has_b = is.has_b; here = inr refl; lower_first = is.lower_first; made = is.made })

-- a use of a coupled offer gets what is shared
gets_shared : (users : List ℕ) (journal : Entries) (e : PlainEntry) → IsLegal users (e ∷ journal) → (offer : Standing) → Contains (standing journal) offer → (coupling : Coupling) →
    coupling_now journal offer.place ≡ Some coupling → (share : PlainShare) → FitsShare journal coupling share → GetsShared share (access_on offer e)
gets_shared users journal e legal offer has coupling now share fits v h =
    fits.told.value ∙ ap (value_for journal offer) (sym now) ∙ uses_get_what_they_find users journal e offer v legal has h

-- the share of a coupling goes on with an entry
pub share_later : (users : List ℕ) (journal : Entries) (e : PlainEntry) → IsLegal users (e ∷ journal) → (place : ℕ) (coupling : Coupling) → coupling_now journal place ≡ Some coupling →
    (share : PlainShare) → FitsShare journal coupling share → FitsShare (e ∷ journal) coupling (with_entry share coupling e)
share_later users journal e legal place coupling now share fits =
    let is = found_as_made users journal legal.1 place coupling now in
    let at = coupling_places users journal legal.1 place coupling is in
    share_goes_on_by e journal coupling share at.1 (omega (arith, is.lower_first, at.0, at.1)) (omega (arith, at.0, at.1)) (one_access users journal e legal.1 place coupling is)
    (gets_shared users journal e legal coupling.a is.has_a coupling (found_at_a users journal legal.1 place coupling is) share fits)
    (gets_shared users journal e legal coupling.b is.has_b coupling (found_at_b users journal legal.1 place coupling is) share fits) fits

-- what an offer of a coupling holds goes on
holds_later : (users : List ℕ) (journal : Entries) (e : PlainEntry) → IsLegal users (e ∷ journal) → (offer : Standing) (coupling : Coupling) → coupling_now journal offer.place ≡ Some coupling →
    (side : Side) (old new : CellContent) → HoldsShare journal coupling side old → HeldAfter journal e offer (coupling_now journal offer.place) old new → HoldsShare (e ∷ journal) coupling side new
holds_later users journal e legal offer coupling now side old new (has_share a share is fits) (alone_then none is_new) = absurd (none-some coupling (sym none ∙ now))
holds_later users journal e legal offer coupling now side old new (has_share a share is fits) (shared_then also some other was is_new) =
    let same : also ≡ coupling = same_Some also coupling (sym some ∙ now) in
    let one : other ≡ share = let h : Shared other ≡ Shared share = sym was ∙ is in cc in
    has_share a (with_entry share coupling e) (is_new ∙ ap (λ (s : PlainShare). Shared (with_entry s also e)) one ∙ ap (λ (c : Coupling). Shared (with_entry share c e)) same)
    (share_later users journal e legal offer.place coupling now share fits)
holds_later users journal e legal offer coupling now side old new (has_share a share is fits) (lent_then also some was is_new) =
    absurd (let h : Lent ≡ Shared share = sym was ∙ is in cc)
holds_later users journal e legal offer coupling now side old new (has_none b is) (alone_then none is_new) = absurd (none-some coupling (sym none ∙ now))
holds_later users journal e legal offer coupling now side old new (has_none b is) (shared_then also some other was is_new) =
    absurd (let h : Shared other ≡ Lent = sym was ∙ is in cc)
holds_later users journal e legal offer coupling now side old new (has_none b is) (lent_then also some was is_new) = has_none b is_new

held_later : (users : List ℕ) (journal : Entries) (e : PlainEntry) → IsLegal users (e ∷ journal) → (offer : Standing) → Contains (standing journal) offer →
    coupling_now (e ∷ journal) offer.place ≡ coupling_now journal offer.place → (cell cell' : Cell) →
    FitsHeld journal offer cell (coupling_now journal offer.place) → HeldAfter journal e offer (coupling_now journal offer.place) cell.held cell'.held →
    FitsHeld (e ∷ journal) offer cell' (coupling_now (e ∷ journal) offer.place)
held_later users journal e legal offer has same cell cell' (is_open none is) after = alone after
  where
    alone : HeldAfter journal e offer (coupling_now journal offer.place) cell.held cell'.held → FitsHeld (e ∷ journal) offer cell' (coupling_now (e ∷ journal) offer.place)
    alone (alone_then also new) =
        is_open (same ∙ none)
        (new ∙ ap (λ (h : CellContent). Alone (known_after (access_on offer e) (known_alone h))) is ∙ ap Alone (sym (known_later e journal offer (placed journal offer has))))
    alone (shared_then now some share old new) = absurd (none-some now (sym none ∙ some))
    alone (lent_then now some old new) = absurd (none-some now (sym none ∙ some))
held_later users journal e legal offer has same cell cell' (is_coupled now some holds) after =
    is_coupled now (same ∙ some) (holds_later users journal e legal offer now some (side_at now offer.place) cell.held cell'.held holds after)

-- the cell of a standing offer goes on
pub cell_goes_on : (users : List ℕ) (journal : Entries) (e : PlainEntry) → IsLegal users (e ∷ journal) → (offer : Standing) → Contains (standing journal) offer →
    coupling_now (e ∷ journal) offer.place ≡ coupling_now journal offer.place → (cell cell' : Cell) → FitsCell journal offer cell → CellAfter journal e offer cell cell' → FitsCell (e ∷ journal) offer cell'
cell_goes_on users journal e legal offer has same cell cell' fits after = record {
  vector = after.vector ∙ ap (unwrap_or (control_on offer e)) fits.vector ∙ sym (vector_later e journal offer (placed journal offer has));
  held = held_later users journal e legal offer has same cell cell' fits.held after.held;
  work = λ auxiliary coupling now.
      let was : coupling_now journal offer.place ≡ Some coupling = sym same ∙ now in
      let before = fits.work auxiliary coupling was in
      let then' = after.work auxiliary in
      let at = (coupling_places users journal legal.1 offer.place coupling (found_as_made users journal legal.1 offer.place coupling was)).1 in
      record {
        lacks = then'.lacks ∙ ap (λ b. not (is_some (control_on offer e)) && b) before.lacks ∙ sym (lacks_later e journal offer coupling at);
        owes = then'.owes ∙ ap (λ b. if tries offer e then gets_value offer e else b) before.owes ∙ sym (owes_later e journal offer coupling at);
      };
}

pub cells_go_on : (users : List ℕ) (journal : Entries) (e : PlainEntry) → IsLegal users (e ∷ journal) → Stays journal e → (cells cells' : Cells) →
    FitCells journal cells → CellsAfter journal e cells cells' → FitCells (e ∷ journal) cells'
cells_go_on users journal e legal stays cells cells' fit after offer has =
    let had : Contains (standing journal) offer = subst (λ os. Contains os offer) stays.offers has in
    let old = fit offer had in
    let new = after offer had old.0 old.1 old.2 in
    (new.0, new.1, cell_goes_on users journal e legal offer had (coupling_stays journal e stays offer.place) old.0 new.0 old.2 new.2)
