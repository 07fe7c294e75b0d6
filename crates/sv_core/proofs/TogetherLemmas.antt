-- Where offers end together, the steps one after another keep the cells.
use Rattle.std.proofs.Common.{◌≡◌, refl, sym, ap, ◌∙◌, subst, ℕ, ◌+◌, ◌<◌, Bool, true, false, ◌&&◌, eqb, List, [], ◌∷◌, length, None, arith}
use Rattle.std.specs.Prelude.{All, Contains, if◌then◌else◌}
use Rattle.std.specs.List.{list_any}
use Rattle.std.proofs.lemmas.Bool.{and_parts, both_ways, eqb-true}
use Rattle.std.proofs.lemmas.List.Elements.{All-weaker}
use Rattle.std.proofs.lemmas.List.Folds.{Any-from_list_any}
use Rattle.sv_events.specs.Entry.{PlainEntry}
use Rattle.sv_events.specs.declared.entry.Pair.{Pair}
use Rattle.sv_events.specs.declared.row.Ending.{Ending}
use Rattle.sv_kept.specs.Cells.{cell_at}
use Rattle.sv_kept.specs.declared.cells.Cells.{Cells}
use Rattle.sv_cell_laws.specs.Ends.{CellsIn, FitsCoupling, IsOfferTable, coupled_without, taken_now}
use Rattle.sv_cell_laws.specs.Fits.{FitCells}
use Rattle.sv_cell_laws.proofs.EndJournal.{cells_later_in, left_is, table_is, without_is_older}
use Rattle.sv_cell_laws.proofs.JoinSteps.{cells_end, none_taken}
use Rattle.sv_cell_laws.proofs.TouchSteps.{one_place}
use Rattle.sv_offers.specs.Places.{IsNext}
use Rattle.sv_offers.specs.Table.{PlainOffers, pairs_made}
use Rattle.sv_offer_laws.proofs.EndingLemmas.{made_of_ending}
use Rattle.sv_offer_laws.proofs.LegalLemmas.{IsSound-from_legal, order_of_couplings}
use Rattle.sv_offer_laws.proofs.PlaceLemmas.{IsPlaceIn, places_within}
use Rattle.sv_offer_laws.specs.LegalLaws.{IsInOrder}
use Rattle.sv_rules.specs.Coupling.{coupling_at, couplings}
use Rattle.sv_rules.specs.Entries.{Entries, next_place}
use Rattle.sv_rules.specs.Legal.{IsLegal}
use Rattle.sv_rules.specs.Standing.{is_ended, standing}
use Rattle.sv_rules.specs.declared.coupling.Made.{Made}
use Rattle.sv_rules.specs.declared.standing.Standing.{Standing}
use Rattle.sv_core.specs.Updating.{CouplesAll, FitsSome, IsEnding, IsToCouple, IsToEnd, Closes, PartsAll}

-- what holds of the offers and couplings of the journal holds of the table
pub tables : (offers : PlainOffers) (journal : Entries) → offers.offers ≡ standing journal → offers.coupled ≡ couplings journal → (P : List Standing → List Made → Type 0) → P (standing journal) (couplings journal) → P offers.offers offers.coupled
tables offers journal stand couple P h = subst (λ o. P o offers.coupled) (sym stand) (subst (P (standing journal)) (sym couple) h)

-- the place of the next entry is above all in the table
pub next_above : (users : List ℕ) (journal : Entries) → IsLegal users journal → (offers : PlainOffers) → offers.offers ≡ standing journal → offers.coupled ≡ couplings journal →
    (place : ℕ) → place ≡ next_place journal → IsNext offers place
next_above users journal legal offers stand couple place next = record {
  above = subst (λ os. All (λ o. o.place < place) os) (sym stand)
      (All-weaker (IsPlaceIn (length journal)) (λ o. o.place < place) (λ o h. omega (arith, h.1, next)) (standing journal) (places_within journal));
  later = subst (λ ms. All (λ m. m.at < place) ms) (sym couple)
      (All-weaker (IsInOrder (length journal)) (λ m. m.at < place) (λ m h. omega (arith, h.within, next)) (couplings journal)
      (order_of_couplings journal (IsSound-from_legal users journal legal).order));
}

-- the table is one
pub ending_table : (offers : PlainOffers) (cells : Cells) (at party : ℕ) (ending : Ending) → IsToEnd offers cells at party ending → IsOfferTable offers.offers offers.coupled
ending_table offers cells at party ending ready =
    let e = ready.3 in tables offers ready.1 e.stand e.couple IsOfferTable (table_is ready.0 ready.1 (e.legal).1)

-- the cells fit the journal with the entry, by the couplings of before
first_fit : (offers : PlainOffers) (cells : Cells) (at party : ℕ) (ending : Ending) (users : List ℕ) (journal : Entries) (e : PlainEntry) → IsEnding offers cells at party ending users journal e →
    CellsIn (e ∷ journal) (Contains offers.offers) (coupling_at offers.offers offers.coupled) cells
first_fit offers cells at party ending users journal e is =
    tables offers journal is.stand is.couple (λ os ms. CellsIn (e ∷ journal) (Contains os) (coupling_at os ms) cells) (cells_later_in users journal e is.legal is.untouched cells is.fit)

pub ending_fits : (offers : PlainOffers) (cells : Cells) (at party : ℕ) (ending : Ending) → IsToEnd offers cells at party ending → FitsSome offers.offers offers.coupled cells
ending_fits offers cells at party ending ready = (ready.2 ∷ ready.1, first_fit offers cells at party ending ready.0 ready.1 ready.2 ready.3)

-- the pairs are those of the entry
pub ending_pairs : (offers : PlainOffers) (cells : Cells) (at party : ℕ) (ending : Ending) (users : List ℕ) (journal : Entries) (e : PlainEntry) → IsEnding offers cells at party ending users journal e →
    e.made ≡ pairs_made at offers party ending
ending_pairs offers cells at party ending users journal e is =
    made_of_ending users journal e ending (is.legal).0 is.ends
    ∙ ap (λ p. pairs_made (length journal + 1) (record { offers = standing journal; coupled = couplings journal }) p ending) is.own
    ∙ ap (λ n. pairs_made n (record { offers = standing journal; coupled = couplings journal }) party ending) (sym is.place)
    ∙ ap (λ os. pairs_made at (record { offers = os; coupled = couplings journal }) party ending) (sym is.stand)
    ∙ ap (λ ms. pairs_made at (record { offers = offers.offers; coupled = ms }) party ending) (sym is.couple)

-- once the offers that end are parted and gone, the cells fit but for the new pairs
pub ready_to_couple : (offers : PlainOffers) (cells c1 c2 : Cells) (at party : ℕ) (ending : Ending) (users : List ℕ) (journal : Entries) (e : PlainEntry) → IsEnding offers cells at party ending users journal e →
    PartsAll offers.offers offers.coupled party ending offers.offers cells c1 → Closes offers.offers party ending c1 c2 → (pairs : List Pair) → e.made ≡ pairs → IsToCouple c2 pairs
ready_to_couple offers cells c1 c2 at party ending users journal e is parts keeps pairs made = record {
  users = users;
  journal = journal;
  e = e;
  legal = is.legal;
  made = made;
  fit = fit;
}
  where
    parted : CellsIn (e ∷ journal) (Contains offers.offers) (coupled_without offers.offers offers.coupled offers.offers party ending) c1
    parted = parts (e ∷ journal) (first_fit offers cells at party ending users journal e is)

    none_there : (q : Standing) → Contains (standing journal) q → is_ended party ending q ≡ false → (b : Bool) → list_any (λ (o : Standing). is_ended party ending o && eqb o.place q.place) offers.offers ≡ b → b ≡ false
    none_there q has stays false h = refl
    none_there q has stays true h =
        let found = Any-from_list_any (λ (o : Standing). is_ended party ending o && eqb o.place q.place) offers.offers h in
        let o = found.1 in
        let stood : Contains (standing journal) o = subst (λ os. Contains os o) is.stand (found.0, found.2, found.3) in
        let parts = and_parts (is_ended party ending o) (eqb o.place q.place) found.4 in
        absurd (both_ways (is_ended party ending q) stays (ap (is_ended party ending) (sym (one_place journal o q stood has (eqb-true o.place q.place parts.1))) ∙ parts.0))

    fit : CellsIn (e ∷ journal) (Contains (standing (e ∷ journal))) (taken_now (e ∷ journal) []) c2
    fit q has =
        let left = left_is journal e ending is.ends q has in
        let stays : is_ended party ending q ≡ false = ap (λ p. is_ended p ending q) (sym is.own) ∙ left.1 in
        let old = parted q (subst (λ os. Contains os q) (sym is.stand) left.0) in
        let same =
        ap (λ os. coupled_without os offers.coupled os party ending q.place) is.stand
        ∙ ap (λ ms. coupled_without (standing journal) ms (standing journal) party ending q.place) is.couple
        ∙ ap (λ p. coupled_without (standing journal) (couplings journal) (standing journal) p ending q.place) (sym is.own)
        ∙ without_is_older users journal e ending is.legal is.ends q has ∙ none_taken (e ∷ journal) q.place in
        (old.0, keeps q.place ∙ ap (λ (b : Bool). if b then None else cell_at c1 q.place) (none_there q left.0 stays _ refl) ∙ old.1, subst (FitsCoupling (e ∷ journal) q old.0) same old.2)

-- and once these are coupled, they fit
pub ends_all : (offers : PlainOffers) (cells c1 c2 c3 : Cells) (at party : ℕ) (ending : Ending) (pairs : List Pair) → PartsAll offers.offers offers.coupled party ending offers.offers cells c1 →
    Closes offers.offers party ending c1 c2 → CouplesAll pairs c2 c3 pairs → pairs ≡ pairs_made at offers party ending →
    (users : List ℕ) (journal : Entries) (e : PlainEntry) → IsEnding offers cells at party ending users journal e → FitCells (e ∷ journal) c3
unfolding ready_to_couple
ends_all offers cells c1 c2 c3 at party ending pairs parts keeps couples made users journal e is =
    let same : e.made ≡ pairs = ending_pairs offers cells at party ending users journal e is ∙ sym made in
    let ready = ready_to_couple offers cells c1 c2 at party ending users journal e is parts keeps pairs same in
    cells_end users journal e is.legal c3
    (subst (λ ps. CellsIn (e ∷ journal) (Contains (standing (e ∷ journal))) (taken_now (e ∷ journal) ps) c3) (sym same) (couples ready))
