-- What is kept goes on with a new offer.
use Rattle.std.proofs.Common.{◌≡◌, refl, sym, ap, ◌∙◌, subst, ℕ, ◌+◌, ◌<◌, Bool, true, false, eqb, ltb, List, [], ◌∷◌, length, Option, Some, None, ◌⊎◌, inl, inr, arith}
use Rattle.std.specs.Prelude.{Contains, unwrap_or, if◌then◌else◌}
use Rattle.std.proofs.lemmas.Bool.{cases_Bool, cases_lt, eq-eqb, eqb-true, eqb-false, ne_eqb, lt-ltb, le-ltb}
use Rattle.std.proofs.lemmas.List.Elements.{All-contains, Contains-append_cases, Contains-append_left, Contains-append_right}
use Rattle.std.proofs.lemmas.Option.{none-some, same_Some}
use Rattle.apl_arrays.specs.Array.{PlainArray}
use Rattle.sv_access.specs.Control.{no_control}
use Rattle.sv_access.specs.declared.access.Side.TheVariants.{A, B}
use Rattle.sv_events.specs.Entry.{PlainEntry}
use Rattle.sv_events.specs.declared.entry.Pair.{Pair}
use Rattle.sv_kept.specs.Cell.{coupled_with, known_alone, new_cell}
use Rattle.sv_kept.specs.Cells.{PutsTwo, cell_at}
use Rattle.sv_kept.specs.declared.cell.Cell.{Cell}
use Rattle.sv_kept.specs.declared.cell.CellContent.TheVariants.{Alone, Shared, Lent}
use Rattle.sv_kept.specs.declared.cells.Cells.{Cells}
use Rattle.sv_rules.specs.Control.{vector_of}
use Rattle.sv_rules.specs.Coupling.{coupling_now, made_in, pair_of}
use Rattle.sv_rules.specs.Entries.{Entries, next_place}
use Rattle.sv_rules.specs.Legal.{IsLegal}
use Rattle.sv_rules.specs.Standing.{standing}
use Rattle.sv_rules.specs.Story.{handed_in, known, known_after}
use Rattle.sv_rules.specs.Work.{lacks_control, owes_reply}
use Rattle.sv_rules.specs.declared.coupling.Coupling.{Coupling}
use Rattle.sv_rules.specs.declared.coupling.Made.{Made}
use Rattle.sv_rules.specs.declared.standing.Standing.{Standing}
use Rattle.sv_kept.specs.Share.{PlainShare, share_of}
use Rattle.sv_offer_laws.specs.LegalLaws.{IsInOrder, made_at}
use Rattle.sv_offer_laws.proofs.Members.{Contains-head, Contains-cons_cases}
use Rattle.sv_offer_laws.proofs.CouplingLemmas.{made_in-from_WasMade, made_at_cases}
use Rattle.sv_offer_laws.proofs.LegalLemmas.{IsSound-from_legal}
use Rattle.sv_offer_laws.proofs.LookupLemmas.{found_as_made}
use Rattle.sv_offer_laws.proofs.NowLemmas.{coupling_is_found, coupling_was}
use Rattle.sv_story_laws.proofs.OpeningLemmas.{known_later}
use Rattle.sv_cell_laws.specs.Fits.{FitsShare, has_share, has_none, FitsHeld, is_open, is_coupled, FitsCell, FitCells, FitsWork}
use Rattle.sv_cell_laws.specs.Steps.{OpensOffer, OpensCells, Untouched, made_with}
use Rattle.sv_cell_laws.proofs.CellSteps.{cell_goes_on, placed, vector_later}
use Rattle.sv_cell_laws.proofs.QuietSteps.{no_access_by_row, no_control_by_row, no_tries_by_row}
use Rattle.sv_cell_laws.proofs.PutSteps.{puts_two}
use Rattle.sv_cell_laws.proofs.ShareSteps.{new_share_fits}
use Rattle.sv_cell_laws.proofs.TouchSteps.{cell_stays, one_place}

-- a coupling stays where both its offers still stand
pub still_coupled : (users : List ℕ) (journal : Entries) (e : PlainEntry) → IsLegal users (e ∷ journal) → (place : ℕ) (coupling : Coupling) → coupling_now journal place ≡ Some coupling →
    Contains (standing (e ∷ journal)) coupling.a → Contains (standing (e ∷ journal)) coupling.b → coupling_now (e ∷ journal) place ≡ Some coupling
still_coupled users journal e legal place coupling now has_a has_b =
    let is = found_as_made users journal legal.1 place coupling now in
    let w = is.made in
    coupling_is_found users (e ∷ journal) legal place coupling (record {
      has_a = has_a;
      has_b = has_b;
      here = is.here;
      lower_first = is.lower_first;
      made = (w.0, w.1, e ∷ w.2, ap (λ rest. e ∷ rest) w.3, w.4, w.5);
    })

-- the pair of a coupling that is as new as the newest entry is one of those that this made
pub newest_pair : (users : List ℕ) (journal : Entries) (e : PlainEntry) → IsLegal users (e ∷ journal) → (place : ℕ) (coupling : Coupling) → coupling_now (e ∷ journal) place ≡ Some coupling →
    length journal < coupling.at → Contains e.made (record { a = coupling.a.place; b = coupling.b.place })
newest_pair users journal e legal place coupling now new =
    let is = found_as_made users (e ∷ journal) legal place coupling now in
    let made : Made = record { pair = record { a = coupling.a.place; b = coupling.b.place }; at = coupling.at } in
    elim (Contains-append_cases (made_in journal) (made_at (next_place journal) e.made) made (made_in-from_WasMade (e ∷ journal) made is.made)) [
      | inl before ↦ absurd (let order = order_is before in omega (arith, order.within))
      | inr made_now ↦ (made_at_cases (next_place journal) e.made made made_now).1
    ]
  where
    order_is : Contains (made_in journal) (let made : Made = record { pair = record { a = coupling.a.place; b = coupling.b.place }; at = coupling.at } in made) →
        IsInOrder (length journal) (let made : Made = record { pair = record { a = coupling.a.place; b = coupling.b.place }; at = coupling.at } in made)
    order_is before = All-contains (IsInOrder (length journal)) (made_in journal) _ (IsSound-from_legal users journal legal.1).order before

-- an element of one
of_one : {X : Type 0} (x y : X) → Contains (x ∷ []) y → x ≡ y
of_one x y h = elim (Contains-cons_cases x [] y h) [ inl same ↦ same | inr none ↦ absurd (omega (arith, none.1)) ]

-- a pair of a match and a new offer, which comes later
pair_is : (match new : Standing) → match.place < new.place → pair_of match new ≡ record { a = match.place; b = new.place }
pair_is match new lower = let test : ltb match.place new.place ≡ true = lt-ltb _ _ lower in rw test refl

-- where an entry makes no pair of an older offer, this is coupled as before
older_coupling : (users : List ℕ) (journal : Entries) (e : PlainEntry) (new : Standing) (match : Option Standing) → IsLegal users (e ∷ journal) → OpensOffer journal e new match →
    (offer : Standing) → Contains (standing journal) offer → ((other : Standing) → match ≡ Some other → ¬ (other.place ≡ offer.place)) →
    coupling_now (e ∷ journal) offer.place ≡ coupling_now journal offer.place
older_coupling users journal e new match legal opens offer has other = by (coupling_now (e ∷ journal) offer.place) refl (coupling_now journal offer.place) refl
  where
    not_new : (coupling : Coupling) → coupling_now (e ∷ journal) offer.place ≡ Some coupling → length journal < coupling.at → (m : Option Standing) → match ≡ m → ⊥
    not_new coupling now late None none =
        let pair = subst (λ (ps : List Pair). Contains ps (record { a = coupling.a.place; b = coupling.b.place })) (opens.made ∙ ap (made_with new) none) (newest_pair users journal e legal offer.place coupling now late) in
        omega (arith, pair.1)
    not_new coupling now late (Some m) some =
        let pair = subst (λ (ps : List Pair). Contains ps (record { a = coupling.a.place; b = coupling.b.place })) (opens.made ∙ ap (made_with new) some) (newest_pair users journal e legal offer.place coupling now late) in
        let at_m = placed journal m (opens.matched m some).0 in
        let at_new : m.place < new.place = omega (arith, at_m, opens.place) in
        let same = sym (pair_is m new at_new) ∙ of_one (pair_of m new) _ pair in
        let is = found_as_made users (e ∷ journal) legal offer.place coupling now in
        elim is.here [
          | inl low ↦ other m some (ap (λ (p : Pair). p.a) same ∙ low)
          | inr high ↦ omega (arith, placed journal offer has, opens.place, ap (λ (p : Pair). p.b) same, high)
        ]

    by : (now : Option Coupling) → coupling_now (e ∷ journal) offer.place ≡ now → (was : Option Coupling) → coupling_now journal offer.place ≡ was → now ≡ was
    by None now None was = refl
    by None now (Some c) was =
        let is = found_as_made users journal legal.1 offer.place c was in
        absurd (none-some c (sym now ∙ still_coupled users journal e legal offer.place c was (stands c.a is.has_a) (stands c.b is.has_b)))
      where
        stands : (o : Standing) → Contains (standing journal) o → Contains (standing (e ∷ journal)) o
        stands o h = subst (λ os. Contains os o) (sym opens.offers) (Contains-append_left (standing journal) (new ∷ []) o h)
    by (Some c) now was is = elim (cases_lt (length journal) c.at) [
      | inl late ↦ absurd (not_new c now late match refl)
      | inr old ↦ sym (coupling_was users e journal legal offer.place c now old) ∙ is
    ]

-- an older offer is untouched
older_untouched : (journal : Entries) (e : PlainEntry) (new : Standing) (match : Option Standing) → OpensOffer journal e new match → (offer : Standing) → Untouched e offer
older_untouched journal e new match opens offer = record {
  access = no_access_by_row e offer opens.no_access;
  control = no_control_by_row e offer opens.no_control;
  tries = λ auxiliary. no_tries_by_row e offer opens.no_access;
}

-- the cell of an older offer that is coupled as before stays
older_fits : (users : List ℕ) (journal : Entries) (e : PlainEntry) (new : Standing) (match : Option Standing) → IsLegal users (e ∷ journal) → OpensOffer journal e new match →
    (offer : Standing) → Contains (standing journal) offer → ((other : Standing) → match ≡ Some other → ¬ (other.place ≡ offer.place)) → (cell : Cell) → FitsCell journal offer cell → FitsCell (e ∷ journal) offer cell
older_fits users journal e new match legal opens offer has other cell fits =
    cell_goes_on users journal e legal offer has (older_coupling users journal e new match legal opens offer has other) cell cell fits
    (cell_stays users journal e legal.1 (λ o h. (older_untouched journal e new match opens o).access) offer has cell fits (older_untouched journal e new match opens offer))

-- what is known, controlled and due of a new offer
known_new : (journal : Entries) (e : PlainEntry) (new : Standing) → new.place ≡ next_place journal → known (e ∷ journal) new ≡ handed_in e.act
known_new journal e new place = let late : ltb new.place (length journal + 1) ≡ false = le-ltb _ _ (omega (arith, place)) in rw late refl

vector_new : (journal : Entries) (e : PlainEntry) (new : Standing) → new.place ≡ next_place journal → vector_of (e ∷ journal) new ≡ no_control
vector_new journal e new place = let late : ltb new.place (length journal + 1) ≡ false = le-ltb _ _ (omega (arith, place)) in rw late refl

lacks_new : (journal : Entries) (e : PlainEntry) (offer : Standing) (coupling : Coupling) → coupling.at ≡ next_place journal → lacks_control (e ∷ journal) offer coupling ≡ true
lacks_new journal e offer coupling at = let late : ltb coupling.at (length journal + 1) ≡ false = le-ltb _ _ (omega (arith, at)) in rw late refl

owes_new : (journal : Entries) (e : PlainEntry) (offer : Standing) (coupling : Coupling) → coupling.at ≡ next_place journal → owes_reply (e ∷ journal) offer coupling ≡ false
owes_new journal e offer coupling at = let late : ltb coupling.at (length journal + 1) ≡ false = le-ltb _ _ (omega (arith, at)) in rw late refl

-- a new offer stands
new_stands : (journal : Entries) (e : PlainEntry) (new : Standing) (match : Option Standing) → OpensOffer journal e new match → Contains (standing (e ∷ journal)) new
new_stands journal e new match opens = subst (λ os. Contains os new) (sym opens.offers) (Contains-append_right (standing journal) (new ∷ []) new (Contains-head new []))

older_stands : (journal : Entries) (e : PlainEntry) (new : Standing) (match : Option Standing) → OpensOffer journal e new match → (offer : Standing) → Contains (standing journal) offer → Contains (standing (e ∷ journal)) offer
older_stands journal e new match opens offer h = subst (λ os. Contains os offer) (sym opens.offers) (Contains-append_left (standing journal) (new ∷ []) offer h)

older_or_new : (journal : Entries) (e : PlainEntry) (new : Standing) (match : Option Standing) → OpensOffer journal e new match → (offer : Standing) → Contains (standing (e ∷ journal)) offer →
    Contains (standing journal) offer ⊎ (new ≡ offer)
older_or_new journal e new match opens offer has =
    elim (Contains-append_cases (standing journal) (new ∷ []) offer (subst (λ os. Contains os offer) opens.offers has)) [ inl old ↦ inl old | inr one ↦ inr (of_one new offer one) ]

-- a new offer with no match is open
alone_is_open : (users : List ℕ) (journal : Entries) (e : PlainEntry) (new : Standing) → IsLegal users (e ∷ journal) → OpensOffer journal e new None → coupling_now (e ∷ journal) new.place ≡ None
alone_is_open users journal e new legal opens = by (coupling_now (e ∷ journal) new.place) refl
  where
    by : (now : Option Coupling) → coupling_now (e ∷ journal) new.place ≡ now → now ≡ None
    by None now = refl
    by (Some c) now = absurd (elim (cases_lt (length journal) c.at) [
      | inl late ↦ let pair = subst (λ (ps : List Pair). Contains ps (record { a = c.a.place; b = c.b.place })) opens.made (newest_pair users journal e legal new.place c now late) in omega (arith, pair.1)
      | inr old ↦
          let was = found_as_made users journal legal.1 new.place c (coupling_was users e journal legal new.place c now old) in
          elim was.here [
            | inl low ↦ omega (arith, placed journal c.a was.has_a, opens.place, low)
            | inr high ↦ omega (arith, placed journal c.b was.has_b, opens.place, high)
          ]
    ])

-- the cells with that of a new offer that is open
fits_alone : (users : List ℕ) (journal : Entries) (e : PlainEntry) (new : Standing) → IsLegal users (e ∷ journal) → OpensOffer journal e new None → (cells cells' : Cells) →
    FitCells journal cells → OpensCells cells cells' new (handed_in e.act) None → FitCells (e ∷ journal) cells'
fits_alone users journal e new legal opens cells cells' fit puts offer has = by (older_or_new journal e new None opens offer has)
  where
    by : Contains (standing journal) offer ⊎ (new ≡ offer) → (cell : Cell) × (cell_at cells' offer.place ≡ Some cell) × FitsCell (e ∷ journal) offer cell
    by (inl old) =
        let was = fit offer old in
        let apart : eqb new.place offer.place ≡ false = ne_eqb new.place offer.place (λ same. omega (arith, placed journal offer old, opens.place, same)) in (
          was.0,
          puts offer.place ∙ ap (λ (b : Bool). if b then Some (new_cell (handed_in e.act)) else cell_at cells offer.place) apart ∙ was.1,
          older_fits users journal e new None legal opens offer old (λ other h. absurd (none-some other h)) was.0 was.2,
        )
    by (inr same) =
        let none = alone_is_open users journal e new legal opens in (
          new_cell (handed_in e.act),
          puts offer.place ∙ ap (λ (b : Bool). if b then Some (new_cell (handed_in e.act)) else cell_at cells offer.place) (eq-eqb new.place offer.place (ap (λ (o : Standing). o.place) same)),
          subst (λ (o : Standing). FitsCell (e ∷ journal) o (new_cell (handed_in e.act))) same (record {
            vector = sym (vector_new journal e new opens.place);
            held = is_open none (ap Alone (sym (known_new journal e new opens.place)));
            work = λ auxiliary coupling now. absurd (none-some coupling (sym none ∙ now));
          }),
        )

-- what is known of an offer that is not coupled is what its cell holds
pub alone_known : (journal : Entries) (offer : Standing) (cell : Cell) (coupling : Option Coupling) → coupling ≡ None → FitsHeld journal offer cell coupling → known_alone cell.held ≡ known journal offer
alone_known journal offer cell coupling none (is_open alone held) = ap known_alone held
alone_known journal offer cell coupling none (is_coupled now some holds) = absurd (none-some now (sym none ∙ some))

-- on an offer that the newest entry coupled a control is lacking, and no reply is owed
pub work_new : (journal : Entries) (e : PlainEntry) (offer : Standing) (cell : Cell) (made coupling : Coupling) → made.at ≡ next_place journal → Some made ≡ Some coupling →
    cell.lacks_control ≡ true → cell.owes_reply ≡ false → FitsWork (e ∷ journal) offer cell coupling
work_new journal e offer cell made coupling at same lacks owes =
    let newest : coupling.at ≡ next_place journal = ap (λ (c : Coupling). c.at) (sym (same_Some made coupling same)) ∙ at in
    record { lacks = lacks ∙ sym (lacks_new journal e offer coupling newest); owes = owes ∙ sym (owes_new journal e offer coupling newest) }

-- ---- a new offer that is coupled with its match

module _ (users : List ℕ) (journal : Entries) (e : PlainEntry) (new match : Standing) (legal : IsLegal users (e ∷ journal)) (opens : OpensOffer journal e new (Some match)) where
  -- the match stands, and is open
  matched : Contains (standing journal) match × (coupling_now journal match.place ≡ None)
  matched = opens.matched match refl

  -- it is the lower one of the two
  match_is_lower : match.place < new.place
  match_is_lower = omega (arith, placed journal match matched.0, opens.place)

  -- the entry makes their pair
  pair_is_made : Contains e.made (let p : Pair = record { a = match.place; b = new.place } in p)
  pair_is_made =
      subst (λ (ps : List Pair). Contains ps (record { a = match.place; b = new.place })) (sym (opens.made ∙ ap (λ p. p ∷ []) (pair_is match new match_is_lower))) (Contains-head _ [])

  -- their coupling
  abbrev new_coupling : Coupling
  new_coupling = record { a = match; b = new; at = next_place journal }

  -- it is found at the place of each
  coupled_at : (place : ℕ) → (match.place ≡ place) ⊎ (new.place ≡ place) → coupling_now (e ∷ journal) place ≡ Some new_coupling
  coupled_at place here = coupling_is_found users (e ∷ journal) legal place new_coupling (record {
    has_a = older_stands journal e new (Some match) opens match matched.0;
    has_b = new_stands journal e new (Some match) opens;
    here = here;
    lower_first = match_is_lower;
    made = (journal, e, [], refl, refl, pair_is_made);
  })

  -- of the match the same is known as before
  match_known : known (e ∷ journal) match ≡ known journal match
  match_known =
      known_later e journal match (placed journal match matched.0) ∙ ap (λ a. known_after a (known journal match)) (no_access_by_row e match opens.no_access)

  -- the new offer is the higher one, and its cell has no share
  high_fits : FitsCell (e ∷ journal) new (coupled_with no_control Lent)
  high_fits = record {
    vector = sym (vector_new journal e new opens.place);
    held = is_coupled new_coupling (coupled_at new.place (inr refl)) (has_none (ap (λ (b : Bool). if b then A else B) (ne_eqb match.place new.place (λ same. omega (arith, match_is_lower, same)))) refl);
    work = λ auxiliary coupling found. work_new journal e new (coupled_with no_control Lent) new_coupling coupling refl (sym (coupled_at new.place (inr refl)) ∙ found) refl refl;
  }

  module _ (cell : Cell) (fits : FitsCell journal match cell) where
    -- what the two share
    abbrev new_share : PlainShare
    new_share = share_of (known_alone cell.held) (handed_in e.act)

    -- it is the share of their coupling
    share_fits : FitsShare (e ∷ journal) new_coupling new_share
    share_fits =
        subst (λ (v : Option PlainArray). FitsShare (e ∷ journal) new_coupling (share_of v (handed_in e.act)))
        (match_known ∙ sym (alone_known journal match cell (coupling_now journal match.place) matched.1 fits.held))
        (subst (λ (v : Option PlainArray). FitsShare (e ∷ journal) new_coupling (share_of (known (e ∷ journal) match) v)) (known_new journal e new opens.place)
        (new_share_fits users (e ∷ journal) legal match.place new_coupling (coupled_at match.place (inl refl)) (omega arith)))

    -- the match is the lower one, and its cell has the share
    low_fits : FitsCell (e ∷ journal) match (coupled_with cell.vector (Shared new_share))
    low_fits = record {
      vector = fits.vector ∙ sym (vector_later e journal match (placed journal match matched.0) ∙ ap (λ c. unwrap_or c (vector_of journal match)) (no_control_by_row e match opens.no_control));
      held = is_coupled new_coupling (coupled_at match.place (inl refl)) (has_share (ap (λ (b : Bool). if b then A else B) (eq-eqb match.place match.place refl)) new_share refl share_fits);
      work = λ auxiliary coupling found. work_new journal e match (coupled_with cell.vector (Shared new_share)) new_coupling coupling refl (sym (coupled_at match.place (inl refl)) ∙ found) refl refl;
    }

  -- the cells with those of the two
  fits_coupled : (cells cells' : Cells) → FitCells journal cells → OpensCells cells cells' new (handed_in e.act) (Some match) → FitCells (e ∷ journal) cells'
  fits_coupled cells cells' fit puts offer has = by (older_or_new journal e new (Some match) opens offer has)
    where
      was : (cell : Cell) × (cell_at cells match.place ≡ Some cell) × FitsCell journal match cell
      was = fit match matched.0

      low : Cell
      low = coupled_with (was.0).vector (Shared (share_of (known_alone (was.0).held) (handed_in e.act)))

      high : Cell
      high = coupled_with no_control Lent

      two : PutsTwo cells cells' match.place low new.place high
      two = puts was.0 was.1

      by : Contains (standing journal) offer ⊎ (new ≡ offer) → (cell : Cell) × (cell_at cells' offer.place ≡ Some cell) × FitsCell (e ∷ journal) offer cell
      by (inr same) =
          let here = eq-eqb new.place offer.place (ap (λ (o : Standing). o.place) same) in
          let apart = ne_eqb match.place offer.place (λ m. omega (arith, match_is_lower, m, ap (λ (o : Standing). o.place) same)) in
          (high, puts_two cells cells' match.place new.place low high two offer.place false true apart here, subst (λ (o : Standing). FitsCell (e ∷ journal) o high) same high_fits)
      by (inl old) =
          let apart = ne_eqb new.place offer.place (λ same. omega (arith, placed journal offer old, opens.place, same)) in
          elim (cases_Bool (eqb match.place offer.place)) [
            | inl here ↦
                let same = one_place journal match offer matched.0 old (eqb-true match.place offer.place here) in
                (low, puts_two cells cells' match.place new.place low high two offer.place true false here apart, subst (λ (o : Standing). FitsCell (e ∷ journal) o low) same (low_fits was.0 was.2))
            | inr other ↦
                let had = fit offer old in (
                  had.0,
                  puts_two cells cells' match.place new.place low high two offer.place false false other apart ∙ had.1,
                  older_fits users journal e new (Some match) legal opens offer old
                      (λ m is at. eqb-false match.place offer.place other (ap (λ (o : Standing). o.place) (same_Some match m is) ∙ at)) had.0 had.2,
                )
          ]

-- the cells go on with a new offer
pub cells_opened : (users : List ℕ) (journal : Entries) (e : PlainEntry) (new : Standing) (match : Option Standing) → IsLegal users (e ∷ journal) → OpensOffer journal e new match → (cells cells' : Cells) →
    FitCells journal cells → OpensCells cells cells' new (handed_in e.act) match → FitCells (e ∷ journal) cells'
cells_opened users journal e new None legal opens cells cells' fit puts = fits_alone users journal e new legal opens cells cells' fit puts
cells_opened users journal e new (Some match) legal opens cells cells' fit puts = fits_coupled users journal e new match legal opens cells cells' fit puts
