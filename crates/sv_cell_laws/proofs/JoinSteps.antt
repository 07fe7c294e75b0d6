-- What is kept while the pairs of an entry that ends offers are coupled, one after another.
use Rattle.std.proofs.Common.{◌≡◌, refl, sym, ap, ◌∙◌, subst, ℕ, Bool, true, false, ◌&&◌, ◌||◌, eqb, ltb, List, [], ◌∷◌, ◌++◌, length, Option, Some, None, ◌⊎◌, inl, inr, arith}
use Rattle.std.specs.Prelude.{Contains, IsSome, is_some, option_and_then, if◌then◌else◌}
use Rattle.std.proofs.lemmas.Bool.{cases_lt, eq-eqb, eqb-true, eqb-false, ne_eqb, lt-ltb, le-ltb, or_left, or_right, and_parts, and_from, both_ways}
use Rattle.std.proofs.lemmas.List.Elements.{Contains-append_right}
use Rattle.std.proofs.lemmas.Option.{same_Some}
use Rattle.sv_access.specs.declared.access.Side.TheVariants.{A, B}
use Rattle.sv_events.specs.Entry.{PlainEntry}
use Rattle.sv_events.specs.declared.entry.Pair.{Pair}
use Rattle.sv_kept.specs.Cell.{coupled_with, known_alone, share_in}
use Rattle.sv_kept.specs.Cells.{CouplesAt, cell_at}
use Rattle.sv_kept.specs.declared.cell.Cell.{Cell}
use Rattle.sv_kept.specs.declared.cell.CellContent.TheVariants.{Shared, Lent}
use Rattle.sv_kept.specs.declared.cells.Cells.{Cells}
use Rattle.sv_rules.specs.Coupling.{couplings, couplings_among, coupling_now, has_place}
use Rattle.sv_rules.specs.Entries.{Entries, next_place}
use Rattle.sv_rules.specs.Legal.{IsLegal}
use Rattle.sv_rules.specs.Standing.{standing}
use Rattle.sv_rules.specs.Story.{known}
use Rattle.sv_rules.specs.declared.coupling.Coupling.{Coupling}
use Rattle.sv_rules.specs.declared.coupling.Made.{Made}
use Rattle.sv_kept.specs.Share.{PlainShare, share_of}
use Rattle.sv_offer_laws.specs.CouplingLaws.{IsCouplingOf}
use Rattle.sv_offer_laws.specs.LegalLaws.{made_at}
use Rattle.sv_offer_laws.proofs.LegalLemmas.{couplings_go_on}
use Rattle.sv_offer_laws.proofs.LookupLemmas.{found_as_made, found_where_coupled}
use Rattle.sv_offer_laws.proofs.Members.{list_any_member}
use Rattle.sv_offer_laws.proofs.CouplingLemmas.{has_made_at}
use Rattle.sv_offer_laws.proofs.NowLemmas.{coupling_among, made_is_found}
use Rattle.sv_cell_laws.specs.Ends.{FitsCoupling, CellsIn, Couples, has_pair, if_older, if_taken, older_now, share_at, taken_now}
use Rattle.sv_cell_laws.specs.Fits.{FitsShare, has_share, has_none, is_coupled, FitCells}
use Rattle.sv_cell_laws.proofs.CellSteps.{found_at_a, found_at_b}
use Rattle.sv_cell_laws.proofs.EndSteps.{list_any-more, no_share, or-false, or-true, share_of_a}
use Rattle.sv_cell_laws.proofs.OpenSteps.{alone_known, newest_pair, work_new}
use Rattle.sv_cell_laws.proofs.PutSteps.{cells_put}
use Rattle.sv_cell_laws.proofs.ShareSteps.{new_share_fits}
use Rattle.sv_cell_laws.proofs.TouchSteps.{one_place}

-- the coupling that a pair of the newest entry makes
pub pair_coupling : (users : List ℕ) (journal : Entries) (e : PlainEntry) → IsLegal users (e ∷ journal) → (pair : Pair) → Contains e.made pair →
    (c : Coupling) × (coupling_now (e ∷ journal) pair.a ≡ Some c) × (c.a.place ≡ pair.a) × (c.b.place ≡ pair.b) × (c.at ≡ next_place journal)
pair_coupling users journal e legal pair has = by (coupling_now (e ∷ journal) pair.a) refl
  where
    made : Made
    made = record { pair = pair; at = next_place journal }

    has_made : Contains (couplings (e ∷ journal)) made
    has_made =
        subst (λ ms. Contains ms made) (sym (couplings_go_on users journal e legal))
        (Contains-append_right (couplings_among (standing (e ∷ journal)) (couplings journal)) (made_at (next_place journal) e.made) made (has_made_at e.made made has))

    here : has_place pair.a made ≡ true
    here = or_left (eqb pair.a pair.a) (eqb pair.b pair.a) (eq-eqb pair.a pair.a refl)

    by : (now : Option Coupling) → coupling_now (e ∷ journal) pair.a ≡ now →
        (c : Coupling) × (coupling_now (e ∷ journal) pair.a ≡ Some c) × (c.a.place ≡ pair.a) × (c.b.place ≡ pair.b) × (c.at ≡ next_place journal)
    by None now =
        absurd (both_ways (is_some (coupling_now (e ∷ journal) pair.a)) (ap is_some now)
        (found_where_coupled (e ∷ journal) pair.a ∙ list_any_member (has_place pair.a) (couplings (e ∷ journal)) made here has_made))
    by (Some c) now =
        let is = found_as_made users (e ∷ journal) legal pair.a c now in
        let other : Made = record { pair = record { a = c.a.place; b = c.b.place }; at = c.at } in
        let there : has_place pair.a other ≡ true = elim is.here [
          | inl low ↦ or_left (eqb c.a.place pair.a) (eqb c.b.place pair.a) (eq-eqb c.a.place pair.a low)
          | inr high ↦ or_right (eqb c.a.place pair.a) (eqb c.b.place pair.a) (eq-eqb c.b.place pair.a high)
        ] in
        let first = made_is_found users (e ∷ journal) legal pair.a other (coupling_among (e ∷ journal) pair.a c is) there in
        let second = made_is_found users (e ∷ journal) legal pair.a made has_made here in
        let same : other ≡ made = same_Some other made (sym first ∙ second) in
        (c, now, ap (λ (m : Made). m.pair.a) same, ap (λ (m : Made). m.pair.b) same, ap (λ (m : Made). m.at) same)

-- two offers are coupled by the newest entry: their cells share
cells_joined : (users : List ℕ) (journal : Entries) (e : PlainEntry) → IsLegal users (e ∷ journal) → (place : ℕ) (c : Coupling) → coupling_now (e ∷ journal) place ≡ Some c → c.at ≡ next_place journal →
    (f g : ℕ → Option Coupling) → f c.a.place ≡ None → f c.b.place ≡ None → g c.a.place ≡ Some c → g c.b.place ≡ Some c →
    ((q : ℕ) → eqb c.a.place q ≡ false → eqb c.b.place q ≡ false → g q ≡ f q) → (cells cells' : Cells) →
    CellsIn (e ∷ journal) (Contains (standing (e ∷ journal))) f cells → CouplesAt cells cells' c.a.place c.b.place → CellsIn (e ∷ journal) (Contains (standing (e ∷ journal))) g cells'
cells_joined users journal e legal place c now at f g none_a none_b now_a now_b others cells cells' fit couples =
    cells_put (e ∷ journal) (Contains (standing (e ∷ journal))) f g c.a c.b (one_place (e ∷ journal)) is.has_a is.has_b others cells cells' fit low high (couples of_a.0 of_b.0 of_a.1 of_b.1) low_fits high_fits
  where
    is : IsCouplingOf (e ∷ journal) place c
    is = found_as_made users (e ∷ journal) legal place c now

    of_a : (cell : Cell) × (cell_at cells c.a.place ≡ Some cell) × FitsCoupling (e ∷ journal) c.a cell (f c.a.place)
    of_a = fit c.a is.has_a

    of_b : (cell : Cell) × (cell_at cells c.b.place ≡ Some cell) × FitsCoupling (e ∷ journal) c.b cell (f c.b.place)
    of_b = fit c.b is.has_b

    share : PlainShare
    share = share_of (known_alone (of_a.0).held) (known_alone (of_b.0).held)

    low : Cell
    low = coupled_with (of_a.0).vector (Shared share)

    high : Cell
    high = coupled_with (of_b.0).vector Lent

    shared : FitsShare (e ∷ journal) c share
    shared =
        subst (λ v. FitsShare (e ∷ journal) c (share_of v (known_alone (of_b.0).held))) (sym (alone_known (e ∷ journal) c.a of_a.0 (f c.a.place) none_a (of_a.2).held))
        (subst (λ v. FitsShare (e ∷ journal) c (share_of (known (e ∷ journal) c.a) v)) (sym (alone_known (e ∷ journal) c.b of_b.0 (f c.b.place) none_b (of_b.2).held))
        (new_share_fits users (e ∷ journal) legal place c now (omega (arith, at))))

    low_fits : FitsCoupling (e ∷ journal) c.a low (g c.a.place)
    low_fits = record {
      vector = (of_a.2).vector;
      held = is_coupled c now_a (has_share (ap (λ (b : Bool). if b then A else B) (eq-eqb c.a.place c.a.place refl)) share refl shared);
      work = λ auxiliary d found. work_new journal e c.a low c d at (sym now_a ∙ found) refl refl;
    }

    high_fits : FitsCoupling (e ∷ journal) c.b high (g c.b.place)
    high_fits = record {
      vector = (of_b.2).vector;
      held = is_coupled c now_b (has_none (ap (λ (b : Bool). if b then A else B) (ne_eqb c.a.place c.b.place (λ same. omega (arith, is.lower_first, same)))) refl);
      work = λ auxiliary d found. work_new journal e c.b high c d at (sym now_b ∙ found) refl refl;
    }

-- the older couplings are those of no pair
pub none_taken : (journal : Entries) (place : ℕ) → older_now journal place ≡ taken_now journal [] place
none_taken journal place = by (coupling_now journal place)
  where
    by : (c : Option Coupling) → if_older journal c ≡ if_taken journal [] c
    by None = refl
    by (Some c) = ap (λ (b : Bool). if b then Some c else None) (sym (or-false (ltb c.at (length journal))))

-- a coupling whose pair this is
pair_of_it : (pair : Pair) (d : Coupling) → (eqb pair.a d.a.place && eqb pair.b d.b.place) ≡ true → (pair.a ≡ d.a.place) × (pair.b ≡ d.b.place)
pair_of_it pair d h = let parts = and_parts (eqb pair.a d.a.place) (eqb pair.b d.b.place) h in (eqb-true pair.a d.a.place parts.0, eqb-true pair.b d.b.place parts.1)

-- with one pair more a coupling is taken as before, unless that is its own and was not taken
taken_as_before : (journal : Entries) (taken : List Pair) (pair : Pair) (c : Option Coupling) →
    ((d : Coupling) → c ≡ Some d → (eqb pair.a d.a.place && eqb pair.b d.b.place) ≡ true → has_pair taken d ≡ true) → if_taken journal (taken ++ pair ∷ []) c ≡ if_taken journal taken c
taken_as_before journal taken pair None taken_too = refl
taken_as_before journal taken pair (Some d) taken_too =
    ap (λ (b : Bool). if ltb d.at (length journal) || b then Some d else None)
    (list_any-more (λ (p : Pair). eqb p.a d.a.place && eqb p.b d.b.place) taken pair ∙ by (eqb pair.a d.a.place && eqb pair.b d.b.place) refl)
  where
    by : (b : Bool) → (eqb pair.a d.a.place && eqb pair.b d.b.place) ≡ b → (has_pair taken d || (eqb pair.a d.a.place && eqb pair.b d.b.place)) ≡ has_pair taken d
    by false h = ap (λ (b : Bool). has_pair taken d || b) h ∙ or-false (has_pair taken d)
    by true h = ap (λ (b : Bool). b || (eqb pair.a d.a.place && eqb pair.b d.b.place)) (taken_too d refl h) ∙ sym (taken_too d refl h)

-- ---- the coupling of a pair that the newest entry made

module _ (users : List ℕ) (journal : Entries) (e : PlainEntry) (legal : IsLegal users (e ∷ journal)) (taken : List Pair) (pair : Pair) (c : Coupling)
    (now : coupling_now (e ∷ journal) pair.a ≡ Some c) (is_a : c.a.place ≡ pair.a) (is_b : c.b.place ≡ pair.b) (at : c.at ≡ next_place journal) where
  -- the coupling is one of two standing offers
  as_made : IsCouplingOf (e ∷ journal) pair.a c
  as_made = found_as_made users (e ∷ journal) legal pair.a c now

  -- it is found at the place of the lower one
  at_a : coupling_now (e ∷ journal) c.a.place ≡ Some c
  at_a = found_at_a users (e ∷ journal) legal pair.a c as_made

  -- and at that of the higher one
  at_b : coupling_now (e ∷ journal) c.b.place ≡ Some c
  at_b = found_at_b users (e ∷ journal) legal pair.a c as_made

  -- it is new, so it is taken where its pair is
  taken_at : (pairs : List Pair) (q : ℕ) (b : Bool) → coupling_now (e ∷ journal) q ≡ Some c → has_pair pairs c ≡ b → taken_now (e ∷ journal) pairs q ≡ (if b then Some c else None)
  taken_at pairs q b found h =
      let late : ltb c.at (length (e ∷ journal)) ≡ false = le-ltb _ _ (omega (arith, at)) in
      ap (if_taken (e ∷ journal) pairs) found ∙ ap (λ (x : Bool). if x || has_pair pairs c then Some c else None) late ∙ ap (λ (x : Bool). if x then Some c else None) h

  -- the pair is its own
  its_own : has_pair (taken ++ pair ∷ []) c ≡ true
  its_own =
      list_any-more (λ (p : Pair). eqb p.a c.a.place && eqb p.b c.b.place) taken pair
      ∙ ap (λ (b : Bool). has_pair taken c || b) (and_from (eqb pair.a c.a.place) (eqb pair.b c.b.place) (eq-eqb pair.a c.a.place (sym is_a)) (eq-eqb pair.b c.b.place (sym is_b)))
      ∙ or-true (has_pair taken c)

  -- and that of no other
  one_pair : (q : ℕ) (d : Coupling) → coupling_now (e ∷ journal) q ≡ Some d → (eqb pair.a d.a.place && eqb pair.b d.b.place) ≡ true → c ≡ d
  one_pair q d found h =
      let there = found_at_a users (e ∷ journal) legal q d (found_as_made users (e ∷ journal) legal q d found) in
      same_Some c d (sym now ∙ ap (coupling_now (e ∷ journal)) (pair_of_it pair d h).0 ∙ there)

  -- so no coupling of other places has it
  not_elsewhere : (q : ℕ) → eqb c.a.place q ≡ false → eqb c.b.place q ≡ false → (d : Coupling) → coupling_now (e ∷ journal) q ≡ Some d → (eqb pair.a d.a.place && eqb pair.b d.b.place) ≡ true → ⊥
  not_elsewhere q not_a not_b d found h =
      let same : d ≡ c = sym (one_pair q d found h) in
      let here = subst (λ (x : Coupling). (x.a.place ≡ q) ⊎ (x.b.place ≡ q)) same (found_as_made users (e ∷ journal) legal q d found).here in
      elim here [ inl low ↦ eqb-false c.a.place q not_a low | inr high ↦ eqb-false c.b.place q not_b high ]

  -- the two share already where the pair was taken, and else they are coupled
  join_by : (b : Bool) → has_pair taken c ≡ b → (cells cells' : Cells) → CellsIn (e ∷ journal) (Contains (standing (e ∷ journal))) (taken_now (e ∷ journal) taken) cells → Couples cells cells' pair →
      CellsIn (e ∷ journal) (Contains (standing (e ∷ journal))) (taken_now (e ∷ journal) (taken ++ pair ∷ [])) cells'
  join_by true taken_c cells cells' fit joins = λ offer has_offer.
      let of_a = fit c.a as_made.has_a in
      let share = share_of_a (e ∷ journal) c.a of_a.0 c (subst (FitsCoupling (e ∷ journal) c.a of_a.0) (taken_at taken c.a.place true at_a taken_c) of_a.2) (eq-eqb c.a.place c.a.place refl) in
      let there : share_at cells pair.a ≡ Some share.0 =
      ap (share_at cells) (sym is_a) ∙ ap (option_and_then (λ (x : Cell). share_in x.held)) of_a.1 ∙ ap share_in share.1 in
      let keeps = joins.0 (subst (λ (s : Option PlainShare). IsSome s) (sym there) refl) in
      let old = fit offer has_offer in (
        old.0,
        keeps offer.place ∙ old.1,
        subst (FitsCoupling (e ∷ journal) offer old.0)
            (sym (taken_as_before (e ∷ journal) taken pair (coupling_now (e ∷ journal) offer.place) (λ d found h. ap (has_pair taken) (sym (one_pair offer.place d found h)) ∙ taken_c))) old.2,
      )
  join_by false untaken cells cells' fit joins =
      let none = taken_at taken c.a.place false at_a untaken in
      let of_a = fit c.a as_made.has_a in
      let apart = ap (share_at cells) (sym is_a) ∙ no_share (e ∷ journal) c.a cells of_a.0 (taken_now (e ∷ journal) taken c.a.place) of_a.1 of_a.2 none in
      let couples = joins.1 apart in
      cells_joined users journal e legal pair.a c now at (taken_now (e ∷ journal) taken) (taken_now (e ∷ journal) (taken ++ pair ∷ [])) none (taken_at taken c.b.place false at_b untaken)
      (taken_at (taken ++ pair ∷ []) c.a.place true at_a its_own) (taken_at (taken ++ pair ∷ []) c.b.place true at_b its_own)
      (λ q not_a not_b. taken_as_before (e ∷ journal) taken pair (coupling_now (e ∷ journal) q) (λ d found h. absurd (not_elsewhere q not_a not_b d found h))) cells cells' fit
      (subst (λ (b : ℕ). CouplesAt cells cells' c.a.place b) (sym is_b) (subst (λ (a : ℕ). CouplesAt cells cells' a pair.b) (sym is_a) couples))

-- the offers of a pair that the newest entry makes are coupled
pub cells_join : (users : List ℕ) (journal : Entries) (e : PlainEntry) → IsLegal users (e ∷ journal) → (taken : List Pair) (pair : Pair) → Contains e.made pair → (cells cells' : Cells) →
    CellsIn (e ∷ journal) (Contains (standing (e ∷ journal))) (taken_now (e ∷ journal) taken) cells → Couples cells cells' pair →
    CellsIn (e ∷ journal) (Contains (standing (e ∷ journal))) (taken_now (e ∷ journal) (taken ++ pair ∷ [])) cells'
cells_join users journal e legal taken pair has cells cells' fit joins =
    let w = pair_coupling users journal e legal pair has in
    join_by users journal e legal taken pair w.0 w.1 w.2 w.3 w.4 (has_pair taken w.0) refl cells cells' fit joins

-- once all pairs are taken, each coupling is
all_taken : (users : List ℕ) (journal : Entries) (e : PlainEntry) → IsLegal users (e ∷ journal) → (q : ℕ) → taken_now (e ∷ journal) e.made q ≡ coupling_now (e ∷ journal) q
all_taken users journal e legal q = by (coupling_now (e ∷ journal) q) refl
  where
    by : (d : Option Coupling) → coupling_now (e ∷ journal) q ≡ d → if_taken (e ∷ journal) e.made d ≡ d
    by None now = refl
    by (Some d) now = elim (cases_lt (length journal) d.at) [
      | inl late ↦
          ap (λ (b : Bool). if ltb d.at (length (e ∷ journal)) || b then Some d else None)
          (list_any_member (λ (p : Pair). eqb p.a d.a.place && eqb p.b d.b.place) e.made (record { a = d.a.place; b = d.b.place })
          (and_from (eqb d.a.place d.a.place) (eqb d.b.place d.b.place) (eq-eqb d.a.place d.a.place refl) (eq-eqb d.b.place d.b.place refl)) (newest_pair users journal e legal q d now late))
          ∙ ap (λ (b : Bool). if b then Some d else None) (or-true (ltb d.at (length (e ∷ journal))))
      | inr old ↦ ap (λ (b : Bool). if b || has_pair e.made d then Some d else None) (lt-ltb _ _ (omega (arith, old)))
    ]

pub cells_end : (users : List ℕ) (journal : Entries) (e : PlainEntry) → IsLegal users (e ∷ journal) → (cells : Cells) →
    CellsIn (e ∷ journal) (Contains (standing (e ∷ journal))) (taken_now (e ∷ journal) e.made) cells → FitCells (e ∷ journal) cells
cells_end users journal e legal cells fit offer has =
    let old = fit offer has in
    let now = subst (FitsCoupling (e ∷ journal) offer old.0) (all_taken users journal e legal offer.place) old.2 in
    (old.0, old.1, record { vector = now.vector; held = now.held; work = now.work })
