-- The cells while offers end together, one offer and one pair after another.
use Rattle.std.proofs.Common.{◌≡◌, refl, sym, ap, ◌∙◌, subst, ℕ, Bool, true, false, ◌&&◌, ◌||◌, eqb, List, [], ◌∷◌, ◌++◌, Option, Some, None, arith}
use Rattle.std.specs.Prelude.{Contains, IsSome, if◌then◌else◌}
use Rattle.std.specs.List.{filter, list_any}
use Rattle.std.proofs.lemmas.Bool.{and_parts, or_right}
use Rattle.std.proofs.lemmas.Map.Views.{any-filter_same}
use Rattle.apl_arrays.specs.Name.{same_name}
use Rattle.sv_kept.specs.Cells.{PutsAt, cell_at}
use Rattle.sv_kept.specs.declared.cell.Cell.{Cell}
use Rattle.sv_kept.specs.declared.cells.Cells.{Cells}
use Rattle.sv_cell_laws.specs.Ends.{IsOfferTable, Couples, MayPart, Uncouples, coupled_without, ends_one, unless_offer_ends}
use Rattle.sv_cell_laws.proofs.JoinSteps.{cells_join, pair_coupling}
use Rattle.sv_cell_laws.proofs.EndSteps.{cells_alike, cells_part, list_any-more, parts_none}
use Rattle.sv_events.specs.declared.entry.Pair.{Pair}
use Rattle.sv_events.specs.declared.row.Ending.{Ending}
use Rattle.sv_events.specs.declared.row.Ending.TheVariants.{One, All as AllOffers}
use Rattle.sv_offer_laws.proofs.LookupLemmas.{found_as_made}
use Rattle.sv_rules.specs.Coupling.{coupling_at}
use Rattle.sv_rules.specs.Standing.{is_ended}
use Rattle.sv_rules.specs.declared.coupling.Coupling.{Coupling}
use Rattle.sv_rules.specs.declared.coupling.Made.{Made}
use Rattle.sv_rules.specs.declared.standing.Standing.{Standing}
use Rattle.sv_core.specs.Updating.{CouplesAll, FitsSome, IsToCouple, Closes, PartsAll}

or_false : (b : Bool) → (b || false) ≡ b
or_false true = refl
or_false false = refl

-- before the first offer nothing has changed
pub parts_begin : (offers : List Standing) (coupled : List Made) (party : ℕ) (ending : Ending) (cells : Cells) → PartsAll offers coupled party ending [] cells cells
parts_begin offers coupled party ending cells journal fit =
    cells_alike journal (Contains offers) (coupling_at offers coupled) (coupled_without offers coupled [] party ending) cells (λ place. by (coupling_at offers coupled place)) fit
  where
    by : (c : Option Coupling) → c ≡ unless_offer_ends [] party ending c
    by None = refl
    by (Some c) = refl

-- a cell is there
pub some_cell : (cells : Cells) (place : ℕ) (cell : Cell) → cell_at cells place ≡ Some cell → IsSome (cell_at cells place)
some_cell cells place cell at = subst (λ (c : Option Cell). IsSome c) (sym at) refl

-- the offers of a coupling may part
pub may_part : (offers : List Standing) (coupled : List Made) (party : ℕ) (ending : Ending) (gone : List Standing) (old cells : Cells) → IsOfferTable offers coupled → FitsSome offers coupled old →
    PartsAll offers coupled party ending gone old cells → (place : ℕ) (coupling : Option Coupling) → coupling_at offers coupled place ≡ coupling → MayPart cells coupling
may_part offers coupled party ending gone old cells table fits parts place None at = tt
may_part offers coupled party ending gone old cells table fits parts place (Some c) at =
    let cell = parts fits.0 fits.1 c.b (table.has_b place c at) in
    ((λ same. let lower = table.lower place c at in omega arith), some_cell cells c.b.place cell.0 cell.1)

-- an offer that ends and its partner part
pub parts_more : (offers : List Standing) (coupled : List Made) (party : ℕ) (ending : Ending) (gone : List Standing) (o : Standing) (old cells cells' : Cells) → IsOfferTable offers coupled → is_ended party ending o ≡ true →
    PartsAll offers coupled party ending gone old cells → (coupling : Option Coupling) → coupling_at offers coupled o.place ≡ coupling → Uncouples cells cells' coupling →
    PartsAll offers coupled party ending (gone ++ o ∷ []) old cells'
parts_more offers coupled party ending gone o old cells cells' table ends so_far coupling at parts journal fit =
    cells_part journal offers coupled table gone party ending o ends coupling at cells cells' (so_far journal fit) parts

-- another leaves all
pub parts_others : (offers : List Standing) (coupled : List Made) (party : ℕ) (ending : Ending) (gone : List Standing) (o : Standing) (old cells : Cells) → is_ended party ending o ≡ false →
    PartsAll offers coupled party ending gone old cells → PartsAll offers coupled party ending (gone ++ o ∷ []) old cells
parts_others offers coupled party ending gone o old cells stays so_far journal fit =
    cells_alike journal (Contains offers) (coupled_without offers coupled gone party ending) (coupled_without offers coupled (gone ++ o ∷ []) party ending) cells
    (parts_none offers coupled gone party ending o stays) (so_far journal fit)

-- a party's own offers
abbrev pub own_of : ℕ → List Standing → List Standing
own_of party offers = filter (λ (o : Standing). eqb o.party party) offers

-- what an ending ends is its party's own
ended_is_own : (party : ℕ) (ending : Ending) (o : Standing) (more : Bool) → (is_ended party ending o && more) ≡ true → eqb o.party party ≡ true
ended_is_own party ending o more h = by ending (and_parts (is_ended party ending o) more h).0
  where
    by : (e : Ending) → is_ended party e o ≡ true → eqb o.party party ≡ true
    by (One local) ends = (and_parts (eqb o.party party) (same_name o.local local) ends).0
    by AllOffers ends = ends

-- so it is the same where only these are gone over: for the couplings that are left, and for the cells that go
pub parts_own : (offers : List Standing) (coupled : List Made) (party : ℕ) (ending : Ending) (old new : Cells) → PartsAll offers coupled party ending (own_of party offers) old new → PartsAll offers coupled party ending offers old new
parts_own offers coupled party ending old new own journal fit =
    cells_alike journal (Contains offers) (coupled_without offers coupled (own_of party offers) party ending) (coupled_without offers coupled offers party ending) new
    (λ place. by (coupling_at offers coupled place)) (own journal fit)
  where
    by : (c : Option Coupling) → unless_offer_ends (own_of party offers) party ending c ≡ unless_offer_ends offers party ending c
    by None = refl
    by (Some c) =
        ap (λ (b : Bool). if b then None else Some c)
        (any-filter_same (ends_one party ending c) (λ (o : Standing). eqb o.party party) true (λ o h. ended_is_own party ending o (eqb c.a.place o.place || eqb c.b.place o.place) h) offers)

pub closes_own : (offers : List Standing) (party : ℕ) (ending : Ending) (old new : Cells) → Closes (own_of party offers) party ending old new → Closes offers party ending old new
closes_own offers party ending old new own at =
    own at
    ∙ ap (λ (b : Bool). if b then None else cell_at old at)
    (any-filter_same (λ (o : Standing). is_ended party ending o && eqb o.place at) (λ (o : Standing). eqb o.party party) true (λ o h. ended_is_own party ending o (eqb o.place at) h) offers)

-- an offer that ends goes, with its cell
pub closes_more : (gone : List Standing) (party : ℕ) (ending : Ending) (o : Standing) (old cells cells' : Cells) → is_ended party ending o ≡ true → Closes gone party ending old cells → PutsAt cells cells' o.place None →
    Closes (gone ++ o ∷ []) party ending old cells'
closes_more gone party ending o old cells cells' ends so_far puts at =
    puts at ∙ by (eqb o.place at) (so_far at) ∙ ap (λ (b : Bool). if b then None else cell_at old at) (sym more)
  where
    before : Bool
    before = list_any (λ (x : Standing). is_ended party ending x && eqb x.place at) gone

    more : list_any (λ (x : Standing). is_ended party ending x && eqb x.place at) (gone ++ o ∷ []) ≡ (before || eqb o.place at)
    more = list_any-more (λ (x : Standing). is_ended party ending x && eqb x.place at) gone o ∙ ap (λ (b : Bool). before || (b && eqb o.place at)) ends

    by : (here : Bool) → cell_at cells at ≡ (if before then None else cell_at old at) → (if here then None else cell_at cells at) ≡ (if before || here then None else cell_at old at)
    by true h = ap (λ (b : Bool). if b then None else cell_at old at) (sym (or_right before true refl))
    by false h = h ∙ ap (λ (b : Bool). if b then None else cell_at old at) (sym (or_false before))

-- another stays
pub closes_others : (gone : List Standing) (party : ℕ) (ending : Ending) (o : Standing) (old cells : Cells) → is_ended party ending o ≡ false → Closes gone party ending old cells → Closes (gone ++ o ∷ []) party ending old cells
closes_others gone party ending o old cells stays so_far at =
    so_far at
    ∙ ap (λ (b : Bool). if b then None else cell_at old at)
    (sym (list_any-more (λ (x : Standing). is_ended party ending x && eqb x.place at) gone o
    ∙ ap (λ (b : Bool). list_any (λ (x : Standing). is_ended party ending x && eqb x.place at) gone || (b && eqb o.place at)) stays
    ∙ or_false (list_any (λ (x : Standing). is_ended party ending x && eqb x.place at) gone)))

-- the offers of a pair may be coupled
pub may_couple : (pairs taken : List Pair) (pair : Pair) (old cells : Cells) → IsToCouple old pairs → Contains pairs pair → CouplesAll pairs old cells taken →
    (¬ (pair.a ≡ pair.b)) × IsSome (cell_at cells pair.a) × IsSome (cell_at cells pair.b)
may_couple pairs taken pair old cells ready has so_far =
    let known = pair_coupling ready.users ready.journal ready.e ready.legal pair (subst (λ ps. Contains ps pair) (sym ready.made) has) in
    let c = known.0 in
    let is = found_as_made ready.users (ready.e ∷ ready.journal) ready.legal pair.a c known.1 in
    let fit = so_far ready in
    let of_a = fit c.a is.has_a in
    let of_b = fit c.b is.has_b in (
      (λ same. omega (arith, is.lower_first, known.2, known.3, same)),
      subst (λ (p : ℕ). IsSome (cell_at cells p)) known.2 (some_cell cells c.a.place of_a.0 of_a.1),
      subst (λ (p : ℕ). IsSome (cell_at cells p)) known.3 (some_cell cells c.b.place of_b.0 of_b.1),
    )

-- one pair more
pub couples_more : (pairs taken : List Pair) (pair : Pair) (old cells cells' : Cells) → Contains pairs pair → CouplesAll pairs old cells taken → Couples cells cells' pair → CouplesAll pairs old cells' (taken ++ pair ∷ [])
couples_more pairs taken pair old cells cells' has so_far joins ready =
    cells_join ready.users ready.journal ready.e ready.legal taken pair (subst (λ ps. Contains ps pair) (sym ready.made) has) cells cells' (so_far ready) joins
