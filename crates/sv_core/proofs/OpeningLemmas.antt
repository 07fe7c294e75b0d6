-- Where an offer opens: its match, its cells, and what a core keeps.
use Rattle.std.proofs.Common.{◌++◌, ◌<◌, ◌∙◌, ◌∷◌, ◌≡◌, ◌≤◌, Bool, List, None, Option, Some, [], ap, arith, false, length, refl, subst, sym, ℕ}
use Rattle.std.proofs.lemmas.Bool.{eq-eqb, lt-leb, ne_eqb}
use Rattle.std.specs.Prelude.{All, Contains, if◌then◌else◌, option_map, option_to_list}
use Rattle.apl_arrays.specs.Array.{PlainArray}
use Rattle.sv_cell_laws.proofs.CellSteps.{placed}
use Rattle.sv_cell_laws.proofs.OpenSteps.{cells_opened}
use Rattle.sv_cell_laws.specs.Fits.{FitCells}
use Rattle.sv_cell_laws.specs.Steps.{OpensOffer, made_with}
use Rattle.sv_kept.specs.Cell.{new_cell}
use Rattle.sv_kept.specs.Cells.{PutsAt, cell_at}
use Rattle.sv_kept.specs.declared.cells.Cells.{Cells}
use Rattle.sv_events.specs.Answer.{degree}
use Rattle.sv_events.specs.Entry.{PlainEntry}
use Rattle.sv_events.specs.Row.{act_row}
use Rattle.sv_events.specs.declared.entry.Pair.{Pair}
use Rattle.sv_events.specs.declared.event.Act.{Act}
use Rattle.sv_offer_laws.proofs.EndingLemmas.{couplings_stand, couplings_whole}
use Rattle.sv_offer_laws.proofs.LegalLemmas.{couplings_go_on}
use Rattle.sv_offer_laws.specs.LegalLaws.{made_at}
use Rattle.sv_rules.specs.Coupling.{couplings, couplings_among, open_match, pair_of}
use Rattle.sv_rules.specs.Entries.{Entries, is_leave, next_place}
use Rattle.sv_rules.specs.Legal.{MayFollow, entry_for}
use Rattle.sv_rules.specs.Outcome.{ActOutcome, joined_to, offer_outcome, outcome}
use Rattle.sv_rules.specs.Standing.{offer_count, own_offer, standing}
use Rattle.sv_rules.specs.Story.{handed_in}
use Rattle.sv_rules.specs.declared.coupling.Made.{Made}
use Rattle.sv_rules.specs.declared.standing.Standing.{Standing}
use Rattle.sv_core.proofs.CellPlaces.{joined_add_none, no_other_opened}
use Rattle.sv_core.proofs.EndingLemmas.{some_cell}
use Rattle.sv_core.proofs.GoingLemmas.{opens_cells}
use Rattle.sv_core.proofs.Kept.{entry_is, present-le-length, present-stay, whole_core}
use Rattle.sv_core.proofs.MakingLemmas.{opens_offer, opens_out}
use Rattle.sv_core.proofs.OutcomeLemmas.{outcome_of_opening}
use Rattle.sv_core.specs.Core.{IsSpare, present}
use Rattle.sv_core.specs.Invariant.{IsWholeCore, CoreParts}
use Rattle.sv_core.specs.Updating.{Joined, MayJoin, degree_with}

-- a standing offer is older than what comes next
older : (journal : Entries) (offer : Standing) → Contains (standing journal) offer → offer.place < next_place journal
older journal offer has = let at = placed journal offer has in omega (arith, at)

-- the new offer and its match may be coupled
pub may_join : (journal : Entries) (e : PlainEntry) (new : Standing) (match : Option Standing) (old between : Cells) (value : Option PlainArray) → FitCells journal old → OpensOffer journal e new match →
    PutsAt old between new.place (Some (new_cell value)) → MayJoin between new match
may_join journal e new None old between value fit opens puts = tt
may_join journal e new (Some other) old between value fit opens puts =
    let has = (opens.matched other refl).0 in
    let low : other.place < new.place = let before = older journal other has in omega (arith, before, opens.place) in
    let cell = fit other has in (
      low,
      some_cell between other.place cell.0
          (puts other.place ∙ ap (λ (b : Bool). if b then Some (new_cell value) else cell_at old other.place) (ne_eqb new.place other.place (λ same. omega (arith, low, same))) ∙ cell.1),
      some_cell between new.place (new_cell value)
          (puts new.place ∙ ap (λ (b : Bool). if b then Some (new_cell value) else cell_at old new.place) (eq-eqb new.place new.place refl)),
    )

-- the pair that is made in the table is that of the entry
pair_made : (at : ℕ) (new : Standing) (match : Option Standing) → new.place ≡ at →
    made_at at (made_with new match) ≡ option_to_list (option_map (λ (other : Standing). let m : Made = record { pair = pair_of other new; at = new.place } in m) match)
pair_made at new None same = refl
pair_made at new (Some other) same = ap (λ n. (let m : Made = record { pair = pair_of other new; at = n } in m) ∷ []) (sym same)

-- what a core keeps, after an act that opens an offer
pub open_core : (core new : CoreParts) → IsWholeCore core → (act : Act) (offer : Standing) (match : Option Standing) → MayFollow core.users core.journal (entry_for core.journal offer.party act) → is_leave act ≡ false →
    OpensOffer core.journal (entry_for core.journal offer.party act) offer match → new.users ≡ core.users → new.journal ≡ entry_for core.journal offer.party act ∷ core.journal →
    new.offers ≡ core.offers ++ offer ∷ [] →
    new.coupled ≡ core.coupled ++ option_to_list (option_map (λ (other : Standing). let m : Made = record { pair = pair_of other offer; at = offer.place } in m) match) →
    new.spares ≡ core.spares → (between : Cells) → PutsAt core.cells between offer.place (Some (new_cell (handed_in act))) → Joined between new.cells offer match → length core.users ≤ new.room → IsWholeCore new
open_core core new k act offer match may leaves opens users journal offers coupled spares between puts joined room =
    whole_core core new e k may users journal
    (offers ∙ ap (λ (os : List Standing). os ++ offer ∷ []) k.stand ∙ sym opens.offers) (coupled ∙ ap (λ (ms : List Made). ms ++ pairs) k.couple ∙ sym couplings_are)
    (cells_opened core.users core.journal e offer match (may, k.legal) opens core.cells new.cells k.fit
    (opens_cells core.cells between new.cells offer (handed_in act) match (λ other is. let before = older core.journal other (opens.matched other is).0 in omega (arith, before, opens.place)) puts joined))
    (no_other_opened core.journal e offer core.cells between new.cells (Some (new_cell (handed_in act))) opens.offers puts
    (joined_add_none between new.cells offer match (may_join core.journal e offer match core.cells between (handed_in act) k.fit opens puts) joined) k.no_other)
    (omega (arith, stay, present-le-length core.users core.journal, room)) (omega (arith, stay, k.spare_count, ap length spares)) (subst (All IsSpare) (sym spares) k.spare_room)
  where
    e : PlainEntry
    e = entry_for core.journal offer.party act

    pairs : List Made
    pairs = option_to_list (option_map (λ (other : Standing). let m : Made = record { pair = pair_of other offer; at = offer.place } in m) match)

    stay : present core.users (e ∷ core.journal) ≡ present core.users core.journal
    stay = present-stay core.users core.journal e leaves

    couplings_are : couplings (e ∷ core.journal) ≡ couplings core.journal ++ pairs
    couplings_are =
        couplings_go_on core.users core.journal e (may, k.legal)
        ∙ ap (λ (os : List Standing). couplings_among os (couplings core.journal) ++ made_at (next_place core.journal) e.made) opens.offers
        ∙ ap (λ (ms : List Made). ms ++ made_at (next_place core.journal) e.made) (couplings_whole (standing core.journal) (offer ∷ []) (couplings core.journal) (couplings_stand core.journal))
        ∙ ap (λ (ps : List Pair). couplings core.journal ++ made_at (next_place core.journal) ps) opens.made
        ∙ ap (λ (ms : List Made). couplings core.journal ++ ms) (pair_made (next_place core.journal) offer match opens.place)

-- the match by the table of a core is that of the journal
match_in : (core : CoreParts) → IsWholeCore core → (new : Standing) (match : Option Standing) → match ≡ open_match core.offers core.coupled new → match ≡ open_match (standing core.journal) (couplings core.journal) new
match_in core k new match is = is ∙ ap (λ (os : List Standing). open_match os core.coupled new) k.stand ∙ ap (λ (ms : List Made). open_match (standing core.journal) ms new) k.couple

-- an act opens an offer in a core, and couples it with its match
pub opens_in : (core : CoreParts) → IsWholeCore core → (act : Act) (new : Standing) → (act_row act).row.opens ≡ Some (record { to = new.to; local = new.local; surrogate = new.surrogate }) → new.place ≡ next_place core.journal →
    own_offer (standing core.journal) new.party new.local ≡ None → offer_count (standing core.journal) new.party < 64 → (match : Option Standing) → match ≡ open_match core.offers core.coupled new →
    OpensOffer core.journal (entry_for core.journal new.party act) new match
opens_in core k act new row place fresh few match is =
    subst (OpensOffer core.journal (entry_for core.journal new.party act) new) (sym (match_in core k new match is))
    (opens_offer core.users core.journal act new row place fresh (lt-leb 64 (offer_count (standing core.journal) new.party) few))

-- what becomes of the act
pub opened_as : (core : CoreParts) → IsWholeCore core → (act : Act) (new : Standing) → (act_row act).row.opens ≡ Some (record { to = new.to; local = new.local; surrogate = new.surrogate }) → new.place ≡ next_place core.journal →
    own_offer (standing core.journal) new.party new.local ≡ None → offer_count (standing core.journal) new.party < 64 → (match : Option Standing) → match ≡ open_match core.offers core.coupled new →
    outcome core.journal new.party act ≡ joined_to new match
opened_as core k act new row place fresh few match is =
    outcome_of_opening core.journal new.party act (record { to = new.to; local = new.local; surrogate = new.surrogate }) row
    ∙ ap (λ (n : ℕ). offer_outcome (standing core.journal) (couplings core.journal) (let s : Standing = record { place = n; party = new.party; to = new.to; local = new.local; surrogate = new.surrogate } in s) (own_offer (standing core.journal) new.party new.local)) (sym place)
    ∙ ap (offer_outcome (standing core.journal) (couplings core.journal) new) fresh
    ∙ opens_out core.journal new (lt-leb 64 (offer_count (standing core.journal) new.party) few) match (sym (match_in core k new match is))

-- its answer and its pairs
pub joined_answer : (new : Standing) (match : Option Standing) → degree (degree_with match) ≡ (joined_to new match).answer
joined_answer new None = refl
joined_answer new (Some other) = refl

pub joined_pairs : (new : Standing) (match : Option Standing) → made_with new match ≡ (joined_to new match).made
joined_pairs new None = refl
joined_pairs new (Some other) = refl

-- the entry of an offer that opens
pub opening_entry : (core : CoreParts) → IsWholeCore core → (act : Act) (new : Standing) → (act_row act).row.opens ≡ Some (record { to = new.to; local = new.local; surrogate = new.surrogate }) → new.place ≡ next_place core.journal →
    own_offer (standing core.journal) new.party new.local ≡ None → offer_count (standing core.journal) new.party < 64 → (match : Option Standing) → match ≡ open_match core.offers core.coupled new →
    (given : ℕ) (made : List Pair) → given ≡ degree_with match → made ≡ made_with new match →
    (let e : PlainEntry = record { party = new.party; act = act; answer = degree given; made = made } in e) ≡ entry_for core.journal new.party act
opening_entry core k act new row place fresh few match is given made told pairs =
    let becomes = opened_as core k act new row place fresh few match is in
    entry_is core.journal new.party act (degree given) made (ap degree told ∙ joined_answer new match ∙ sym (ap (λ (o : ActOutcome). o.answer) becomes))
    (pairs ∙ joined_pairs new match ∙ sym (ap (λ (o : ActOutcome). o.made) becomes))
