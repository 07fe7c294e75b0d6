-- What a party may make now, and what a core keeps where offers open and end.
use Rattle.std.proofs.Common.{◌≡◌, refl, sym, ap, ◌∙◌, ℕ, ◌+◌, ◌≤◌, ◌<◌, Bool, true, false, ◌&&◌, ◌||◌, not, eqb, List, [], ◌∷◌, ◌++◌, length, cond, All, Option, Some, None, ◌⊎◌, inl, inr, arith}
use Rattle.std.specs.Prelude.{if◌then◌else◌}
use Rattle.std.proofs.lemmas.Bool.{cases_Bool, or_cases, eq-eqb, eqb-true, ne_eqb, and_from, not_from_false, or_right, both_ways}
use Rattle.std.proofs.lemmas.List.Sums.{sum_by-cons}
use Rattle.std.proofs.lemmas.Option.{none-some}
use Rattle.apl_arrays.specs.Array.{PlainArray}
use Rattle.sv_events.specs.Entry.{PlainEntry}
use Rattle.sv_events.specs.Row.{act_row}
use Rattle.sv_events.specs.declared.entry.Pair.{Pair}
use Rattle.sv_events.specs.declared.event.Act.{Act}
use Rattle.sv_events.specs.declared.event.Act.TheVariants.{Retract, Leave}
use Rattle.sv_events.specs.declared.row.Ending.{Ending}
use Rattle.sv_access.specs.Control.{no_control}
use Rattle.sv_kept.specs.Cell.{coupled_with, known_alone, new_cell}
use Rattle.sv_kept.specs.Cells.{CouplesAt, PutsAt, cell_at}
use Rattle.sv_kept.specs.declared.cell.Cell.{Cell}
use Rattle.sv_kept.specs.declared.cell.CellContent.TheVariants.{Shared, Lent}
use Rattle.sv_kept.specs.declared.cells.Cells.{Cells}
use Rattle.sv_cell_laws.specs.Fits.{FitCells}
use Rattle.sv_cell_laws.specs.Steps.{OpensCells}
use Rattle.sv_cell_laws.proofs.QuietSteps.{no_access_by_row, no_control_by_row, no_tries_by_row}
use Rattle.sv_offers.specs.Table.{PlainOffers, after_ending, pairs_made}
use Rattle.sv_offer_laws.specs.LegalLaws.{made_at}
use Rattle.sv_offer_laws.proofs.EndingLemmas.{made_of_ending, standing_left}
use Rattle.sv_offer_laws.proofs.LegalLemmas.{couplings_go_on, ending_again}
use Rattle.sv_rules.specs.Coupling.{couplings, couplings_among, kept_by_ending, made_by_ending}
use Rattle.sv_rules.specs.Entries.{Entries, has_left, is_full, is_leave, next_place}
use Rattle.sv_rules.specs.Legal.{IsLegal, MayFollow, act_due, entry_for, is_user, reply_in}
use Rattle.sv_rules.specs.Refused.{awaited}
use Rattle.sv_rules.specs.Standing.{own_offer, standing, without_ended}
use Rattle.aux_parties.specs.Auxiliaries.{is_auxiliary}
use Rattle.sv_rules.specs.Work.{work_of}
use Rattle.sv_rules.specs.declared.standing.Standing.{Standing}
use Rattle.sv_kept.specs.Share.{share_of}
use Rattle.sv_story_laws.proofs.StepLemmas.{leaves_may_follow, steps_may_follow, work_may_follow}
use Rattle.sv_offer_laws.proofs.RowLemmas.{outcome_of_ending}
use Rattle.sv_events.specs.Answer.{done, kept}
use Rattle.sv_events.specs.declared.row.Ending.TheVariants as how
use Rattle.sv_events.specs.declared.row.Ending.TheVariants.{One}
use Rattle.sv_rules.specs.Outcome.{ActOutcome, outcome, retraction_outcome}
use Rattle.sv_rules.specs.Questions.{degree_of}
use Rattle.sv_rules.specs.Story.{known}
use Rattle.sv_core.proofs.People.{people_are}
use Rattle.std.proofs.lemmas.Bool.{not-true}
use Rattle.sv_core.specs.Core.{IsSpare, MayMake, PlainCore, present}
use Rattle.sv_core.specs.Invariant.{CoreParts, IsWholeCore}
use Rattle.sv_core.specs.Updating.{HasNoOther, IsEnding, Joined}
use Rattle.sv_core.proofs.Kept.{entry_is, whole_core}
use Rattle.sv_core.proofs.TogetherLemmas.{ending_pairs}

-- a party that goes on may make the act that is due, where there is room
pub may_step : (core : PlainCore) (party : ℕ) (act : Act) → IsLegal core.users core.journal → (is_user core.users party || is_auxiliary party) ≡ true → not (has_left core.journal party) ≡ true → awaited core.journal party ≡ None →
    act_due (is_auxiliary party) core.journal party act ≡ Some act → not (is_leave act) ≡ true → is_full core.journal ≡ false → MayMake core party act
may_step core party act legal member here on due stays room = record { legal = legal; may = elim (cases_Bool (is_auxiliary party)) [ inl aux ↦ of_work aux | inr person ↦ of_user person ]; stays = stays }
  where
    of_work : is_auxiliary party ≡ true → MayFollow core.users core.journal (entry_for core.journal party act)
    of_work aux =
        work_may_follow core.users core.journal legal party (reply_in (work_of core.journal party) (act_row act).hands_in) act aux
        (ap (λ (b : Bool). act_due b core.journal party act) (sym aux) ∙ due)

    of_user : is_auxiliary party ≡ false → MayFollow core.users core.journal (entry_for core.journal party act)
    of_user person =
        steps_may_follow core.users core.journal party act (record { user = user (or_cases (is_user core.users party) (is_auxiliary party) member); person = person; present = here }) on
        (or_right (is_leave act) (not (is_full core.journal)) (not_from_false (is_full core.journal) room))
      where
        user : (is_user core.users party ≡ true) ⊎ (is_auxiliary party ≡ true) → is_user core.users party ≡ true
        user (inl is) = is
        user (inr aux) = absurd (both_ways (is_auxiliary party) person aux)

-- after an act that ends offers
pub end_core : (core new : CoreParts) → IsWholeCore core → (party : ℕ) (act : Act) (ending : Ending) → MayFollow core.users core.journal (entry_for core.journal party act) → (act_row act).row.ends ≡ Some ending →
    new.users ≡ core.users → new.journal ≡ entry_for core.journal party act ∷ core.journal →
    (let table : PlainOffers = record { offers = new.offers; coupled = new.coupled } in table) ≡ after_ending (next_place core.journal) (record { offers = core.offers; coupled = core.coupled }) party ending →
    FitCells (entry_for core.journal party act ∷ core.journal) new.cells → HasNoOther (entry_for core.journal party act ∷ core.journal) new.cells →
    present core.users (entry_for core.journal party act ∷ core.journal) ≤ new.room →
    present core.users (entry_for core.journal party act ∷ core.journal) ≤ length new.spares → All IsSpare new.spares → IsWholeCore new
end_core core new k party act ending may ends users journal table fit no_other room count spare =
    whole_core core new e k may users journal
    (ap (λ (t : PlainOffers). t.offers) is ∙ sym left)
    (ap (λ (t : PlainOffers). t.coupled) is ∙ sym coupled) fit no_other room count spare
  where
    e : PlainEntry
    e = entry_for core.journal party act

    is : (let table : PlainOffers = record { offers = new.offers; coupled = new.coupled } in table) ≡ after_ending (next_place core.journal) (record { offers = standing core.journal; coupled = couplings core.journal }) party ending
    is =
        table ∙ ap (λ os. after_ending (next_place core.journal) (record { offers = os; coupled = core.coupled }) party ending) k.stand
        ∙ ap (λ ms. after_ending (next_place core.journal) (record { offers = standing core.journal; coupled = ms }) party ending) k.couple

    left : standing (e ∷ core.journal) ≡ without_ended (standing core.journal) party ending
    left = standing_left core.journal e ending ends

    coupled : couplings (e ∷ core.journal) ≡ kept_by_ending (standing core.journal) (couplings core.journal) party ending ++ made_by_ending (next_place core.journal) (standing core.journal) (couplings core.journal) party ending
    coupled =
        couplings_go_on core.users core.journal e (may, k.legal)
        ∙ ap (λ os. couplings_among os (couplings core.journal) ++ made_at (next_place core.journal) e.made) left
        ∙ ap (λ ps. kept_by_ending (standing core.journal) (couplings core.journal) party ending ++ made_at (next_place core.journal) ps) (made_of_ending core.users core.journal e ending may ends)
        ∙ ap (λ ms. kept_by_ending (standing core.journal) (couplings core.journal) party ending ++ ms) (ending_again (standing core.journal) (couplings core.journal) (next_place core.journal) party ending)

counts_fewer : (a b : Bool) → cond {A = ℕ} (not (a || b)) 1 0 ≤ cond {A = ℕ} (not b) 1 0
counts_fewer true true = omega arith
counts_fewer true false = omega arith
counts_fewer false true = omega arith
counts_fewer false false = omega arith

counts_gone : (a b : Bool) → a ≡ true → b ≡ false → cond {A = ℕ} (not (a || b)) 1 0 + 1 ≤ cond {A = ℕ} (not b) 1 0
counts_gone true false p q = omega arith
counts_gone true true p q = cc
counts_gone false b p q = cc

-- a user more or less
abbrev is_here : Entries → ℕ → ℕ
is_here journal user = cond {A = ℕ} (not (has_left journal user)) 1 0

present-le : (users : List ℕ) (journal : Entries) (e : PlainEntry) → present users (e ∷ journal) ≤ present users journal
present-le [] journal e = omega arith
present-le (user ∷ users) journal e =
    omega (arith, sum_by-cons (is_here (e ∷ journal)) user users, sum_by-cons (is_here journal) user users, counts_fewer (eqb e.party user && is_leave e.act) (has_left journal user), present-le users journal e)

-- one user fewer is present after a leave
pub present-falls : (users : List ℕ) (journal : Entries) (e : PlainEntry) → is_leave e.act ≡ true → is_user users e.party ≡ true → has_left journal e.party ≡ false → present users (e ∷ journal) + 1 ≤ present users journal
present-falls [] journal e leaves user here = cc
present-falls (user ∷ users) journal e leaves is here =
    let after = sum_by-cons (is_here (e ∷ journal)) user users in
    let before = sum_by-cons (is_here journal) user users in
    elim (or_cases (eqb user e.party) (is_user users e.party) is) [
      | inl now ↦
          let same : user ≡ e.party = eqb-true user e.party now in
          let gone = counts_gone (eqb e.party user && is_leave e.act) (has_left journal user) (and_from (eqb e.party user) (is_leave e.act) (eq-eqb e.party user (sym same)) leaves) (ap (has_left journal) same ∙ here) in
          omega (arith, after, before, gone, present-le users journal e)
      | inr later ↦ omega (arith, after, before, counts_fewer (eqb e.party user && is_leave e.act) (has_left journal user), present-falls users journal e leaves later here)
    ]

-- the cells of a new offer and its match, once they are coupled
opens_coupled : (old between new : Cells) (offer other : Standing) (value : Option PlainArray) → other.place < offer.place → PutsAt old between offer.place (Some (new_cell value)) →
    CouplesAt between new other.place offer.place → OpensCells old new offer value (Some other)
opens_coupled old between new offer other value low puts couples x at_x at =
    couples x (new_cell value) (at_place other.place false (ne_eqb offer.place other.place (λ same. omega (arith, low, same))) ∙ at_x)
    (at_place offer.place true (eq-eqb offer.place offer.place refl)) at
    ∙ ap (λ (o : Option Cell). if eqb other.place at then Some low_cell else o)
    (ap (λ (o : Option Cell). if eqb offer.place at then Some high_cell else o) (puts at) ∙ twice (eqb offer.place at))
  where
    low_cell : Cell
    low_cell = coupled_with x.vector (Shared (share_of (known_alone x.held) value))

    high_cell : Cell
    high_cell = coupled_with no_control Lent

    at_place : (place : ℕ) (b : Bool) → eqb offer.place place ≡ b → cell_at between place ≡ (if b then Some (new_cell value) else cell_at old place)
    at_place place b is = puts place ∙ ap (λ (c : Bool). if c then Some (new_cell value) else cell_at old place) is

    twice : (b : Bool) → (if b then Some high_cell else (if b then Some (new_cell value) else cell_at old at)) ≡ (if b then Some high_cell else cell_at old at)
    twice true = refl
    twice false = refl

-- the cells with that of a new offer, and those of its match, are as they must be
pub opens_cells : (old between new : Cells) (offer : Standing) (value : Option PlainArray) (match : Option Standing) → ((other : Standing) → match ≡ Some other → other.place < offer.place) →
    PutsAt old between offer.place (Some (new_cell value)) → Joined between new offer match → OpensCells old new offer value match
opens_cells old between new offer value None older puts keeps = λ at. keeps at ∙ puts at
opens_cells old between new offer value (Some other) older puts couples = opens_coupled old between new offer other value (older other refl) puts couples

-- an act that ends offers does nothing else, and touches none
ends_alone : (act : Act) (ending : Ending) → (act_row act).row.ends ≡ Some ending → ((act_row act).row.accesses ≡ None) × ((act_row act).row.controls ≡ None)
ends_alone (Retract local) ending h = (refl, refl)
ends_alone Leave ending h = (refl, refl)
ends_alone _ ending h = absurd (none-some ending h)

-- offers may end by the act of a party
pub may_end : (users : List ℕ) (journal : Entries) (offers : PlainOffers) (cells : Cells) (at party : ℕ) (act : Act) (ending : Ending) → IsLegal users journal → offers.offers ≡ standing journal →
    offers.coupled ≡ couplings journal → FitCells journal cells → MayFollow users journal (entry_for journal party act) → (act_row act).row.ends ≡ Some ending → at ≡ next_place journal →
    IsEnding offers cells at party ending users journal (entry_for journal party act)
may_end users journal offers cells at party act ending legal stand couple fit may ends place = record {
  legal = (may, legal);
  stand = stand;
  couple = couple;
  place = place;
  own = refl;
  ends = ends;
  untouched = λ o has. record {
    access = no_access_by_row e o (ends_alone act ending ends).0;
    control = no_control_by_row e o (ends_alone act ending ends).1;
    tries = λ auxiliary. no_tries_by_row e o (ends_alone act ending ends).0;
  };
  fit = fit;
}
  where
    e : PlainEntry
    e = entry_for journal party act

-- a user that has not left may leave, and one user fewer is present then
pub leave_may : (core : CoreParts) → IsWholeCore core → (user : ℕ) → is_user core.users user ≡ true → not (has_left core.journal user) ≡ true → MayFollow core.users core.journal (entry_for core.journal user Leave)
leave_may core k user member here = leaves_may_follow core.users core.journal user (record { user = member; person = people_are core.users k.people user member; present = here })

pub leave_falls : (core : CoreParts) (user : ℕ) → is_user core.users user ≡ true → not (has_left core.journal user) ≡ true →
    present core.users (entry_for core.journal user Leave ∷ core.journal) + 1 ≤ present core.users core.journal
leave_falls core user member here = present-falls core.users core.journal (entry_for core.journal user Leave) refl member (not-true (has_left core.journal user) here)

-- the answer to a name that is taken back
pub retraction_answer : (journal : Entries) (party : ℕ) (act : Act) (local : List ℕ) (offer : Standing) → (act_row act).row.ends ≡ Some (One local) → own_offer (standing journal) party local ≡ Some offer →
    kept (degree_of journal (Some offer)) (known journal offer) ≡ (outcome journal party act).answer
retraction_answer journal party act local offer row own =
    sym (ap (λ (o : ActOutcome). o.answer) (outcome_of_ending journal party act (One local) row ∙ ap (retraction_outcome journal party local) own))

-- its offers end by the leave
pub leave_ends : (core : CoreParts) → IsWholeCore core → (offers : PlainOffers) (at user : ℕ) → offers.offers ≡ core.offers → offers.coupled ≡ core.coupled → at ≡ next_place core.journal → is_user core.users user ≡ true → not (has_left core.journal user) ≡ true →
    IsEnding offers core.cells at user how.All core.users core.journal (entry_for core.journal user Leave)
leave_ends core k offers at user offered coupled place member here =
    may_end core.users core.journal offers core.cells at user Leave how.All k.legal (offered ∙ k.stand) (coupled ∙ k.couple) k.fit (leave_may core k user member here) refl place

-- the entry of the leave has the pairs that are made
pub leave_entry : (core : CoreParts) (offers : PlainOffers) (at user : ℕ) → IsEnding offers core.cells at user how.All core.users core.journal (entry_for core.journal user Leave) → (made : List Pair) → made ≡ pairs_made at offers user how.All →
    (let e : PlainEntry = record { party = user; act = Leave; answer = done; made = made } in e) ≡ entry_for core.journal user Leave
leave_entry core offers at user ends made pairs =
    entry_is core.journal user Leave done made refl (pairs ∙ sym (ending_pairs offers core.cells at user how.All core.users core.journal (entry_for core.journal user Leave) ends))
