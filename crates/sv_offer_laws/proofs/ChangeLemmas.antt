-- What an entry that may follow a journal changes.
use Rattle.std.proofs.Common.{◌≡◌, refl, ap, ℕ, ◌<◌, true, cond, leb, List, [], ◌∷◌, ◌++◌, map, Option, Some, None, inl, inr}
use Rattle.std.specs.Prelude.{is_none}
use Rattle.std.proofs.lemmas.Bool.{cases_Bool, leb-false}
use Rattle.sv_events.specs.Answer.{PlainAnswer, offer_limit}
use Rattle.sv_events.specs.Entry.{PlainEntry}
use Rattle.sv_events.specs.declared.entry.Pair.{Pair}
use Rattle.sv_events.specs.declared.event.Act.{Act}
use Rattle.sv_events.specs.Row.{act_row}
use Rattle.sv_events.specs.declared.row.ActRow.{ActRow}
use Rattle.sv_events.specs.declared.row.Accessing.{Accessing}
use Rattle.sv_events.specs.declared.row.Controlling.{Controlling}
use Rattle.sv_events.specs.declared.row.Ending.{Ending}
use Rattle.sv_events.specs.declared.row.Ending.TheVariants.{One, All as AllOffers}
use Rattle.sv_events.specs.declared.row.Opening.{Opening}
use Rattle.sv_events.specs.declared.row.Question.{Question}
use Rattle.sv_rules.specs.declared.standing.Standing.{Standing}
use Rattle.sv_rules.specs.declared.coupling.Made.{Made}
use Rattle.sv_events.specs.Fits.{is_degree}
use Rattle.sv_rules.specs.Entries.{Entries, next_place, kind_of}
use Rattle.sv_rules.specs.Standing.{standing, standing_after, is_own, own_offer, offer_count, offer_made, with_offer, without_ended}
use Rattle.sv_rules.specs.Coupling.{couplings, open_match, pair_of, made_by_ending}
use Rattle.sv_rules.specs.Outcome.{outcome, outcome_of_row, retraction_outcome, offer_outcome, new_offer, joined_to}
use Rattle.sv_rules.specs.Legal.{MayFollow}
use Rattle.sv_offer_laws.proofs.Members.{filter_past_none}
use Rattle.sv_offer_laws.proofs.RowLemmas.{opens_alone}

-- offers and pairs before an entry at a place, and the offers after it and the pairs that it makes
pub data Change (offers : List Standing) (coupled : List Made) (place : ℕ) (after : List Standing) (made : List Pair) : Type 0 where
  unchanged : after ≡ offers → made ≡ [] → Change offers coupled place after made
  alone : (new : Standing) → new.place ≡ place → offer_count offers new.party < 64 → after ≡ offers ++ new ∷ [] → open_match offers coupled new ≡ None → made ≡ [] → Change offers coupled place after made
  joined : (new match : Standing) → new.place ≡ place → offer_count offers new.party < 64 → after ≡ offers ++ new ∷ [] → open_match offers coupled new ≡ Some match →
      made ≡ pair_of match new ∷ [] → Change offers coupled place after made
  ended : (party : ℕ) (ending : Ending) → after ≡ without_ended offers party ending → made ≡ map (λ one. one.pair) (made_by_ending place offers coupled party ending) →
      Change offers coupled place after made

-- an offer of a name that has not been offered
Change-by_new : (offers : List Standing) (coupled : List Made) (new : Standing) (answer : PlainAnswer) (made : List Pair) → is_none (own_offer offers new.party new.local) ≡ true →
    answer ≡ (new_offer offers coupled new).answer → made ≡ (new_offer offers coupled new).made →
    Change offers coupled new.place (cond (is_degree (kind_of answer)) (with_offer offers new) offers) made
Change-by_new offers coupled new answer made none answers coupling = elim (cases_Bool (leb 64 (offer_count offers new.party))) [
  | inl many ↦ let no : answer ≡ offer_limit = rw many at answers in rw no (unchanged refl (rw many at coupling))
  | inr few ↦ with_match (leb-false 64 (offer_count offers new.party) few) (open_match offers coupled new) refl (rw few at answers) (rw few at coupling)
]
  where
    with_match : offer_count offers new.party < 64 → (match : Option Standing) → open_match offers coupled new ≡ match → answer ≡ (joined_to new match).answer → made ≡ (joined_to new match).made → Change offers coupled new.place (cond (is_degree (kind_of answer)) (with_offer offers new) offers) made
    with_match few None found a m = rw (a, none) (alone new refl few refl found m)
    with_match few (Some match) found a m = rw (a, none) (joined new match refl few refl found m)

Change-by_offer : (offers : List Standing) (coupled : List Made) (new : Standing) (own : Option Standing) (answer : PlainAnswer) (made : List Pair) → own_offer offers new.party new.local ≡ own →
    answer ≡ (offer_outcome offers coupled new own).answer → made ≡ (offer_outcome offers coupled new own).made →
    Change offers coupled new.place (cond (is_degree (kind_of answer)) (with_offer offers new) offers) made
Change-by_offer offers coupled new None answer made own answers coupling = Change-by_new offers coupled new answer made (ap is_none own) answers coupling
Change-by_offer offers coupled new (Some old) answer made own answers coupling = rw (answers, own) (unchanged refl coupling)

-- where a party has no offer of a name, none ends with this name
pub none_ends : (offers : List Standing) (party : ℕ) (local : List ℕ) → own_offer offers party local ≡ None → without_ended offers party (One local) ≡ offers
none_ends offers party local none = filter_past_none (is_own party local) offers none

-- what an ending changes, by the offer of the name
Change-by_retraction : (journal : Entries) (party : ℕ) (local : List ℕ) (own : Option Standing) (made : List Pair) → own_offer (standing journal) party local ≡ own →
    made ≡ (retraction_outcome journal party local own).made →
    Change (standing journal) (couplings journal) (next_place journal) (without_ended (standing journal) party (One local)) made
Change-by_retraction journal party local None made own coupling = unchanged (none_ends (standing journal) party local own) coupling
Change-by_retraction journal party local (Some offer) made own coupling = ended party (One local) refl coupling

Change-by_row : (journal : Entries) (party : ℕ) (opens : Option Opening) (ends : Option Ending) (controls : Option Controlling) (accesses : Option Accessing) (asks : Option Question)
    (answer : PlainAnswer) (made : List Pair) → ((opening : Opening) → opens ≡ Some opening → ends ≡ None) →
    let row : ActRow = record { opens = opens; ends = ends; controls = controls; accesses = accesses; asks = asks } in
    answer ≡ (outcome_of_row journal party row).answer → made ≡ (outcome_of_row journal party row).made →
    Change (standing journal) (couplings journal) (next_place journal) (standing_after (standing journal) (next_place journal) party (kind_of answer) row) made
Change-by_row journal party (Some opening) None controls accesses asks answer made single answers coupling =
    Change-by_offer (standing journal) (couplings journal) (offer_made (next_place journal) party opening) (own_offer (standing journal) party opening.local) answer made refl answers coupling
Change-by_row journal party (Some opening) (Some ending) controls accesses asks answer made single answers coupling = absurd (let no = single opening refl in cc)
Change-by_row journal party None (Some (One local)) controls accesses asks answer made single answers coupling =
    Change-by_retraction journal party local (own_offer (standing journal) party local) made refl coupling
Change-by_row journal party None (Some AllOffers) controls accesses asks answer made single answers coupling = ended party AllOffers refl coupling
Change-by_row journal party None None (Some set) accesses asks answer made single answers coupling = unchanged refl coupling
Change-by_row journal party None None None (Some access) asks answer made single answers coupling = unchanged refl coupling
Change-by_row journal party None None None None (Some asked) answer made single answers coupling = unchanged refl coupling
Change-by_row journal party None None None None None answer made single answers coupling = unchanged refl coupling

Change-by_act : (journal : Entries) (party : ℕ) (act : Act) (answer : PlainAnswer) (made : List Pair) →
    answer ≡ (outcome journal party act).answer → made ≡ (outcome journal party act).made →
    Change (standing journal) (couplings journal) (next_place journal) (standing_after (standing journal) (next_place journal) party (kind_of answer) (act_row act).row) made
Change-by_act journal party act answer made answers coupling =
    let row : ActRow = (act_row act).row in
    Change-by_row journal party row.opens row.ends row.controls row.accesses row.asks answer made (opens_alone act) answers coupling

pub Change-by_entry : (users : List ℕ) (journal : Entries) (e : PlainEntry) → MayFollow users journal e →
    Change (standing journal) (couplings journal) (next_place journal) (standing (e ∷ journal)) e.made
Change-by_entry users journal e h = Change-by_act journal e.party e.act e.answer e.made h.answer h.made
