use Rattle.std.specs.Prelude.{◌≡◌, ◌<◌, ◌≤◌, ◌+◌, ℕ, not, List, ◌∷◌, ◌++◌, IsTrue, length, Contains, Some}
use Rattle.apl_arrays.specs.Limits.{most_offers}
use Rattle.sv_events.specs.Entry.{PlainEntry}
use Rattle.sv_events.specs.declared.entry.Pair.{Pair}
use Rattle.sv_events.specs.Row.{act_row}
use Rattle.sv_events.specs.declared.row.Ending.{Ending}
use Rattle.sv_events.specs.declared.row.Ending.TheVariants.{One}
use Rattle.sv_rules.specs.declared.standing.Standing.{Standing}
use Rattle.sv_rules.specs.declared.coupling.Made.{Made}
use Rattle.sv_rules.specs.Entries.{Entries, next_place}
use Rattle.sv_rules.specs.Standing.{standing, without_ended, is_match}
use Rattle.sv_rules.specs.Coupling.{couplings, is_coupled, is_open_match, pair_of, reopened_by_leave, kept_by_ending, reopened_by_ending}
use Rattle.sv_offer_laws.specs.CouplingLaws.{IsOldestOpenMatch}
use Rattle.sv_rules.specs.Legal.{IsLegal}
use Rattle.sv_offer_laws.specs.LegalLaws.{made_at}

-- the offer is open
abbrev pub IsOpen : List Made → Standing → Type 0
IsOpen coupled offer = IsTrue (not (is_coupled coupled offer.place))

-- the offer could be coupled: it is open, and so is a match of it
abbrev pub CouldCouple : List Standing → List Made → Standing → Type 0
CouldCouple offers coupled offer = IsOpen coupled offer × (match : Standing) × Contains offers match × IsTrue (is_open_match coupled offer match)

-- no two open offers among these match
abbrev pub NoneMatch : List Standing → List Made → Type 0
NoneMatch offers coupled =
    (one other : Standing) → Contains offers one → Contains offers other → IsOpen coupled one → IsOpen coupled other → ¬ IsTrue (is_match one other)

-- in a legal journal no two open standing offers match
abbrev pub OpenOffersDoNotMatch : Type 0
OpenOffersDoNotMatch = (users : List ℕ) (journal : Entries) → IsLegal users journal → NoneMatch (standing journal) (couplings journal)

-- the pair is the next that reopened offers make, by the couplings of that moment: of the first reopened offer that
-- could be coupled, and its oldest open match
pub record IsNextPair (offers reopened : List Standing) (now : List Made) (pair : Pair) : Type 0 where
  pub one : Standing
  pub match : Standing
  pub was_reopened : Contains reopened one
  pub is_open : IsOpen now one
  pub oldest : IsOldestOpenMatch offers now one match
  pub first : (other : Standing) → Contains reopened other → other.place < one.place → ¬ CouldCouple offers now other
  pub same : pair ≡ pair_of one match

-- the couplings at a moment of an ending: those that it keeps, and the pairs that it made so far
abbrev pub couplings_then : Entries → ℕ → Ending → List Pair → List Made
couplings_then journal party ending so_far = kept_by_ending (standing journal) (couplings journal) party ending ++ made_at (next_place journal) so_far

-- each pair that a leave or a retraction makes is the next at its moment
abbrev pub EndingsMakeNextPairs : Type 0
EndingsMakeNextPairs =
    (users : List ℕ) (journal : Entries) (e : PlainEntry) (ending : Ending) → IsLegal users (e ∷ journal) → (act_row e.act).row.ends ≡ Some ending →
    (so_far : List Pair) (pair : Pair) (later : List Pair) → e.made ≡ so_far ++ pair ∷ later →
    IsNextPair (without_ended (standing journal) e.party ending) (reopened_by_ending (standing journal) (couplings journal) e.party ending) (couplings_then journal e.party ending so_far) pair

-- no reopened offer that could be coupled stays open after it
abbrev pub EndingsLeaveNoneOpen : Type 0
EndingsLeaveNoneOpen =
    (users : List ℕ) (journal : Entries) (e : PlainEntry) (ending : Ending) → IsLegal users (e ∷ journal) → (act_row e.act).row.ends ≡ Some ending →
    (offer : Standing) → Contains (reopened_by_ending (standing journal) (couplings journal) e.party ending) offer →
    ¬ CouldCouple (standing (e ∷ journal)) (couplings (e ∷ journal)) offer

-- a leave reopens at most 64 offers, which is as many as its party has
abbrev pub LeavesReopenFew : Type 0
LeavesReopenFew =
    (users : List ℕ) (journal : Entries) → IsLegal users journal → (party : ℕ) → length (reopened_by_leave (standing journal) (couplings journal) party) ≤ most_offers

-- a retraction reopens at most one
abbrev pub RetractionsReopenOne : Type 0
RetractionsReopenOne =
    (users : List ℕ) (journal : Entries) → IsLegal users journal → (party : ℕ) (local : List ℕ) →
    length (reopened_by_ending (standing journal) (couplings journal) party (One local)) ≤ 1

-- and either reopens no more than couplings end
abbrev pub EndingsReopenOneOfAPair : Type 0
EndingsReopenOneOfAPair =
    (journal : Entries) (party : ℕ) (ending : Ending) →
    length (kept_by_ending (standing journal) (couplings journal) party ending) + length (reopened_by_ending (standing journal) (couplings journal) party ending) ≤
    length (couplings journal)
