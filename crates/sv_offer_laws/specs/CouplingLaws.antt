use Rattle.std.specs.Prelude.{◌≡◌, ◌<◌, ◌≤◌, ◌↔◌, ◌⊎◌, ℕ, List, ◌∷◌, ◌++◌, IsTrue, Contains, Some, None, is_some}
use Rattle.sv_events.specs.Entry.{PlainEntry}
use Rattle.sv_rules.specs.declared.standing.Standing.{Standing}
use Rattle.sv_rules.specs.declared.coupling.Coupling.{Coupling}
use Rattle.sv_rules.specs.declared.coupling.Made.{Made}
use Rattle.sv_rules.specs.Entries.{Entries, next_place}
use Rattle.sv_rules.specs.Standing.{standing, is_match}
use Rattle.sv_rules.specs.Coupling.{made_in, couplings, is_coupled, coupling_at, is_open_match, open_match}
use Rattle.sv_rules.specs.Legal.{IsLegal}

-- an entry of the journal made the pair, at its place
abbrev pub WasMade : Entries → Made → Type 0
WasMade journal made =
    (before : Entries) × (e : PlainEntry) × (later : Entries) × (journal ≡ later ++ e ∷ before) × (made.at ≡ next_place before) × Contains e.made made.pair

-- the pairs that were ever made are those that entries made
abbrev pub PairsAreThoseOfEntries : Type 0
PairsAreThoseOfEntries = (journal : Entries) (made : Made) → Contains (made_in journal) made ↔ WasMade journal made

-- matching is mutual
abbrev pub MatchingIsMutual : Type 0
MatchingIsMutual = (one other : Standing) → is_match one other ≡ is_match other one

-- the offer is an open match among these, and none of a lower place is
pub record IsOldestOpenMatch (offers : List Standing) (coupled : List Made) (offer match : Standing) : Type 0 where
  pub among : Contains offers match
  pub open_match : IsTrue (is_open_match coupled offer match)
  pub oldest : (other : Standing) → Contains offers other → IsTrue (is_open_match coupled offer other) → match.place ≤ other.place

-- the open match that is taken is the one of the lowest place
abbrev pub OldestMatchIsTaken : Type 0
OldestMatchIsTaken =
    (journal : Entries) (coupled : List Made) (offer match : Standing) → open_match (standing journal) coupled offer ≡ Some match →
    IsOldestOpenMatch (standing journal) coupled offer match

-- and where none is taken there is none
abbrev pub NoneIsTakenOfNone : Type 0
NoneIsTakenOfNone =
    (journal : Entries) (coupled : List Made) (offer other : Standing) → open_match (standing journal) coupled offer ≡ None →
    Contains (standing journal) other → ¬ IsTrue (is_open_match coupled offer other)

-- a coupling is looked up at a place exactly where the offer there is coupled
abbrev pub CouplingsAreFoundWhereCoupled : Type 0
CouplingsAreFoundWhereCoupled =
    (journal : Entries) (place : ℕ) →
    IsTrue (is_some (coupling_at (standing journal) (couplings journal) place)) ↔ IsTrue (is_coupled (couplings journal) place)

-- the coupling is of two standing offers, one of them at the place, the lower first, and the entry at its place made it
pub record IsCouplingOf (journal : Entries) (place : ℕ) (coupling : Coupling) : Type 0 where
  pub has_a : Contains (standing journal) coupling.a
  pub has_b : Contains (standing journal) coupling.b
  pub here : (coupling.a.place ≡ place) ⊎ (coupling.b.place ≡ place)
  pub lower_first : coupling.a.place < coupling.b.place
  pub made : WasMade journal (record { pair = record { a = coupling.a.place; b = coupling.b.place }; at = coupling.at })

-- in a legal journal the coupling that is found at a place is the one of the offer there
abbrev pub CouplingsAreFoundAsMade : Type 0
CouplingsAreFoundAsMade =
    (users : List ℕ) (journal : Entries) → IsLegal users journal → (place : ℕ) (coupling : Coupling) →
    (coupling_at (standing journal) (couplings journal) place ≡ Some coupling) ↔ IsCouplingOf journal place coupling
