use Rattle.std.specs.Prelude.{◌≡◌, ◌<◌, ◌≤◌, ◌↔◌, ℕ, List, ◌∷◌, ◌++◌, IsTrue, length, map, count_by, All, Contains}
use Rattle.apl_arrays.specs.Limits.{most_offers}
use Rattle.sv_events.specs.Entry.{PlainEntry}
use Rattle.sv_events.specs.declared.entry.Pair.{Pair}
use Rattle.sv_rules.specs.declared.standing.Standing.{Standing}
use Rattle.sv_rules.specs.declared.coupling.Made.{Made}
use Rattle.sv_rules.specs.Entries.{Entries, next_place}
use Rattle.sv_rules.specs.Standing.{standing, offer_count, is_match}
use Rattle.sv_rules.specs.Coupling.{made_in, couplings, couplings_among, has_place}
use Rattle.sv_rules.specs.Legal.{IsLegal, MayFollow}

-- a journal is legal where each entry may follow those before it
abbrev pub EachEntryMayFollow : List ℕ → Entries → Type 0
EachEntryMayFollow users journal = (before : Entries) (e : PlainEntry) (later : Entries) → journal ≡ later ++ e ∷ before → MayFollow users before e

-- legal is the same as: each entry may follow those before it
abbrev pub LegalIsEntryByEntry : Type 0
LegalIsEntryByEntry = (users : List ℕ) (journal : Entries) → IsLegal users journal ↔ EachEntryMayFollow users journal

-- no party has over 64 standing offers
abbrev pub OffersAreLimited : Type 0
OffersAreLimited = (users : List ℕ) (journal : Entries) → IsLegal users journal → (party : ℕ) → offer_count (standing journal) party ≤ most_offers

-- the pair has its lower place first, and its higher one not after the entry that made it, which is among the first so many
pub record IsInOrder (entries : ℕ) (made : Made) : Type 0 where
  pub some : 1 ≤ made.pair.a
  pub lower : made.pair.a < made.pair.b
  pub made_then : made.pair.b ≤ made.at
  pub within : made.at ≤ entries

-- each pair that was ever made is in order
abbrev pub PairsAreInOrder : Type 0
PairsAreInOrder = (users : List ℕ) (journal : Entries) → IsLegal users journal → All (IsInOrder (length journal)) (made_in journal)

-- the pairs that an entry at a place makes
abbrev pub made_at : ℕ → List Pair → List Made
made_at place pairs = map (λ pair. record { pair = pair; at = place }) pairs

-- an entry leaves the couplings of which both offers still stand, and adds the pairs that it makes
abbrev pub CouplingsGoOn : Type 0
CouplingsGoOn =
    (users : List ℕ) (journal : Entries) (e : PlainEntry) → IsLegal users (e ∷ journal) →
    couplings (e ∷ journal) ≡ couplings_among (standing (e ∷ journal)) (couplings journal) ++ made_at (next_place journal) e.made

-- each place is in one coupling at the most
abbrev pub OffersAreCoupledOnce : Type 0
OffersAreCoupledOnce = (users : List ℕ) (journal : Entries) → IsLegal users journal → (place : ℕ) → count_by (has_place place) (couplings journal) ≤ 1

-- the standing offers at the places of a pair match
abbrev pub HasMatchingOffers : List Standing → Made → Type 0
HasMatchingOffers offers made =
    (a b : Standing) → Contains offers a → Contains offers b → a.place ≡ made.pair.a → b.place ≡ made.pair.b → IsTrue (is_match a b)

-- coupled offers match
abbrev pub CoupledOffersMatch : Type 0
CoupledOffersMatch = (users : List ℕ) (journal : Entries) → IsLegal users journal → All (HasMatchingOffers (standing journal)) (couplings journal)
