-- Entries gone through for the offer at a place.
use Rattle.std.specs.Prelude.{◌≡◌, ℕ, Bool, List, filter}
use Rattle.std.specs.List.{list_any}
use Rattle.sv_events.specs.Entry.{PlainEntry}
use Rattle.sv_offer_laws.specs.LegalLaws.{made_at}
use Rattle.sv_rules.specs.Coupling.{both_stand, has_place, made_in}
use Rattle.sv_rules.specs.Entries.{Entries}
use Rattle.sv_rules.specs.Standing.{standing}
use Rattle.sv_rules.specs.declared.coupling.Made.{Made}
use Rattle.sv_rules.specs.declared.standing.Standing.{Standing}
use Rattle.run_reasons.specs.declared.walk.Walk.{Walk}

-- a pair of which both offers stand is among these
abbrev pub some_stands : List Made → List Standing → Bool
some_stands pairs offers = list_any (λ made. both_stand offers made.pair) pairs

-- the pairs of which both offers stand
abbrev pub pairs_that_stand : List Made → List Standing → List Made
pairs_that_stand pairs offers = filter (λ made. both_stand offers made.pair) pairs

-- the pairs of an entry at a place that have the offer at another
abbrev pub pairs_with : ℕ → ℕ → PlainEntry → List Made
pairs_with place at e = filter (has_place place) (made_at at e.made)

-- a walk has what stands in a journal, and the pairs made there that have the offer at the place
pub record Follows (place : ℕ) (journal : Entries) (walk : Walk) : Type 0 where
  pub offers : walk.standing.items ≡ standing journal
  pub pairs : walk.pairs.items ≡ filter (has_place place) (made_in journal)
