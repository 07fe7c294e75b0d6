-- What is named is what the rules ask.
use Rattle.std.specs.Prelude.{◌≡◌, ◌⊎◌, ◌∷◌, ◌++◌, ℕ, Some, None, option_map}
use Rattle.sv_events.specs.Entry.{PlainEntry}
use Rattle.sv_rules.specs.Control.{control_on, sharing}
use Rattle.sv_rules.specs.Entries.{Entries, next_place}
use Rattle.sv_rules.specs.Story.{access_on, handed_in, known}
use Rattle.sv_rules.specs.declared.standing.Standing.{Standing}
use Rattle.run_reasons.specs.Ground.{ground_now, sharing_in}
use Rattle.run_reasons.specs.Placed.{Placed, placed, placed_after, placed_control, placed_known}
use Rattle.run_reasons.specs.declared.placed.PlacedControl.{PlacedControl}

-- the entry at a place of a journal, whose newest is the first
pub record StandsAt (journal : Entries) (at : ℕ) (e : PlainEntry) : Type 0 where
  pub behind : Entries
  pub before : Entries
  pub whole : journal ≡ behind ++ e ∷ before
  pub there : at ≡ next_place before

-- a ground without its entries is what the rules share by
abbrev pub GroundsAreTheRules : Type 0
GroundsAreTheRules = (journal : Entries) (offer : Standing) → sharing_in (ground_now journal offer) ≡ sharing journal offer

-- a value that is known with its entry is the one that the rules know
abbrev pub KnownAsTheRulesDo : Type 0
KnownAsTheRulesDo = (journal : Entries) (offer : Standing) → option_map (λ one. one.value) (placed_known journal offer) ≡ known journal offer

-- the entry that is named for a control set it
abbrev pub ControlsAreOfTheirEntries : Type 0
ControlsAreOfTheirEntries =
    (journal : Entries) (offer : Standing) (set : PlacedControl) → placed_control journal offer ≡ Some set →
    (e : PlainEntry) × StandsAt journal set.at e × (control_on offer e ≡ Some set.control)

-- the entry that is named for a known value is the access by which it is known and set there or not, or the offer that handed it in
abbrev pub ValuesAreOfTheirEntries : Type 0
ValuesAreOfTheirEntries =
    (journal : Entries) (offer : Standing) (one : Placed) → placed_known journal offer ≡ Some one →
    (e : PlainEntry) × StandsAt journal one.at e × ((placed_after one.at (access_on offer e) None ≡ Some one) ⊎ (placed one.at (handed_in e.act) ≡ Some one))
