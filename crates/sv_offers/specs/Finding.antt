-- How offers and couplings are found: maps that have of each key the first.
use Rattle.std.specs.Prelude.{◌≡◌, ◌==◌, ◌&&◌, ℕ, Bool, List, find, nat_eq}
use Rattle.std.specs.HashMap.{HashMap, get}
use Rattle.apl_arrays.specs.Name.{same_name}
use Rattle.sv_rules.specs.Coupling.{has_place}
use Rattle.sv_rules.specs.Standing.{own_offer}
use Rattle.sv_rules.specs.declared.coupling.Made.{Made}
use Rattle.sv_rules.specs.declared.standing.Standing.{Standing}

-- two parties with their local names are the same
abbrev pub same_key : (ℕ × List ℕ) → (ℕ × List ℕ) → Bool
same_key one other = one.0 == other.0 && same_name one.1 other.1

module _ {S : Type 0} where
  -- offers are found by their parties and local names, of each the first
  abbrev pub FindsNames : HashMap (ℕ × List ℕ) Standing S → List Standing → Type 0
  FindsNames named offers = (party : ℕ) (local : List ℕ) → get same_key named (party, local) ≡ own_offer offers party local

  -- couplings are found by the places of both their offers
  abbrev pub FindsMates : HashMap ℕ Made S → List Made → Type 0
  FindsMates mated coupled = (place : ℕ) → get nat_eq mated place ≡ find (has_place place) coupled
