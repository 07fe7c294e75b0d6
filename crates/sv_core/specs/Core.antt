use Rattle.std.specs.Prelude.{◌≡◌, ◌≤◌, ℕ, not, List, [], ◌∷◌, count_by, All, Contains, IsTrue, Some}
use Rattle.apl_arrays.specs.Limits.{most_offers}
use Rattle.apl_arrays.specs.List.{Listed}
use Rattle.apl_arrays.specs.Parties.{is_user_number}
use Rattle.sv_events.specs.declared.entry.Pair.{Pair}
use Rattle.sv_events.specs.declared.event.Act.{Act}
use Rattle.sv_rules.specs.Entries.{Entries, has_left, is_leave}
use Rattle.sv_rules.specs.Control.{side_at}
use Rattle.sv_rules.specs.Coupling.{coupling_now}
use Rattle.sv_rules.specs.Legal.{IsLegal, MayFollow, entry_for}
use Rattle.sv_rules.specs.Standing.{standing}
use Rattle.sv_rules.specs.declared.coupling.Coupling.{Coupling}
use Rattle.sv_rules.specs.declared.standing.Standing.{Standing}
use Rattle.sv_story_laws.specs.StoryLaws.{offer_on}

-- a core as its callers see it: its users, and its journal with the newest entry first
pub record PlainCore : Type 0 where
  pub users : List ℕ
  pub journal : Entries

-- each has the number of a user: 1001 to 1999
abbrev pub ArePeople : List ℕ → Type 0
ArePeople users = All (λ user. IsTrue (is_user_number user)) users

-- how many users have not left
abbrev pub present : List ℕ → Entries → ℕ
present users journal = count_by (λ user. not (has_left journal user)) users

-- an empty list with room for the pairs of a leave: as many as its party may have offers
pub record IsSpare (pairs : Listed Pair) : Type 0 where
  pub empty : pairs.items ≡ []
  pub enough : most_offers ≤ pairs.room

-- the core after an act of a party, in a journal that leaves room for it
abbrev pub core_after : PlainCore → ℕ → Act → PlainCore
core_after core party act = record { users = core.users; journal = entry_for core.journal party act ∷ core.journal }

-- a party may make an act now, other than a leave, after a legal journal
pub record MayMake (core : PlainCore) (party : ℕ) (act : Act) : Type 0 where
  pub legal : IsLegal core.users core.journal
  pub may : MayFollow core.users core.journal (entry_for core.journal party act)
  pub stays : IsTrue (not (is_leave act))

-- a coupling that is found at a place: its offers stand, it is found at the lower one, and an offer there is that of its side
pub record IsFound (journal : Entries) (place : ℕ) (c : Coupling) : Type 0 where
  pub has_a : Contains (standing journal) c.a
  pub has_b : Contains (standing journal) c.b
  pub at_a : coupling_now journal c.a.place ≡ Some c
  pub side : (offer : Standing) → Contains (standing journal) offer → offer.place ≡ place → offer_on c (side_at c place) ≡ offer
