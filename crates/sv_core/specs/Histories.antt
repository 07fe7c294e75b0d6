-- A core as a state with a journal that others enter.
use Rattle.std.specs.Prelude.{◌≡◌, ◌++◌, ℕ, List, [], ◌∷◌, reverse}
use Rattle.sv_events.specs.Entry.{PlainEntry}
use Rattle.sv_events.specs.declared.event.Act.{Act}
use Rattle.sv_rules.specs.Entries.{Entries}
use Rattle.sv_rules.specs.Legal.{entry_for}
use Rattle.sv_turn.specs.Journals.{AddsOne}
use Rattle.sv_core.specs.Core.{PlainCore, core_after}

-- its entries, the newest first
abbrev pub entries_of : PlainCore → Entries
entries_of core = core.journal

-- its members are its users
abbrev pub members_of : PlainCore → List ℕ
members_of core = core.users

-- an entry is its party's
abbrev pub party_of_entry : PlainEntry → ℕ
party_of_entry e = e.party

-- its entries, the oldest first
abbrev pub entries_in_order : PlainCore → Entries
entries_in_order core = reverse core.journal

-- what an act adds to a core is one entry of its party behind all others, and the members stay
pub record IsOneAppended (core : PlainCore) (party : ℕ) (act : Act) : Type 0 where
  pub one : AddsOne party_of_entry party (entries_of core) (entries_of (core_after core party act))
  pub appended : entries_in_order (core_after core party act) ≡ entries_in_order core ++ entry_for core.journal party act ∷ []
  pub members : members_of (core_after core party act) ≡ members_of core

-- one act adds one entry
abbrev pub OneMoreIsAppended : Type 0
OneMoreIsAppended = (core : PlainCore) (party : ℕ) (act : Act) → IsOneAppended core party act
