-- Which entries may follow: what a user may do, and what an auxiliary does.
use Rattle.std.specs.Prelude.{◌≡◌, ◌||◌, ℕ, List, false, not, Option, Some, None, IsTrue}
use Rattle.apl_arrays.specs.Array.{PlainArray}
use Rattle.sv_events.specs.Entry.{PlainEntry}
use Rattle.sv_events.specs.Work.{act_of}
use Rattle.sv_events.specs.declared.event.Act.{Act}
use Rattle.sv_events.specs.declared.event.Act.TheVariants.{Leave}
use Rattle.sv_rules.specs.Entries.{Entries, next_place, has_left, is_full, is_leave}
use Rattle.sv_rules.specs.Legal.{IsLegal, MayFollow, entry_for, is_still_held, is_user}
use Rattle.sv_rules.specs.Refused.{awaited}
use Rattle.aux_parties.specs.Auxiliaries.{is_auxiliary}
use Rattle.sv_rules.specs.Work.{work_of}

-- a user that has not left
pub record IsPresent (users : List ℕ) (journal : Entries) (party : ℕ) : Type 0 where
  pub user : IsTrue (is_user users party)
  pub person : is_auxiliary party ≡ false
  pub present : IsTrue (not (has_left journal party))

-- a user that does not wait may do whatever there is room for
abbrev pub StepsMayFollow : Type 0
StepsMayFollow =
    (users : List ℕ) (journal : Entries) (party : ℕ) (act : Act) → IsPresent users journal party → awaited journal party ≡ None →
    IsTrue (is_leave act || not (is_full journal)) → MayFollow users journal (entry_for journal party act)

-- each user may leave, also one that waits, and also where the journal is full
abbrev pub LeavesMayFollow : Type 0
LeavesMayFollow = (users : List ℕ) (journal : Entries) (party : ℕ) → IsPresent users journal party → MayFollow users journal (entry_for journal party Leave)

-- a user that waits may make its act again, unless it is still held
abbrev pub RetriesMayFollow : Type 0
RetriesMayFollow =
    (users : List ℕ) (journal : Entries) (party : ℕ) (act : Act) → IsPresent users journal party → awaited journal party ≡ Some act →
    is_full journal ≡ false → is_still_held users journal party ≡ false → MayFollow users journal (entry_for journal party act)

-- and where it is still held no entry of this act may follow
abbrev pub HeldRetriesMayNotFollow : Type 0
HeldRetriesMayNotFollow =
    (users : List ℕ) (journal : Entries) (e : PlainEntry) → awaited journal e.party ≡ Some e.act → IsTrue (is_still_held users journal e.party) →
    ¬ MayFollow users journal e

-- no auxiliary leaves
abbrev pub AuxiliariesDoNotLeave : Type 0
AuxiliariesDoNotLeave =
    (users : List ℕ) (journal : Entries) → IsLegal users journal → (party : ℕ) → IsTrue (is_auxiliary party) → has_left journal party ≡ false

-- an auxiliary may make the act of its work
abbrev pub WorkMayFollow : Type 0
WorkMayFollow =
    (users : List ℕ) (journal : Entries) → IsLegal users journal → (party : ℕ) (reply : Option PlainArray) (act : Act) → IsTrue (is_auxiliary party) →
    act_of (work_of journal party) (next_place journal) reply ≡ Some act → MayFollow users journal (entry_for journal party act)
