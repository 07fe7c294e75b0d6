use Rattle.std.specs.Prelude.{◌≡◌, ℕ, Bool, true, false, ◌||◌, ◌&&◌, ◌==◌, not, List, [], ◌∷◌, Option, Some, None, IsTrue, is_some, option_map, if◌then◌else◌}
use Rattle.std.specs.List.{list_any}
use Rattle.apl_arrays.specs.Array.{PlainArray}
use Rattle.sv_events.specs.Answer.{PlainAnswer, full}
use Rattle.sv_events.specs.Entry.{PlainEntry}
use Rattle.sv_events.specs.Row.{act_row}
use Rattle.sv_events.specs.Work.{act_of}
use Rattle.sv_events.specs.declared.event.Act.{Act}
use Rattle.sv_events.specs.declared.work.Work.{Work}
use Rattle.sv_events.specs.declared.work.Work.TheVariants as work
use Rattle.sv_rules.specs.Entries.{Entries, next_place, is_leave, kind_of, is_abandoned, has_left, is_full}
use Rattle.sv_rules.specs.Outcome.{outcome}
use Rattle.sv_rules.specs.Refused.{awaited, still_refused}
use Rattle.aux_parties.specs.Auxiliaries.{is_auxiliary}
use Rattle.sv_rules.specs.Work.{work_of, is_stuck}

-- the number is a user's
abbrev pub is_user : List ℕ → ℕ → Bool
is_user users party = list_any (λ user. user == party) users

-- the reply among an act's values: that which is handed in, where the work is a reply
abbrev pub reply_in : Work → Option PlainArray → Option PlainArray
reply_in (work.Reply local) handed = handed
reply_in _ handed = None

-- the act of some work at a place, where the value handed in is the reply, if the work is one
abbrev pub act_for : Work → ℕ → Option PlainArray → Option Act
act_for due place handed = act_of due place (reply_in due handed)

-- what a user may do that would do this: anything, but where it waits a leave or the act that it waits for
abbrev pub may_do : Option Act → Act → Act
may_do None act = act
may_do (Some awaited) act = if is_leave act then act else awaited

-- the act that a party may make where it would make this: an auxiliary that of its work
abbrev pub act_due : Bool → Entries → ℕ → Act → Option Act
act_due true journal party act = act_for (work_of journal party) (next_place journal) (act_row act).hands_in
act_due false journal party act = Some (may_do (awaited journal party) act)

-- where a wait is given up, nobody can go on
abbrev pub IsStuckIf : Bool → List ℕ → Entries → Type 0
IsStuckIf true users journal = IsTrue (is_stuck users journal)
IsStuckIf false users journal = Unit {0}

-- the entry may follow the journal: a party that has not left made it, with an act that it may make; there is room for
-- it; it has the answer and the pairs of its act; and it gives up a wait only where nobody can go on
pub record MayFollow (users : List ℕ) (journal : Entries) (e : PlainEntry) : Type 0 where
  pub party : IsTrue (is_user users e.party || is_auxiliary e.party)
  pub present : IsTrue (not (has_left journal e.party))
  pub due : act_due (is_auxiliary e.party) journal e.party e.act ≡ Some e.act
  pub room : IsTrue (is_leave e.act || not (is_full journal))
  pub answer : e.answer ≡ (outcome journal e.party e.act).answer
  pub made : e.made ≡ (outcome journal e.party e.act).made
  pub given_up : IsStuckIf (is_abandoned (kind_of e.answer)) users journal

-- each entry may follow those before it
abbrev pub IsLegal : List ℕ → Entries → Type 0
IsLegal users [] = Unit {0}
IsLegal users (e ∷ journal) = MayFollow users journal e × IsLegal users journal

-- the entry that an act makes
abbrev pub entry_for : Entries → ℕ → Act → PlainEntry
entry_for journal party act = record {
  party = party;
  act = act;
  answer = (outcome journal party act).answer;
  made = (outcome journal party act).made;
}

-- the answer to an act other than a leave
abbrev pub answer_to : Entries → ℕ → Act → PlainAnswer
answer_to journal party act = if is_full journal then full else (outcome journal party act).answer

-- the journal after an act other than a leave: a full one stays as it is
abbrev pub journal_after : Entries → ℕ → Act → Entries
journal_after journal party act = if is_full journal then journal else entry_for journal party act ∷ journal

-- a party that tries again still waits: there is room, it is refused now, and somebody can go on
abbrev pub is_still_held : List ℕ → Entries → ℕ → Bool
is_still_held users journal party = not (is_full journal) && is_some (still_refused journal party) && not (is_stuck users journal)

-- the answer to a party that tries again: none while it is still held
abbrev pub retried : List ℕ → Entries → ℕ → Option PlainAnswer
retried users journal party = if is_still_held users journal party then None else option_map (answer_to journal party) (awaited journal party)
