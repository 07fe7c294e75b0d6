use Rattle.std.specs.Prelude.{ℕ, ◌+◌, Bool, true, false, ◌||◌, ◌&&◌, ◌==◌, not, nat_le, nat_lt, List, [], ◌∷◌, length, count_by, sum_by, Option, None, if◌then◌else◌}
use Rattle.std.specs.List.{list_any}
use Rattle.apl_arrays.specs.Array.{PlainArray}
use Rattle.sv_rules.specs.Limits.{most_entries, most_journal_elements}
use Rattle.sv_events.specs.Answer.{PlainAnswer}
use Rattle.sv_events.specs.Entry.{PlainEntry}
use Rattle.sv_events.specs.Fits.{ends_all}
use Rattle.sv_events.specs.Row.{act_row, answer_row, act_weight, answer_weight}
use Rattle.sv_events.specs.declared.event.Act.{Act}
use Rattle.sv_events.specs.declared.row.AnswerKind.{AnswerKind}
use Rattle.sv_events.specs.declared.row.AnswerKind.TheVariants as answer

-- a journal, the newest entry first
abbrev pub Entries : Type 0
Entries = List PlainEntry

-- the place of the entry that comes next
abbrev pub next_place : Entries → ℕ
next_place journal = length journal + 1

-- the entries that follow a place
abbrev pub since : ℕ → Entries → Entries
since place [] = []
since place (e ∷ journal) = if nat_lt place (next_place journal) then e ∷ since place journal else []

-- the act is a leave: it ends all offers of its party
abbrev pub is_leave : Act → Bool
is_leave act = ends_all (act_row act).row.ends

-- the kind of an answer
abbrev pub kind_of : PlainAnswer → AnswerKind
kind_of given = (answer_row given).row.kind

-- a grant
abbrev pub is_granted : AnswerKind → Bool
is_granted answer.Granted = true
is_granted _ = false

-- a value
abbrev pub is_value : AnswerKind → Bool
is_value answer.Value = true
is_value _ = false

-- a hold
abbrev pub is_held : AnswerKind → Bool
is_held answer.Held = true
is_held _ = false

-- the wait is given up
abbrev pub is_abandoned : AnswerKind → Bool
is_abandoned answer.Abandoned = true
is_abandoned _ = false

-- the value that a use gets, if it gets one
abbrev pub value_got : PlainAnswer → Option PlainArray
value_got given = if is_value (kind_of given) then (answer_row given).value else None

-- the party has left
abbrev pub has_left : Entries → ℕ → Bool
has_left journal party = list_any (λ e. e.party == party && is_leave e.act) journal

-- an entry weighs what its act and its answer weigh
abbrev pub entry_weight : PlainEntry → ℕ
entry_weight e = act_weight e.act + answer_weight e.answer

-- how many entries are no leaves
abbrev pub counted_entries : Entries → ℕ
counted_entries journal = count_by (λ e. not (is_leave e.act)) journal

-- how many elements the entries weigh
abbrev pub held_elements : Entries → ℕ
held_elements journal = sum_by entry_weight journal

-- the journal takes no more entries but leaves: 200,000 others, or 4,194,304 elements
abbrev pub is_full : Entries → Bool
is_full journal = nat_le most_entries (counted_entries journal) || nat_le most_journal_elements (held_elements journal)
