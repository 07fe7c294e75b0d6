use Rattle.std.specs.Prelude.{ℕ, List, []}
use Rattle.sv_events.specs.Answer.{PlainAnswer, plain_answer}
use Rattle.sv_events.specs.declared.event.Act.{Act}
use Rattle.sv_events.specs.declared.entry.Pair.{Pair}
use Rattle.sv_events.specs.declared.entry.Entry.{Entry}

-- an entry as plain data
pub record PlainEntry : Type 0 where
  pub party : ℕ
  pub act : Act
  pub answer : PlainAnswer
  pub made : List Pair

-- the entry, whatever room is left in its lists
abbrev pub plain_entry : Entry → PlainEntry
plain_entry e = record { party = e.party; act = e.act; answer = plain_answer e.answer; made = e.made.items }

-- an entry that couples nothing
abbrev pub uncoupled : ℕ → Act → PlainAnswer → PlainEntry
uncoupled party act answer = record { party = party; act = act; answer = answer; made = [] }
