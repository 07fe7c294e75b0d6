use Rattle.std.specs.Prelude.{ℕ, List, Option}
use Rattle.apl_arrays.specs.Array.{PlainArray}
use Rattle.sv_access.specs.declared.control.Control.{Control}
use Rattle.sv_events.specs.declared.event.Hold.{Hold}
use Rattle.sv_events.specs.declared.event.Answer.{Answer}
use Rattle.sv_events.specs.declared.event.Answer.TheVariants.{Degree, Granted, Value, NoValue, Held, Abandoned, NotShared, OfferLimit, Full, Vector, Parties, Names, Kept, Done}

-- an answer as plain data
pub data PlainAnswer : Type 0 where
  degree : ℕ → PlainAnswer
  granted : PlainAnswer
  value : PlainArray → PlainAnswer
  no_value : PlainAnswer
  held : Hold → PlainAnswer
  abandoned : Hold → PlainAnswer
  not_shared : PlainAnswer
  offer_limit : PlainAnswer
  full : PlainAnswer
  vector : Control → PlainAnswer
  parties : List ℕ → PlainAnswer
  names : List (List ℕ) → PlainAnswer
  kept : ℕ → Option PlainArray → PlainAnswer
  done : PlainAnswer

-- the answer, whatever room is left in its lists
abbrev pub plain_answer : Answer → PlainAnswer
plain_answer (Degree d) = degree d
plain_answer Granted = granted
plain_answer (Value v) = value v
plain_answer NoValue = no_value
plain_answer (Held hold) = held hold
plain_answer (Abandoned hold) = abandoned hold
plain_answer NotShared = not_shared
plain_answer OfferLimit = offer_limit
plain_answer Full = full
plain_answer (Vector control) = vector control
plain_answer (Parties list) = parties list.items
plain_answer (Names list) = names list.items
plain_answer (Kept d v) = kept d v
plain_answer Done = done
