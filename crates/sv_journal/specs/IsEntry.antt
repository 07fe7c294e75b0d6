-- What may stand in a journal, whether it is legal or not.
use Rattle.std.specs.Prelude.{◌≡◌, ◌<◌, ◌≤◌, ◌^◌, ◌++◌, ℕ, true, List, All, length, take}
use Rattle.apl_arrays.specs.Name.{IsName}
use Rattle.sv_access.specs.declared.control.Control.{Control}
use Rattle.sv_events.specs.Answer.{PlainAnswer, degree, granted, value, no_value, held, abandoned, not_shared, offer_limit, full, vector, parties, names, kept, done}
use Rattle.sv_events.specs.Entry.{PlainEntry}
use Rattle.sv_events.specs.Fits.{answer_fits}
use Rattle.sv_events.specs.declared.event.Act.{Act}
use Rattle.sv_events.specs.declared.event.Act.TheVariants.{Offer, Retract, SetControl, AskControl, AskState, AskDegree, AskParties, AskNames, Set, Use, Leave}
use Rattle.sv_events.specs.declared.entry.Pair.{Pair}
use Rattle.sv_text.specs.Value.{IsValue, IsValueOrNone}
use Rattle.sv_journal.specs.EntryText.{entry_text}

-- a party's number
abbrev pub IsPartyNumber : ℕ → Type 0
IsPartyNumber party = party < 2 ^ 32

-- four elements
abbrev pub IsControl : Control → Type 0
IsControl control = length control.0 ≡ 4

-- an act of parties, names and values
abbrev pub IsAct : Act → Type 0
IsAct (Offer to local surrogate handed) = IsPartyNumber to × IsName local × IsName surrogate × IsValueOrNone handed
IsAct (Retract local) = IsName local
IsAct (SetControl local control) = IsName local × IsControl control
IsAct (AskControl local) = IsName local
IsAct (AskState local) = IsName local
IsAct (AskDegree local) = IsName local
IsAct AskParties = Unit {0}
IsAct (AskNames party) = IsPartyNumber party
IsAct (Set local new) = IsName local × IsValue new
IsAct (Use local) = IsName local
IsAct Leave = Unit {0}

-- an answer of values, controls, parties and names, which does not say that the journal is full
abbrev pub IsAnswer : PlainAnswer → Type 0
IsAnswer (degree d) = Unit {0}
IsAnswer granted = Unit {0}
IsAnswer (value got) = IsValue got
IsAnswer no_value = Unit {0}
IsAnswer (held hold) = Unit {0}
IsAnswer (abandoned hold) = Unit {0}
IsAnswer not_shared = Unit {0}
IsAnswer offer_limit = Unit {0}
IsAnswer full = ⊥
IsAnswer (vector control) = IsControl control
IsAnswer (parties list) = All IsPartyNumber list
IsAnswer (names list) = All IsName list
IsAnswer (kept d known) = IsValueOrNone known
IsAnswer done = Unit {0}

-- two places, the lower one first, counted from 1
pub record IsPair (pair : Pair) : Type 0 where
  pub least : 1 ≤ pair.a
  pub lower : pair.a < pair.b
  pub most : pair.b < 2 ^ 64

-- an entry at a place, which counts from 1: its answer fits its act
pub record IsEntry (place : ℕ) (entry : PlainEntry) : Type 0 where
  pub least : 1 ≤ place
  pub most : place < 2 ^ 64
  pub party : IsPartyNumber entry.party
  pub act : IsAct entry.act
  pub answer : IsAnswer entry.answer
  pub answered : answer_fits entry.act entry.answer ≡ true
  pub made : All IsPair entry.made

-- a text that is an entry's
pub record IsEntryText (line : List ℕ) : Type 0 where
  pub place : ℕ
  pub entry : PlainEntry
  pub is : IsEntry place entry
  pub text : line ≡ entry_text place entry

-- some entry's text begins with this part
pub record BeginsEntry (part : List ℕ) : Type 0 where
  pub rest : List ℕ
  pub whole : IsEntryText (part ++ rest)

-- the line is no entry's text, and this is how far it can be read as the front of one
pub record DepartsAt (line : List ℕ) (at : ℕ) : Type 0 where
  pub within : at ≤ length line
  pub begins : BeginsEntry (take at line)
  pub longest : (longer : ℕ) → longer ≤ length line → BeginsEntry (take longer line) → longer ≤ at
  pub none : IsEntryText line → ⊥
