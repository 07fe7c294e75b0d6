-- Reading acts.
use Rattle.std.specs.Prelude.{◌^◌, ◌-◌, ℕ, List, Option, Result, Ok, Err, codes}
use Rattle.apl_arrays.specs.Array.{PlainArray}
use Rattle.sv_access.specs.declared.control.Control.{Control}
use Rattle.sv_events.specs.declared.event.Act.{Act}
use Rattle.sv_events.specs.declared.event.Act.TheVariants as act
use Rattle.text_reader.specs.Reading.{Reader, Reading, ◌>>=◌, as_read, read_literal, read_name}
use Rattle.text_reader.specs.NumberReading.{read_number}
use Rattle.sv_text.specs.ValueReading.{read_array, read_value}
use Rattle.sv_journal.specs.declared.act_word.ActWord.{ActWord}
use Rattle.sv_journal.specs.declared.act_word.ActWord.TheVariants.{Offer, Retract, SetControl, AskControl, AskState, AskDegree, AskParties, AskNames, Set, Use, Leave}
use Rattle.sv_journal.specs.ActWord.{act_words, act_word}
use Rattle.sv_journal.specs.HoldReading.{read_control}
use Rattle.sv_journal.specs.WordReading.{read_word}

-- a name behind a blank
unfoldable pub read_local : Reader (List ℕ)
read_local line = do
  rest ← read_literal (codes " ") line
  read_name rest

-- a party behind a blank
unfoldable pub read_party : Reader ℕ
read_party line = do
  rest ← read_literal (codes " ") line
  read_number 0 (2 ^ 32 - 1) rest

-- to whom an offer is made, its names and the value that is handed in
abbrev pub OfferParts : Type 0
OfferParts = ℕ × List ℕ × List ℕ × Option PlainArray

-- the offer of these parts
abbrev pub make_offer : OfferParts → Act
make_offer parts = act.Offer parts.0 parts.1 parts.2 parts.3

unfoldable pub read_offer_parts : Reader OfferParts
read_offer_parts line = do
  to ← read_party line
  local ← read_local to.1
  surrogate ← read_local local.1
  rest ← read_literal (codes " ") surrogate.1
  handed ← read_value rest
  Ok ((to.0, local.0, surrogate.0, handed.0), handed.1)

-- an offer, behind its word
abbrev pub read_offer : Reader Act
read_offer line = as_read make_offer (read_offer_parts line)

-- the name whose control is set, and the control
unfoldable pub read_set_control_parts : Reader (List ℕ × Control)
read_set_control_parts line = do
  local ← read_local line
  control ← read_control local.1
  Ok ((local.0, control.0), control.1)

-- the setting of a control, behind its word
abbrev pub read_set_control : Reader Act
read_set_control line = as_read (λ parts. act.SetControl parts.0 parts.1) (read_set_control_parts line)

-- the name that is set, and the value
unfoldable pub read_set_parts : Reader (List ℕ × PlainArray)
read_set_parts line = do
  local ← read_local line
  rest ← read_literal (codes " ") local.1
  new ← read_array rest
  Ok ((local.0, new.0), new.1)

-- a set, behind its word
abbrev pub read_set : Reader Act
read_set line = as_read (λ parts. act.Set parts.0 parts.1) (read_set_parts line)

-- what stands behind the word of an act
abbrev pub act_behind : ActWord → Reader Act
act_behind Offer line = read_offer line
act_behind Retract line = as_read act.Retract (read_local line)
act_behind SetControl line = read_set_control line
act_behind AskControl line = as_read act.AskControl (read_local line)
act_behind AskState line = as_read act.AskState (read_local line)
act_behind AskDegree line = as_read act.AskDegree (read_local line)
act_behind AskParties line = Ok (act.AskParties, line)
act_behind AskNames line = as_read act.AskNames (read_party line)
act_behind Set line = read_set line
act_behind Use line = as_read act.Use (read_local line)
act_behind Leave line = Ok (act.Leave, line)

-- an act
unfoldable pub read_act : Reader Act
read_act line = do
  word ← read_word act_word 0 act_words line
  act_behind word.0 word.1
