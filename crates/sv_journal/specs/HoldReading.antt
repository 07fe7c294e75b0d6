-- Reading what refuses an access, and controls.
use Rattle.std.specs.Prelude.{◌==◌, ◌∷◌, [], ℕ, Bool, List, Result, Ok, Err, codes}
use Rattle.sv_access.specs.declared.control.Control.{Control}
use Rattle.sv_access.specs.declared.verdict.Owners.{Owners}
use Rattle.sv_access.specs.declared.verdict.Owners.TheVariants.{Mine, Partner, Both}
use Rattle.sv_access.specs.Control.{four_elements}
use Rattle.sv_events.specs.declared.event.Hold.{Hold}
use Rattle.text_reader.specs.Reading.{Reader, Reading, ◌>>=◌, as_read, read_literal}
use Rattle.text_reader.specs.NumberReading.{read_number}
use Rattle.sv_journal.specs.EntryText.{owners_text}
use Rattle.sv_journal.specs.WordReading.{read_word}

-- an element of a control or of a state, behind a blank
unfoldable pub read_bit : Reader Bool
read_bit line = do
  rest ← read_literal (codes " ") line
  bit ← read_number 0 1 rest
  Ok (bit.0 == 1, bit.1)

-- the four elements of a control or of a state
abbrev pub Bits : Type 0
Bits = Bool × Bool × Bool × Bool

-- the control of four bits
abbrev pub control_of : Bits → Control
control_of bits = four_elements bits.0 bits.1 bits.2 bits.3

unfoldable pub read_bits : Reader Bits
read_bits line = do
  first ← read_bit line
  second ← read_bit first.1
  third ← read_bit second.1
  fourth ← read_bit third.1
  Ok ((first.0, second.0, third.0, fourth.0), fourth.1)

-- a control of four elements
abbrev pub read_control : Reader Control
read_control line = as_read control_of (read_bits line)

-- what refuses an access, behind a blank
unfoldable pub read_hold : Reader Hold
read_hold line = do
  rest ← read_literal (codes " ") line
  element ← read_number 1 4 rest
  behind ← read_literal (codes " ") element.1
  owners ← read_word owners_text 0 (Mine ∷ Partner ∷ Both ∷ []) behind
  Ok (record { element = element.0; owners = owners.0 }, owners.1)
