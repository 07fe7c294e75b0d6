-- What a call reads of a line.
use Rattle.std.specs.Prelude.{◌≡◌, List, ℕ, Result, Ok, Err}
use Rattle.apl_arrays.specs.Array.{PlainArray}
use Rattle.text_reader.specs.declared.unread.Unread.{Unread}
use Rattle.text_reader.specs.declared.unread.Unread.TheVariants.{Left, WantOfMemory as NoMemory}
use Rattle.sv_text.specs.declared.refused.ValueRefused.{ValueRefused}
use Rattle.sv_text.specs.declared.refused.ValueRefused.TheVariants.{BadValue, WantOfMemory}
use Rattle.sv_text.specs.Value.{IsValue}
use Rattle.sv_text.specs.ValueText.{array_text}

-- what is answered where the reading stops
abbrev pub refusal : Unread → ValueRefused
refusal (Left left) = BadValue
refusal NoMemory = WantOfMemory

-- why none is read: the line is no array's text
abbrev pub HoldsNoValue : ValueRefused → List ℕ → Type 0
HoldsNoValue BadValue line = (array : PlainArray) → IsValue array → line ≡ array_text array → ⊥
HoldsNoValue WantOfMemory line = Unit {0}

-- the array whose text the line is, unless memory ran out
abbrev pub ReadsValue : Result PlainArray ValueRefused → List ℕ → Type 0
ReadsValue (Ok array) line = IsValue array × (line ≡ array_text array)
ReadsValue (Err why) line = HoldsNoValue why line

-- this array, unless memory ran out
abbrev pub ReadsThis : Result PlainArray ValueRefused → PlainArray → Type 0
ReadsThis (Ok found) array = found ≡ array
ReadsThis (Err why) array = why ≡ WantOfMemory
