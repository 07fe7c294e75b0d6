-- The clock auxiliary.
use Rattle.std.specs.Prelude.{◌≡◌, ◌≤◌, ◌&&◌, ℕ, ℤ, pos, negsuc, Bool, true, false, List, [], ◌∷◌, Option, None, Some}
use Rattle.std.specs.Bool.{MatchBool}
use Rattle.std.specs.Ordering.{int_eq}
use Rattle.apl_arrays.specs.Array.{PlainArray, PlainItems, numbers, chars, scalar}
use Rattle.apl_io.specs.Clock.{Ticks, Ticked}
use Rattle.apl_io.specs.Faults.{Rose}

-- no axes
abbrev pub has_no_axes : List ℕ → Bool
has_no_axes [] = true
has_no_axes (axis ∷ shape) = false

-- the number 0 alone
abbrev pub is_zero : PlainItems → Bool
is_zero (numbers (number ∷ [])) = int_eq number (pos 0)
is_zero (numbers list) = false
is_zero (chars glyphs) = false

-- the numeric scalar 0 asks for a reading
abbrev pub asks_reading : PlainArray → Bool
asks_reading value = has_no_axes value.shape && is_zero value.items

-- a reading as an answer, or ¯2 where the clock failed
abbrev pub reading_answer : Option ℤ → PlainArray
reading_answer (Some reading) = scalar reading
reading_answer None = scalar (negsuc 1)

module _ {C : Type 0} (told : C → Option Ticks) (faults : C → ℕ) where
  -- one call of the clock: its reading, or none where it failed, which its count of faults shows
  pub record IsReadingStep (old : C) (answer : PlainArray) (new : C) : Type 0 where
    pub reading : Option ℤ
    pub told_reading : Ticked (told old) reading (told new)
    pub counted : faults old ≤ faults new
    pub cause : reading ≡ None → Rose (faults old) (faults new)
    pub answered : answer ≡ reading_answer reading

  -- the answer to a value: every other one is answered by ¯1, with no call of the clock
  abbrev pub RepliesByReading : C → PlainArray → PlainArray → C → Type 0
  RepliesByReading old value answer new = MatchBool (asks_reading value) (IsReadingStep old answer new) ((answer ≡ scalar (negsuc 0)) × (new ≡ old))
