-- What a clock tells, and what a reading does to it.
use Rattle.std.specs.Prelude.{◌≡◌, ℕ, ℤ, List, Option, None, Some, IfSome, if◌then◌else◌}
use Rattle.apl_arrays.specs.List.{first_of, others_of}
use Rattle.apl_io.specs.Content.{fails_after}
use Rattle.apl_io.specs.Faults.{one_more}

-- what a clock tells: the readings to come, the calls so far, and the numbers of the calls that are to fail
pub record Ticks : Type 0 where
  pub left : List ℤ
  pub calls : ℕ
  pub fails : List ℕ

-- the next reading, or none where the call fails: its number is one of those that are to fail, or no reading is left
abbrev pub next_reading : Ticks → Option ℤ
next_reading ticks = if fails_after ticks.calls ticks.fails then None else first_of ticks.left

-- after that call, which takes a reading unless it fails
abbrev pub after_reading : Ticks → Ticks
after_reading ticks = record { left = if fails_after ticks.calls ticks.fails then ticks.left else others_of ticks.left; calls = one_more ticks.calls; fails = ticks.fails }

-- a reading, or none where the call failed, of a clock that tells what is to come
abbrev pub Ticked : Option Ticks → Option ℤ → Option Ticks → Type 0
Ticked before answer now = IfSome before (λ old. (answer ≡ next_reading old) × (now ≡ Some (after_reading old)))
