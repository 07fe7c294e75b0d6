-- A clock that tells its readings answers in one way.
use Rattle.std.proofs.Common.{◌≡◌, ℕ, negsuc, Bool, true, false, Option, Some, sym, ap, subst, ◌∙◌}
use Rattle.std.specs.Bool.{MatchBool}
use Rattle.apl_arrays.specs.Array.{PlainArray, scalar}
use Rattle.apl_io.specs.Clock.{Ticks, Ticked, next_reading, after_reading}
use Rattle.auxiliaries.specs.Clock.{IsReadingStep, RepliesByReading, asks_reading, reading_answer}
use Rattle.bundle_devices.proofs.Determined.{IsDetermined}

module _ {C : Type 0} (ticks : C → Option Ticks) (faults : C → ℕ) where
  -- two clocks tell the same
  pub record TickAlike (a b : C) : Type 0 where
    pub told : Ticks
    pub one : ticks a ≡ Some told
    pub other : ticks b ≡ Some told

  -- a reading of a clock that tells so much
  read_of : (told : Ticks) (c d : C) (answer : PlainArray) → ticks c ≡ Some told → (step : IsReadingStep ticks faults c answer d) → (step.reading ≡ next_reading told) × (ticks d ≡ Some (after_reading told))
  read_of told c d answer is step = subst (λ (o : Option Ticks). Ticked o step.reading (ticks d)) is step.told_reading

  by_asking : (asks : Bool) (a b : C) (answer other : PlainArray) (c d : C) → TickAlike a b
      → MatchBool asks (IsReadingStep ticks faults a answer c) ((answer ≡ scalar (negsuc 0)) × (c ≡ a))
      → MatchBool asks (IsReadingStep ticks faults b other d) ((other ≡ scalar (negsuc 0)) × (d ≡ b))
      → (answer ≡ other) × TickAlike c d
  by_asking true a b answer other c d alike step another =
      let first = read_of alike.told a c answer alike.one step in
      let second = read_of alike.told b d other alike.other another in
      (step.answered ∙ (ap reading_answer (first.0 ∙ sym second.0) ∙ sym another.answered), record { told = after_reading alike.told; one = first.1; other = second.1 })
  by_asking false a b answer other c d alike step another =
      (step.0 ∙ sym another.0, record { told = alike.told; one = ap ticks step.1 ∙ alike.one; other = ap ticks another.1 ∙ alike.other })

  -- the replies of a clock that begins with these readings are determined
  pub clocks_are_determined : (told : Ticks) → IsDetermined (λ old party new. new ≡ old) (λ old party value answer new. RepliesByReading ticks faults old value answer new) (λ c. ticks c ≡ Some told) TickAlike
  clocks_are_determined told = record {
    begun = λ a b is are. record { told = told; one = is; other = are };
    forgotten = λ a b party c d alike same other. record { told = alike.told; one = ap ticks same ∙ alike.one; other = ap ticks other ∙ alike.other };
    replied = λ a b party value answer other c d alike step another. by_asking (asks_reading value) a b answer other c d alike step another;
  }
