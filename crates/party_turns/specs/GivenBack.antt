-- What a run gives back, however it ends: where memory ran out too.
use Rattle.std.specs.Prelude.{◌≡◌, ℕ, List, Option, drop, length}
use Rattle.apl_arrays.specs.Array.{PlainArray}
use Rattle.apl_io.specs.Clock.{Ticks}
use Rattle.apl_io.specs.Content.{Told}
use Rattle.auxiliaries.specs.Clock.{RepliesByReading}
use Rattle.auxiliaries.specs.Protocol.{TextState, idle}
use Rattle.auxiliaries.specs.Run.{CameTo}
use Rattle.auxiliaries.specs.Served.{Replies, Served, StaysServed, forgotten}

-- a clock came to where it is by the readings that were asked of it
abbrev pub ClockCame : {C : Type 0} → (C → Option Ticks) → (C → ℕ) → C → C → Type 0
ClockCame ticks faults before after = CameTo (λ old party new. new ≡ old) (λ old party value answer new. RepliesByReading ticks faults old value answer new) (λ old party value new. new ≡ old) before after

-- a text store came to where it is by the protocol of text files, which begins between files and stands somewhere at the end
pub record TextCame {T : Type 0} (told : T → Option (Told (List ℕ))) (faults : T → ℕ) (before after : T) : Type 0 where
  pub state : TextState
  pub came : CameTo {S = Served T} (λ old party new. new ≡ forgotten old) (λ old party value answer new. Replies told faults old value answer new) (λ old party value new. StaysServed told faults old new)
      (record { store = before; state = idle }) (record { store = after; state = state })

-- shelves come back: as many as were given, and those behind the users' as they were
pub record ComeBack {K : Type 0} (users : ℕ) (given back : List K) : Type 0 where
  pub many : length back ≡ length given
  pub others : drop users back ≡ drop users given
