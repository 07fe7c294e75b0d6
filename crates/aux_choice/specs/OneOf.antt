-- One of two that may answer behind an auxiliary: which of them it is does not change.
use Rattle.std.specs.Prelude.{◌≡◌, ℕ, Bool, true, false, List}
use Rattle.apl_arrays.specs.Array.{PlainArray}
use Rattle.auxiliaries.specs.Run.{CameTo, Event, IsReplierRun}
use Rattle.aux_choice.specs.declared.one_of.OneOf.{OneOf}
use Rattle.aux_choice.specs.declared.one_of.OneOf.TheVariants.{First, Second}

module _ {X Y : Type 0} where
  -- it is the first
  abbrev pub is_first : OneOf X Y → Bool
  is_first (First x) = true
  is_first (Second y) = false

  -- the one that it is begins anew with a party
  abbrev pub Forgets : (X → ℕ → X → Type 0) → (Y → ℕ → Y → Type 0) → OneOf X Y → ℕ → OneOf X Y → Type 0
  Forgets forgets_first forgets_second (First old) party (First new) = forgets_first old party new
  Forgets forgets_first forgets_second (First old) party (Second new) = ⊥
  Forgets forgets_first forgets_second (Second old) party (First new) = ⊥
  Forgets forgets_first forgets_second (Second old) party (Second new) = forgets_second old party new

  -- the one that it is replies to a party's value
  abbrev pub Replies : (X → ℕ → PlainArray → PlainArray → X → Type 0) → (Y → ℕ → PlainArray → PlainArray → Y → Type 0) → OneOf X Y → ℕ → PlainArray → PlainArray → OneOf X Y → Type 0
  Replies replies_first replies_second (First old) party value answer (First new) = replies_first old party value answer new
  Replies replies_first replies_second (First old) party value answer (Second new) = ⊥
  Replies replies_first replies_second (Second old) party value answer (First new) = ⊥
  Replies replies_first replies_second (Second old) party value answer (Second new) = replies_second old party value answer new

  -- where memory ran out over its answer it is the one that it was, in a state that stays to that one
  abbrev pub Wants : (X → ℕ → PlainArray → X → Type 0) → (Y → ℕ → PlainArray → Y → Type 0) → OneOf X Y → ℕ → PlainArray → OneOf X Y → Type 0
  Wants wants_first wants_second (First old) party value (First new) = wants_first old party value new
  Wants wants_first wants_second (First old) party value (Second new) = ⊥
  Wants wants_first wants_second (Second old) party value (First new) = ⊥
  Wants wants_first wants_second (Second old) party value (Second new) = wants_second old party value new

module _ {X Y : Type 0} (forgets_first : X → ℕ → X → Type 0) (replies_first : X → ℕ → PlainArray → PlainArray → X → Type 0) (forgets_second : Y → ℕ → Y → Type 0) (replies_second : Y → ℕ → PlainArray → PlainArray → Y → Type 0) where
  -- these events lead one of two from one state to another
  abbrev pub IsRunOfOne : OneOf X Y → List Event → OneOf X Y → Type 0
  IsRunOfOne start events end = IsReplierRun (Forgets forgets_first forgets_second) (Replies replies_first replies_second) start events end

  -- what begins as the first ends as the first, and its run is a run of that one
  abbrev pub FirstStays : Type 0
  FirstStays = (start : X) (events : List Event) (end : OneOf X Y) → IsRunOfOne (First start) events end → (last : X) × (end ≡ First last) × IsReplierRun forgets_first replies_first start events last

  -- so it is with the second
  abbrev pub SecondStays : Type 0
  SecondStays = (start : Y) (events : List Event) (end : OneOf X Y) → IsRunOfOne (Second start) events end → (last : Y) × (end ≡ Second last) × IsReplierRun forgets_second replies_second start events last

module _ {X Y : Type 0} (forgets_first : X → ℕ → X → Type 0) (replies_first : X → ℕ → PlainArray → PlainArray → X → Type 0) (wants_first : X → ℕ → PlainArray → X → Type 0)
    (forgets_second : Y → ℕ → Y → Type 0) (replies_second : Y → ℕ → PlainArray → PlainArray → Y → Type 0) (wants_second : Y → ℕ → PlainArray → Y → Type 0) where
  -- one of two came from one state to another, where memory may have run out over its last answer
  abbrev pub CameAsOne : OneOf X Y → OneOf X Y → Type 0
  CameAsOne start end = CameTo (Forgets forgets_first forgets_second) (Replies replies_first replies_second) (Wants wants_first wants_second) start end

  -- what began as the first is the first there, and came there as that one does
  abbrev pub FirstComes : Type 0
  FirstComes = (start : X) (end : OneOf X Y) → CameAsOne (First start) end → (last : X) × (end ≡ First last) × CameTo forgets_first replies_first wants_first start last

  -- so it is with the second
  abbrev pub SecondComes : Type 0
  SecondComes = (start : Y) (end : OneOf X Y) → CameAsOne (Second start) end → (last : Y) × (end ≡ Second last) × CameTo forgets_second replies_second wants_second start last
