-- Functions that wait, where the innermost goes to another line, or keeps what was read of one.
use Rattle.std.specs.Arc.{arc_value}
use Rattle.std.specs.Prelude.{◌≡◌, ◌≤◌, ◌-◌, ◌++◌, ◌⊎◌, ℕ, List, [], ◌∷◌, Option, Some, length, slice_get}
use Rattle.apl_values.specs.declared.reading.LineReading.{LineReading}
use Rattle.apl_statements.specs.declared.waiting.Waiting.{Waiting}
use Rattle.apl_statements.specs.Stack.{PlainWaiting, at_line}

-- the innermost function is at this line
abbrev pub standing_on : ℕ → List PlainWaiting → List PlainWaiting
standing_on number [] = []
standing_on number (w ∷ ws) = at_line w.function number w.caller ∷ ws

-- one function more is under way over what waited, and so many parts of its caller are left
abbrev pub StandsOver : List PlainWaiting → ℕ → List PlainWaiting → Type 0
StandsOver waited parts [] = ⊥
StandsOver waited parts (w ∷ ws) = (ws ≡ waited) × (length w.caller.nodes ≡ parts)

-- the last of these functions is at this line, and the others are as they were
pub record IsStandingAt (number : ℕ) (before after : List Waiting) : Type 0 where
  pub others : List Waiting
  pub waiting : Waiting
  pub was : before ≡ others ++ waiting ∷ []
  pub is : after ≡ others ++ record waiting { number = number } ∷ []

-- what is kept of lines was kept before, or is this reading at its place
abbrev pub AreKeptOrRead : {A : Type 0} → (A → LineReading) → ℕ → LineReading → List (Option A) → List (Option A) → Type 0
AreKeptOrRead {A = A} read at reading before after = (k : ℕ) (kept : A) → slice_get after k ≡ Some (Some kept) → (slice_get before k ≡ Some (Some kept)) ⊎ ((k ≡ at) × (read kept ≡ reading))

-- a reading is kept of the line of this number; the first has number 1
pub record IsKeptAt {A : Type 0} (readings : List (Option A)) (number : ℕ) : Type 0 where
  pub reading : A
  pub some : 1 ≤ number
  pub there : slice_get readings (number - 1) ≡ Some (Some reading)

-- the last of these functions keeps what it kept of its lines, or this reading at its place, and the others are as they were
pub record IsKeepingAt (at : ℕ) (reading : LineReading) (before after : List Waiting) : Type 0 where
  pub others : List Waiting
  pub waiting : Waiting
  pub keeping : Waiting
  pub was : before ≡ others ++ waiting ∷ []
  pub is : after ≡ others ++ keeping ∷ []
  pub same : keeping ≡ record waiting { readings = keeping.readings }
  pub kept : AreKeptOrRead arc_value at reading waiting.readings.items keeping.readings.items
