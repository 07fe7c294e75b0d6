-- Rules that are asked row by row, and what they tell of numbers.
use Rattle.std.proofs.Common.{◌≡◌, ℕ, ◌<◌, Bool, true, false, Option, None, refl, sym}
use Rattle.apl_items.specs.Places.{Follows, GivesEach, LacksItem, lacks_item}
use Rattle.apl_items.proofs.PlaceLemmas.{nothing_lacks_at, something_lacks}
use Rattle.apl_scalar.proofs.MemoryLemmas.{has_as_told}

-- a place at which a call gives none is one at which a definition does
pub lacks_as_told : {T : Type 0} (count : ℕ) (answers : ℕ → Option T → Type 0) (rule : ℕ → Option T) → Follows answers count rule
    → (place : ℕ) × (place < count) × answers place None → LacksItem count rule
lacks_as_told count answers rule follows at = (at.0, at.1, sym (follows at.0 None at.1 at.2))

-- a look for a place without an item tells whether one is lacking
pub told_lacking : {T : Type 0} (count : ℕ) (answers : ℕ → Option T → Type 0) (rule : ℕ → Option T) (lacks : Bool) → Follows answers count rule
    → (lacks ≡ true → (place : ℕ) × (place < count) × answers place None) → (lacks ≡ false → GivesEach count answers) → lacks ≡ lacks_item count rule
told_lacking count answers rule true follows some none = sym (something_lacks count rule (lacks_as_told count answers rule follows (some refl)))
told_lacking count answers rule false follows some none = sym (nothing_lacks_at count rule (has_as_told count answers rule follows (none refl)))
