-- Readings that are kept at their places.
use Rattle.std.proofs.Common.{◌≡◌, ◌≤◌, ◌-◌, ◌∙◌, ℕ, zero, suc, true, List, [], ◌∷◌, refl, sym, ap, inl, inr}
use Rattle.std.proofs.lemmas.Bool.{false≢true}
use Rattle.std.specs.Prelude.{◌⊎◌, Option, Some, None, is_some, slice_get, slice_set}
use Rattle.apl_values.specs.declared.reading.LineReading.{LineReading}
use Rattle.apl_calls.specs.Waitings.{AreKeptOrRead, IsKeptAt}

set_found : {X : Type 0} (xs : List X) (i k : ℕ) (y x : X) → slice_get (slice_set xs i y) k ≡ Some x → (slice_get xs k ≡ Some x) ⊎ ((k ≡ i) × (x ≡ y))
set_found [] i k y x e = inl e
set_found (a ∷ xs) zero zero y x e = let some : Some y ≡ Some x = e in let same : x ≡ y = cc in inr (refl, same)
set_found (a ∷ xs) zero (suc k) y x e = inl e
set_found (a ∷ xs) (suc i) zero y x e = inl e
set_found (a ∷ xs) (suc i) (suc k) y x e = elim (set_found xs i k y x e) [ inl was ↦ inl was | inr now ↦ inr (ap suc now.0, now.1) ]

-- one more is kept at its place
pub kept_at : {A : Type 0} (read : A → LineReading) (at : ℕ) (reading : A) (before list : List (Option A)) → ((k : ℕ) (kept : A) → slice_get list k ≡ Some (Some kept) → slice_get before k ≡ Some (Some kept))
    → AreKeptOrRead read at (read reading) before (slice_set list at (Some reading))
kept_at read at reading before list was k kept e =
    elim (set_found list at k (Some reading) (Some kept) e) [ inl there ↦ inl (was k kept there) | inr here ↦ inr (here.0, (let some : Some kept ≡ Some reading = here.1 in let same : kept ≡ reading = cc in ap read same)) ]

-- the line of which a reading is there
pub kept_of : {A : Type 0} (readings : List (Option A)) (number at : ℕ) (kept : Option A) → slice_get readings at ≡ Some kept → is_some kept ≡ true → 1 ≤ number → at ≡ number - 1 → IsKeptAt readings number
kept_of readings number at None there is some before = absurd (false≢true is)
kept_of readings number at (Some one) there is some before = record { reading = one; some = some; there = ap (slice_get readings) (sym before) ∙ there }
