-- What was found, or nothing.
use Rattle.std.proofs.Common.{◌≡◌, ℕ, ◌+◌, Option, Some, None, refl, ap}
use Rattle.std.proofs.lemmas.Option.{same_Some}
use Rattle.line_scanner.specs.Number.{found_after}

-- what was found behind some glyphs
pub behind_some : {A : Type 0} (before : ℕ) (inner : Option (A × ℕ)) (found : A × ℕ) → found_after before inner ≡ Some found → (first : A × ℕ) × (inner ≡ Some first) × (first.0 ≡ found.0) × (before + first.1 ≡ found.1)
behind_some before None found e = absurd cc
behind_some before (Some first) found e =
    let same = same_Some (first.0, before + first.1) found e in
    (first, refl, ap (λ x. x.0) same, ap (λ x. x.1) same)

-- nothing behind some glyphs
pub behind_none : {A : Type 0} (before : ℕ) (inner : Option (A × ℕ)) → found_after before inner ≡ None → inner ≡ None
behind_none before None e = refl
behind_none before (Some found) e = absurd cc
