-- The last of a list, and another in its place.
use Rattle.std.proofs.Common.{◌≡◌, ◌≢◌, ℕ, zero, suc, ◌+◌, ◌-◌, List, [], ◌∷◌, ◌++◌, get_or, length, refl, sym, ap, arith}
use Rattle.std.specs.Prelude.{slice_set}

-- another in the place of the last
pub last_at : {A : Type 0} (xs : List A) (last other : A) (k : ℕ) → k + 1 ≡ length xs → last ≡ get_or xs k last → (others : List A) × (xs ≡ others ++ last ∷ []) × (slice_set xs k other ≡ others ++ other ∷ [])
last_at [] last other k e is = absurd (omega (arith, e))
last_at (x ∷ []) last other zero e is = ([], ap (λ one. one ∷ []) (sym is), refl)
last_at (x ∷ []) last other (suc k) e is = absurd (omega (arith, e))
last_at (x ∷ y ∷ xs) last other zero e is = absurd (omega (arith, e))
last_at (x ∷ y ∷ xs) last other (suc k) e is =
    let rest = last_at (y ∷ xs) last other k (omega (arith, e)) is in
    (x ∷ rest.0, ap (λ list. x ∷ list) rest.1, ap (λ list. x ∷ list) rest.2)

pub has_one : {A : Type 0} (xs : List A) (k : ℕ) → xs ≢ [] → k ≡ length xs → k - 1 + 1 ≡ length xs
has_one [] k some e = absurd (some refl)
has_one (x ∷ xs) k some e = omega (arith, e)
