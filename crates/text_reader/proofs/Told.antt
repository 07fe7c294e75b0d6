-- What is told of a reading.
use Rattle.std.proofs.Common.{◌≡◌, ℕ, List, Result, Ok, Err, refl, ap}
use Rattle.text_reader.specs.Reading.{Reading, ◌>>=◌}

-- a thing that was read, and what follows it
abbrev pub tell : {A : Type 0} → A → List ℕ → Reading A
tell x rest = Ok (x, rest)

pair : {A : Type 0} → A → List ℕ → A × List ℕ
pair x rest = (x, rest)

same_pair : {A : Type 0} (x : A) (rest : List ℕ) (y : A) (left : List ℕ) → tell x rest ≡ tell y left → pair x rest ≡ pair y left
unfolding pair
same_pair x rest y left e = cc

pub first_told : {A : Type 0} (x : A) (rest : List ℕ) (y : A) (left : List ℕ) → tell x rest ≡ tell y left → x ≡ y
unfolding pair
first_told x rest y left e = ap (λ p. p.0) (same_pair x rest y left e)

pub second_told : {A : Type 0} (x : A) (rest : List ℕ) (y : A) (left : List ℕ) → tell x rest ≡ tell y left → rest ≡ left
unfolding pair
second_told x rest y left e = ap (λ p. p.1) (same_pair x rest y left e)

-- what was read first, and then, where both were
pub bind_ok : {A B : Type 0} (read : Reading A) (f : A × List ℕ → Reading B) (y : B × List ℕ) → (read >>= f) ≡ Ok y → (x : A × List ℕ) × (read ≡ Ok x) × (f x ≡ Ok y)
bind_ok (Ok x) f y e = (x, refl, e)
bind_ok (Err left) f y e = absurd (let none : ⊥ = cc in none)
