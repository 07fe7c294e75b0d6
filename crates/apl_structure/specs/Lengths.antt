use Rattle.std.specs.Prelude.{ℕ, ℤ, List, map, min, unsigned_abs}

-- numbers as the lengths of axes
abbrev pub lengths : List ℤ → List ℕ
lengths numbers = map unsigned_abs numbers

-- the same, but of the lengths that no axis may have the least
abbrev pub capped_lengths : List ℤ → List ℕ
capped_lengths numbers = map (λ number. min (unsigned_abs number) 16385) numbers
