use Rattle.std.specs.Prelude.{ℕ, Bool, false, List, [], ◌∷◌}

-- the first glyph passes a test
abbrev pub begins : (ℕ → Bool) → List ℕ → Bool
begins test [] = false
begins test (first ∷ rest) = test first
