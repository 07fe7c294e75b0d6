-- Values that a test tells apart are not equal.
use Rattle.std.proofs.Common.{◌≡◌, ◌∙◌, sym, ap}
use Rattle.std.specs.Prelude.{◌==◌, ℕ, Bool, true, false, List}
use Rattle.std.specs.Cmp.Lexicographic.{pointwise}
use Rattle.std.proofs.lemmas.Bool.{false≢true}

-- two texts of lines, glyph by glyph
abbrev pub same_texts : List (List ℕ) → List (List ℕ) → Bool
same_texts = pointwise (pointwise ◌==◌)

-- of two values, the test says that the one is not the other, which is itself
pub told_apart : {T : Type 0} {a b : T} (same : T → T → Bool) → a ≡ b → same a b ≡ false → same b b ≡ true → ⊥
told_apart {b = b} same e apart own = false≢true (sym apart ∙ (ap (λ x. same x b) e ∙ own))
