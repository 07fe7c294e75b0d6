-- The entry at a place, where the oldest entries come first in memory.
use Rattle.std.proofs.Common.{◌≡◌, ◌≢◌, ℕ, suc, ◌+◌, ◌-◌, ◌<◌, ◌≤◌, cond, List, [], ◌∷◌, length, reverse, get_or, Some, sym, ap, ◌∙◌, arith, eq-eqb, ne_eqb}
use Rattle.std.proofs.lemmas.List.{get_or-reverse, length-reverse}
use mathlib.Core.Logic.{dite}
use native.Mathlib.Decide.{ℕ_discrete}
use Rattle.sv_turn.specs.Journals.{entry_at}

module _ {E : Type 0} where
  entry_is : (journal : List E) (k : ℕ) (d : E) → k < length journal → entry_at journal (k + 1) ≡ Some (get_or journal (length journal - 1 - k) d)
  entry_is [] k d low = absurd (omega arith)
  entry_is (e ∷ journal) k d low = dite (ℕ_discrete k (length journal))
      (λ is.
      let first : length (e ∷ journal) - 1 - k ≡ 0 = omega arith in let here : k + 1 ≡ length journal + 1 = omega arith in
      ap (λ b. cond b (Some e) (entry_at journal (k + 1))) (eq-eqb (k + 1) (length journal + 1) here) ∙ ap (λ (i : ℕ). Some (get_or (e ∷ journal) i d)) (sym first))
      (λ ne.
      let next : length (e ∷ journal) - 1 - k ≡ suc (length journal - 1 - k) = omega arith in
      let older : k + 1 ≢ length journal + 1 = λ is. ne (omega arith) in
      ap (λ b. cond b (Some e) (entry_at journal (k + 1))) (ne_eqb (k + 1) (length journal + 1) older)
      ∙ (entry_is journal k d (omega arith) ∙ ap (λ (i : ℕ). Some (get_or (e ∷ journal) i d)) (sym next)))

  pub entry_at_reversed : (items : List E) (place : ℕ) (d : E) → 1 ≤ place → place ≤ length items → entry_at (reverse items) place ≡ Some (get_or items (place - 1) d)
  entry_at_reversed items place d low high =
      let k : ℕ = place - 1 in let long = length-reverse items in let whole : place ≡ k + 1 = omega arith in
      let back : length items - 1 - (length (reverse items) - 1 - k) ≡ k = omega arith in
      ap (λ (p : ℕ). entry_at (reverse items) p) whole
      ∙ (entry_is (reverse items) k d (omega arith)
      ∙ ap Some (get_or-reverse items (length (reverse items) - 1 - k) d (omega arith) ∙ ap (λ (i : ℕ). get_or items i d) back))
