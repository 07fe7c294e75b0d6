-- Numbers that ascend, without one of them.
use Rattle.std.proofs.Common.{ℕ, List, [], ◌∷◌, ◌++◌, arith}
use Rattle.apl_arrays.specs.Ascending.{Ascend}

-- without one of them the others ascend
pub ascend_without : (before : List ℕ) (number : ℕ) (after : List ℕ) → Ascend (before ++ number ∷ after) → Ascend (before ++ after)
ascend_without [] number [] h = tt
ascend_without [] number (next ∷ after) h = h.1
ascend_without (first ∷ []) number [] h = tt
ascend_without (first ∷ []) number (next ∷ after) h = (omega (arith, h.0, h.1.0), h.1.1)
ascend_without (first ∷ second ∷ before) number after h = (h.0, ascend_without (second ∷ before) number after h.1)

-- and so do those up to one of them
pub ascend_up_to : (before : List ℕ) (number : ℕ) (after : List ℕ) → Ascend (before ++ number ∷ after) → Ascend (before ++ number ∷ [])
ascend_up_to [] number after h = tt
ascend_up_to (first ∷ []) number after h = (h.0, tt)
ascend_up_to (first ∷ second ∷ before) number after h = (h.0, ascend_up_to (second ∷ before) number after h.1)
