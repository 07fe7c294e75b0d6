-- Shapes without a fault.
use Rattle.std.proofs.Common.{◌≡◌, ℕ, true, List, Option, Some, None, refl}
use Rattle.std.specs.Prelude.{is_none}
use Rattle.std.proofs.lemmas.Bool.{false≢true}
use Rattle.apl_arrays.specs.Array.{FitsLimits}
use Rattle.apl_arrays.specs.Shape.{shape_fault}
use Rattle.apl_arrays.proofs.Shapes.{no_fault_fits}

none_is : {A : Type 0} (o : Option A) → is_none o ≡ true → o ≡ None
none_is None e = refl
none_is (Some x) e = absurd (false≢true e)

-- a shape without a fault is within the limits
pub whole_shape : (shape : List ℕ) → is_none (shape_fault shape) ≡ true → FitsLimits shape
whole_shape shape e = no_fault_fits shape (none_is (shape_fault shape) e)
