-- A lone number in place of the values of a statement.
use Rattle.std.specs.Prelude.{◌≡◌, ℤ, [], ◌∷◌}
use Rattle.apl_arrays.specs.Array.{scalar}
use Rattle.apl_values.specs.declared.values.StackValue.TheVariants as held
use Rattle.apl_statements.specs.declared.evaluation.Evaluation.{Evaluation}

-- all that a statement holds is this number
abbrev pub HoldsNumber : Evaluation → ℤ → Type 0
HoldsNumber e number = e.values.items ≡ held.Made (scalar number) ∷ []
