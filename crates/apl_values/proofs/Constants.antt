-- What a constant that is not too large gives.
use Rattle.std.proofs.Common.{◌≡◌, ap, ◌∙◌}
use Rattle.std.specs.Prelude.{Option, Some}
use Rattle.apl_arrays.specs.Array.{PlainArray}
use Rattle.apl_arrays.specs.declared.report.Report.{Report}
use Rattle.apl_items.specs.Answers.{answer_of, shape_faults, unless}
use Rattle.apl_meaning.specs.State.{State, gives, outcome_of}
use Rattle.apl_meaning.specs.Expressions.{constant_outcome, valued}
use Rattle.apl_values.specs.Parts.{IsConstant}

-- a constant
pub constant_gives : (array : PlainArray) (s : State) → IsConstant array → valued (constant_outcome array.items s) ≡ gives (Some array) s
constant_gives array s is =
    ap (λ (a : PlainArray). valued (outcome_of (answer_of (shape_faults a.shape) a) s)) is.whole
    ∙ ap (λ (report : Option Report). valued (outcome_of (unless report array) s)) is.fits
