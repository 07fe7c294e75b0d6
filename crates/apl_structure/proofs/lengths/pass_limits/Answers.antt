use Rattle.std.proofs.Common.{ℕ, List, is_some, ap, ◌∙◌}
use Rattle.apl_arrays.specs.Shape.{shape_fault}
use Rattle.apl_structure.proofs.LengthLemmas.{faulty_when_capped}
use Rattle.apl_structure.proofs.lengths.pass_limits.Goals as goal

pub returns : goal.returns
returns c = c.is_some.ensures ∙ ap is_some c.shape_fault.ensures ∙ ap (λ (xs : List ℕ). is_some (shape_fault xs)) c.requires ∙ faulty_when_capped c.args.numbers.now
