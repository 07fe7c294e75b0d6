use Rattle.std.proofs.Common.{◌≡◌, ℕ, List, length, ap, ◌∙◌, arith}
use Rattle.std.proofs.lemmas.Result.{IfOk-weaker}
use Rattle.apl_structure.specs.Reversal.{reversed, turned_vector}
use Rattle.apl_structure.proofs.ReverseLemmas.{vector_turned}
use Rattle.apl_structure.proofs.reversal.reversed.Goals as goal

pub returns-then-shape-eq1 : goal.returns-then-shape-eq1
returns-then-shape-eq1 c =
    let b = c.args.b.now in
    let same = ap (λ (xs : List ℕ). length xs) c.shape.ensures.value in
    let one : length b.shape ≡ 1 = omega arith in
    IfOk-weaker c.turned_vector.result (λ array. array ≡ turned_vector b) (λ array. array ≡ reversed b c.args.axis)
    (λ array is. is ∙ vector_turned b c.args.axis c.shape.ensures.array one c.requires) c.turned_vector.ensures
