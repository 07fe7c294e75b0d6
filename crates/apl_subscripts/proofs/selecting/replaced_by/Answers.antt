use Rattle.std.proofs.Common.{◌≡◌, ℕ, List, false, length, sym, ap, ◌∙◌, arith}
use Rattle.std.specs.Prelude.{◌==◌}
use Rattle.std.proofs.lemmas.Bool.Decides.{nat_tests}
use Rattle.apl_statements.specs.Holding.{stack_values}
use Rattle.apl_subscripts.proofs.HeldLemmas.{none_replaced}
use Rattle.apl_subscripts.proofs.selecting.replaced_by.Goals as goal

pub returns-then-places-shape-clause-answer : goal.returns-then-places-shape-clause-answer
returns-then-places-shape-clause-answer c =
    let other : (length c.args.places.now == length c.shape.result.now) ≡ false = grind (arith, nat_tests) in
    none_replaced c.args.a.now c.args.right.now c.args.places.now (stack_values c.args.workspace.now c.args.e.now)
    (ap (λ (xs : List ℕ). length c.args.places.now == length xs) (sym c.shape.ensures.value) ∙ other)
