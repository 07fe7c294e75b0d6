use Rattle.std.proofs.Common.{◌≡◌, ℕ, ◌+◌, ◌++◌, ap, ◌∙◌, arith}
use Rattle.std.specs.Prelude.{pos, replicate}
use Rattle.apl_values.specs.declared.rows.Rows.{Rows}
use Rattle.apl_values.proofs.RowSteps.{told_one}
use Rattle.apl_values.proofs.rows.Rows.tell_zeros.Goals as goal

pub returns : goal.returns
returns c =
    let all : c.loop-told._told ≡ c.args.width = omega arith in
    told_one c.args.self.now _ _ (ap (λ (r : Rows). r.rows.items) c.loop-told.invariant.same) (ap (λ (r : Rows). r.at + 1) c.loop-told.invariant.same)
    (c.loop-told.invariant.numbers ∙ ap (λ (n : ℕ). c.args.self.now.numbers.items ++ replicate n (pos 0)) all) (ap (λ (r : Rows). r.shape.items) c.loop-told.invariant.same)
