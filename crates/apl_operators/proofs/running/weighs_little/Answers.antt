use Rattle.std.proofs.Common.{◌≡◌, ◌*◌, ◌/◌, ◌%◌, ℕ, ℤ, Option, not, ap}
use Rattle.operator_rules.specs.Reduction.{Joins}
use Rattle.apl_operators.specs.Running.{Weighs, weight_on}
use Rattle.apl_operators.proofs.RowLemmas.{told_lacking}
use Rattle.apl_operators.proofs.running.weighs_little.Goals as goal
use Rattle.apl_operators.proofs.running.weighs_little.Given as given

pub returns : goal.returns
returns g c weigh by weighing joining =
    let split = c.args.split in
    let answers : ℕ → Option ℤ → Type 0 = λ place answer. (w : ℤ → Option ℤ) (b : ℤ → ℤ → Option ℤ) → Weighs (given.W-post g c.args.weight) w → Joins (given.F-post g c.args.rule) b
    → answer ≡ weight_on w b c.args.list.now split (place / split.inner) (place % split.inner) in
    ap not (told_lacking (split.outer * split.inner) answers (λ line. weight_on weigh by c.args.list.now split (line / split.inner) (line % split.inner)) c.lacks_by_rows.result
    (λ place answer below told. told weigh by weighing joining) c.lacks_by_rows.ensures.some c.lacks_by_rows.ensures.none)
