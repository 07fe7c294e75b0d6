use Rattle.std.proofs.Common.{refl, ap, ◌∙◌, ◌++◌, [], ◌∷◌, rules, w64}
use Rattle.std.proofs.lemmas.Int.{to_z-of_z}
use Rattle.std.specs.Prelude.{ℤ}
use Rattle.apl_values.proofs.RowSteps.{told_one}
use Rattle.apl_values.proofs.rows.Rows.tell_degree.Goals as goal

pub returns : goal.returns
returns c =
    told_one c.args.self.now _ _ refl refl (c.in_ok-push.ensures.ok ∙ ap (λ (n : ℤ). c.args.self.now.numbers.items ++ n ∷ []) (to_z-of_z w64 c.from.result (search rules) ∙ c.from.ensures)) refl
