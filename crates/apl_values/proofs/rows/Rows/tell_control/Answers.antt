use Rattle.std.proofs.Common.{◌≡◌, ◌+◌, ◌++◌, List, ap, length, ◌∙◌, take, arith}
use Rattle.std.specs.Prelude.{Bool, map}
use Rattle.std.proofs.lemmas.List.{length-map, take_all}
use Rattle.std.proofs.lemmas.Grind.{common_steps}
use Rattle.apl_scalar.specs.Table.{truth}
use Rattle.apl_values.specs.declared.rows.Rows.{Rows}
use Rattle.apl_values.proofs.RowSteps.{told_one}
use Rattle.apl_values.proofs.rows.Rows.tell_control.Goals as goal

pub returns-clause-told : goal.returns-clause-told
returns-clause-told c =
    let all : take c.loop-element.element-index c.args.control.0 ≡ c.args.control.0 = grind (arith, common_steps, take_all) in
    told_one c.args.self.now _ _ (ap (λ (r : Rows). r.rows.items) c.loop-element.invariant.same) (ap (λ (r : Rows). r.at + 1) c.loop-element.invariant.same)
    (c.loop-element.invariant.numbers ∙ ap (λ (list : List Bool). c.args.self.now.numbers.items ++ map truth list) all) (ap (λ (r : Rows). r.shape.items) c.loop-element.invariant.same)

pub returns-clause-four : goal.returns-clause-four
returns-clause-four c = length-map c.args.control.0 truth ∙ (let four : length c.args.control.0 ≡ 4 = grind (arith, common_steps) in four)
