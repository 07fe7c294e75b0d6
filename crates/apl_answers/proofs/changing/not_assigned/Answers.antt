use Rattle.std.proofs.Common.{sym, subst, ◌∙◌, false}
use Rattle.apl_arrays.specs.declared.report.Fail.{Fail}
use Rattle.apl_workspace.specs.Workspace.{IsNotAssigned, assigned, is_assignable, look}
use Rattle.apl_answers.proofs.Wanting.{taken_where, takes_none}
use Rattle.apl_answers.proofs.changing.not_assigned.Goals as goal

pub returns-then-takes_values : goal.returns-then-takes_values
returns-then-takes_values c =
    let w = c.args.workspace.now in
    subst (λ (f : Fail). IsNotAssigned false (is_assignable (look w c.args.name.now)) (assigned w c.args.name.now c.args.value.now) f) (sym c.not_taken.ensures)
    (taken_where (is_assignable (look w c.args.name.now)) (assigned w c.args.name.now c.args.value.now) c.takes.result (sym c.takes_values.ensures ∙ c.if-takes_values.true) c.takes.ensures)

pub returns-else-takes_values : goal.returns-else-takes_values
returns-else-takes_values c =
    let w = c.args.workspace.now in
    takes_none (is_assignable (look w c.args.name.now)) (assigned w c.args.name.now c.args.value.now) (sym c.takes_values.ensures ∙ c.if-takes_values.false)
