use Rattle.std.proofs.Common.{◌≡◌, ◌∙◌, refl, sym, ap, subst}
use Rattle.apl_workspace.specs.Workspace.{look}
use Rattle.apl_workspace.specs.declared.meaning.Meaning.{Meaning}
use Rattle.apl_workspace.specs.declared.meaning.Meaning.TheVariants as meaning
use Rattle.apl_values.specs.declared.values.StackValue.TheVariants as held
use Rattle.apl_statements.specs.Interpreter.{PlainInterpreter}
use Rattle.apl_machine.specs.Nexts.{IsHeldFor}
use Rattle.apl_machine.proofs.stepping.held_of.Goals as goal

pub returns-in-Value : goal.returns-in-Value
returns-in-Value c =
    let seen : look c.args.interpreter.now.workspace c.args.name.now ≡ meaning.Value c.in-Value.array.now = ap (λ (n : PlainInterpreter). look n.workspace c.args.name.now) (sym c.interpreter.view_is) ∙ sym c.in-Value.ensures.value in
    subst (λ (found : Meaning). IsHeldFor found c.args.name.now c.held_for.result) (sym seen) c.held_for.ensures

pub returns-in-Label : goal.returns-in-Label
returns-in-Label c =
    let seen : look c.args.interpreter.now.workspace c.args.name.now ≡ meaning.Label c.in-Label.line = ap (λ (n : PlainInterpreter). look n.workspace c.args.name.now) (sym c.interpreter.view_is) ∙ sym c.in-Label.ensures.value in
    subst (λ (found : Meaning). IsHeldFor found c.args.name.now (held.Made c.number_of.result)) (sym seen) (ap held.Made c.number_of.ensures)
