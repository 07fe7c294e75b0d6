use Rattle.std.proofs.Common.{◌∙◌, ap, sym}
use Rattle.std.specs.List.{list_all}
use Rattle.apl_values.specs.Classing.{is_token_told}
use Rattle.apl_values.proofs.EnoughClasses.{are_enough}
use Rattle.apl_values.proofs.classing.classes_for.Goals as goal

pub returns-then-tells_all : goal.returns-then-tells_all
returns-then-tells_all c =
    are_enough c.args.workspace.now c.new-none.result.items c.args.tokens.now.tokens.items c.weight-weight.ensures.rules
    (ap (list_all (is_token_told c.args.workspace.now c.new-none.result.items)) (sym c.as_slice-tokens.ensures) ∙ sym c.tells_all.ensures ∙ c.if-tells_all.true)
