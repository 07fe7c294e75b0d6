use Rattle.std.proofs.Common.{◌∙◌, map, sym}
use Rattle.line_scanner.specs.Token.{plain_token}
use Rattle.apl_values.proofs.EnoughClasses.{are_enough}
use Rattle.apl_values.proofs.classing.classes_or_all.Goals as goal

pub returns-then-tells_all : goal.returns-then-tells_all
returns-then-tells_all c = are_enough c.args.workspace.now c.in_ok-few.few.items (map plain_token c.args.tokens.now) c.weight-weight.ensures.rules (sym c.tells_all.ensures ∙ c.if-tells_all.true)
