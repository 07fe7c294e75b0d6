use Rattle.std.proofs.Common.{sym, ◌∙◌}
use Rattle.apl_workspace.proofs.Tables.{weighs}
use Rattle.apl_workspace.proofs.table.Table.weight_at.Goals as goal

pub returns-in-Some-clause-value : goal.returns-in-Some-clause-value
returns-in-Some-clause-value c =
    (weighs c.self.inside.names.entries c.args.self.now c.args.name.now _ c.self.inside.weight _ c.self.view_is c.self.invariant (sym c.index.ensures ∙ c.in-Some.ensures.value) c.weight.ensures).value

pub returns-in-Some-clause-within : goal.returns-in-Some-clause-within
returns-in-Some-clause-within c =
    (weighs c.self.inside.names.entries c.args.self.now c.args.name.now _ c.self.inside.weight _ c.self.view_is c.self.invariant (sym c.index.ensures ∙ c.in-Some.ensures.value) c.weight.ensures).within
