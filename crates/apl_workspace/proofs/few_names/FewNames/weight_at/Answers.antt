use Rattle.std.proofs.Common.{◌∙◌, sym}
use Rattle.apl_workspace.proofs.Scanned.{value_there}
use Rattle.apl_workspace.proofs.Tables.{weighs}
use Rattle.apl_workspace.proofs.few_names.FewNames.weight_at.Goals as goal

pub returns-in-Some-clause-value : goal.returns-in-Some-clause-value
returns-in-Some-clause-value c =
    let there = sym (value_there c.self.inside.entries.items c.in-Some.at c.index.result.now c.index.ensures c.in-Some.ensures.within) ∙ c.in-Some.ensures.value in
    (weighs c.self.inside.entries.items c.args.self.now c.args.name.now _ c.self.inside.weight _ c.self.view_is c.self.invariant there c.weight.ensures).value

pub returns-in-Some-clause-within : goal.returns-in-Some-clause-within
returns-in-Some-clause-within c =
    let there = sym (value_there c.self.inside.entries.items c.in-Some.at c.index.result.now c.index.ensures c.in-Some.ensures.within) ∙ c.in-Some.ensures.value in
    (weighs c.self.inside.entries.items c.args.self.now c.args.name.now _ c.self.inside.weight _ c.self.view_is c.self.invariant there c.weight.ensures).within
