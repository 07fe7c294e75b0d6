use Rattle.std.proofs.Common.{◌∙◌, rules, tests}
use Rattle.std.proofs.lemmas.Iterator.{YieldsList-from_slice}
use Rattle.std.proofs.lemmas.Iterator.Search.{any_from_yields_List}
use Rattle.apl_arrays.specs.Name.{same_name}
use Rattle.apl_workspace.proofs.Labelled.{any_among}
use Rattle.apl_workspace.proofs.label.has_label.Goals as goal

pub returns : goal.returns
returns c =
    any_from_yields_List (λ labelled. same_name labelled.label c.args.label.now) _ _ c.any.result c.any.ensures.ran (YieldsList-from_slice c.args.labels.now cc) (λ x b q k. search (rules, tests)) ∙ any_among c.args.labels.now c.args.label.now
