use Rattle.std.proofs.Common.{◌∙◌, rules, tests}
use Rattle.std.proofs.lemmas.Iterator.{YieldsList-from_slice}
use Rattle.std.proofs.lemmas.Iterator.Search.{any_from_yields_List}
use Rattle.apl_meaning.specs.Sharing.{cannot_be_offered}
use Rattle.apl_values.specs.Rows.{plain_naming}
use Rattle.apl_acts.proofs.Tested.{any_mapped}
use Rattle.apl_acts.proofs.sharing.some_not_offered.Goals as goal

pub returns : goal.returns
returns c =
    any_from_yields_List (λ names. cannot_be_offered c.args.workspace.now (plain_naming names)) _ _ c.any.result c.any.ensures.ran (YieldsList-from_slice c.args.namings.now cc) (λ x b q k. search (rules, tests))
    ∙ any_mapped (cannot_be_offered c.args.workspace.now) plain_naming c.args.namings.now
