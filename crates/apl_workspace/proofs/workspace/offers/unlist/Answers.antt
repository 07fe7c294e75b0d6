use Rattle.std.proofs.Common.{◌≡◌, ◌∙◌, ap, not, rules, tests}
use Rattle.std.proofs.lemmas.Fn.{filter_same}
use Rattle.apl_arrays.specs.Name.{same_name}
use Rattle.apl_workspace.specs.Workspace.{is_of_another}
use Rattle.apl_workspace.proofs.NameLaw.{name_flips}
use Rattle.apl_workspace.proofs.workspace.offers.unlist.Goals as goal

pub returns-clause-items : goal.returns-clause-items
returns-clause-items c =
    filter_same _ (is_of_another c.args.name.now) _
    (λ x b q k. (let e : b ≡ not (same_name x.local c.args.name.now) = search (rules, tests) in e ∙ ap not (name_flips x.local c.args.name.now), search (rules, tests)))
    c.args.offers.now.items _ c.retain.ensures.filtered
