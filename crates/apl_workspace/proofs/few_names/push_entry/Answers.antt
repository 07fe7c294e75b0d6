use Rattle.std.proofs.Common.{◌++◌, [], ◌∷◌, ap, ◌∙◌}
use Rattle.apl_workspace.specs.Sorted.{sorted}
use Rattle.apl_workspace.proofs.InOrder.{Entries, pushed_in_order}
use Rattle.apl_workspace.proofs.few_names.push_entry.Goals as goal

pub returns-clause-ok : goal.returns-clause-ok
returns-clause-ok c =
    ap sorted (c.push_reserved.ensures.items ∙ ap (λ (list : Entries). list ++ (c.args.name, c.args.meaning) ∷ []) c.reserve_one.ensures.items)
    ∙ pushed_in_order c.args.entries.now.items c.args.name c.args.meaning c.requires.new
