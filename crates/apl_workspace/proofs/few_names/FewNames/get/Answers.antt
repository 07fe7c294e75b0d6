use Rattle.std.proofs.Common.{◌≡◌, ◌∙◌, Option, ap, subst, sym}
use Rattle.std.specs.Prelude.{IfSome}
use Rattle.apl_workspace.specs.declared.meaning.Meaning.{Meaning}
use Rattle.apl_workspace.specs.Meaning.{IsWhole, NameTable, meaning_in}
use Rattle.apl_workspace.proofs.InOrder.{looked_up}
use Rattle.apl_workspace.proofs.Scanned.{value_there}
use Rattle.apl_workspace.proofs.few_names.FewNames.get.Goals as goal

pub returns-in-Some-clause-value : goal.returns-in-Some-clause-value
returns-in-Some-clause-value c =
    sym (value_there c.self.inside.entries.items c.in-Some.at c.index.result.now c.index.ensures c.in-Some.ensures.within) ∙ c.in-Some.ensures.value ∙ looked_up c.self.inside.entries.items c.args.name.now
    ∙ ap (λ (n : NameTable). meaning_in n c.args.name.now) c.self.view_is

pub returns-in-Some-clause-whole : goal.returns-in-Some-clause-whole
returns-in-Some-clause-whole c =
    subst (λ (o : Option Meaning). IfSome o (IsWhole c.args.name.now))
    (sym (looked_up c.self.inside.entries.items c.args.name.now) ∙ sym c.in-Some.ensures.value ∙ value_there c.self.inside.entries.items c.in-Some.at c.index.result.now c.index.ensures c.in-Some.ensures.within)
    (c.self.invariant.whole c.args.name.now)
