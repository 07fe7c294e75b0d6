use Rattle.std.proofs.Common.{◌∙◌, ap, not, rules, tests}
use Rattle.std.proofs.lemmas.Iterator.{YieldsList-from_slice}
use Rattle.std.proofs.lemmas.Iterator.Search.{any_from_yields_List}
use Rattle.std.specs.List.{list_any}
use Rattle.sv_rules.specs.Entries.{has_left}
use Rattle.sv_core.specs.Core.{PlainCore}
use Rattle.sv_core.proofs.processor.Core.some_stays.Goals as goal

pub returns : goal.returns
returns c =
    let journal = c.args.self.now.journal in
    any_from_yields_List (λ user. not (has_left journal user)) _ _ c.any.result c.any.ensures.ran (YieldsList-from_slice c.users.result.now cc) (λ x b q k. search (rules, tests))
    ∙ ap (list_any (λ user. not (has_left journal user))) c.users.ensures
    ∙ ap (λ (v : PlainCore). list_any (λ user. not (has_left journal user)) v.users) c.self.view_is
