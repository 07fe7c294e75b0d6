use Rattle.std.proofs.Common.{◌∙◌, not, rules, tests}
use Rattle.std.proofs.lemmas.Iterator.{YieldsList-from_slice}
use Rattle.std.proofs.lemmas.Iterator.Search.{find_from_yields_List}
use Rattle.sv_rules.specs.Coupling.{is_coupled}
use Rattle.sv_plain.proofs.working.first_open.Goals as goal

pub returns : goal.returns
returns c =
    c.copied.ensures ∙ find_from_yields_List (λ offer. not (is_coupled c.args.coupled.now offer.place)) _ _ c.find.result c.find.ensures.ran (YieldsList-from_slice c.args.own.now cc) (λ x b q k. search (rules, tests))
