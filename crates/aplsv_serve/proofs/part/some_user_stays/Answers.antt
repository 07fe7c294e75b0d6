use Rattle.std.proofs.Common.{not, rules, tests}
use Rattle.std.proofs.lemmas.Iterator.{YieldsList-from_slice}
use Rattle.std.proofs.lemmas.Iterator.Search.{any_from_yields_List}
use Rattle.sv_rules.specs.Entries.{has_left}
use Rattle.aplsv_serve.proofs.part.some_user_stays.Goals as goal

pub returns : goal.returns
returns c =
    any_from_yields_List (λ user. not (has_left c.args.core.now.journal user)) _ _ c.any.result c.any.ensures.ran (YieldsList-from_slice c.args.users.now cc) (λ x b q k. search (rules, tests))
