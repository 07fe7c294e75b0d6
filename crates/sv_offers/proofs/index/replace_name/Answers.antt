use Rattle.std.proofs.Common.{ap, sym, ◌∙◌, cond, Option}
use Rattle.std.specs.HashMap.{get}
use Rattle.sv_offers.specs.Finding.{same_key}
use Rattle.sv_rules.specs.Standing.{is_own}
use Rattle.sv_rules.specs.declared.standing.Standing.{Standing}
use Rattle.sv_offers.proofs.index.replace_name.Goals as goal

pub returns-in-None : goal.returns-in-None
returns-in-None c = λ party local.
    c.remove.ensures.updates.0 (party, local)
    ∙ ap (λ (o : Option Standing). cond (is_own party local c.args.gone.now) o (get same_key c.args.named.now (party, local))) (sym c.in-None.is)

pub returns-in-Ok : goal.returns-in-Ok
returns-in-Ok c = λ party local.
    c.in-Ok.ensures.updates.0 (party, local)
    ∙ ap (λ (o : Option Standing). cond (is_own party local c.args.gone.now) o (get same_key c.args.named.now (party, local))) (sym c.in-Some.is)
