use Rattle.std.proofs.Common.{◌∙◌, sym, ap, Bool}
use Rattle.std.specs.Prelude.{not}
use Rattle.sv_core.specs.Retry.{plain_retry}
use Rattle.run_judging.proofs.JudgeLemmas.{free_where_some, held_where_none}
use Rattle.run_judging.proofs.making.retry.Goals as goal

pub returns-in-StillHeld-clause-held : goal.returns-in-StillHeld-clause-held
returns-in-StillHeld-clause-held c =
    sym
    (ap (λ (b : Bool). not b)
    (held_where_none c.args.core.now.users c.args.core.now.journal c.args.party c.requires (sym c.in_ok-retry.ensures.answer ∙ ap plain_retry c.in-StillHeld.is)))

pub returns-in-Now-clause-held : goal.returns-in-Now-clause-held
returns-in-Now-clause-held c =
    sym (ap (λ (b : Bool). not b) (free_where_some c.args.core.now.users c.args.core.now.journal c.args.party _ (sym c.in_ok-retry.ensures.answer ∙ ap plain_retry c.in-Now.is)))
