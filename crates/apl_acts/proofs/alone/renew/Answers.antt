use Rattle.apl_values.proofs.Seen.{renewed}
use Rattle.apl_statements.proofs.Marks.{seen_shared}
use Rattle.apl_acts.proofs.HeardLaw.{copy_led, no_want}
use Rattle.apl_acts.proofs.alone.renew.Goals as goal

pub renew-requires : goal.renew-requires
renew-requires c = seen_shared c.args.workspace.now c.args.name.now c.weight-weight.ensures.rules c.requires

pub returns-clause-led : goal.returns-clause-led
returns-clause-led c = λ before. copy_led c.renew.result c.args.workspace.now c.renew.new.self before c.args.name.now c.args.value c.renew.ensures.ok c.renew.ensures.err c.renew.ensures.fits c.renew.ensures.full

pub returns-clause-memory : goal.returns-clause-memory
returns-clause-memory c = no_want c.renew.result (renewed c.args.name.now c.args.value c.args.workspace.now) ⊥ c.renew.ensures.full
