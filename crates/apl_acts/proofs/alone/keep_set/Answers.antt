use Rattle.std.proofs.Common.{subst}
use Rattle.apl_arrays.specs.Array.{PlainArray}
use Rattle.apl_selection.proofs.WantLemmas.{on_want}
use Rattle.apl_workspace.specs.Limits.{most_weight}
use Rattle.apl_workspace.specs.Workspace.{workspace_weight}
use Rattle.apl_meaning.specs.Answers.{with_copy}
use Rattle.apl_values.proofs.Seen.{renewed}
use Rattle.apl_statements.specs.Led.{HasLed}
use Rattle.apl_acts.proofs.HeardLaw.{copy_fits, heavy_led}
use Rattle.apl_acts.proofs.alone.keep_set.Goals as goal

pub returns-then-not-takes_copy-clause-led : goal.returns-then-not-takes_copy-clause-led
returns-then-not-takes_copy-clause-led c = λ before. heavy_led c.args.workspace.now before c.args.name.now c.args.value.now c.takes_copy.result c.takes_copy.ensures c.if-not-takes_copy.true

pub returns-clause-led : goal.returns-clause-led
returns-clause-led c = λ before.
    subst (λ (value : PlainArray). HasLed c.args.workspace.now before (with_copy c.args.name.now value) c.renew.new.workspace before c.renew.result) c.in_ok-copy.ensures.array (c.renew.ensures.led before)

pub returns-in_err-copy-clause-room : goal.returns-in_err-copy-clause-room
returns-in_err-copy-clause-room c = on_want c.from_residual.result _ (copy_fits (workspace_weight (renewed c.args.name.now c.args.value.now c.args.workspace.now)) most_weight c.takes_copy.result c.takes_copy.ensures c.if-not-takes_copy.false)

pub returns-clause-room : goal.returns-clause-room
returns-clause-room c = on_want c.renew.result _ (copy_fits (workspace_weight (renewed c.args.name.now c.args.value.now c.args.workspace.now)) most_weight c.takes_copy.result c.takes_copy.ensures c.if-not-takes_copy.false)
